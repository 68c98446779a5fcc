-- A text cut at a separator.
use Rattle.std.specs.Prelude.{◌≡◌, ℕ, ◌<◌, cond, List, [], ◌∷◌, ◌++◌, length, Some, None, Option, ◌==◌, ◌≢◌, slice_index}

-- The law of a cut: no separator stands in what comes first, and the parts with a separator between them are the whole.
abbrev pub rejoined : ℕ → List ℕ → Option (List ℕ) → List ℕ
rejoined b first None = first
rejoined b first (Some rest) = first ++ b ∷ rest

pub record CutAt (b : ℕ) (s first : List ℕ) (rest : Option (List ℕ)) : Type 0 where
  pub clean : (k : ℕ) → k < length first → slice_index first k ≢ b
  pub whole : s ≡ rejoined b first rest

-- What stands before the first separator.
abbrev pub before : ℕ → List ℕ → List ℕ
before b [] = []
before b (c ∷ cs) = cond (c == b) [] (c ∷ before b cs)

-- What stands after it, if there is one.
abbrev pub after : ℕ → List ℕ → Option (List ℕ)
after b [] = None
after b (c ∷ cs) = cond (c == b) (Some cs) (after b cs)

-- One byte more in front of the first piece.
abbrev pub on_first : ℕ → List (List ℕ) → List (List ℕ)
on_first c [] = (c ∷ []) ∷ []
on_first c (w ∷ ws) = (c ∷ w) ∷ ws

-- The pieces between separators, at least one.
abbrev pub pieces : ℕ → List ℕ → List (List ℕ)
pieces b [] = [] ∷ []
pieces b (c ∷ cs) = cond (c == b) ([] ∷ pieces b cs) (on_first c (pieces b cs))
