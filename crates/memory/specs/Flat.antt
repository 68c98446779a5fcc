-- The lines of a flat memory, and what lies past them.
use Rattle.std.specs.Prelude.{◌≡◌, ℕ, ◌+◌, ◌<◌, min, cond, List, [], ◌∷◌, length, nat_lt, slice_index, slice_set}
use Rattle.memory.specs.Interface.{upto}

-- The first 64 of the given words are the lines, or all if there are fewer.
pub record Lies (given : List ℕ) (size : ℕ) (words : ℕ → ℕ) : Type 0 where
  pub within : (k : ℕ) → k < size → (k < 64) × (k < length given)
  pub reaches : (k : ℕ) → k < 64 → k < length given → k < size
  pub word : (k : ℕ) → k < size → words k ≡ slice_index given k

-- How many of the words are lines.
abbrev pub counted : List ℕ → ℕ
counted words = min 64 (length words)

-- The word of each line.
abbrev pub lined : List ℕ → ℕ → ℕ
lined words = upto 64 (λ k. slice_index words k)

-- What no write reaches: how many words there are, and the words past the 64th.
abbrev pub past : List ℕ → List (ℕ → ℕ)
past words = (λ _. length words) ∷ (λ k. slice_index words (64 + k)) ∷ []

-- The given words after a write.
abbrev pub stored : List ℕ → ℕ → ℕ → List ℕ
stored words line word = cond (nat_lt line 64) (slice_set words line word) words
