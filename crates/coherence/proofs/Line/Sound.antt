-- One line: each board's state, and the waiting row.
use Rattle.std.proofs.Common.{◌≡◌, ℕ, ◌<◌, ◌≤◌, Bool, true, false, cond, not, ◌&&◌, ◌||◌, eqb, ◌≢◌, List, [], ◌∷◌, ◌++◌, length}
use Rattle.std.specs.List.{AllByRecursion as All}
use Rattle.coherence.proofs.Turns.Counts.{occurs}
use Rattle.coherence.proofs.Line.Codes.{next, holds, copies, waits, wants, gives}

-- f, but a at i
abbrev pub update : {A : Type 0} → (ℕ → A) → ℕ → A → ℕ → A
update f i a j = elim (eqb j i) [ true ↦ a | false ↦ f j ]

-- each board but b takes the event e, and b takes own
abbrev pub snoop : (ℕ → ℕ) → ℕ → ℕ → ℕ → ℕ → ℕ
snoop x b own e j = elim (eqb j b) [ true ↦ next (x b) own | false ↦ next (x j) e ]

abbrev pub imp : Bool → Bool → Bool
imp a b = not a || b

-- s and t may stand at one line in two boards: beside a holder no copy, beside one that waits to write no other copy than MIwb,
-- beside one that waits no M
unfoldable pub fits : ℕ → ℕ → Bool
fits s t =
    imp (eqb (holds s) 1) (eqb (copies t) 0)
    && imp (eqb (holds t) 1) (eqb (copies s) 0)
    && imp (eqb (wants s) 1) (eqb (copies t) 0 || eqb t 6)
    && imp (eqb (wants t) 1) (eqb (copies s) 0 || eqb s 6)
    && imp (eqb (waits s) 1) (not (eqb t 2))
    && imp (eqb (waits t) 1) (not (eqb s 2))

-- a board in s waits before one in t: before one that waits to write, only those that will give up what they get
unfoldable pub before : ℕ → ℕ → Bool
before s t = cond (eqb (wants t) 1) (eqb s 8 || eqb s 9) (not (eqb s 4))

abbrev pub Ordered : (ℕ → ℕ) → List ℕ → Type 0
Ordered x [] = Unit {0}
Ordered x (b ∷ r) = All (λ c. before (x b) (x c) ≡ true) r × (gives (x b) ≤ length r) × Ordered x r

pub record Sound (x : ℕ → ℕ) (row : List ℕ) : Type 0 where
  pub small : (c : ℕ) → x c < 11
  pub fit : (b c : ℕ) → b ≢ c → fits (x b) (x c) ≡ true
  pub waiting : (b : ℕ) → occurs b row ≡ waits (x b)
  pub ordered : Ordered x row

-- at most one holder, and no copy beside it
abbrev pub Single : (ℕ → ℕ) → Type 0
Single x = (b c : ℕ) → b ≢ c → holds (x b) ≡ 1 → copies (x c) ≡ 0

abbrev pub SendKeeps : Type 0
SendKeeps = (x : ℕ → ℕ) (row : List ℕ) (b : ℕ) → x b ≡ 0 → Sound x row → Sound (snoop x b 2 8) (row ++ b ∷ [])
