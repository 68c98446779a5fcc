-- Which schedules are refused.
use Rattle.std.specs.Prelude.{◌≡◌, ℕ, ◌<◌, ◌≤◌, Bool, not, ◌||◌, ◌⊎◌, List, [], ◌∷◌, length, Option, ◌==◌, ◌≢◌, nat_eq, nat_le, nat_lt, slice_index}
use Rattle.std.specs.List.{find, list_any, range_with_len}
use Rattle.schedule.specs.declared.refusal.ScheduleRefusal.{ScheduleRefusal}
use Rattle.schedule.specs.declared.refusal.ScheduleRefusal.TheVariants.{BoardCount, ListLength, ForeignBoard, MissingBoard}
use Rattle.schedule.specs.Numbers.{number}

abbrev pub BadCount : ℕ → Type 0
BadCount n = (n ≡ 0) ⊎ (16 < n)

-- What each refusal says of a board count and a list.
abbrev pub Fits : ℕ → List ℕ → ScheduleRefusal → Type 0
Fits n xs BoardCount = BadCount n
Fits n xs ListLength = (length xs ≡ 0) ⊎ (64 < length xs)
Fits n xs ForeignBoard = (k : ℕ) × (k < length xs) × (n ≤ slice_index xs k)
Fits n xs MissingBoard = (b : ℕ) × (b < n) × ((k : ℕ) → k < length xs → slice_index xs k ≢ b)

-- A refusal fits, and none of a smaller number does.
pub record FirstFit (n : ℕ) (xs : List ℕ) (e : ScheduleRefusal) : Type 0 where
  pub fits : Fits n xs e
  pub first : (f : ScheduleRefusal) → number f < number e → Fits n xs f → ⊥

-- No refusal fits.
abbrev pub Accepted : ℕ → List ℕ → Type 0
Accepted n xs = (f : ScheduleRefusal) → Fits n xs f → ⊥

-- The same as tests that compute.
abbrev pub foreign : ℕ → List ℕ → Bool
foreign n = list_any (λ x. nat_le n x)

abbrev pub names : ℕ → List ℕ → Bool
names b = list_any (λ x. nat_eq x b)

abbrev pub missing : ℕ → List ℕ → Bool
missing n xs = list_any (λ b. not (names b xs)) (range_with_len 0 n)

abbrev pub fits : ℕ → List ℕ → ScheduleRefusal → Bool
fits n xs BoardCount = n == 0 || nat_lt 16 n
fits n xs ListLength = length xs == 0 || nat_lt 64 (length xs)
fits n xs ForeignBoard = foreign n xs
fits n xs MissingBoard = missing n xs

-- The refusal of a slot list for n boards, or none.
abbrev pub list_refusal : ℕ → List ℕ → Option ScheduleRefusal
list_refusal n xs = find (fits n xs) (BoardCount ∷ ListLength ∷ ForeignBoard ∷ MissingBoard ∷ [])

-- The refusal of a round robin of n boards, or none.
abbrev pub count_refusal : ℕ → Option ScheduleRefusal
count_refusal n = find (fits n []) (BoardCount ∷ [])
