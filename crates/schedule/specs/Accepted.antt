-- What an accepted slot list gives.
use Rattle.std.specs.Prelude.{◌≡◌, ℕ, ◌<◌, ◌≤◌, List, length, slice_index}
use Rattle.std.proofs.Common.{inl, inr, arith}
use Rattle.std.proofs.lemmas.Bool.{cases_Bool, cases_eq, cases_lt}
use Rattle.std.proofs.lemmas.Bool.Decides.{not_from_Decides}
use Rattle.schedule.specs.declared.refusal.ScheduleRefusal.TheVariants.{BoardCount, ListLength, ForeignBoard, MissingBoard}
use Rattle.schedule.specs.Lists.{Accepted, names}
use Rattle.schedule.specs.Refusals.{names_decides}

module _ (n : ℕ) (xs : List ℕ) (good : Accepted n xs) where
  pub some_board : 0 < n
  some_board = elim (cases_eq n 0) [ inl e ↦ absurd (good BoardCount (inl e)) | inr ne ↦ omega arith ]

  pub few_boards : n ≤ 16
  few_boards = elim (cases_lt 16 n) [ inl lt ↦ absurd (good BoardCount (inr lt)) | inr le ↦ le ]

  pub few_entries : length xs ≤ 64
  few_entries = elim (cases_lt 64 (length xs)) [ inl lt ↦ absurd (good ListLength (inr lt)) | inr le ↦ le ]

  pub some_entry : 0 < length xs
  some_entry = elim (cases_eq (length xs) 0) [ inl e ↦ absurd (good ListLength (inl e)) | inr ne ↦ omega arith ]

  pub entry_below : (k : ℕ) → k < length xs → slice_index xs k < n
  entry_below k h = elim (cases_lt (slice_index xs k) n) [ inl lt ↦ lt | inr le ↦ absurd (good ForeignBoard (k, h, le)) ]

  pub board_named : (b : ℕ) → b < n → (k : ℕ) × (k < length xs) × (slice_index xs k ≡ b)
  board_named b h =
      elim (cases_Bool (names b xs)) [
        | inl t ↦ (names_decides b xs).0 t
        | inr f ↦ absurd (good MissingBoard (b, h, λ k lt e. not_from_Decides (names b xs) (names_decides b xs) f (k, lt, e)))
      ]
