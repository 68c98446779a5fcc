-- Both kinds of schedule keep the law, and go round.
use Rattle.std.specs.Prelude.{◌≡◌, ℕ, ◌+◌, ◌%◌, ◌<◌, ◌≤◌, List, length, take, slice_index}
use Rattle.std.proofs.Common.{sym, ap, subst, ◌∙◌, mod-lt, arith}
use Rattle.std.proofs.lemmas.List.{get_or-take, length-take-le}
use Rattle.schedule.specs.Rows.{Lawful, in_turn, later, repeated}
use Rattle.schedule.specs.Lists.{Accepted}
use Rattle.schedule.specs.Meanings.{round_count, round_owners, list_count, list_span, list_owners}
use Rattle.schedule.specs.declared.round_robin.RoundRobin.{RoundRobin}
use Rattle.schedule.specs.declared.slot_list.SlotList.{SlotList}
use Rattle.schedule.specs.Accepted.{some_board, few_boards, few_entries, some_entry, entry_below, board_named}
use Rattle.schedule.specs.Refusals.{kept_accepted}
use Rattle.schedule.specs.Rings.{around_start, places, reaches, stays}

-- The row that reads a list from a place on, round and round.
abbrev pub around : List ℕ → ℕ → ℕ → ℕ → ℕ
around xs p place k = slice_index xs (places p place k)

pub round_lawful : (n place : ℕ) → n ≤ 16 → place < n → Lawful n n (places n place)
unfolding places
round_lawful n place few h = record {
  some = omega arith;
  few = few;
  short = omega arith;
  below = λ k. mod-lt (place + k) (omega arith);
  fair = λ k b lt.
      let w = reaches n (place + k) b lt in
      let e : place + (k + w.0) ≡ (place + k) + w.0 = omega arith in
      (w.0, w.1, ap (λ m. m % n) e ∙ w.2);
}

pub list_lawful : (n place : ℕ) (xs : List ℕ) → Accepted n xs → Lawful n (length xs) (around xs (length xs) place)
unfolding places
list_lawful n place xs good = record {
  some = some_board n xs good;
  few = few_boards n xs good;
  short = few_entries n xs good;
  below = λ k. entry_below n xs good ((place + k) % length xs) (mod-lt (place + k) (some_entry n xs good));
  fair = λ k b lt.
      let at = board_named n xs good b lt in
      let w = reaches (length xs) (place + k) at.0 at.1 in
      let e : place + (k + w.0) ≡ (place + k) + w.0 = omega arith in
      (w.0, w.1, ap (λ m. slice_index xs (m % length xs)) e ∙ ap (λ m. slice_index xs m) w.2 ∙ at.2);
}

-- An entry read in its place.
pub reads : (xs : List ℕ) (p place : ℕ) → place < p → slice_index xs place ≡ around (take p xs) p place 0
reads xs p place h = sym (get_or-take p xs place 0 h) ∙ ap (λ i. slice_index (take p xs) i) (stays p place h)

-- Once its ring is at the next place, a list's row is the rest of the row.
pub list_later : (s t : SlotList) → t.entries ≡ s.entries → t.ring.len ≡ s.ring.len → places t.ring.len t.ring.place ≡ later (places s.ring.len s.ring.place) → list_owners t ≡ later (list_owners s)
unfolding later list_owners
list_later s t same long rest = λ i k. slice_index (take (long i) (same i)) (rest i k)

-- Its first owner is the entry at the place of its ring.
pub list_first : (s : SlotList) → s.ring.place < s.ring.len → slice_index s.entries s.ring.place ≡ list_owners s 0
unfolding list_owners
list_first s h = reads s.entries s.ring.len s.ring.place h

-- The row of a list that is kept at the front of an array, from its first entry on.
pub list_starts : (s : SlotList) (xs : List ℕ) → take (length xs) s.entries ≡ xs → s.ring.len ≡ length xs → places s.ring.len s.ring.place ≡ in_turn (length xs) → list_owners s ≡ repeated xs
unfolding in_turn repeated list_owners
list_starts s xs kept long start = ap (λ n k. slice_index (take n s.entries) (places s.ring.len s.ring.place k)) long ∙ (λ i k. slice_index (kept i) (start i k))

-- A list that is kept at the front of another. Kept as a theorem on the row of such a list; no proof needs it.
pub starts : (xs kept : List ℕ) → take (length xs) kept ≡ xs → ◌≡◌ {A = ℕ → ℕ} (around (take (length xs) kept) (length xs) 0) (repeated xs)
unfolding repeated places
starts xs kept e = ap (λ l. around l (length xs) 0) e ∙ around_start (λ k. slice_index xs k) (length xs)

pub round_robin_lawful : (s : RoundRobin) → Lawful (round_count s) (round_count s) (round_owners s)
unfolding round_owners
round_robin_lawful s = round_lawful s.ring.len s.ring.place s.few s.ring.within

pub slot_list_lawful : (s : SlotList) → Lawful (list_count s) (list_span s) (list_owners s)
unfolding list_owners
slot_list_lawful s =
    let xs = take s.ring.len s.entries in
    let long : length xs ≡ s.ring.len = length-take-le s.ring.len s.entries (omega arith) in
    let Law : ℕ → Type 0 = λ p. Lawful s.boards p (around xs p s.ring.place) in
    subst Law long (list_lawful s.boards s.ring.place xs (kept_accepted s.boards xs s.accepted))
