-- What a round robin and a slot list mean as schedules.
use Rattle.std.specs.Prelude.{◌≡◌, ℕ, List, length, take, slice_index}
use Rattle.schedule.specs.Rows.{repeated}
use Rattle.schedule.specs.Rings.{places}
use Rattle.schedule.specs.declared.round_robin.RoundRobin.{RoundRobin}
use Rattle.schedule.specs.declared.slot_list.SlotList.{SlotList}

abbrev pub round_count : RoundRobin → ℕ
round_count s = s.ring.len

unfoldable pub round_owners : RoundRobin → ℕ → ℕ
round_owners s = places s.ring.len s.ring.place

abbrev pub list_count : SlotList → ℕ
list_count s = s.boards

abbrev pub list_span : SlotList → ℕ
list_span s = s.ring.len

unfoldable pub list_owners : SlotList → ℕ → ℕ
list_owners s k = slice_index (take s.ring.len s.entries) (places s.ring.len s.ring.place k)

-- A slot list of n boards that goes through the entries from the first on, over and over.
pub record Means (s : SlotList) (n : ℕ) (xs : List ℕ) : Type 0 where
  pub count : list_count s ≡ n
  pub span : list_span s ≡ length xs
  pub owners : list_owners s ≡ repeated xs
