-- What the schedule of a trace means.
use Rattle.std.specs.Prelude.{ℕ}
use Rattle.schedule.specs.Laws.{round_robin_lawful, slot_list_lawful}
use Rattle.schedule.specs.Meanings.{round_count, round_owners, list_count, list_span, list_owners}
use Rattle.schedule.specs.Rows.{Lawful}
use Rattle.listing.specs.declared.bus.BusSchedule.{BusSchedule}
use Rattle.listing.specs.declared.bus.BusSchedule.TheVariants.{InTurn, Listed}

abbrev pub bus_count : BusSchedule → ℕ
bus_count (InTurn s) = round_count s
bus_count (Listed s) = list_count s

abbrev pub bus_span : BusSchedule → ℕ
bus_span (InTurn s) = round_count s
bus_span (Listed s) = list_span s

abbrev pub bus_owners : BusSchedule → ℕ → ℕ
bus_owners (InTurn s) = round_owners s
bus_owners (Listed s) = list_owners s

pub bus_lawful : (s : BusSchedule) → Lawful (bus_count s) (bus_span s) (bus_owners s)
bus_lawful (InTurn s) = round_robin_lawful s
bus_lawful (Listed s) = slot_list_lawful s
