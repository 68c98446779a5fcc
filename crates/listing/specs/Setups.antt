-- What the first lines of a trace set up.
use Rattle.std.specs.Prelude.{◌≡◌, ℕ, List, Some, None, Ok, Err, Option, Result}
use Rattle.schedule.specs.Lists.{count_refusal, list_refusal}
use Rattle.schedule.specs.Meanings.{Means, round_count, round_owners}
use Rattle.schedule.specs.Rows.{in_turn}
use Rattle.schedule.specs.declared.round_robin.RoundRobin.{RoundRobin}
use Rattle.schedule.specs.declared.slot_list.SlotList.{SlotList}
use Rattle.trace.specs.Commands.{Setting}
use Rattle.trace.specs.declared.fault.LineFault.{LineFault}
use Rattle.trace.specs.declared.fault.TraceFault.{TraceFault}
use Rattle.trace.specs.declared.fault.TraceFault.TheVariants.{Line, OutOfMemory}
use Rattle.listing.specs.Bus.{bus_count}
use Rattle.listing.specs.declared.setup.Setup.{Setup}
use Rattle.trace.specs.declared.fault.LineFault.TheVariants.{Schedule, NoLineEnd, Letter, WordCount, NotANumber, OutOfField}

-- A round robin, or why there is none.
abbrev pub Turned : ℕ → Result RoundRobin LineFault → Type 0
Turned n (Ok s) = (count_refusal n ≡ None) × (round_count s ≡ n) × (round_owners s ≡ in_turn n)
Turned n (Err NoLineEnd) = ⊥
Turned n (Err Letter) = ⊥
Turned n (Err WordCount) = ⊥
Turned n (Err NotANumber) = ⊥
Turned n (Err OutOfField) = ⊥
Turned n (Err (Schedule e)) = count_refusal n ≡ Some e

-- A slot list, or why there is none.
abbrev pub Listed : ℕ → List ℕ → Result SlotList LineFault → Type 0
Listed n bs (Ok s) = (list_refusal n bs ≡ None) × Means s n bs
Listed n bs (Err NoLineEnd) = ⊥
Listed n bs (Err Letter) = ⊥
Listed n bs (Err WordCount) = ⊥
Listed n bs (Err NotANumber) = ⊥
Listed n bs (Err OutOfField) = ⊥
Listed n bs (Err (Schedule e)) = list_refusal n bs ≡ Some e

-- The setting of a first line that is carried out.
abbrev pub setting_of : Setup → Setting
setting_of s = record { boards = bus_count s.schedule; lines = s.lines; kind = s.kind }

-- The slot list of a second line, or none.
abbrev pub Relisted : ℕ → Result (Option SlotList) TraceFault → Result (Option (List ℕ)) LineFault → Type 0
Relisted n (Ok None) e = e ≡ Ok None
Relisted n (Ok (Some s)) e = (bs : List ℕ) × (e ≡ Ok (Some bs)) × Means s n bs
Relisted n (Err (Line g)) e = e ≡ Err g
Relisted n (Err OutOfMemory) e = Unit {0}
