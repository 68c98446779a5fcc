-- How a replay begins: with a fault listed, or with what the first lines set up.
use Rattle.std.specs.Prelude.{◌≡◌, ℕ, ◌+◌, ◌≤◌, List, ◌++◌, length, drop, Some, None, Ok, Err, Option, Result}
use Rattle.rules.specs.Calls.{fresh}
use Rattle.schedule.specs.Rows.{in_turn}
use Rattle.trace.specs.Pieces.{pieces}
use Rattle.trace.specs.declared.fault.TraceFault.{TraceFault}
use Rattle.trace.specs.declared.fault.TraceFault.TheVariants.{Line, OutOfMemory}
use Rattle.listing.specs.Bus.{bus_count, bus_owners, bus_span}
use Rattle.listing.specs.Listing.{Stand, begun, from_second, listed, listing}
use Rattle.listing.specs.Lines.{fault_line}
use Rattle.listing.specs.declared.setup.Setup.{Setup}

abbrev pub standing : Setup → Stand
standing s = begun s.lines (bus_count s.schedule) (bus_span s.schedule) (bus_owners s.schedule)

-- Either the text has got the whole listing, or it is as it was and the listing goes on from what is set up.
abbrev pub Begun : Option Setup → (trace t t' : List ℕ) → Type 0
Begun None trace t t' = t' ≡ t ++ listing trace
Begun (Some s) trace t t' = (t' ≡ t) × (length trace ≤ 32768) × (listing trace ≡ listed s.line (standing s) (pieces 10 (drop s.used trace)))

-- After the first line the round robin stands, and the second line is next.
abbrev pub Opened : Setup → Type 0
Opened o = (standing o ≡ begun o.lines (bus_count o.schedule) (bus_count o.schedule) (in_turn (bus_count o.schedule))) × (o.line ≡ 2)

-- Either the second line has a fault, which is then the whole listing, or the listing goes on from what is set up.
abbrev pub FromSecond : Result Setup TraceFault → Setup → (rest : List ℕ) → Type 0
FromSecond (Ok s) o rest =
    (k : ℕ) × (s.used ≡ o.used + k) × (from_second (bus_count o.schedule) o.lines (pieces 10 rest) ≡ listed s.line (standing s) (pieces 10 (drop k rest)))
FromSecond (Err (Line f)) o rest = from_second (bus_count o.schedule) o.lines (pieces 10 rest) ≡ fault_line 2 f
FromSecond (Err OutOfMemory) o rest = Unit {0}

-- The stand at the first line after a setup, on a schedule and a memory.
abbrev pub stand_from : (words : ℕ → ℕ) (size : ℕ) (owners : ℕ → ℕ) (count span : ℕ) → Stand
stand_from words size owners count span = record { world = fresh words size owners count span; slot = 0 }
