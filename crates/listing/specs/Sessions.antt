-- What a session means, and what carrying out a line does.
use Rattle.std.specs.Prelude.{◌≡◌, ℕ, List, ◌++◌, Ok, Err, Result}
use Rattle.fabric.specs.Worlds.{world}
use Rattle.memory.specs.declared.interface.LineMemory as memory
use Rattle.schedule.specs.declared.Schedule as schedule
use Rattle.trace.specs.Commands.{Order}
use Rattle.trace.specs.declared.fault.LineFault.{LineFault}
use Rattle.trace.specs.declared.fault.TraceFault.{TraceFault}
use Rattle.trace.specs.declared.fault.TraceFault.TheVariants.{Line, OutOfMemory}
use Rattle.listing.specs.Lines.{fault_line}
use Rattle.listing.specs.Listing.{Stand, after, printed}
use Rattle.listing.specs.declared.session.Session.{Session}

abbrev pub stand_of : {S M : Type 0} → schedule.Ghosts S → memory.Ghosts M → Session S M → Stand
stand_of s m x = record { world = world s m x.fabric; slot = x.slot }

-- What obeying a line does to the stand s and the text t, by what the line asks for; a fault leaves the text as it was.
abbrev pub Obeyed : Result (Unit {0}) TraceFault → Result Order LineFault → (s s' : Stand) (t t' : List ℕ) → Type 0
Obeyed (Ok x) (Ok o) s s' t t' = (t' ≡ t ++ printed o s) × (s' ≡ after o s)
Obeyed (Ok x) (Err f) s s' t t' = ⊥
Obeyed (Err (Line g)) e s s' t t' = (e ≡ Err g) × (t' ≡ t)
Obeyed (Err OutOfMemory) e s s' t t' = Unit {0}

-- What a fault adds to the text t.
abbrev pub Stopped : TraceFault → ℕ → (t t' : List ℕ) → Type 0
Stopped (Line f) n t t' = t' ≡ t ++ fault_line n f
Stopped OutOfMemory n t t' = ⊥
