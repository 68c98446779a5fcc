-- The published numbers of the causes, and how a fault is told.
use Rattle.std.specs.Prelude.{◌≡◌, ℕ, List, ◌++◌, Ok, Err, codes, decimal, Result}
use Rattle.schedule.specs.Numbers.{number}
use Rattle.trace.specs.declared.fault.LineFault.{LineFault}
use Rattle.trace.specs.declared.fault.LineFault.TheVariants.{NoLineEnd, Letter, WordCount, NotANumber, OutOfField, Schedule}
use Rattle.trace.specs.declared.fault.TraceFault.{TraceFault}
use Rattle.trace.specs.declared.fault.TraceFault.TheVariants.{Line, OutOfMemory}

abbrev pub cause : LineFault → ℕ
cause NoLineEnd = 1
cause Letter = 2
cause WordCount = 3
cause NotANumber = 4
cause OutOfField = 5
cause (Schedule e) = 6

-- A fault as a listing shows it.
abbrev pub fault_text : LineFault → List ℕ
fault_text NoLineEnd = decimal (cause NoLineEnd)
fault_text Letter = decimal (cause Letter)
fault_text WordCount = decimal (cause WordCount)
fault_text NotANumber = decimal (cause NotANumber)
fault_text OutOfField = decimal (cause OutOfField)
fault_text (Schedule e) = decimal (cause (Schedule e)) ++ (codes " " ++ decimal (number e))

-- An answer is the expected one, seen through f; want of memory alone may come in its place.
abbrev pub Told : {T U : Type 0} → (T → U) → Result T TraceFault → Result U LineFault → Type 0
Told f (Ok x) e = e ≡ Ok (f x)
Told f (Err (Line why)) e = e ≡ Err why
Told f (Err OutOfMemory) e = Unit {0}
