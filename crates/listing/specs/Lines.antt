-- The lines of a listing.
use Rattle.std.specs.Prelude.{ℕ, List, ◌++◌, codes, decimal}
use Rattle.rules.specs.Words as rules
use Rattle.rules.specs.Words.{deed_word}
use Rattle.trace.specs.Faults.{fault_text}
use Rattle.trace.specs.declared.fault.LineFault.{LineFault}
use Rattle.listing.specs.declared.lines.CallLetter.{CallLetter}
use Rattle.listing.specs.declared.lines.CallLetter.TheVariants.{Load, Store, Replace, Guard, Collect}
use Rattle.listing.specs.declared.lines.Line.{Line}
use Rattle.listing.specs.declared.lines.Line.TheVariants.{Idle, Done, Wait, Hit, Replaced, Guarded, Collected, Refused, Fault, TooLong}

-- A slot in which nothing is done.
abbrev pub idle_line : ℕ → ℕ → List ℕ
idle_line slot owner = decimal slot ++ (codes " " ++ (decimal owner ++ codes " idle -\n"))

-- A slot with a deed on a line.
abbrev pub slot_line : (slot owner : ℕ) (deed : List ℕ) (line : ℕ) → List ℕ
slot_line slot owner deed line = decimal slot ++ (codes " " ++ (decimal owner ++ (codes " " ++ (deed ++ (codes " " ++ (decimal line ++ codes "\n"))))))

-- The letter of a call.
abbrev pub letter_of : CallLetter → List ℕ
letter_of Load = codes "L"
letter_of Store = codes "S"
letter_of Replace = codes "R"
letter_of Guard = codes "K"
letter_of Collect = codes "C"

-- A load or store that is posted, or that the copy answers.
abbrev pub wait_line : CallLetter → (board line : ℕ) → List ℕ
wait_line call board line = letter_of call ++ (codes " " ++ (decimal board ++ (codes " " ++ (decimal line ++ codes " wait\n"))))

abbrev pub hit_line : CallLetter → (board line word : ℕ) → List ℕ
hit_line call board line word = letter_of call ++ (codes " " ++ (decimal board ++ (codes " " ++ (decimal line ++ (codes " hit " ++ (decimal word ++ codes "\n"))))))

-- A replacement, a guard and a collection that are accepted.
abbrev pub replaced_line : (board line : ℕ) → List ℕ
replaced_line board line = codes "R " ++ (decimal board ++ (codes " " ++ (decimal line ++ codes " ok\n")))

abbrev pub guarded_line : (line : ℕ) → List ℕ
guarded_line line = codes "K " ++ (decimal line ++ codes " ok\n")

abbrev pub collected_line : (board word waited : ℕ) → List ℕ
collected_line board word waited = codes "C " ++ (decimal board ++ (codes " " ++ (decimal word ++ (codes " " ++ (decimal waited ++ codes "\n")))))

-- A call that is rejected: the first number of its line, and the refusal's.
abbrev pub refused_line : CallLetter → (first refusal : ℕ) → List ℕ
refused_line call first refusal = letter_of call ++ (codes " " ++ (decimal first ++ (codes " refused " ++ (decimal refusal ++ codes "\n"))))

-- The fault of a line of the trace.
abbrev pub fault_line : ℕ → LineFault → List ℕ
fault_line n f = codes "fault " ++ (decimal n ++ (codes " " ++ (fault_text f ++ codes "\n")))

-- A trace that is too long to be read.
abbrev pub too_long : List ℕ
too_long = codes "fault 0 7\n"

-- The text of a line.
abbrev pub line_text : Line → List ℕ
line_text (Idle slot owner) = idle_line slot owner
line_text (Done slot owner deed line) = slot_line slot owner (deed_word deed) line
line_text (Wait call board line) = wait_line call board line
line_text (Hit call board line word) = hit_line call board line word
line_text (Replaced board line) = replaced_line board line
line_text (Guarded line) = guarded_line line
line_text (Collected board word waited) = collected_line board word waited
line_text (Refused call first refusal) = refused_line call first (rules.number refusal)
line_text (Fault line fault) = fault_line line fault
line_text TooLong = too_long
