-- The listing of a trace.
use Rattle.std.specs.Prelude.{◌≡◌, ℕ, zero, suc, ◌+◌, ◌≤◌, cond, List, [], ◌∷◌, ◌++◌, length, Some, None, Ok, Err, Option, Result, ◌==◌, nat_lt}
use Rattle.schedule.specs.Lists.{count_refusal, list_refusal}
use Rattle.schedule.specs.Rows.{in_turn, repeated}
use Rattle.schedule.specs.declared.refusal.ScheduleRefusal.{ScheduleRefusal}
use Rattle.rules.specs.Calls as rules
use Rattle.rules.specs.Calls.{World, fresh, says, step}
use Rattle.trace.specs.Commands.{Order, Setting, call_order, collect, fabric_order, guard, list_order, load, replace, slots, store}
use Rattle.trace.specs.Pieces.{pieces}
use Rattle.trace.specs.declared.fault.LineFault.{LineFault}
use Rattle.trace.specs.declared.fault.LineFault.TheVariants.{NoLineEnd, Letter, Schedule}
use Rattle.listing.specs.Answers.{answer_text, slot_text}
use Rattle.listing.specs.Lines.{fault_line, too_long}
use Rattle.listing.specs.declared.lines.CallLetter.TheVariants as letter

-- Where a trace stands between two lines: the fabric, and the number of the next slot.
pub record Stand : Type 0 where
  pub world : World
  pub slot : ℕ

abbrev pub calls : rules.Call → Stand → Stand
calls c s = record { world = step c s.world; slot = s.slot }

-- One slot, and some of them.
abbrev pub passed : Stand → Stand
passed s = record { world = step rules.slot s.world; slot = s.slot + 1 }

abbrev pub ran : ℕ → Stand → Stand
ran zero s = s
ran (suc c) s = ran c (passed s)

abbrev pub slot_lines : ℕ → Stand → List ℕ
slot_lines zero s = []
slot_lines (suc c) s = slot_text s.slot (says rules.slot s.world) ++ slot_lines c (passed s)

-- What an order leaves, and what it prints.
abbrev pub after : Order → Stand → Stand
after (load b l) s = calls (rules.load b l) s
after (store b l v k) s = calls (rules.store b l v k) s
after (replace b l) s = calls (rules.replace b l) s
after (guard l o k) s = calls (rules.guard l o k) s
after (collect b) s = calls (rules.collect b) s
after (slots c) s = ran c s

abbrev pub printed : Order → Stand → List ℕ
printed (load b l) s = answer_text letter.Load b l (says (rules.load b l) s.world)
printed (store b l v k) s = answer_text letter.Store b l (says (rules.store b l v k) s.world)
printed (replace b l) s = answer_text letter.Replace b l (says (rules.replace b l) s.world)
printed (guard l o k) s = answer_text letter.Guard l 0 (says (rules.guard l o k) s.world)
printed (collect b) s = answer_text letter.Collect b 0 (says (rules.collect b) s.world)
printed (slots c) s = slot_lines c s

-- What line n prints, and the listing after it.
abbrev pub line_print : ℕ → Stand → Result Order LineFault → List ℕ
line_print n s (Ok o) = printed o s
line_print n s (Err f) = fault_line n f

abbrev pub onward : Stand → Result Order LineFault → (Stand → List ℕ) → List ℕ
onward s (Ok o) rest = rest (after o s)
onward s (Err f) rest = []

-- What follows the last line end: nothing, or a line without its end.
abbrev pub ending : ℕ → List ℕ → List ℕ
ending n p = cond (length p == 0) [] (fault_line n NoLineEnd)

-- The listing from line n on, whose bytes are the first of the pieces between line ends.
abbrev pub listed : ℕ → Stand → List (List ℕ) → List ℕ
listed n s [] = []
listed n s (p ∷ []) = ending n p
listed n s (p ∷ q ∷ ps) = line_print n s (call_order p) ++ onward s (call_order p) (λ t. listed (n + 1) t (q ∷ ps))

-- A fresh fabric over a memory of zeros.
abbrev pub begun : (lines boards span : ℕ) → (ℕ → ℕ) → Stand
begun l n p row = record { world = fresh (λ k. 0) l row n p; slot = 0 }

-- The second line may be a slot list, which may be refused.
abbrev pub granted : {A : Type 0} → A → Option ScheduleRefusal → Result A LineFault
granted x None = Ok x
granted x (Some e) = Err (Schedule e)

abbrev pub list_settled : ℕ → Result (Option (List ℕ)) LineFault → Result (Option (List ℕ)) LineFault
list_settled n (Ok None) = Ok None
list_settled n (Ok (Some bs)) = granted (Some bs) (list_refusal n bs)
list_settled n (Err f) = Err f

abbrev pub second : ℕ → ℕ → Result (Option (List ℕ)) LineFault → (whole rest : List (List ℕ)) → List ℕ
second n l (Ok None) whole rest = listed 2 (begun l n n (in_turn n)) whole
second n l (Ok (Some bs)) whole rest = listed 3 (begun l n (length bs) (repeated bs)) rest
second n l (Err f) whole rest = fault_line 2 f

abbrev pub from_second : ℕ → ℕ → List (List ℕ) → List ℕ
from_second n l [] = []
from_second n l (p ∷ []) = listed 2 (begun l n n (in_turn n)) (p ∷ [])
from_second n l (p ∷ q ∷ ps) = second n l (list_settled n (list_order p)) (p ∷ q ∷ ps) (q ∷ ps)

-- The first line makes the fabric, with a round robin, which may be refused.
abbrev pub settled : Result Setting LineFault → Result Setting LineFault
settled (Ok f) = granted f (count_refusal f.boards)
settled (Err f) = Err f

abbrev pub first : Result Setting LineFault → List (List ℕ) → List ℕ
first (Ok f) rest = from_second f.boards f.lines rest
first (Err f) rest = fault_line 1 f

abbrev pub unopened : List ℕ → List ℕ
unopened p = cond (length p == 0) (fault_line 1 Letter) (fault_line 1 NoLineEnd)

abbrev pub from_first : List (List ℕ) → List ℕ
from_first [] = []
from_first (p ∷ []) = unopened p
from_first (p ∷ q ∷ ps) = first (settled (fabric_order p)) (q ∷ ps)

-- The listing of a trace, which has at most 32,768 bytes.
abbrev pub listing : List ℕ → List ℕ
listing input = cond (nat_lt 32768 (length input)) too_long (from_first (pieces 10 input))

-- The law of listings: what whole lines have listed stays, whatever follows them.
abbrev pub Stays : (trace text : List ℕ) → Type 0
Stays trace text = (lines more : List ℕ) → trace ≡ lines ++ 10 ∷ [] → length (trace ++ more) ≤ 32768 → (rest : List ℕ) × (listing (trace ++ more) ≡ text ++ rest)
