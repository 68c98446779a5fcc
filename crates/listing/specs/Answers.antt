-- What the answers of the fabric print.
use Rattle.std.specs.Prelude.{ℕ, List, [], Some, None, Option}
use Rattle.rules.specs.Calls.{Answer, did, got, hit, ok, refused, wait}
use Rattle.rules.specs.Words.{deed_word}
use Rattle.listing.specs.Lines.{collected_line, guarded_line, hit_line, idle_line, refused_line, replaced_line, slot_line, wait_line}
use Rattle.listing.specs.declared.lines.CallLetter.{CallLetter}
use Rattle.listing.specs.declared.lines.CallLetter.TheVariants.{Load, Store, Replace, Guard, Collect}

-- A replacement or a guard that is accepted.
abbrev pub ok_line : CallLetter → (first second : ℕ) → List ℕ
ok_line Load b l = []
ok_line Store b l = []
ok_line Replace b l = replaced_line b l
ok_line Guard l o = guarded_line l
ok_line Collect b l = []

-- The answer of a call, after its letter and the first numbers of its line.
abbrev pub answer_text : CallLetter → (first second : ℕ) → Answer → List ℕ
answer_text c b l wait = wait_line c b l
answer_text c b l (hit w) = hit_line c b l w
answer_text c b l ok = ok_line c b l
answer_text c b l (got w t) = collected_line b w t
answer_text c b l (did o d k) = []
answer_text c b l (refused n) = refused_line c b n

-- The answer of a slot, after its number.
abbrev pub report_text : (slot owner : ℕ) (deed : List ℕ) → Option ℕ → List ℕ
report_text slot owner deed None = idle_line slot owner
report_text slot owner deed (Some l) = slot_line slot owner deed l

abbrev pub slot_text : ℕ → Answer → List ℕ
slot_text slot wait = []
slot_text slot (hit w) = []
slot_text slot ok = []
slot_text slot (got w t) = []
slot_text slot (did o d k) = report_text slot o (deed_word d) k
slot_text slot (refused n) = []
