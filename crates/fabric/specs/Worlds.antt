-- What a fabric with its schedule stands for, and what the answers of its calls say.
use Rattle.std.specs.Prelude.{ℕ, cond, Some, None, Option, Ok, Err, Result, nat_le}
use Rattle.memory.specs.declared.interface.LineMemory as memory
use Rattle.schedule.specs.declared.Schedule as schedule
use Rattle.rules.specs.Boards.{Board}
use Rattle.rules.specs.Calls.{Answer, World, did, got, hit, ok, refused, wait}
use Rattle.rules.specs.Cells.{Cells, board_at, size_of}
use Rattle.rules.specs.Words.{number}
use Rattle.rules.specs.declared.refusal.Refusal.{Refusal}
use Rattle.rules.specs.declared.refusal.Refusal.TheVariants.{NoBoard, NoLine}
use Rattle.fabric.specs.declared.answer.Collected.{Collected}
use Rattle.fabric.specs.declared.answer.SlotReport.{SlotReport}
use Rattle.fabric.specs.declared.fabric.Fabric.{Fabric}
use Rattle.fabric.specs.Views.{view}

abbrev pub world : {S M : Type 0} → schedule.Ghosts S → memory.Ghosts M → Fabric S M → World
world s m f = record { cells = view m f.core; owners = s.owners f.schedule; count = s.count f.schedule; span = s.span f.schedule }

abbrev pub reply_of : Option ℕ → Answer
reply_of None = wait
reply_of (Some w) = hit w

abbrev pub replied_of : Result (Option ℕ) Refusal → Answer
replied_of (Ok r) = reply_of r
replied_of (Err e) = refused (number e)

abbrev pub got_of : Result Collected Refusal → Answer
got_of (Ok x) = got x.word x.waited
got_of (Err e) = refused (number e)

abbrev pub done_of : Result (Unit {0}) Refusal → Answer
done_of (Ok x) = ok
done_of (Err e) = refused (number e)

abbrev pub report_of : SlotReport → Answer
report_of r = did r.owner r.deed r.line

-- A question about a board, about a line, and about both.
abbrev pub of_board : {A : Type 0} → World → ℕ → (Board → A) → Result A Refusal
of_board w b f = cond (nat_le w.count b) (Err NoBoard) (Ok (f (board_at w.cells b)))

abbrev pub of_line : {A : Type 0} → World → ℕ → (Cells → A) → Result A Refusal
of_line w l f = cond (nat_le (size_of w.cells) l) (Err NoLine) (Ok (f w.cells))

abbrev pub of_copy : {A : Type 0} → World → ℕ → ℕ → (Board → A) → Result A Refusal
of_copy w b l f = cond (nat_le w.count b) (Err NoBoard) (of_line w l (λ s. f (board_at s b)))
