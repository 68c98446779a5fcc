-- The calls, the refusals that each tests in order, and what an accepted one answers and leaves.
use Rattle.std.specs.Prelude.{ℕ, Bool, true, false, cond, not, ◌&&◌, ◌||◌, List, [], ◌∷◌, is_some, Some, None, Option, ◌==◌, nat_le, nat_lt}
use Rattle.schedule.specs.Rows.{later}
use Rattle.copystate.specs.States.{loads, modified, same_state, stores}
use Rattle.copystate.specs.declared.states.State.{State}
use Rattle.copystate.specs.declared.states.State.TheVariants.{I, MIwb}
use Rattle.rules.specs.declared.deed.Deed.{Deed}
use Rattle.rules.specs.declared.kind.Kind.{Kind}
use Rattle.rules.specs.declared.kind.Kind.TheVariants.{Load, Store}
use Rattle.rules.specs.declared.refusal.Refusal.{Refusal}
use Rattle.rules.specs.declared.refusal.Refusal.TheVariants.{NoBoard, NoLine, Busy, KeyTooLarge, KeyDiffers, NothingToReplace, ReplacementWaits, NoRequest, NotServed}
use Rattle.rules.specs.Words.{number}
use Rattle.rules.specs.Boards.{Place, blank, free, posted, sent, served, placed, posts, replaces, stored}
use Rattle.rules.specs.Cells.{Cells, board_at, key_at, size_of, with_board, with_key}
use Rattle.rules.specs.Slots.{slot_of}

pub data Call : Type 0 where
  load : (board line : ℕ) → Call
  store : (board line word key : ℕ) → Call
  replace : (board line : ℕ) → Call
  guard : (line old new : ℕ) → Call
  collect : (board : ℕ) → Call
  slot : Call

pub data Answer : Type 0 where
  wait : Answer
  hit : (word : ℕ) → Answer
  ok : Answer
  got : (word waited : ℕ) → Answer
  did : (owner : ℕ) (deed : Deed) (line : Option ℕ) → Answer
  refused : (number : ℕ) → Answer

-- A fabric with its schedule: what it holds, the owners of the slots to come, the board count and the period.
pub record World : Type 0 where
  pub cells : Cells
  pub owners : ℕ → ℕ
  pub count : ℕ
  pub span : ℕ

abbrev pub is_free : Place → Bool
is_free free = true
is_free (posted l k w) = false
is_free (sent l k w) = false
is_free (served l k r w) = false

abbrev pub is_served : Place → Bool
is_served free = false
is_served (posted l k w) = false
is_served (sent l k w) = false
is_served (served l k r w) = true

-- A line that has a key wants it.
abbrev pub locked : ℕ → ℕ → Cells → Bool
locked l k s = not (key_at s l == 0) && not (k == key_at s l)

abbrev pub replaceable : State → Bool
replaceable x = not (same_state x I || same_state x MIwb)

-- The first refusal whose test fits.
abbrev pub first_fit : List (Refusal × Bool) → Option Refusal
first_fit [] = None
first_fit (t ∷ ts) = cond t.1 (Some t.0) (first_fit ts)

abbrev pub or_else : Option Refusal → Option Refusal → Option Refusal
or_else None f = f
or_else (Some e) f = Some e

-- What every call by a board at a line tests first: the board, the line, and that the board has no request.
unfoldable pub vacant : ℕ → ℕ → ℕ → Cells → Option Refusal
vacant n b l s = first_fit ((NoBoard, nat_le n b) ∷ (NoLine, nat_le (size_of s) l) ∷ (Busy, not (is_free (board_at s b).place)) ∷ [])

-- The refusals that each call tests, in this order.
abbrev pub tested : ℕ → Cells → Call → Option Refusal
tested n s (load b l) = vacant n b l s
tested n s (store b l v k) = or_else (vacant n b l s) (first_fit ((KeyDiffers, locked l k s) ∷ []))
tested n s (replace b l) =
    or_else (vacant n b l s)
    (first_fit ((NothingToReplace, not (replaceable ((board_at s b).state l))) ∷ (ReplacementWaits, modified ((board_at s b).state l) && is_some (board_at s b).mark) ∷ []))
tested n s (guard l o k) = first_fit ((NoLine, nat_le (size_of s) l) ∷ (KeyTooLarge, nat_lt 9999 k) ∷ (KeyDiffers, locked l o s) ∷ [])
tested n s (collect b) = first_fit ((NoBoard, nat_le n b) ∷ (NoRequest, is_free (board_at s b).place) ∷ (NotServed, not (is_served (board_at s b).place)) ∷ [])
tested n s slot = None

abbrev pub refusal : Call → World → Option Refusal
refusal c w = tested w.count w.cells c

-- A load or store that is accepted hits, or waits.
abbrev pub hits : Kind → State → Bool
hits Load x = loads x
hits (Store v) x = stores x

abbrev pub hitting : ℕ → ℕ → Kind → Cells → Cells
hitting b l Load s = s
hitting b l (Store v) s = with_board b (stored l v (board_at s b)) s

abbrev pub asked : ℕ → ℕ → Kind → Cells → Cells
asked b l k s = elim (hits k ((board_at s b).state l)) [ true ↦ hitting b l k s | false ↦ with_board b (posts l k (board_at s b)) s ]

abbrev pub hit_word : ℕ → ℕ → Kind → Cells → ℕ
hit_word b l Load s = (board_at s b).word l
hit_word b l (Store v) s = v

abbrev pub replied : ℕ → ℕ → Kind → Cells → Answer
replied b l k s = elim (hits k ((board_at s b).state l)) [ true ↦ hit (hit_word b l k s) | false ↦ wait ]

abbrev pub collected : Place → Answer
collected free = refused 0
collected (posted l k w) = refused 0
collected (sent l k w) = refused 0
collected (served l k r w) = got r w

abbrev pub holding : Cells → World → World
holding s w = record { cells = s; owners = w.owners; count = w.count; span = w.span }

-- What an accepted call answers, and what it leaves.
abbrev pub answered : Call → World → Answer
answered (load b l) w = replied b l Load w.cells
answered (store b l v k) w = replied b l (Store v) w.cells
answered (replace b l) w = ok
answered (guard l o k) w = ok
answered (collect b) w = collected (board_at w.cells b).place
answered slot w = let d = slot_of w.count (w.owners 0) w.cells in did (w.owners 0) d.deed d.line

abbrev pub accepted : Call → World → World
accepted (load b l) w = holding (asked b l Load w.cells) w
accepted (store b l v k) w = holding (asked b l (Store v) w.cells) w
accepted (replace b l) w = holding (with_board b (replaces l (board_at w.cells b)) w.cells) w
accepted (guard l o k) w = holding (with_key l k w.cells) w
accepted (collect b) w = holding (with_board b (placed free (board_at w.cells b)) w.cells) w
accepted slot w = record { cells = (slot_of w.count (w.owners 0) w.cells).after; owners = later w.owners; count = w.count; span = w.span }

-- A refusal is answered by its number and changes nothing.
abbrev pub says : Call → World → Answer
says c w = elim (refusal c w) [ Some e ↦ refused (number e) | None ↦ answered c w ]

abbrev pub step : Call → World → World
step c w = elim (refusal c w) [ Some e ↦ w | None ↦ accepted c w ]

-- A fabric just made.
abbrev pub empty : (words : ℕ → ℕ) (size : ℕ) → Cells
empty words size = record { boards = λ b. blank; rows = λ l. []; words = words; keys = λ l. 0; size = size }

abbrev pub fresh : (words : ℕ → ℕ) (size : ℕ) (owners : ℕ → ℕ) (count span : ℕ) → World
fresh words size owners count span = record { cells = empty words size; owners = owners; count = count; span = span }
