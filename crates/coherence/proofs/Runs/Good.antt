-- What every run keeps.
use Rattle.std.proofs.Common.{◌≡◌, ℕ, suc, ◌+◌, ◌≤◌, Bool, true, cond, not, ◌||◌, eqb, length}
use Rattle.coherence.proofs.Turns.Counts.{occurs}
use Rattle.coherence.proofs.Line.Codes.{waits, writes, wants}
use Rattle.coherence.proofs.Line.Sound.{Sound}
use Rattle.rules.specs.declared.kind.Kind.{Kind}
use Rattle.rules.specs.declared.kind.Kind.TheVariants.{Load, Store}
use Rattle.rules.specs.Boards.{Place, free, posted, sent, served}
use Rattle.coherence.proofs.Runs.Reading.{Board, Reading}

-- 1 if the request for l is sent and unserved
abbrev pub pend : Place → ℕ → ℕ
pend free l = 0
pend (posted k kd w) l = 0
pend (sent k kd w) l = cond (eqb l k) 1 0
pend (served k kd r w) l = 0

-- the state that a board has for the line k of its request
unfoldable pub unsent_fits : Kind → ℕ → Bool
unsent_fits Load x = eqb x 0
unsent_fits (Store v) x = eqb x 0 || eqb x 5

unfoldable pub sent_fits : Kind → ℕ → Bool
sent_fits Load x = eqb x 3 || eqb x 9
sent_fits (Store v) x = eqb (wants x) 1

abbrev pub agrees : Place → ℕ → ℕ → Bool
agrees free l x = not (eqb x 5)
agrees (posted k kd w) l x = cond (eqb l k) (unsent_fits kd x) (not (eqb x 5))
agrees (sent k kd w) l x = cond (eqb l k) (sent_fits kd x) (not (eqb x 5))
agrees (served k kd r w) l x = not (eqb x 5)

-- 1 if the mark is l's
abbrev pub marked : ℕ → ℕ → ℕ
marked m l = cond (eqb m (suc l)) 1 0

-- a board's state x for the line l, the board, and the number that wait for l
pub record Cell (x l : ℕ) (b : Board) (r : ℕ) : Type 0 where
  pub listed : occurs l b.list ≡ writes x
  pub pending : waits x ≡ pend b.place l
  pub agreed : agrees b.place l x ≡ true
  pub needed : writes x ≡ 1 → 1 ≤ marked b.mark l + r

pub record Good (n : ℕ) (s : Reading) : Type 0 where
  pub sound : (l : ℕ) → Sound (s.lines l).state (s.lines l).row
  pub outside : (l c : ℕ) → n ≤ c → (s.lines l).state c ≡ 0
  pub cells : (l c : ℕ) → Cell ((s.lines l).state c) l (s.boards c) (length (s.lines l).row)
