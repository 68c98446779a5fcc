-- How far away a board's next turn is.
use Rattle.std.proofs.Common.{ℕ, zero, suc, cond, eqb}
use Rattle.schedule.specs.Rows.{later}

-- the slots up to b's next turn, that one included, if it comes among the first f, and f + 1 if not
abbrev pub until : ℕ → ℕ → (ℕ → ℕ) → ℕ
until zero b o = 1
until (suc f) b o = cond (eqb (o 0) b) 1 (suc (until f b (later o)))
