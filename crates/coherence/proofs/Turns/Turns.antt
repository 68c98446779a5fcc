-- How many turns a sent request may still need.
use Rattle.std.proofs.Common.{ℕ, ◌+◌, ◌-◌, ◌*◌, ◌≤◌}

-- at place s (from 1) of its row, with the line at place h (from 1) of its holder's list, or h = 0 without a holder
unfoldable pub turns : ℕ → ℕ → ℕ → ℕ
turns n s h = 2 * s + 2 * h + (s - 1) * (2 * n + 2 - s)

abbrev pub Bounded : Type 0
Bounded = (n s h : ℕ) → 1 ≤ s → s + 1 ≤ n → h + s ≤ n + 2 → turns n s h + 2 ≤ n * (n + 3)
