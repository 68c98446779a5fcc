-- What a slot schedule means: a board count, a period, and the endless row of slot owners from now on.
use Rattle.std.specs.Prelude.{◌≡◌, ℕ, ◌+◌, ◌%◌, ◌<◌, ◌≤◌, List, length, slice_index}

-- The law of schedules: all owners are below the board count, and any `period` consecutive owners contain every board.
pub record Lawful (boards period : ℕ) (owners : ℕ → ℕ) : Type 0 where
  pub some : 0 < boards
  pub few : boards ≤ 16
  pub short : period ≤ 64
  pub below : (k : ℕ) → owners k < boards
  pub fair : (k b : ℕ) → b < boards → (j : ℕ) × (j < period) × (owners (k + j) ≡ b)

-- The row after its first owner is taken.
unfoldable pub later : (ℕ → ℕ) → ℕ → ℕ
later owners k = owners (k + 1)

-- Boards 0 to n - 1 in turn, for ever.
unfoldable pub in_turn : ℕ → ℕ → ℕ
in_turn n k = k % n

-- The entries of a list, over and over.
unfoldable pub repeated : List ℕ → ℕ → ℕ
repeated xs k = slice_index xs (k % length xs)
