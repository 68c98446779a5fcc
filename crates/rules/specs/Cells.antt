-- What a fabric holds but for its schedule, and each change of one part of it.
use Rattle.std.specs.Prelude.{ℕ, zero, suc, Bool, true, false, cond, ◌||◌, List, [], ◌∷◌, drop, ◌==◌, nat_lt}
use Rattle.memory.specs.Interface.{written}
use Rattle.copystate.specs.States.{holds}
use Rattle.copystate.specs.declared.events.Event.{Event}
use Rattle.rules.specs.Boards.{Board, ages, change, moves, pushed}

-- Boards by number; rows, memory words and keys by line; and the line count.
pub record Cells : Type 0 where
  pub boards : ℕ → Board
  pub rows : ℕ → List ℕ
  pub words : ℕ → ℕ
  pub keys : ℕ → ℕ
  pub size : ℕ

unfoldable pub board_at : Cells → ℕ → Board
board_at s b = s.boards b

unfoldable pub row_at : Cells → ℕ → List ℕ
row_at s l = s.rows l

unfoldable pub word_at : Cells → ℕ → ℕ
word_at s l = s.words l

unfoldable pub key_at : Cells → ℕ → ℕ
key_at s l = s.keys l

unfoldable pub size_of : Cells → ℕ
size_of s = s.size

unfoldable pub with_boards : (ℕ → Board) → Cells → Cells
with_boards bs s = record { boards = bs; rows = s.rows; words = s.words; keys = s.keys; size = s.size }

unfoldable pub with_board : ℕ → Board → Cells → Cells
with_board b x s = with_boards (change s.boards b x) s

unfoldable pub with_row : ℕ → List ℕ → Cells → Cells
with_row l r s = record { boards = s.boards; rows = change s.rows l r; words = s.words; keys = s.keys; size = s.size }

unfoldable pub with_word : ℕ → ℕ → Cells → Cells
with_word l w s = record { boards = s.boards; rows = s.rows; words = written s.size s.words l w; keys = s.keys; size = s.size }

unfoldable pub with_key : ℕ → ℕ → Cells → Cells
with_key l k s = record { boards = s.boards; rows = s.rows; words = s.words; keys = change s.keys l k; size = s.size }

-- Each of the first n boards by its number.
unfoldable pub each : ℕ → (ℕ → Board → Board) → (ℕ → Board) → ℕ → Board
each n g bs c = cond (nat_lt c n) (g c (bs c)) (bs c)

-- All but b take the event of another board.
abbrev pub but_for : ℕ → (Board → Board) → ℕ → Board → Board
but_for b g c x = cond (c == b) x (g x)

unfoldable pub snoops : ℕ → ℕ → ℕ → Event → Cells → Cells
snoops n b l e s = with_boards (each n (but_for b (moves l e)) s.boards) s

-- Every unserved request has waited one slot more.
unfoldable pub aged : ℕ → Cells → Cells
aged n s = with_boards (each n (λ c. ages) s.boards) s

abbrev pub joins : ℕ → ℕ → Cells → Cells
joins l b s = with_row l (pushed (row_at s l) b) s

abbrev pub leaves : ℕ → Cells → Cells
leaves l s = with_row l (drop 1 (row_at s l)) s

-- Some number below n passes the test.
abbrev pub below : ℕ → (ℕ → Bool) → Bool
below zero test = false
below (suc n) test = test n || below n test

-- The line has a holder among n boards.
unfoldable pub held : ℕ → ℕ → Cells → Bool
held n l s = below n (λ c. holds ((s.boards c).state l))

abbrev pub is_empty : List ℕ → Bool
is_empty [] = true
is_empty (x ∷ xs) = false

abbrev pub is_first : ℕ → List ℕ → Bool
is_first b [] = false
is_first b (x ∷ xs) = x == b
