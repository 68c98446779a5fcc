-- The meaning of the tables after one of them is changed.
use Rattle.std.proofs.Common.{◌≡◌, ℕ, ◌<◌, ◌≤◌, List, ◌++◌, length, get_or, take, drop, set, Some, None, Option, sym, refl, ap, ◌∙◌}
use Rattle.memory.specs.Interface.{written}
use Rattle.memory.specs.declared.interface.LineMemory as memory
use Rattle.rules.specs.Boards as rules
use Rattle.rules.specs.Boards.{change}
use Rattle.rules.specs.Cells.{Cells, board_at, each, key_at, row_at, size_of, with_board, with_boards, with_key, with_row, with_word, word_at}
use Rattle.fabric.specs.declared.board.Board.{Board}
use Rattle.fabric.specs.declared.fabric_core.Core.{Core}
use Rattle.fabric.specs.declared.fabric_core.Line.{Line}
use Rattle.fabric.specs.declared.queue.Queue.{Queue}
use Rattle.fabric.specs.Boards.{board_of, boards_of, keys_of, rows_of}
use Rattle.fabric.specs.Queues.{row}
use Rattle.fabric.specs.Views.{view}
use Rattle.fabric.specs.Deeds.{gave_at, gives_first}
use Rattle.fabric.proofs.Arrays.{change_own}
use Rattle.std.proofs.lemmas.List.{length-take-le}
use Rattle.fabric.proofs.Loops.{each_front}
use Rattle.fabric.proofs.Tables.{board_at_lem, boards_set, key_at_lem, keys_kept, keys_put, row_at_lem, rows_kept, rows_put}

module _ {M : Type 0} (m : memory.Ghosts M) (f : Core M) where
  pub boards_are : board_at (view m f) ≡ boards_of f.boards
  unfolding board_at view
  boards_are = refl

  pub rows_are : row_at (view m f) ≡ rows_of f.lines
  unfolding row_at view
  rows_are = refl

  pub keys_are : key_at (view m f) ≡ keys_of f.lines
  unfolding key_at view
  keys_are = refl

  pub words_are : word_at (view m f) ≡ m.words f.memory
  unfolding word_at view
  words_are = refl

  pub size_is : size_of (view m f) ≡ m.size f.memory
  unfolding size_of view
  size_is = refl

  -- What an index reads.
  pub board_is : (b : ℕ) (d : Board) → b < length f.boards → board_of (get_or f.boards b d) ≡ board_at (view m f) b
  unfolding view board_at
  board_is b d h = sym (board_at_lem f.boards b d h)

  pub row_is : (l : ℕ) (d : Line) → l < length f.lines → row (get_or f.lines l d).row ≡ row_at (view m f) l
  unfolding view row_at
  row_is l d h = sym (row_at_lem f.lines l d h)

  pub key_is : (l : ℕ) (d : Line) → l < length f.lines → (get_or f.lines l d).key ≡ key_at (view m f) l
  unfolding view key_at
  key_is l d h = sym (key_at_lem f.lines l d h)

  pub put_boards : (bs : List Board) (ps : ℕ → rules.Board) → boards_of bs ≡ ps → view m record { boards = bs; lines = f.lines; memory = f.memory } ≡ with_boards ps (view m f)
  unfolding view with_boards
  put_boards bs ps e = ap (λ p. record { boards = p; rows = rows_of f.lines; words = m.words f.memory; keys = keys_of f.lines; size = m.size f.memory }) e

  -- The boards at the front changed, or asked.
  pub put_front : (n : ℕ) (h : ℕ → rules.Board → rules.Board) (ys : List Board) → n ≤ length f.boards → length ys ≡ length (take n f.boards) → boards_of ys ≡ each (length (take n f.boards)) h (boards_of (take n f.boards))
      → view m record { boards = ys ++ drop n f.boards; lines = f.lines; memory = f.memory } ≡ with_boards (each n h (boards_of f.boards)) (view m f)
  put_front n h ys long size e =
      let k : length (take n f.boards) ≡ n = length-take-le n f.boards long in
      put_boards (ys ++ drop n f.boards) (each n h (boards_of f.boards)) (each_front h n f.boards ys long (size ∙ k) (e ∙ ap (λ j. each j h (boards_of (take n f.boards))) k))

  -- A board or a row changed in its place.
  pub put_board : (b : ℕ) (x : Board) → b < length f.boards → view m record { boards = set f.boards b x; lines = f.lines; memory = f.memory } ≡ with_board b (board_of x) (view m f)
  unfolding with_board view
  put_board b x h = put_boards (set f.boards b x) (change (boards_of f.boards) b (board_of x)) (boards_set f.boards b x h)

  pub on_board : (b : ℕ) (x d : Board) (g : rules.Board → rules.Board) → b < length f.boards → board_of x ≡ g (board_of (get_or f.boards b d))
      → view m record { boards = set f.boards b x; lines = f.lines; memory = f.memory } ≡ with_board b (g (board_at (view m f) b)) (view m f)
  on_board b x d g h e = put_board b x h ∙ ap (λ y. with_board b y (view m f)) (e ∙ ap g (board_is b d h))

  pub put_row : (l : ℕ) (q : Queue 16) (d : Line) → l < length f.lines
      → view m record { boards = f.boards; lines = set f.lines l record { row = q; key = (get_or f.lines l d).key }; memory = f.memory } ≡ with_row l (row q) (view m f)
  unfolding view with_row
  put_row l q d h i = record {
    boards = boards_of f.boards;
    rows = rows_put f.lines l d h q i;
    words = m.words f.memory;
    keys = keys_kept f.lines l d h q i;
    size = m.size f.memory;
  }

  pub put_key : (l k : ℕ) (d : Line) → l < length f.lines
      → view m record { boards = f.boards; lines = set f.lines l record { row = (get_or f.lines l d).row; key = k }; memory = f.memory } ≡ with_key l k (view m f)
  unfolding view with_key
  put_key l k d h i = record {
    boards = boards_of f.boards;
    rows = rows_kept f.lines l d h k i;
    words = m.words f.memory;
    keys = keys_put f.lines l d h k i;
    size = m.size f.memory;
  }

  pub put_word : (x : M) (l w : ℕ) → m.size x ≡ m.size f.memory → m.words x ≡ written (m.size f.memory) (m.words f.memory) l w
      → view m record { boards = f.boards; lines = f.lines; memory = x } ≡ with_word l w (view m f)
  unfolding view with_word
  put_word x l w es ew i = record { boards = boards_of f.boards; rows = rows_of f.lines; words = ew i; keys = keys_of f.lines; size = es i }

-- A board put back as it was.
own_board : (b : ℕ) (s : Cells) → with_board b (board_at s b) s ≡ s
unfolding with_board with_boards board_at
own_board b s = ap (λ bs. record { boards = bs; rows = s.rows; words = s.words; keys = s.keys; size = s.size }) (change_own s.boards b)

pub gave_at_lem : (b : ℕ) (s : Cells) (o : Option ℕ) → with_board b (gives_first o (board_at s b)) s ≡ gave_at b o s
gave_at_lem b s None = own_board b s
gave_at_lem b s (Some l) = refl
