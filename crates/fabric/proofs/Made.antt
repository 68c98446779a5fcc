-- The meaning of the tables of a fabric just made.
use Rattle.std.proofs.Common.{◌≡◌, ℕ, zero, suc, [], map, get_or, replicate, None, refl, ap}
use mathlib.Core.Path.{fun_ext}
use Rattle.copystate.specs.declared.states.State.{State}
use Rattle.copystate.specs.declared.states.State.TheVariants.{I}
use Rattle.memory.specs.declared.interface.LineMemory as memory
use Rattle.rules.specs.Boards.{blank, free}
use Rattle.rules.specs.Calls.{empty}
use Rattle.rules.specs.declared.kind.LastDeed.TheVariants.{WriteBack}
use Rattle.fabric.specs.declared.board.Board.{Board}
use Rattle.fabric.specs.declared.board.LineRecord.{LineRecord}
use Rattle.fabric.specs.declared.fabric_core.Line.{Line}
use Rattle.fabric.specs.declared.queue.Queue.{Queue}
use Rattle.fabric.specs.Boards.{board_of, boards_of, keys_of, no_line, rows_of, states_of, words_of}
use Rattle.fabric.specs.Queues.{row}
use Rattle.fabric.specs.Views.{view}

same_all : {A : Type 0} (n : ℕ) (x : A) (k : ℕ) → get_or (replicate n x) k x ≡ x
same_all zero x k = refl
same_all (suc n) x zero = refl
same_all (suc n) x (suc k) = same_all n x k

seen_all : {A B : Type 0} (v : A → B) (n : ℕ) (x : A) (d : B) → v x ≡ d → (k : ℕ) → get_or (map v (replicate n x)) k d ≡ d
seen_all v zero x d e k = refl
seen_all v (suc n) x d e zero = e
seen_all v (suc n) x d e (suc k) = seen_all v n x d e k

no_states : ◌≡◌ {A = ℕ → State} (states_of (replicate 64 no_line)) (λ l. I)
unfolding states_of
no_states = fun_ext (λ l. ap (λ (r : LineRecord). r.state) (same_all 64 no_line l))

no_words : ◌≡◌ {A = ℕ → ℕ} (words_of (replicate 64 no_line)) (λ l. 0)
unfolding words_of
no_words = fun_ext (λ l. ap (λ (r : LineRecord). r.word) (same_all 64 no_line l))

abbrev fresh_board : Queue 64 → Board
fresh_board q = record { lines = replicate 64 no_line; request = None; write_backs = q; last = WriteBack; marked = None }

blank_board : (q : Queue 64) → row q ≡ [] → board_of (fresh_board q) ≡ blank
blank_board q e i = record { place = free; list = e i; last = WriteBack; mark = None; state = no_states i; word = no_words i }

pub new_view : {M : Type 0} (m : memory.Ghosts M) (x : M) (q : Queue 64) (r : Queue 16) → row q ≡ [] → row r ≡ []
    → view m record { boards = replicate 16 (fresh_board q); lines = replicate 64 record { row = r; key = 0 }; memory = x } ≡ empty (m.words x) (m.size x)
unfolding view boards_of rows_of keys_of
new_view m x q r e z i = record {
  boards = λ b. seen_all board_of 16 (fresh_board q) blank (blank_board q e) b i;
  rows = λ l. seen_all (λ (y : Line). row y.row) 64 record { row = r; key = 0 } [] z l i;
  words = m.words x;
  keys = λ l. seen_all (λ (y : Line). y.key) 64 record { row = r; key = 0 } 0 refl l i;
  size = m.size x;
}
