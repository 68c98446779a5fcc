-- What the calls but a slot change.
use Rattle.std.proofs.Common.{ℕ, suc, Bool, true, false, not, ◌&&◌, eqb, [], ◌∷◌, ◌++◌}
use Rattle.coherence.proofs.Line.Codes.{next, holds, copies}
use Rattle.coherence.proofs.Line.Sound.{update}
use Rattle.rules.specs.declared.kind.Kind.{Kind}
use Rattle.rules.specs.declared.kind.Kind.TheVariants.{Load, Store}
use Rattle.rules.specs.Boards.{free, posted}
use Rattle.coherence.proofs.Runs.Reading.{Board, Line, Reading, keep}

-- a load hits in S, M, MIwb and MSwb, a store in M, MIwb and MSwb
abbrev pub hits : Kind → ℕ → Bool
hits Load s = eqb (copies s) 1 && not (eqb s 5)
hits (Store v) s = eqb (holds s) 1

unfoldable pub post_line : ℕ → Line → Line
post_line b ln =
    record {
      state = update ln.state b (next (ln.state b) 0);
      word = update ln.word b (keep (next (ln.state b) 0) (ln.word b));
      row = ln.row;
      mem = ln.mem;
    }

unfoldable pub post : ℕ → ℕ → Kind → Reading → Reading
post b l Load s =
    record {
      boards = update s.boards b (record { place = posted l Load 0; list = (s.boards b).list; asked = (s.boards b).asked; mark = (s.boards b).mark });
      lines = s.lines;
    }
post b l (Store v) s =
    record {
      boards = update s.boards b (record { place = posted l (Store v) 0; list = (s.boards b).list; asked = (s.boards b).asked; mark = (s.boards b).mark });
      lines = update s.lines l (post_line b (s.lines l));
    }

unfoldable pub hitting : ℕ → ℕ → Kind → Reading → Reading
hitting b l Load s = s
hitting b l (Store v) s =
    record {
      boards = s.boards;
      lines = update s.lines l (record { state = (s.lines l).state; word = update (s.lines l).word b v; row = (s.lines l).row; mem = (s.lines l).mem });
    }

unfoldable pub clear : ℕ → Reading → Reading
clear b s =
    record { boards = update s.boards b (record { place = free; list = (s.boards b).list; asked = (s.boards b).asked; mark = (s.boards b).mark }); lines = s.lines }

-- a copy is given up: from M, the line goes to the list's end and is marked
unfoldable pub replace_line : ℕ → Line → Line
replace_line b ln =
    record {
      state = update ln.state b (next (ln.state b) 3);
      word = update ln.word b (keep (next (ln.state b) 3) (ln.word b));
      row = ln.row;
      mem = ln.mem;
    }

abbrev pub mark_board : Bool → ℕ → Board → Board
mark_board true l b = record { place = b.place; list = b.list ++ l ∷ []; asked = b.asked; mark = suc l }
mark_board false l b = b

unfoldable pub replaces : ℕ → ℕ → Reading → Reading
replaces b l s =
    record {
      boards = update s.boards b (mark_board (eqb ((s.lines l).state b) 2) l (s.boards b));
      lines = update s.lines l (replace_line b (s.lines l));
    }

unfoldable pub start : (ℕ → ℕ) → Reading
start words =
    record {
      boards = λ b. record { place = free; list = []; asked = false; mark = 0 };
      lines = λ l. record { state = λ b. 0; word = λ b. 0; row = []; mem = words l };
    }
