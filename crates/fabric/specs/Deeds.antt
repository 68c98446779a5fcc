-- A write-back, as the code takes it apart.
use Rattle.std.specs.Prelude.{ℕ, Some, None, Option}
use Rattle.rules.specs.Cells.{Cells, board_at, with_board}
use Rattle.rules.specs.Boards.{Board, gives, unmarked}
use Rattle.fabric.specs.declared.index.Index.{Index}

abbrev pub given : Option ℕ → Board → Option (ℕ × ℕ)
given None x = None
given (Some l) x = Some (l, x.word l)

abbrev pub given_at : Option (Index 64 × ℕ) → Option (ℕ × ℕ)
given_at None = None
given_at (Some (l, w)) = Some (l.at, w)

abbrev pub gives_first : Option ℕ → Board → Board
gives_first None x = x
gives_first (Some l) x = gives l x

abbrev pub unmarks : ℕ → Board → Board
unmarks l x = record { place = x.place; list = x.list; last = x.last; mark = unmarked l x.mark; state = x.state; word = x.word }

abbrev pub gave_at : ℕ → Option ℕ → Cells → Cells
gave_at b None s = s
gave_at b (Some l) s = with_board b (gives l (board_at s b)) s
