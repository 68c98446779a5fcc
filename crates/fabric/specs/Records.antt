-- One record of a board changed.
use Rattle.std.specs.Prelude.{ℕ}
use Rattle.copystate.specs.declared.states.State.{State}
use Rattle.rules.specs.Boards.{Board, change}

abbrev pub recorded : ℕ → State → ℕ → Board → Board
recorded l s w x = record { place = x.place; list = x.list; last = x.last; mark = x.mark; state = change x.state l s; word = change x.word l w }
