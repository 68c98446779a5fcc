use Rattle.std.proofs.Common.{◌≡◌}
use Rattle.rules.specs.Boards.{moves}
use Rattle.rules.specs.Cells.{but_for, each}
use Rattle.fabric.specs.Boards.{boards_of}
use Rattle.fabric.proofs.boards.snoop.Given as goal

abbrev pub invariant-loop-number : goal.invariant-loop-number
invariant-loop-number l = boards_of l.boards ≡ each l.number (but_for l.sender.at (moves l.line.at l.event)) (boards_of l.initial.boards)
