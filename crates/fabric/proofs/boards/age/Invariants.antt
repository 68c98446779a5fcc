use Rattle.std.proofs.Common.{◌≡◌}
use Rattle.rules.specs.Boards.{ages}
use Rattle.rules.specs.Cells.{each}
use Rattle.fabric.specs.Boards.{boards_of}
use Rattle.fabric.proofs.boards.age.Given as goal

abbrev pub invariant-loop-board : goal.invariant-loop-board
invariant-loop-board l = boards_of l.boards ≡ each l.board-index (λ c. ages) (boards_of l.initial.boards)
