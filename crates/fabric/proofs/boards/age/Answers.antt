use Rattle.std.proofs.Common.{sym, ap, ◌∙◌, arith}
use Rattle.rules.specs.Boards.{ages, change}
use Rattle.fabric.specs.Boards.{board_of, boards_of}
use Rattle.fabric.proofs.Loops.{each_more, each_out}
use Rattle.fabric.proofs.Tables.{board_at_lem, boards_set}
use Rattle.fabric.proofs.boards.age.Goals as goal

pub loop-board-preserved : goal.loop-board-preserved
loop-board-preserved c =
    let bs = boards_of c.args.boards.now in
    let i = c.loop-board.board-index in
    boards_set c.loop-board.boards i c.age.new.self (omega arith) ∙ ap (λ p. change p i (board_of c.age.new.self)) c.loop-board.invariant
    ∙ each_more (λ k. ages) bs i (board_of c.age.new.self)
    (c.age.ensures ∙ ap ages (sym (board_at_lem c.loop-board.boards i c.board-item.result (omega arith)) ∙ ap (λ p. p i) c.loop-board.invariant ∙ each_out (λ k. ages) bs i i (omega arith)))
