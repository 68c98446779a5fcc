use Rattle.std.proofs.Common.{sym, ap, ◌∙◌, arith}
use Rattle.std.proofs.lemmas.List.{set-get_or}
use Rattle.rules.specs.Boards.{change, moves}
use Rattle.rules.specs.Cells.{but_for}
use Rattle.fabric.specs.Boards.{board_of, boards_of}
use Rattle.fabric.proofs.Loops.{each_more, each_skip, each_out, but_own, but_other}
use Rattle.fabric.proofs.Tables.{board_at_lem, boards_set}
use Rattle.fabric.proofs.boards.snoop.Goals as goal
use Rattle.fabric.proofs.boards.snoop.Goals.{then-number-sender, else-number-sender}

pub loop-number-preserved : goal.loop-number-preserved
loop-number-preserved c =
    let g = moves c.args.line.at c.args.event in
    let h = but_for c.args.sender.at g in
    let bs = boards_of c.args.boards.now in
    let i = c.loop-number.number in
    elim c.if-number-sender.branch [
      | then-number-sender w ↦
          ap boards_of w.boards-is ∙ boards_set c.loop-number.boards i w.take.new.self (omega arith) ∙ ap (λ p. change p i (board_of w.take.new.self)) c.loop-number.invariant
          ∙ each_more h bs i (board_of w.take.new.self)
          (w.take.ensures ∙ ap g (sym (board_at_lem c.loop-number.boards i c.index-boards-number.result (omega arith)) ∙ ap (λ p. p i) c.loop-number.invariant ∙ each_out h bs i i (omega arith)) ∙ sym (but_other c.args.sender.at g i (bs i) w.if-number-sender.true))
      | else-number-sender w ↦
          ap boards_of (w.boards-is ∙ set-get_or c.loop-number.boards i c.index-boards-number.result) ∙ c.loop-number.invariant ∙ each_skip h bs i (sym (but_own c.args.sender.at g i (bs i) w.if-number-sender.false))
    ]
