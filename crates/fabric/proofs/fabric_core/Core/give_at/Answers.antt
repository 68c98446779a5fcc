use Rattle.std.proofs.Common.{◌∙◌, rules}
use Rattle.rules.specs.Cells.{board_at}
use Rattle.rules.specs.Slots.{first_of}
use Rattle.fabric.specs.Deeds.{gives_first}
use Rattle.fabric.specs.Views.{view}
use Rattle.fabric.proofs.Views.{gave_at_lem, on_board}
use Rattle.fabric.proofs.fabric_core.Core.give_at.Goals as goal

pub returns-clause-after : goal.returns-clause-after
returns-clause-after g c =
    let m = g.M.LineMemory in
    let f = c.args.self.now in
    let b = c.args.board.at in
    on_board m f b c.give.new.self _ (λ x. gives_first (first_of x.list) x) (search rules) c.give.ensures.after ∙ gave_at_lem b (view m f) (first_of (board_at (view m f) b).list)
