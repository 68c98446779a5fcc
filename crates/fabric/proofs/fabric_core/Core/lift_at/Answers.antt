use Rattle.std.proofs.Common.{rules}
use Rattle.rules.specs.Boards.{lifts}
use Rattle.fabric.proofs.Views.{on_board}
use Rattle.fabric.proofs.fabric_core.Core.lift_at.Goals as goal

pub returns : goal.returns
returns g c = on_board g.M.LineMemory c.args.self.now c.args.board.at c.lift.new.self _ (lifts c.args.request.line.at c.args.word c.args.request.waited) (search rules) c.lift.ensures
