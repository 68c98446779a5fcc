use Rattle.std.proofs.Common.{rules}
use Rattle.rules.specs.Boards.{gets}
use Rattle.fabric.proofs.Views.{on_board}
use Rattle.fabric.proofs.fabric_core.Core.get_at.Goals as goal

pub returns : goal.returns
returns g c = on_board g.M.LineMemory c.args.self.now c.args.board.at c.get.new.self _ (gets c.args.request.line.at c.args.request.kind c.args.request.waited c.args.word) (search rules) c.get.ensures
