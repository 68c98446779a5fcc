use Rattle.std.proofs.Common.{rules}
use Rattle.rules.specs.Boards.{free, placed}
use Rattle.fabric.proofs.Views.{on_board}
use Rattle.fabric.proofs.fabric_core.Core.free_at.Goals as goal

pub returns : goal.returns
returns g c = on_board g.M.LineMemory c.args.self.now c.args.board.at c.clear.new.self _ (placed free) (search rules) c.clear.ensures
