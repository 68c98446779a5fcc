use Rattle.std.proofs.Common.{rules}
use Rattle.rules.specs.Boards.{sends}
use Rattle.fabric.proofs.Views.{on_board}
use Rattle.fabric.proofs.fabric_core.Core.send_at.Goals as goal

pub returns : goal.returns
returns g c = on_board g.M.LineMemory c.args.self.now c.args.board.at c.send.new.self _ (sends c.args.event c.args.request.line.at c.args.request.kind c.args.request.waited) (search rules) c.send.ensures
