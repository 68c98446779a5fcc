use Rattle.std.proofs.Common.{◌∙◌, rules}
use Rattle.copystate.specs.States.{holds}
use Rattle.rules.specs.Boards.{Board}
use Rattle.rules.specs.Cells.{held}
use Rattle.fabric.specs.Views.{view}
use Rattle.fabric.proofs.Loops.{below_front}
use Rattle.fabric.proofs.fabric_core.Core.is_held.Goals as goal

pub returns : goal.returns
unfolding held view
returns g c = c.has_holder.ensures ∙ below_front (λ (x : Board). holds (x.state c.args.line.at)) c.args.turn.count c.args.self.now.boards (search rules)
