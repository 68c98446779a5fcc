use Rattle.std.proofs.Common.{rules}
use Rattle.fabric.specs.declared.index.Index.{Index}
use Rattle.fabric.proofs.Queues.{pushed_front}
use Rattle.fabric.proofs.queue.Queue.push.Goals as goal

pub returns-then-self-lt16 : goal.returns-then-self-lt16
returns-then-self-lt16 g c = pushed_front (λ (x : Index g.row.N). x.at) c.args.self.now.len c.args.x c.args.self.now.items (search rules) (search rules)
