use Rattle.std.proofs.Common.{rules}
use Rattle.fabric.specs.declared.index.Index.{Index}
use Rattle.fabric.proofs.Queues.{shift_front}
use Rattle.fabric.proofs.queue.Queue.pop.Goals as goal

pub returns-clause-rest : goal.returns-clause-rest
returns-clause-rest g c = shift_front (λ (x : Index g.row.N). x.at) c.args.self.now.len c.args.self.now.items _ (search rules) (search rules) (search rules)
