-- The law of the table at the state and the event. `using` on the function gives the lemma to `grind`, which does not prove it here.
use Rattle.copystate.proofs.Laws.{entry_law}
use Rattle.copystate.proofs.states.State.next.Goals as goal

pub returns-clause-law : goal.returns-clause-law
returns-clause-law c = entry_law c.args.self c.args.event
