use Rattle.std.proofs.Common.{string_bytes, rules}
use Rattle.listing.specs.Sessions.{stand_of}
use Rattle.listing.proofs.Slots.{along_more}
use Rattle.listing.proofs.session.Session.run.Goals as goal

pub loop-preserved : goal.loop-preserved
loop-preserved g c =
    along_more c.args.count c.loop.counter (stand_of g.S.Schedule g.M.LineMemory c.args.self.now) (stand_of g.S.Schedule g.M.LineMemory c.loop.self) (stand_of g.S.Schedule g.M.LineMemory c.pass.new.self)
    (string_bytes c.args.out.now) (string_bytes c.loop.out) _ c.loop-test.true c.loop.invariant c.pass.ensures.after (search rules)
