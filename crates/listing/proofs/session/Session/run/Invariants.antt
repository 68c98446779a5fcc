use Rattle.std.proofs.Common.{string_bytes}
use Rattle.listing.specs.Sessions.{stand_of}
use Rattle.listing.proofs.Slots.{Along}
use Rattle.listing.proofs.session.Session.run.Given as goal

abbrev pub invariant-loop : goal.invariant-loop
invariant-loop g l = Along l.count l.counter (stand_of g.S.Schedule g.M.LineMemory l.initial.self) (stand_of g.S.Schedule g.M.LineMemory l.self) (string_bytes l.initial.out) (string_bytes l.out)
