use Rattle.std.proofs.Common.{◌≡◌, ◌++◌, string_bytes}
use Rattle.listing.specs.Replays.{coming, unread}
use Rattle.listing.proofs.replay.Replay.finish.Given as goal

abbrev pub invariant-loop : goal.invariant-loop
invariant-loop g l =
    string_bytes l.out ++ coming g.S.Schedule g.M.LineMemory l.self ≡ string_bytes l.initial.out ++ coming g.S.Schedule g.M.LineMemory l.initial.self

abbrev pub decreases-loop : goal.decreases-loop
decreases-loop g l = unread l.self
