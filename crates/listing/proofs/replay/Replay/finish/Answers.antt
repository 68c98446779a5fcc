use Rattle.std.proofs.Common.{◌++◌, string_bytes, sym, ap, ◌∙◌, append_assoc}
use Rattle.listing.specs.Replays.{coming, piece}
use Rattle.listing.proofs.replay.Replay.finish.Goals as goal

pub loop-preserved : goal.loop-preserved
loop-preserved g c =
    let r = c.loop.self in
    let r' = c.step.new.self in
    let out = string_bytes c.loop.out in
    let left = coming g.S.Schedule g.M.LineMemory r' in
    ap (λ t. t ++ left) c.in_ok-step.ensures.text ∙ append_assoc out (piece g.S.Schedule g.M.LineMemory r) left ∙ sym (ap (λ t. out ++ t) c.in_ok-step.ensures.rest) ∙ c.loop.invariant
