use Rattle.std.proofs.Common.{string_bytes, rules}
use Rattle.listing.specs.Sessions.{stand_of}
use Rattle.listing.proofs.Firsts.{kept}
use Rattle.listing.proofs.Replays.{last_print, last_rest, obeyed, stopped}
use Rattle.listing.proofs.replay.Replay.step.Goals as goal

pub returns-in_default-after : goal.returns-in_default-after
returns-in_default-after g c =
    let r = c.args.self.now in
    let s = stand_of g.S.Schedule g.M.LineMemory r.session in
    let rest = c.in-Some.rest.now in
    let line = c.cut.result.0.now in
    let none = kept c.cut.ensures.rest c.in_default-after.is in
    record {
      text = rw c.in-Some.is (last_print r.line s rest line c.cut.ensures.first none (string_bytes c.args.out.now) _ c.in_ok-write_end.ensures);
      rest = rw (c.in-Some.is, c.in_default-after.is) (last_rest r.line s rest line c.cut.ensures.first none);
      over = search rules;
      less = search rules;
      stops = search rules;
    }

pub returns-in-Ok : goal.returns-in-Ok
returns-in-Ok g c =
    let r = c.args.self.now in
    let s = stand_of g.S.Schedule g.M.LineMemory r.session in
    let s' = stand_of g.S.Schedule g.M.LineMemory c.obey.new.self in
    let some = kept c.cut.ensures.rest c.in-Some-after.is in
    let step = obeyed r.line s c.in-Some.rest.now c.cut.result.0.now c.cut.ensures.first c.in-Some-after.field-0.now some s' (string_bytes c.args.out.now) (string_bytes c.obey.new.out) c.in-Ok.ensures.obeys in
    record {
      text = rw c.in-Some.is step.0;
      rest = rw (c.in-Some.is, c.in-Some-after.is) step.1;
      over = search rules;
      less = search rules;
      stops = search rules;
    }

pub returns-in_ok-stop-in-Err : goal.returns-in_ok-stop-in-Err
returns-in_ok-stop-in-Err g c =
    let r = c.args.self.now in
    let s = stand_of g.S.Schedule g.M.LineMemory r.session in
    let s' = stand_of g.S.Schedule g.M.LineMemory c.obey.new.self in
    let some = kept c.cut.ensures.rest c.in-Some-after.is in
    let step = stopped r.line s c.in-Some.rest.now c.cut.result.0.now c.cut.ensures.first c.in-Some-after.field-0.now some c.in-Err.fault s' (string_bytes c.args.out.now) (string_bytes c.obey.new.out) (string_bytes c.stop.new.out) c.in-Err.ensures.obeys c.in_ok-stop-in-Err.ensures in
    record {
      text = rw c.in-Some.is step.0;
      rest = rw c.in-Some.is step.1;
      over = search rules;
      less = search rules;
      stops = search rules;
    }
