-- The word goes to its line; past the last line nothing changes.
use Rattle.std.proofs.Common.{◌<◌, ◌≤◌, min, ltb, set, sym, refl, ap, arith, length-set}
use Rattle.std.proofs.lemmas.Bool.{cond-true, lt-ltb}
use Rattle.memory.specs.Flat.{counted, lined}
use Rattle.memory.proofs.Replacing.{replaces_written, nothing_replaces}
use Rattle.memory.proofs.FlatWrites.{set_replaces, set_keeps_past, past_stored}
use Rattle.memory.proofs.flat.store.Goals as goal

pub returns-then-line-lines_of : goal.returns-then-line-lines_of
returns-then-line-lines_of c =
    let ws = c.args.words.now in
    let i = c.args.line in
    let v = c.args.word in
    let within : i < counted ws = omega arith in
    let low : i < 64 = omega arith in
    let r = set_replaces ws i v within in
    record {
      size = ap (min 64) (length-set ws i v);
      words = replaces_written (counted ws) (lined ws) (lined (set ws i v)) i v r;
      replaces = r;
      past = set_keeps_past ws i v low;
      stored = sym (cond-true (ltb i 64) (set ws i v) ws (lt-ltb i 64 low));
    }

pub returns-else-line-lines_of : goal.returns-else-line-lines_of
returns-else-line-lines_of c =
    let ws = c.args.words.now in
    let i = c.args.line in
    let v = c.args.word in
    let outside : counted ws ≤ i = omega arith in
    let r = nothing_replaces (counted ws) (lined ws) i v outside in
    record {
      size = refl;
      words = replaces_written (counted ws) (lined ws) (lined ws) i v r;
      replaces = r;
      past = refl;
      stored = sym (past_stored ws i v outside);
    }
