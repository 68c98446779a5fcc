-- The word goes to the line below that the window shows; past the last line nothing changes.
use Rattle.std.proofs.Common.{◌+◌, ◌≤◌, ap, arith, rules}
use Rattle.memory.specs.Window.{reach, seen, size_of, words_of}
use Rattle.memory.proofs.Replacing.{replaces_written, nothing_replaces}
use Rattle.memory.proofs.WindowWrites.{shown_replaces, below_replaces, around_stays, outside_stays}
use Rattle.memory.proofs.window.WindowLineMemory.write.Goals as goal

pub returns-in-Some : goal.returns-in-Some
returns-in-Some g c =
    let m = g.M.LineMemory in
    let w = c.args.self.now in
    let i = c.args.line in
    let place = c.in-Some.place in
    let v = c.args.word in
    let last = c.write.new.self in
    let size = m.size w.below in
    let before = m.words w.below in
    let after = m.words last in
    let within = c.in-Some.ensures.0 in
    let at = c.in-Some.ensures.1 in
    let there = c.write.ensures.replaces in
    let r = shown_replaces size w.start w.count i place v before after within at there in
    record {
      size = ap (λ n. reach n w.start w.count) c.write.ensures.size;
      words = replaces_written (size_of m w) (words_of m w) (seen after w.start w.count) i v r;
      replaces = r;
      around = around_stays size w.start w.count i place v before after within at there (m.around w.below) (m.around last) c.write.ensures.around;
      lender = c.write.ensures.lender;
      stays = search rules;
      lines_below = c.write.ensures.size;
      below = below_replaces size w.start w.count i place v before after within at there;
      spares = outside_stays size w.start w.count i place v before after within at there;
    }

pub returns-in_default : goal.returns-in_default
returns-in_default g c =
    let m = g.M.LineMemory in
    let w = c.args.self.now in
    let outside : size_of m w ≤ c.args.line = omega (arith, c.in_default.ensures) in
    let r = nothing_replaces (size_of m w) (words_of m w) c.args.line c.args.word outside in
    record {
      size = search rules;
      words = replaces_written (size_of m w) (words_of m w) (words_of m w) c.args.line c.args.word r;
      replaces = r;
      around = search rules;
      lender = search rules;
      stays = search rules;
      lines_below = search rules;
      below = nothing_replaces (w.start + size_of m w) (m.words w.below) (w.start + c.args.line) c.args.word (omega arith);
      spares = λ k _. search rules;
    }
