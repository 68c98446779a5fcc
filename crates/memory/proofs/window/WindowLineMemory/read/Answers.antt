-- Past the last line there is no word.
use Rattle.std.proofs.Common.{◌≤◌, sym, refl, arith}
use Rattle.memory.specs.Sound.{window_blank}
use Rattle.memory.specs.Window.{size_of}
use Rattle.memory.proofs.window.WindowLineMemory.read.Goals as goal

pub returns-in-None : goal.returns-in-None
returns-in-None g c =
    let m = g.M.LineMemory in
    let w = c.args.self.now in
    let outside : size_of m w ≤ c.args.line = omega (arith, c.in-None.ensures) in
    record {
      word = sym (window_blank (m.size w.below) (m.words w.below) w.start w.count (m.sound w.below) c.args.line outside);
      blank = λ _. refl;
    }
