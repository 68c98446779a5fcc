-- Past the last line there is no word.
use Rattle.std.proofs.Common.{sym, refl, arith}
use Rattle.memory.specs.Sound.{flat_blank}
use Rattle.memory.proofs.flat.word_at.Goals as goal

pub returns-else-line-lines_of : goal.returns-else-line-lines_of
returns-else-line-lines_of c =
    record { word = sym (flat_blank c.args.words.now c.args.line (omega arith)); blank = λ _. refl }
