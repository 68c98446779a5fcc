use Rattle.std.proofs.Common.{◌≡◌, drop, vec_items}
use Rattle.trace.specs.Commands.{board, each_in}
use Rattle.trace.proofs.Boards.{onto}
use Rattle.trace.proofs.command.boards.Given as goal

abbrev pub invariant-loop-word : goal.invariant-loop-word
invariant-loop-word l = onto (vec_items l.list) (each_in board (drop l.word-index l.words)) ≡ each_in board l.words
