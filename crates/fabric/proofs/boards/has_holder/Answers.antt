use Rattle.std.proofs.Common.{rules, tests, ◌∙◌}
use Rattle.std.proofs.lemmas.Iterator.{YieldsList-from_slice}
use Rattle.std.proofs.lemmas.Iterator.Search.{any_from_yields_List}
use Rattle.copystate.specs.States.{holds}
use Rattle.rules.specs.Boards.{Board}
use Rattle.fabric.specs.declared.board.Board as fabric
use Rattle.fabric.specs.Boards.{board_of, boards_of}
use Rattle.fabric.proofs.Loops.{below_list}
use Rattle.fabric.proofs.boards.has_holder.Goals as goal

pub returns : goal.returns
unfolding boards_of
returns c =
    let test = λ (x : Board). holds (x.state c.args.line.at) in
    any_from_yields_List (λ (x : fabric.Board). test (board_of x)) _ _ _ c.any.ensures.ran (YieldsList-from_slice c.args.boards.now cc) (λ x b q k. search (rules, tests))
    ∙ below_list test board_of c.args.boards.now
