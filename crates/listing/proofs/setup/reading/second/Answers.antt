use Rattle.std.proofs.Common.{◌+◌, length, Ok, Err, sym, ap, ◌∙◌, subst, arith, rules}
use Rattle.std.proofs.lemmas.Result.{err_from_is_err_and}
use Rattle.std.specs.Option.{option_map}
use Rattle.schedule.specs.Meanings.{list_count, list_owners, list_span}
use Rattle.trace.specs.Commands.{list_order}
use Rattle.trace.specs.Pieces.{pieces, rejoined}
use Rattle.listing.specs.Beginnings.{FromSecond}
use Rattle.listing.specs.Bus.{bus_count}
use Rattle.listing.specs.Listing.{begun, list_settled, listed}
use Rattle.listing.specs.Setups.{Relisted}
use Rattle.listing.proofs.Firsts.{kept, drop_after, second_faulty, second_last, second_listed, second_unlisted, stands}
use Rattle.listing.proofs.setup.reading.second.Goals as goal

pub returns-in_default : goal.returns-in_default
returns-in_default c =
    let o = c.args.opened in
    let rest = c.args.rest.now in
    let none = kept c.cut.ensures.rest c.in_default.is in
    (0, omega arith, second_last rest (bus_count o.schedule) o.lines none ∙ stands o (pieces 10 rest) c.requires.stands)

pub returns-in_err-list : goal.returns-in_err-list
returns-in_err-list c =
    let o = c.args.opened in
    let rest = c.args.rest.now in
    let some = kept c.cut.ensures.rest c.in-Some.is in
    let p = err_from_is_err_and c.from_residual.result c.from_residual.ensures.1 in
    subst (λ r. FromSecond r o rest) (sym (p.1 ∙ ap (λ e. Err e) p.2)) (second_faulty o rest c.cut.result.0.now _ c.cut.ensures.first some c.boards.result c.boards.ensures.value _ c.in_err-list.ensures)

pub returns-in_default-2 : goal.returns-in_default-2
returns-in_default-2 c =
    let o = c.args.opened in
    let rest = c.args.rest.now in
    let some = kept c.cut.ensures.rest c.in-Some.is in (
      0,
      omega arith,
      second_unlisted (bus_count o.schedule) o.lines rest c.cut.result.0.now _ c.cut.ensures.first some c.boards.result c.boards.ensures.value (search rules) ∙ stands o (pieces 10 rest) c.requires.stands,
    )

pub returns : goal.returns
returns c =
    let o = c.args.opened in
    let rest = c.args.rest.now in
    let line = c.cut.result.0.now in
    let more = c.in-Some.field-0.now in
    let some = kept c.cut.ensures.rest c.in-Some.is in
    let whole = c.cut.ensures.law.whole ∙ ap (λ x. rejoined 10 line (option_map (λ x. x.now) x)) c.in-Some.is in
    let told = subst (λ x. Relisted c.boards.result (Ok x) (list_settled c.boards.result (list_order line))) c.in-Some-2.is c.in_ok-list.ensures in (
      length line + 1,
      omega arith,
      second_listed (bus_count o.schedule) o.lines rest line more c.cut.ensures.first some c.boards.result c.boards.ensures.value c.in-Some-2.list told.0 told.1 told.2
          ∙ ap (λ ps. listed 3 (begun o.lines (list_count c.in-Some-2.list) (list_span c.in-Some-2.list) (list_owners c.in-Some-2.list)) (pieces 10 ps)) (sym (drop_after rest line more whole)),
    )
