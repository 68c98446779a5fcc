use Rattle.std.proofs.Common.{◌≡◌, ◌++◌, drop, string_bytes, sym, refl, ap, ◌∙◌, rules}
use Rattle.std.specs.Option.{option_map}
use Rattle.trace.specs.Commands.{fabric_order}
use Rattle.trace.specs.Pieces.{pieces, rejoined}
use Rattle.listing.specs.Listing.{settled, unopened}
use Rattle.listing.specs.Setups.{setting_of}
use Rattle.listing.proofs.Firsts.{kept, begun_from, drop_after, first_opened, first_stopped, lists_last, lists_more, second_stopped}
use Rattle.listing.proofs.setup.Setup.read.Goals as goal

pub returns-in_default : goal.returns-in_default
returns-in_default c =
    let t = string_bytes c.args.out.now in
    let line = c.cut.result.0.now in
    let none = kept c.cut.ensures.rest c.in_default.is in
    let told : string_bytes c.write-in_default.new.self ≡ t ++ unopened line = search rules in
    told ∙ sym (ap (λ x. t ++ x) (lists_last c.args.trace.now line c.if-trace-gt-MAX_TRACE.false c.cut.ensures.first none))

pub returns-in-Err : goal.returns-in-Err
returns-in-Err c =
    let line = c.cut.result.0.now in
    let rest = c.in-Some.rest.now in
    let t = string_bytes c.args.out.now in
    let some = kept c.cut.ensures.rest c.in-Some.is in
    first_stopped setting_of c.in-Err.fault (settled (fabric_order line)) (pieces 10 rest) t (string_bytes c.stop.new.out) c.in-Err.ensures.value c.in_ok-stop-in-Err.ensures
    ∙ sym (ap (λ x. t ++ x) (lists_more c.args.trace.now line c.if-trace-gt-MAX_TRACE.false c.cut.ensures.first rest some))

pub returns-in-Ok-second : goal.returns-in-Ok-second
returns-in-Ok-second c =
    let trace = c.args.trace.now in
    let line = c.cut.result.0.now in
    let rest = c.in-Some.rest.now in
    let o = c.in-Ok.opened in
    let some = kept c.cut.ensures.rest c.in-Some.is in
    let whole = c.cut.ensures.law.whole ∙ ap (λ o. rejoined 10 line (option_map (λ x. x.now) o)) c.in-Some.is in
    let lists = first_opened trace line c.if-trace-gt-MAX_TRACE.false c.cut.ensures.first rest some o c.in-Ok.ensures.value in
    let cut = ap (λ n. drop n trace) c.in-Ok.ensures.stands.1 ∙ drop_after trace line rest whole in
    (refl, c.if-trace-gt-MAX_TRACE.false, begun_from c.in-Ok-second.setup o trace rest c.in-Ok-second.ensures lists cut)

pub returns-in_ok-stop-in-Err-second : goal.returns-in_ok-stop-in-Err-second
returns-in_ok-stop-in-Err-second c =
    let rest = c.in-Some.rest.now in
    let t = string_bytes c.args.out.now in
    let o = c.in-Ok.opened in
    let some = kept c.cut.ensures.rest c.in-Some.is in
    let lists = first_opened c.args.trace.now c.cut.result.0.now c.if-trace-gt-MAX_TRACE.false c.cut.ensures.first rest some o c.in-Ok.ensures.value in
    second_stopped c.in-Err-second.fault o rest t (string_bytes c.stop-in-Err-second.new.out) c.in-Err-second.ensures c.in_ok-stop-in-Err-second.ensures ∙ sym (ap (λ x. t ++ x) lists)
