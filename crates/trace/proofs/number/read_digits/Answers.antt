use Rattle.std.proofs.Common.{sym, ◌∙◌, rules, tests}
use Rattle.std.proofs.lemmas.Iterator.{YieldsList-from_slice}
use Rattle.std.proofs.lemmas.Iterator.Search.{all_from_yields_List}
use Rattle.std.specs.Char.{is_ascii_digit}
use Rattle.trace.proofs.Decimals.{not_text, not_digits, digits_read}
use Rattle.trace.proofs.number.read_digits.Goals as goal

pub returns-in_default : goal.returns-in_default
returns-in_default c = not_text c.args.s.now c.in_default.ensures.cases.0

pub returns-then-not-all : goal.returns-then-not-all
returns-then-not-all c =
    let all = all_from_yields_List is_ascii_digit _ _ c.all.result c.all.ensures.ran (YieldsList-from_slice c.args.s.now cc) (λ x b q k. search (rules, tests)) in
    not_digits c.args.s.now (sym all ∙ c.if-not-all.true)

pub returns : goal.returns
returns c =
    let all = all_from_yields_List is_ascii_digit _ _ c.all.result c.all.ensures.ran (YieldsList-from_slice c.args.s.now cc) (λ x b q k. search (rules, tests)) in
    digits_read c.args.s.now c.from_str_radix.result c.map_err.result (search rules) (search rules) (sym all ∙ c.if-not-all.false) c.requires
