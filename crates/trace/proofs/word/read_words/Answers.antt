use Rattle.std.proofs.Common.{◌≡◌, List, IfOk, vec_items, eqb, map, sym, ap, subst, rules, tests}
use Rattle.std.proofs.lemmas.Iterator.{YieldsList-from_map, items_from_collect}
use Rattle.std.proofs.lemmas.Iterator.Splits.{YieldsList-from_slice_split}
use Rattle.trace.specs.declared.word.Word.{Word}
use Rattle.trace.specs.Words.{word_of}
use Rattle.trace.proofs.Cuts.{pieces_split}
use Rattle.trace.proofs.word.read_words.Goals as goal

pub returns : goal.returns
returns c =
    let s = c.args.s.now in
    let parts = YieldsList-from_slice_split _ (λ b. eqb b 32) s (cc) (cc) (cc) (λ x b q k. search (rules, tests)) in
    let words = items_from_collect _ c.collect.ensures.ran (YieldsList-from_map _ word_of parts c.map.ensures.closure (λ x r q k. search rules)) in
    subst (λ (ws : List Word). IfOk c.collect.result (λ v. vec_items v ≡ ws)) (ap (map word_of) (sym (pieces_split 32 s))) words
