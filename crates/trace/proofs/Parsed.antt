-- A line with words.
use Rattle.std.proofs.Common.{◌≡◌, ℕ, ◌-◌, ◌≤◌, true, leb, List, map, length, get_or, take, drop, Ok, sym, ap, ◌∙◌, arith, lt-ltb, eq-eqb, ne_eqb}
use Rattle.std.proofs.lemmas.List.{take_rest}
use Rattle.trace.specs.declared.word.Word.{Word}
use Rattle.trace.specs.Commands.{apart}
use Rattle.trace.specs.Words.{word_of, words}

pub apart_words : (s : List ℕ) (ws : List Word) → leb (length s) 200 ≡ true → ws ≡ map word_of (words (take (length s - 2) (drop 2 s))) → 2 ≤ length s → get_or s 1 0 ≡ 32
    → apart s ≡ Ok (get_or s 0 0, ws)
unfolding apart
apart_words s ws few e long is =
    let one = ne_eqb (length s) 1 (omega arith) in
    let more = lt-ltb 1 (length s) (omega arith) in
    let space = eq-eqb (get_or s 1 0) 32 is in
    let same : map word_of (words (drop 2 s)) ≡ ws = sym (e ∙ ap (λ t. map word_of (words t)) (take_rest s 2)) in
    rw (few, one, more, space) (ap (λ l. Ok (get_or s 0 0, l)) same)
