-- What a write does to the words that a flat memory lies over.
use Rattle.std.proofs.Common.{◌≡◌, ℕ, ◌+◌, ◌<◌, ◌≤◌, cond, ltb, List, [], ◌∷◌, length, get_or, set, ap, ◌∙◌, inl, inr, arith, length-set, get_or-set_other, get_or-set_same}
use mathlib.Core.Path.{fun_ext}
use Rattle.std.proofs.lemmas.List.{set_past}
use Rattle.std.proofs.lemmas.Bool.{cases_lt, cond-true, cond-false, lt-ltb, le-ltb}
use Rattle.memory.specs.Interface.{Replaces}
use Rattle.memory.specs.Flat.{counted, lined, past, stored}

pub set_replaces : (words : List ℕ) (line word : ℕ) → line < counted words → Replaces (counted words) (lined words) (lined (set words line word)) line word
set_replaces words line word h =
    let p : line < length words = omega arith in
    let q : line < 64 = omega arith in
    record {
      there = λ _. cond-true (ltb line 64) (get_or (set words line word) line 0) 0 (lt-ltb line 64 q) ∙ get_or-set_same words line word 0 p;
      others = λ k ne. ap (λ x. cond (ltb k 64) x 0) (get_or-set_other words line k word 0 ne);
      outside = λ ge. absurd (omega arith);
    }

pub set_keeps_past : (words : List ℕ) (line word : ℕ) → line < 64 → past (set words line word) ≡ past words
set_keeps_past words line word h =
    let rest : (k : ℕ) → get_or (set words line word) (64 + k) 0 ≡ get_or words (64 + k) 0 =
    λ k. get_or-set_other words line (64 + k) word 0 (omega arith) in
    ap (λ n. (λ _. n) ∷ (λ k. get_or (set words line word) (64 + k) 0) ∷ []) (length-set words line word)
    ∙ ap (λ (f : ℕ → ℕ). (λ _. length words) ∷ f ∷ []) (fun_ext rest)

pub past_stored : (words : List ℕ) (line word : ℕ) → counted words ≤ line → stored words line word ≡ words
past_stored words line word h =
    elim (cases_lt line 64) [
      | inl lt ↦
          let p : length words ≤ line = omega arith in
          cond-true (ltb line 64) (set words line word) words (lt-ltb line 64 lt) ∙ set_past words line word p
      | inr ge ↦ cond-false (ltb line 64) (set words line word) words (le-ltb line 64 ge)
    ]
