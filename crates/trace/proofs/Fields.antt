-- Fields filled from the left.
use Rattle.std.proofs.Common.{◌≡◌, ℕ, zero, suc, ◌+◌, ◌-◌, ◌<◌, ◌≤◌, Bool, true, false, ◌&&◌, ◌≢◌, List, [], ◌∷◌, length, get_or, take, drop, set, Ok, Err, Result, sym, refl, ap, ◌∙◌, arith, length-set, take_all, get_or-set_other, get_or-set_same, below_more, eq-eqb, ne_eqb}
use Rattle.trace.specs.declared.fault.LineFault.{LineFault}
use Rattle.trace.specs.declared.word.Field.{Field}
use Rattle.trace.specs.declared.word.Word.{Word}
use Rattle.trace.specs.declared.word.Word.TheVariants.{Other}
use Rattle.trace.specs.declared.fault.LineFault.TheVariants as fault
use Rattle.trace.specs.Words.{is_number, all_numbers, in_field, in_fields, then, fields_of}

abbrev pub none : Field
none = record { low = 0; high = 0 }

-- the field at a place takes the word there
abbrev pub field : List Field → List Word → ℕ → Result ℕ LineFault
field ls ws k = in_field (get_or ls k none) (get_or ws k Other)

-- the first i numbers are those of their words
pub record Upto (ls : List Field) (ws : List Word) (ns : List ℕ) (i : ℕ) : Type 0 where
  pub long : length ns ≡ length ls
  pub fit : (k : ℕ) → k < i → field ls ws k ≡ Ok (get_or ns k 0)
  pub low : (k : ℕ) → k < i → get_or ns k 0 ≤ (get_or ls k none).high

pub all_none : (ws : List Word) → length ws ≡ 0 → true ≡ all_numbers ws
all_none [] e = refl
all_none (w ∷ ws) e = absurd (omega arith)

pub all_more : (ws : List Word) {r : Bool} → r ≡ all_numbers (take (length ws - 1) (drop 1 ws)) → 0 < length ws → is_number (get_or ws 0 Other) ≡ true → r ≡ all_numbers ws
all_more [] e some is = absurd (omega arith)
all_more (w ∷ ws) e some is = e ∙ ap all_numbers (take_all (length (w ∷ ws) - 1) ws (omega arith)) ∙ sym (ap (λ b. b && all_numbers ws) is)

pub in_fields_ok : (ls : List Field) (ws : List Word) (ns : List ℕ) → length ws ≡ length ls → length ns ≡ length ls → ((k : ℕ) → k < length ls → field ls ws k ≡ Ok (get_or ns k 0)) → in_fields ls ws ≡ Ok ns
in_fields_ok [] ws [] ew en fit = refl
in_fields_ok [] ws (n ∷ ns) ew en fit = absurd (omega arith)
in_fields_ok (l ∷ ls) [] ns ew en fit = absurd (omega arith)
in_fields_ok (l ∷ ls) (w ∷ ws) [] ew en fit = absurd (omega arith)
in_fields_ok (l ∷ ls) (w ∷ ws) (n ∷ ns) ew en fit =
    ap (λ r. then r (λ m. then (in_fields ls ws) (λ ms. Ok (m ∷ ms)))) (fit 0 (omega arith)) ∙ ap (λ r. then r (λ ms. Ok (n ∷ ms))) (in_fields_ok ls ws ns (omega arith) (omega arith) (λ k h. fit (suc k) (omega arith)))

pub in_fields_err : (ls : List Field) (ws : List Word) (ns : List ℕ) (i : ℕ) (e : LineFault) → length ws ≡ length ls → i < length ls → ((k : ℕ) → k < i → field ls ws k ≡ Ok (get_or ns k 0)) → field ls ws i ≡ Err e → in_fields ls ws ≡ Err e
in_fields_err [] ws ns i e ew lt fit bad = absurd (omega arith)
in_fields_err (l ∷ ls) [] ns i e ew lt fit bad = absurd (omega arith)
in_fields_err (l ∷ ls) (w ∷ ws) ns zero e ew lt fit bad = ap (λ r. then r (λ m. then (in_fields ls ws) (λ ms. Ok (m ∷ ms)))) bad
in_fields_err (l ∷ ls) (w ∷ ws) [] (suc i) e ew lt fit bad = ap (λ r. then r (λ m. then (in_fields ls ws) (λ ms. Ok (m ∷ ms)))) (fit 0 (omega arith)) ∙ ap (λ r. then r (λ ms. Ok (0 ∷ ms))) (in_fields_err ls ws [] i e (omega arith) (omega arith) (λ k h. fit (suc k) (omega arith)) bad)
in_fields_err (l ∷ ls) (w ∷ ws) (n ∷ ns) (suc i) e ew lt fit bad = ap (λ r. then r (λ m. then (in_fields ls ws) (λ ms. Ok (m ∷ ms)))) (fit 0 (omega arith)) ∙ ap (λ r. then r (λ ms. Ok (n ∷ ms))) (in_fields_err ls ws ns i e (omega arith) (omega arith) (λ k h. fit (suc k) (omega arith)) bad)

pub fields_count : (ls : List Field) (ws : List Word) → (length ws ≡ length ls → ⊥) → Err fault.WordCount ≡ fields_of ls ws
unfolding fields_of
fields_count ls ws ne = rw (ne_eqb (length ws) (length ls) ne) refl

pub fields_word : (ls : List Field) (ws : List Word) → length ws ≡ length ls → all_numbers ws ≡ false → Err fault.NotANumber ≡ fields_of ls ws
unfolding fields_of
fields_word ls ws eq bad = rw (eq-eqb (length ws) (length ls) eq, bad) refl

pub fields_are : (ls : List Field) (ws : List Word) → length ws ≡ length ls → all_numbers ws ≡ true → fields_of ls ws ≡ in_fields ls ws
unfolding fields_of
fields_are ls ws eq ok = rw (eq-eqb (length ws) (length ls) eq, ok) refl

pub upto_more : (ls : List Field) (ws : List Word) (ns : List ℕ) (i n : ℕ) → Upto ls ws ns i → i < length ls → field ls ws i ≡ Ok n → n ≤ (get_or ls i none).high → Upto ls ws (set ns i n) (i + 1)
upto_more ls ws ns i n old lt is small =
    let inside : i < length ns = omega (arith, old.long) in
    let here = get_or-set_same ns i n 0 inside in
    record {
      long = length-set ns i n ∙ old.long;
      fit = below_more _ _ (λ k h. let ne : k ≢ i = omega arith in rw get_or-set_other (old.fit k h)) (is ∙ ap (λ m. Ok m) (sym here));
      low = below_more _ _ (λ k h. let ne : k ≢ i = omega arith in rw get_or-set_other (old.low k h)) (rw here small);
    }
