-- A text is read as a number just where it is that number in decimal.
use Rattle.std.proofs.Common.{◌≡◌, ℕ, ◌+◌, ◌-◌, ◌*◌, ◌^◌, ◌<◌, ◌≤◌, Bool, true, false, cond, ◌&&◌, eqb, ltb, List, [], ◌∷◌, length, get_or, Some, None, Ok, Err, decimal, Option, Result, lt-ltb, le-ltb, sym, refl, ap, ◌∙◌, inl, inr, arith, lit<, rules}
use Rattle.std.proofs.lemmas.Fmt.{IsAscii-from_digits, decimal_digit, decimal-digits_value, decimal_nonempty, digits_decimal, first_decimal, digits_value-decimal}
use Rattle.std.proofs.lemmas.Str.Parse.{IsNumeralModel, numerals_by_fold, parse_digits}
use Rattle.std.proofs.lemmas.Str.{IsUtf8-from_ascii}
use Rattle.std.specs.Result.{MatchResult, OkIff, result_ok}
use Rattle.std.specs.Char.{is_ascii_digit}
use Rattle.std.specs.List.{list_all}
use Rattle.std.specs.Str.{IsUtf8}
use Rattle.std.specs.Str.Parse.{ParsesUnsigned}
use Rattle.trace.specs.declared.number.NumberFault.{NumberFault}
use Rattle.trace.specs.declared.number.NumberFault.TheVariants.{NotANumber, TooLarge}
use Rattle.std.proofs.lemmas.Bool.{both_ways, cases_eq, eq-eqb, eqb-true, ne_eqb}
use Rattle.trace.specs.Numbers.{ReadsDecimal, after_zero, digits_on, is_digit, number, read_as}

abbrev value_on : ℕ → List ℕ → ℕ
value_on n [] = n
value_on n (c ∷ cs) = value_on (n * 10 + (c - 48)) cs

abbrev pub digits : List ℕ → Bool
digits = list_all is_ascii_digit

own : IsNumeralModel (λ ds. digits ds ≡ true) (value_on 0)
own = numerals_by_fold _ (search rules) value_on (search rules)

digits_on_lem : (n : ℕ) (s : List ℕ) → digits_on n s ≡ cond (digits s) (Some (value_on n s)) None
digits_on_lem n [] = refl
digits_on_lem n (c ∷ cs) = by (is_digit c) (digits_on_lem (n * 10 + (c - 48)) cs)
  where
    by : (t : Bool) → digits_on (n * 10 + (c - 48)) cs ≡ cond (digits cs) (Some (value_on (n * 10 + (c - 48)) cs)) None → cond t (digits_on (n * 10 + (c - 48)) cs) None ≡ cond (t && digits cs) (Some (value_on (n * 10 + (c - 48)) cs)) None
    by true h = h
    by false h = refl

-- What the code answers to a text of digits, and to any other.
pub not_digits : (s : List ℕ) → digits s ≡ false → Err NotANumber ≡ read_as (digits_on 0 s)
not_digits s e = sym (ap read_as (digits_on_lem 0 s ∙ ap (λ t. cond t (Some (value_on 0 s)) None) e))

pub not_text : (s : List ℕ) → (IsUtf8 s → ⊥) → Err NotANumber ≡ read_as (digits_on 0 s)
not_text s none = by (digits s) refl
  where
    by : (t : Bool) → digits s ≡ t → Err NotANumber ≡ read_as (digits_on 0 s)
    by true e = absurd (none (IsUtf8-from_ascii s (IsAscii-from_digits s (own.to s e))))
    by false e = not_digits s e

pub digits_read : {E : Type 0} (s : List ℕ) (r : Result ℕ E) (m : Result ℕ NumberFault) → ParsesUnsigned 64 10 s r → MatchResult r (λ n. m ≡ Ok n) (λ _. m ≡ Err TooLarge) → digits s ≡ true → 0 < length s → m ≡ read_as (digits_on 0 s)
digits_read {E} s r m p is d some = by r is (parse_digits own 64 s r p d) ∙ sym (ap read_as (digits_on_lem 0 s ∙ ap (λ t. cond t (Some (value_on 0 s)) None) d))
  where
    large : (value_on 0 s < 2 ^ 64 → ⊥) → 2 ^ 64 ≤ value_on 0 s
    large none = omega arith

    by : (r : Result ℕ E) → MatchResult r (λ n. m ≡ Ok n) (λ _. m ≡ Err TooLarge) → OkIff r ((0 < length s) × (value_on 0 s < 2 ^ 64)) (value_on 0 s) → m ≡ read_as (Some (value_on 0 s))
    by (Ok n) is h = rw (lt-ltb (value_on 0 s) (2 ^ 64) h.0.1) (is ∙ ap (λ k. Ok k) h.1)
    by (Err e) is h = rw (le-ltb (value_on 0 s) (2 ^ 64) (large (λ lt. h (some, lt)))) is

-- The two ways.
all_digits : (s : List ℕ) (n : ℕ) → digits_on 0 s ≡ Some n → (digits s ≡ true) × (value_on 0 s ≡ n)
all_digits s n e = by (digits s) refl (sym (digits_on_lem 0 s) ∙ e)
  where
    by : (t : Bool) → digits s ≡ t → cond t (Some (value_on 0 s)) None ≡ Some n → (digits s ≡ true) × (value_on 0 s ≡ n)
    by true d h = (d, cc)
    by false d h = let z : ◌≡◌ {A = ℕ} 0 1 = cc in absurd (omega arith)

pub number_writes : (s : List ℕ) (n : ℕ) → n < 2 ^ 64 → number s ≡ Some n → s ≡ decimal n
number_writes [] n small e = let z : ◌≡◌ {A = ℕ} 0 1 = cc in absurd (omega arith)
number_writes (c ∷ cs) n small e = by (eqb c 48) refl e
  where
    zero_text : (cs : List ℕ) → c ≡ 48 → after_zero cs ≡ Some n → (c ∷ cs) ≡ decimal n
    zero_text [] is h =
        let z : 0 ≡ n = cc in
        ap (λ d. d ∷ []) is ∙ sym (decimal_digit 0 (lit< tt)) ∙ ap decimal z
    zero_text (d ∷ ds) is h = let z : ◌≡◌ {A = ℕ} 0 1 = cc in absurd (omega arith)

    by : (t : Bool) → eqb c 48 ≡ t → cond t (after_zero cs) (digits_on 0 (c ∷ cs)) ≡ Some n → (c ∷ cs) ≡ decimal n
    by true is h = zero_text cs (eqb-true c 48 is) h
    by false is h =
        let d = all_digits (c ∷ cs) n h in
        let value : value_on 0 (c ∷ cs) < 2 ^ 64 = omega (arith, d.1) in
        sym (decimal-digits_value own (c ∷ cs) d.0 (omega arith) (λ z. absurd (both_ways _ is (eq-eqb c 48 z))) value) ∙ ap decimal d.1

number_digits : (s : List ℕ) → digits s ≡ true → 48 < get_or s 0 0 → 0 < length s → number s ≡ Some (value_on 0 s)
number_digits [] d first some = absurd (omega arith)
number_digits (c ∷ cs) d first some =
    ap (λ t. cond t (after_zero cs) (digits_on 0 (c ∷ cs))) (ne_eqb c 48 (omega arith)) ∙ digits_on_lem 0 (c ∷ cs) ∙ ap (λ t. cond t (Some (value_on 0 (c ∷ cs))) None) d

pub number_reads : (n : ℕ) → n < 2 ^ 64 → number (decimal n) ≡ Some n
number_reads n small = elim (cases_eq n 0) [
  | inl e ↦ ap (λ m. number (decimal m)) e ∙ ap number (decimal_digit 0 (lit< tt)) ∙ ap (λ m. Some m) (sym e)
  | inr ne ↦ number_digits (decimal n) (digits_decimal own n small) (first_decimal n (omega arith) small) (decimal_nonempty n small) ∙ ap (λ m. Some m) (digits_value-decimal own n small)
]

pub read_small : (o : Option ℕ) (n : ℕ) → result_ok (read_as o) ≡ Some n → o ≡ Some n
read_small None n e = e
read_small (Some m) n e = by (ltb m (2 ^ 64)) e
  where
    by : (t : Bool) → result_ok {E = NumberFault} (cond t (Ok m) (Err TooLarge)) ≡ Some n → Some m ≡ Some n
    by true h = h
    by false h = let z : ◌≡◌ {A = ℕ} 0 1 = cc in absurd (omega arith)

pub read_same : (o : Option ℕ) (n : ℕ) → n < 2 ^ 64 → o ≡ Some n → read_as o ≡ Ok n
read_same o n small e = ap read_as e ∙ rw (lt-ltb n (2 ^ 64) small) refl

pub reads_decimal : (s : List ℕ) (r : Result ℕ NumberFault) → r ≡ read_as (number s) → ReadsDecimal s (result_ok r)
reads_decimal s r value =
    record {
      reads = λ n small e. ap result_ok value ∙ ap result_ok (read_same (number s) n small (ap number e ∙ number_reads n small));
      writes = λ n small e. number_writes s n small (read_small (number s) n (sym (ap result_ok value) ∙ e));
    }
