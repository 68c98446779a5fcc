-- The computed refusal is the first that fits.
use Rattle.std.specs.Prelude.{◌≡◌, ℕ, ◌+◌, ◌<◌, ◌≤◌, Bool, true, false, not, List, length, is_some, Some, None, Ok, Err, Decides, Option, Result, MatchOption, MatchResult, ◌≢◌, nat_eq, nat_le, slice_index, slice_index_or, refl}
use Rattle.std.proofs.Common.{sym, subst, get_or, ◌∙◌, inl, inr, arith}
use Rattle.std.specs.Result.{result_err}
use Rattle.std.specs.List.{list_any, range_with_len}
use Rattle.std.proofs.lemmas.Bool.{both_ways, cases_Bool, cases_lt, leb-true, le-leb, cond_both}
use Rattle.std.proofs.lemmas.Bool.Decides.{Decides-eqb, Decides-ltb, Decides-or, Decides-not, Decides-like, Decides-by_or, not_from_Decides}
use Rattle.std.proofs.lemmas.List.{get_or_default}
use Rattle.std.proofs.lemmas.List.FromFn.{length-range_with_len, get_or-range_with_len}
use Rattle.schedule.specs.declared.refusal.ScheduleRefusal.{ScheduleRefusal}
use Rattle.schedule.specs.declared.refusal.ScheduleRefusal.TheVariants.{BoardCount, ListLength, ForeignBoard, MissingBoard}
use Rattle.schedule.specs.Numbers.{number}
use Rattle.schedule.specs.Lists.{Fits, FirstFit, Accepted, foreign, names, missing, fits, list_refusal}

-- An entry that passes, read at the default 0.
at_zero : (P : ℕ → Type 0) (t : Bool) (xs : List ℕ) → Decides t ((k : ℕ) × (k < length xs) × ((d : ℕ) → P (slice_index_or xs k d))) → Decides t ((k : ℕ) × (k < length xs) × P (slice_index xs k))
at_zero P t xs =
    Decides-like t (λ w. (w.0, w.1, w.2 0)) (λ w. (w.0, w.1, λ d. let e = get_or_default xs w.0 d 0 w.1 in rw e w.2))

pub foreign_decides : (n : ℕ) (xs : List ℕ) → Decides (foreign n xs) (Fits n xs ForeignBoard)
foreign_decides n xs = at_zero (λ x. n ≤ x) _ xs (Decides-by_or (λ x. nat_le n x) (λ x. n ≤ x) (foreign n) (λ x. (leb-true n x, le-leb n x)) refl (λ _ _. refl) xs)

pub names_decides : (b : ℕ) (xs : List ℕ) → Decides (names b xs) ((k : ℕ) × (k < length xs) × (slice_index xs k ≡ b))
names_decides b xs = at_zero (λ x. x ≡ b) _ xs (Decides-by_or (λ x. nat_eq x b) (λ x. x ≡ b) (names b) (λ x. Decides-eqb x b) refl (λ _ _. refl) xs)

pub missing_decides : (n : ℕ) (xs : List ℕ) → Decides (missing n xs) (Fits n xs MissingBoard)
missing_decides n xs =
    let Unnamed : ℕ → Type 0 = λ b. (k : ℕ) → k < length xs → slice_index xs k ≢ b in
    let all = range_with_len 0 n in
    let at : (k d : ℕ) → k < n → get_or all k d ≡ k = λ k d lt. omega (arith, get_or-range_with_len 0 n k d lt) in
    Decides-like (missing n xs)
    (λ w. let lt : w.0 < n = omega (arith, length-range_with_len 0 n) in (w.0, lt, rw (at w.0 0 lt) at (w.2 0)))
    (λ w. (w.0, omega (arith, length-range_with_len 0 n), λ d. rw (at w.0 d w.1) w.2))
    (Decides-by_or (λ b. not (names b xs)) Unnamed (list_any (λ b. not (names b xs)))
    (λ b. Decides-like (not (names b xs)) (λ none k h e. none (k, h, e)) (λ none w. none w.0 w.1 w.2) (Decides-not (names b xs) (names_decides b xs))) refl (λ _ _. refl) all)

pub fits_decides : (n : ℕ) (xs : List ℕ) (e : ScheduleRefusal) → Decides (fits n xs e) (Fits n xs e)
fits_decides n xs BoardCount = Decides-or _ _ (Decides-eqb n 0) (Decides-ltb 16 n)
fits_decides n xs ListLength = Decides-or _ _ (Decides-eqb (length xs) 0) (Decides-ltb 64 (length xs))
fits_decides n xs ForeignBoard = foreign_decides n xs
fits_decides n xs MissingBoard = missing_decides n xs

module _ (n : ℕ) (xs : List ℕ) where
  -- No refusal of a number below k passes its test.
  abbrev NoneBelow : ℕ → Type 0
  NoneBelow k = (f : ScheduleRefusal) → number f < k → fits n xs f ≡ false

  first_fit : (e : ScheduleRefusal) → NoneBelow (number e) → fits n xs e ≡ true → FirstFit n xs e
  first_fit e none t = record {
    fits = (fits_decides n xs e).0 t;
    first = λ f h. not_from_Decides (fits n xs f) (fits_decides n xs f) (none f h);
  }

  none_1 : NoneBelow 1
  none_1 BoardCount h = absurd (omega arith)
  none_1 ListLength h = absurd (omega arith)
  none_1 ForeignBoard h = absurd (omega arith)
  none_1 MissingBoard h = absurd (omega arith)

  none_2 : fits n xs BoardCount ≡ false → NoneBelow 2
  none_2 a BoardCount h = a
  none_2 a ListLength h = absurd (omega arith)
  none_2 a ForeignBoard h = absurd (omega arith)
  none_2 a MissingBoard h = absurd (omega arith)

  none_3 : NoneBelow 2 → fits n xs ListLength ≡ false → NoneBelow 3
  none_3 less b BoardCount h = less BoardCount (omega arith)
  none_3 less b ListLength h = b
  none_3 less b ForeignBoard h = absurd (omega arith)
  none_3 less b MissingBoard h = absurd (omega arith)

  none_4 : NoneBelow 3 → fits n xs ForeignBoard ≡ false → NoneBelow 4
  none_4 less c BoardCount h = less BoardCount (omega arith)
  none_4 less c ListLength h = less ListLength (omega arith)
  none_4 less c ForeignBoard h = c
  none_4 less c MissingBoard h = absurd (omega arith)

  accepted : NoneBelow 4 → fits n xs MissingBoard ≡ false → Accepted n xs
  accepted less d f = not_from_Decides (fits n xs f) (fits_decides n xs f) (all f)
    where
      all : (f : ScheduleRefusal) → fits n xs f ≡ false
      all BoardCount = less BoardCount (omega arith)
      all ListLength = less ListLength (omega arith)
      all ForeignBoard = less ForeignBoard (omega arith)
      all MissingBoard = d

  abbrev Verdict : Option ScheduleRefusal → Type 0
  Verdict o = MatchOption o (Accepted n xs) (FirstFit n xs)

  verdict : Verdict (list_refusal n xs)
  verdict =
      cond_both (fits n xs BoardCount) _ _ Verdict (first_fit BoardCount none_1) (λ a.
      let few = none_2 a in
      cond_both (fits n xs ListLength) _ _ Verdict (first_fit ListLength few) (λ b.
      let more = none_3 few b in
      cond_both (fits n xs ForeignBoard) _ _ Verdict (first_fit ForeignBoard more) (λ c.
      let most = none_4 more c in
      cond_both (fits n xs MissingBoard) _ _ Verdict (first_fit MissingBoard most) (accepted most))))

  -- What a call answers is the first refusal that fits, and where it answers none, none fits.
  pub first_answer : (r : Result (Unit {0}) ScheduleRefusal) → result_err r ≡ list_refusal n xs → MatchResult r (λ _. Accepted n xs) (λ e. FirstFit n xs e)
  first_answer r e = by r (subst Verdict (sym e) verdict)
    where
      by : (r : Result (Unit {0}) ScheduleRefusal) → Verdict (result_err r) → MatchResult r (λ _. Accepted n xs) (λ e. FirstFit n xs e)
      by (Ok x) v = v
      by (Err f) v = v

  -- A list that is not refused.
  pub kept_accepted : is_some (list_refusal n xs) ≡ false → Accepted n xs
  kept_accepted e = by (list_refusal n xs) e verdict
    where
      by : (o : Option ScheduleRefusal) → is_some o ≡ false → Verdict o → Accepted n xs
      by None e v = v
      by (Some f) e v = absurd (both_ways true e refl)

-- The test for a board that is missing, board by board.
-- Kept as theorems on that test; no proof needs them.
pub missing_more : (xs : List ℕ) (b : ℕ) → missing b xs ≡ false → names b xs ≡ true → missing (b + 1) xs ≡ false
missing_more xs b none named =
    elim (cases_Bool (missing (b + 1) xs)) [
      | inr f ↦ f
      | inl t ↦
          let w = (missing_decides (b + 1) xs).0 t in
          let at = (names_decides b xs).0 named in
          elim (cases_lt w.0 b) [
            | inl lt ↦ absurd (not_from_Decides (missing b xs) (missing_decides b xs) none (w.0, lt, w.2))
            | inr le ↦ let e : b ≡ w.0 = omega (arith, w.1) in absurd (w.2 at.0 at.1 (at.2 ∙ e))
          ]
    ]

pub missing_at : (n : ℕ) (xs : List ℕ) (b : ℕ) → b < n → names b xs ≡ false → true ≡ missing n xs
missing_at n xs b h unnamed =
    sym ((missing_decides n xs).1 (b, h, λ k lt e. not_from_Decides (names b xs) (names_decides b xs) unnamed (k, lt, e)))

pub missing_all : (n : ℕ) (xs : List ℕ) (b : ℕ) → b ≤ n → n ≤ b → missing b xs ≡ false → false ≡ missing n xs
missing_all n xs b le ge none = let e : b ≡ n = omega arith in sym (subst (λ m. missing m xs ≡ false) e none)
