-- One element of an array changed is one value of its meaning changed.
use Rattle.std.proofs.Common.{◌≡◌, ℕ, ◌<◌, eqb, ◌≢◌, List, map, length, get_or, set, refl, ap, ◌∙◌, inl, inr, arith, get_or-set_other, get_or-set_same}
use mathlib.Core.Path.{fun_ext}
use Rattle.std.proofs.lemmas.List.{map-set, length-map}
use Rattle.std.proofs.lemmas.Bool.{cases_eq, cond-false, cond-true, eq-eqb, ne_eqb}
use Rattle.rules.specs.Boards.{change}

pub change_same : {A : Type 0} (f : ℕ → A) (i : ℕ) (a : A) → change f i a i ≡ a
unfolding change
change_same f i a = cond-true (eqb i i) a (f i) (eq-eqb i i refl)

pub change_other : {A : Type 0} (f : ℕ → A) (i k : ℕ) (a : A) → k ≢ i → change f i a k ≡ f k
unfolding change
change_other f i k a ne = cond-false (eqb k i) a (f k) (ne_eqb k i ne)

pub change_own : {A : Type 0} (f : ℕ → A) (i : ℕ) → change f i (f i) ≡ f
change_own f i = fun_ext (λ k. elim (cases_eq k i) [ inl e ↦ rw (e, change_same f i (f i)) refl | inr ne ↦ change_other f i k (f i) ne ])

pub at_set : {A B : Type 0} (v : A → B) (xs : List A) (d : A) (i : ℕ) (y : A) → i < length xs → ◌≡◌ {A = ℕ → B} (λ k. v (get_or (set xs i y) k d)) (change (λ k. v (get_or xs k d)) i (v y))
at_set v xs d i y h = fun_ext (λ k. elim (cases_eq k i) [
  | inl e ↦ rw (e, change_same (λ k. v (get_or xs k d)) i (v y)) (ap v (get_or-set_same xs i y d h))
  | inr ne ↦ rw (change_other (λ k. v (get_or xs k d)) i k (v y) ne) (ap v (get_or-set_other xs i k y d ne))
])

-- The same of an array whose elements are read by their meaning.
pub seen_set : {A B : Type 0} (v : A → B) (xs : List A) (d : B) (i : ℕ) (y : A) → i < length xs → ◌≡◌ {A = ℕ → B} (λ k. get_or (map v (set xs i y)) k d) (change (λ k. get_or (map v xs) k d) i (v y))
seen_set v xs d i y h =
    let n : length (map v xs) ≡ length xs = length-map xs v in
    ap (λ ys k. get_or ys k d) (map-set v xs i y) ∙ at_set (λ z. z) (map v xs) d i (v y) (omega arith)
