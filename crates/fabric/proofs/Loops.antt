-- A loop over the boards, as one function of their meaning.
use Rattle.std.proofs.Common.{◌≡◌, ℕ, zero, suc, ◌+◌, ◌<◌, ◌≤◌, Bool, true, false, ◌||◌, eqb, ltb, ◌≢◌, List, [], ◌∷◌, ◌++◌, length, map, get_or, take, drop, refl, sym, ap, ◌∙◌, inl, inr, add-one, arith}
use Rattle.std.specs.List.{list_any}
use mathlib.Core.Path.{fun_ext}
use Rattle.std.proofs.lemmas.List.{length-take-le}
use Rattle.std.proofs.lemmas.Bool.{cases_eq, cases_lt, cond-true, cond-false, lt-ltb, le-ltb, eq-eqb, ne_eqb, or_from, or_left, or_right}
use Rattle.rules.specs.Boards.{Board, blank, change}
use Rattle.rules.specs.Cells.{below, but_for, each}
use Rattle.fabric.specs.declared.board.Board as fabric
use Rattle.fabric.specs.Boards.{boards_of}
use Rattle.fabric.proofs.Arrays.{change_other, change_own, change_same}
use Rattle.fabric.proofs.Tables.{front_left, front_right, front_take}

module _ (h : ℕ → Board → Board) (bs : ℕ → Board) where
  each_in : (i c : ℕ) → c < i → each i h bs c ≡ h c (bs c)
  unfolding each
  each_in i c k = cond-true (ltb c i) _ _ (lt-ltb c i k)

  pub each_out : (i c : ℕ) → i ≤ c → each i h bs c ≡ bs c
  unfolding each
  each_out i c k = cond-false (ltb c i) _ _ (le-ltb c i k)

  pub each_none : bs ≡ each 0 h bs
  each_none = fun_ext (λ c. sym (each_out 0 c (omega arith)))

  pub each_more : (i : ℕ) (y : Board) → y ≡ h i (bs i) → change (each i h bs) i y ≡ each (i + 1) h bs
  each_more i y e = fun_ext (λ c. elim (cases_eq c i) [
    | inl q ↦ rw (q, change_same (each i h bs) i y) (e ∙ sym (each_in (i + 1) i (omega arith)))
    | inr ne ↦ rw (change_other (each i h bs) i c y ne) (elim (cases_lt c i) [
      | inl k ↦ each_in i c k ∙ sym (each_in (i + 1) c (omega arith))
      | inr k ↦ each_out i c k ∙ sym (each_out (i + 1) c (omega arith))
    ])
  ])

  pub each_skip : (i : ℕ) → bs i ≡ h i (bs i) → each i h bs ≡ each (i + 1) h bs
  each_skip i e = sym (change_own (each i h bs) i) ∙ ap (change (each i h bs) i) (each_out i i (omega arith)) ∙ each_more i (bs i) e

  pub each_all : (i n : ℕ) → n ≤ i → i ≤ n → each i h bs ≡ each n h bs
  each_all i n a b = let e : i ≡ n = omega arith in ap (λ k. each k h bs) e

pub but_own : (b : ℕ) (g : Board → Board) (c : ℕ) (x : Board) → c ≡ b → but_for b g c x ≡ x
but_own b g c x e = cond-true (eqb c b) x (g x) (eq-eqb c b e)

pub but_other : (b : ℕ) (g : Board → Board) (c : ℕ) (x : Board) → c ≢ b → but_for b g c x ≡ g x
but_other b g c x ne = cond-false (eqb c b) x (g x) (ne_eqb c b ne)

-- Boards at the front changed, and the rest as they were.
pub each_front : (h : ℕ → Board → Board) (n : ℕ) (bs ys : List fabric.Board) → n ≤ length bs → length ys ≡ n → boards_of ys ≡ each n h (boards_of (take n bs)) → boards_of (ys ++ drop n bs) ≡ each n h (boards_of bs)
each_front h n bs ys long size e = fun_ext (λ c. elim (cases_lt c n) [
  | inl k ↦ front_left ys (drop n bs) c (omega arith) ∙ ap (λ p. p c) e ∙ each_in h (boards_of (take n bs)) n c k ∙ ap (h c) (front_take n bs c k) ∙ sym (each_in h (boards_of bs) n c k)
  | inr k ↦ front_right n ys bs c size k ∙ sym (each_out h (boards_of bs) n c k)
])

-- A test of some board below n, and one of a list.
or_swap : (a b c : Bool) → (a || (b || c)) ≡ (b || (a || c))
or_swap true true c = refl
or_swap true false c = refl
or_swap false b c = refl

below_suc : (n : ℕ) (test : ℕ → Bool) → below (suc n) test ≡ (test 0 || below n (λ c. test (suc c)))
below_suc zero test = refl
below_suc (suc n) test = ap (λ x. test (suc n) || x) (below_suc n test) ∙ or_swap (test (suc n)) (test 0) (below n (λ c. test (suc c)))

pub below_list : {A : Type 0} (test : Board → Bool) (v : A → Board) (xs : List A) → list_any (λ x. test (v x)) xs ≡ below (length xs) (λ c. test (get_or (map v xs) c blank))
below_list test v [] = refl
below_list test v (x ∷ xs) = ap (λ y. test (v x) || y) (below_list test v xs) ∙ sym (below_suc (length xs) (λ c. test (get_or (map v (x ∷ xs)) c blank)))

pub below_same : (n : ℕ) (f g : ℕ → Bool) → ((c : ℕ) → c < n → f c ≡ g c) → below n f ≡ below n g
below_same zero f g e = refl
below_same (suc n) f g e = rw (e n (omega arith), below_same n f g (λ c h. e c (omega arith))) refl

-- The test of the boards at the front is that of the first n.
pub below_front : (test : Board → Bool) (n : ℕ) (bs : List fabric.Board) → n ≤ length bs → below (length (take n bs)) (λ c. test (boards_of (take n bs) c)) ≡ below n (λ c. test (boards_of bs c))
below_front test n bs long =
    ap (λ k. below k (λ c. test (boards_of (take n bs) c))) (length-take-le n bs long)
    ∙ below_same n (λ c. test (boards_of (take n bs) c)) (λ c. test (boards_of bs c)) (λ c h. ap test (front_take n bs c h))

-- A test that passes below n, and one that has not yet.
pub below_found : (n i : ℕ) (test : ℕ → Bool) → i < n → test i ≡ true → below n test ≡ true
below_found zero i test h t = absurd (omega arith)
below_found (suc n) i test h t = elim (cases_eq i n) [
  | inl e ↦ or_left (test n) (below n test) (ap test (sym e) ∙ t)
  | inr ne ↦ or_right (test n) (below n test) (below_found n i test (omega arith) t)
]

pub below_more : (i : ℕ) (test : ℕ → Bool) → below i test ≡ false → test i ≡ false → below (i + 1) test ≡ false
below_more i test none t = ap (λ n. below n test) (add-one i) ∙ or_from (test i) (below i test) t none

pub below_all : (i n : ℕ) (test : ℕ → Bool) → n ≤ i → i ≤ n → below i test ≡ false → false ≡ below n test
below_all i n test a b none = let e : n ≡ i = omega arith in sym (ap (λ k. below k test) e ∙ none)
