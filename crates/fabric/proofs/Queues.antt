-- The first of a queue, a queue with one more or one less, and the front of what its entries stand for.
use Rattle.std.proofs.Common.{◌≡◌, ℕ, zero, suc, ◌+◌, ◌-◌, ◌<◌, ◌≤◌, true, eqb, ltb, List, [], ◌∷◌, ◌++◌, length, get_or, map, take, drop, set, replicate, Some, None, sym, refl, ap, ◌∙◌, inl, inr, arith, lit<, get_or-set_other, get_or-set_same}
use Rattle.std.proofs.lemmas.List.{drop-map, drop-take, get_or_past, get_or-take, length-drop, length-map, length-set, length-take-le, map-append, map-set, take-append-le, take-map, take_more_set}
use Rattle.std.proofs.lemmas.Bool.{cases_eq, cases_lt, cond-false, cond-true, le-ltb, lt-ltb, ne_eqb}
use Rattle.rules.specs.Boards.{pushed}
use Rattle.rules.specs.Cells.{is_empty, is_first}
use Rattle.rules.specs.Slots.{first_of}
use Rattle.fabric.specs.Queues.{place}

pub first_take : (n : ℕ) (xs : List ℕ) → 0 < n → 0 < length xs → Some (get_or xs 0 0) ≡ first_of (take n xs)
first_take zero xs h k = absurd (omega arith)
first_take (suc n) [] h k = absurd (omega arith)
first_take (suc n) (x ∷ xs) h k = refl

pub shift_take : (n : ℕ) (xs ys : List ℕ) → 0 < n → n ≤ length xs → ys ≡ drop 1 xs ++ take 1 xs → take (n - 1) ys ≡ drop 1 (take n xs)
shift_take n xs ys h k e =
    let m : n - 1 ≤ length (drop 1 xs) = simp length-drop (omega arith) in
    let q : 1 + (n - 1) ≡ n = omega arith in
    ap (take (n - 1)) e ∙ take-append-le (n - 1) (drop 1 xs) (take 1 xs) m ∙ sym (drop-take 1 (n - 1) xs) ∙ ap (λ j. drop 1 (take j xs)) q

pub pushed_take : (n x : ℕ) (xs : List ℕ) → n < 16 → n < length xs → take (n + 1) (set xs n x) ≡ pushed (take n xs) x
pushed_take n x xs h k =
    let e : length (take n xs) ≡ n = length-take-le n xs (omega arith) in
    let t : ltb (length (take n xs)) 16 ≡ true = lt-ltb (length (take n xs)) 16 (omega arith) in
    take_more_set xs n x k ∙ sym (cond-true (ltb (length (take n xs)) 16) (take n xs ++ x ∷ []) (take n xs) t)

module _ {A : Type 0} (v : A → ℕ) where
  pub shift_front : (n : ℕ) (xs ys : List A) → 0 < n → n ≤ length xs → ys ≡ drop 1 xs ++ take 1 xs → take (n - 1) (map v ys) ≡ drop 1 (take n (map v xs))
  shift_front n xs ys h k e =
      let l : length (map v xs) ≡ length xs = length-map xs v in
      shift_take n (map v xs) (map v ys) h (omega arith)
      (ap (map v) e ∙ map-append v (drop 1 xs) (take 1 xs) ∙ ap (λ zs. zs ++ map v (take 1 xs)) (sym (drop-map v 1 xs)) ∙ ap (λ zs. drop 1 (map v xs) ++ zs) (sym (take-map v 1 xs)))

  pub pushed_front : (n : ℕ) (x : A) (xs : List A) → n < 16 → n < length xs → take (n + 1) (map v (set xs n x)) ≡ pushed (take n (map v xs)) (v x)
  pushed_front n x xs h k =
      let l : length (map v xs) ≡ length xs = length-map xs v in
      ap (take (n + 1)) (map-set v xs n x) ∙ pushed_take n (v x) (map v xs) h (omega arith)

-- Every entry is small.
pub low_set : (xs : List ℕ) (n x : ℕ) → x < 64 → ((i : ℕ) → get_or xs i 0 < 64) → (i : ℕ) → get_or (set xs n x) i 0 < 64
low_set xs n x h low i = elim (cases_eq i n) [
  | inl e ↦ elim (cases_lt n (length xs)) [
    | inl k ↦ rw (e, get_or-set_same xs n x 0 k) h
    | inr k ↦ rw (e, get_or_past (set xs n x) n 0 (simp length-set k)) (lit< tt)
  ]
  | inr ne ↦ rw (get_or-set_other xs n i x 0 ne) (low i)
]

low_more : (xs ys : List ℕ) → ((i : ℕ) → get_or xs i 0 < 64) → ((i : ℕ) → get_or ys i 0 < 64) → (i : ℕ) → get_or (xs ++ ys) i 0 < 64
low_more [] ys p q i = q i
low_more (x ∷ xs) ys p q zero = p zero
low_more (x ∷ xs) ys p q (suc i) = low_more xs ys (λ k. p (suc k)) q i

low_tail : (xs : List ℕ) → ((i : ℕ) → get_or xs i 0 < 64) → (i : ℕ) → get_or (drop 1 xs) i 0 < 64
low_tail [] p i = p i
low_tail (x ∷ xs) p i = p (suc i)

low_head : (xs : List ℕ) → ((i : ℕ) → get_or xs i 0 < 64) → (i : ℕ) → get_or (take 1 xs) i 0 < 64
low_head [] p i = p i
low_head (x ∷ xs) p zero = p zero
low_head (x ∷ xs) p (suc i) = lit< tt

pub low_turned : (xs ys : List ℕ) → ys ≡ drop 1 xs ++ take 1 xs → ((i : ℕ) → get_or xs i 0 < 64) → (i : ℕ) → get_or ys i 0 < 64
low_turned xs ys e p i = rw e (low_more (drop 1 xs) (take 1 xs) (low_tail xs p) (low_head xs p) i)

pub low_zeros : (n i : ℕ) → get_or (replicate n 0) i 0 < 64
low_zeros zero i = lit< tt
low_zeros (suc n) zero = lit< tt
low_zeros (suc n) (suc i) = low_zeros n i

pub empty_take : (n : ℕ) (xs : List ℕ) → n ≤ length xs → eqb n 0 ≡ is_empty (take n xs)
empty_take zero xs h = refl
empty_take (suc n) [] h = absurd (omega arith)
empty_take (suc n) (x ∷ xs) h = ne_eqb (suc n) 0 (λ e. omega arith)

pub first_is : (n x : ℕ) (xs : List ℕ) → 0 < n → 0 < length xs → eqb (get_or xs 0 0) x ≡ is_first x (take n xs)
first_is zero x xs h k = absurd (omega arith)
first_is (suc n) x [] h k = absurd (omega arith)
first_is (suc n) x (y ∷ xs) h k = refl

pub place_in : (n k : ℕ) (xs : List ℕ) → k < n → n ≤ length xs → Some (get_or xs k 0) ≡ place (take n xs) k
place_in n k xs h long =
    let e : length (take n xs) ≡ n = length-take-le n xs long in
    ap (λ x. Some x) (sym (get_or-take n xs k 0 h)) ∙ sym (cond-true (ltb k (length (take n xs))) _ _ (lt-ltb k (length (take n xs)) (omega arith)))

pub place_past : (n k : ℕ) (xs : List ℕ) → n ≤ k → n ≤ length xs → None ≡ place (take n xs) k
place_past n k xs h long =
    let e : length (take n xs) ≡ n = length-take-le n xs long in
    sym (cond-false (ltb k (length (take n xs))) _ _ (le-ltb k (length (take n xs)) (omega arith)))
