-- A write-back list is short.
use Rattle.std.proofs.Common.{◌≡◌, ℕ, zero, suc, ◌+◌, ◌*◌, ◌<◌, ◌≤◌, cond, eqb, List, [], ◌∷◌, length, sym, refl, subst, inl, inr, not-suc-le-zero, arith}
use Rattle.std.specs.List.{AllByRecursion as All}
use Rattle.std.proofs.lemmas.Bool.{cases_eq, cond-true, cond-false, eq-eqb, ne_eqb}
use Rattle.coherence.proofs.Turns.Counts.{total, over, occurs}

pub total_add : (n : ℕ) (f g : ℕ → ℕ) → total n (λ b. f b + g b) ≡ total n f + total n g
total_add zero f g = refl
total_add (suc n) f g = omega (arith, total_add n f g)

pub total_le : (n : ℕ) (f g : ℕ → ℕ) → ((b : ℕ) → b < n → f b ≤ g b) → total n f ≤ total n g
total_le zero f g h = omega arith
total_le (suc n) f g h = omega (arith, total_le n f g (λ b k. h b (omega arith)), h n (omega arith))

pub total_one : (n : ℕ) (f : ℕ → ℕ) → ((b : ℕ) → b < n → f b ≤ 1) → total n f ≤ n
total_one zero f h = omega arith
total_one (suc n) f h = omega (arith, total_one n f (λ b k. h b (omega arith)), h n (omega arith))

-- one of them idle
pub total_idle : (n c : ℕ) (f : ℕ → ℕ) → ((b : ℕ) → b < n → f b ≤ 1) → c < n → f c ≡ 0 → total n f + 1 ≤ n
total_idle zero c f h k e = absurd (not-suc-le-zero k)
total_idle (suc n) c f h k e =
    elim (cases_eq c n) [
      | inl q ↦ omega (arith, total_one n f (λ b k. h b (omega arith)), subst (λ (m : ℕ). f m ≡ 0) q e)
      | inr ne ↦ omega (arith, total_idle n c f (λ b k. h b (omega arith)) (omega arith) e, h n (omega arith))
    ]

pub total_zero : (n : ℕ) → total n (λ b. 0) ≡ 0
total_zero zero = refl
total_zero (suc n) = omega (arith, total_zero n)

-- a list whose every line is marked or waited for by some board is no longer than the marks and the boards that wait for its lines
pub list_le : (n : ℕ) (ls : List ℕ) (m : ℕ → ℕ) (w : ℕ → ℕ → ℕ) → All (λ l. 1 ≤ m l + total n (λ b. w b l)) ls
    → length ls ≤ over ls m + total n (λ b. over ls (w b))
list_le n [] m w h = omega arith
list_le n (l ∷ ls) m w h =
    let t : total n (λ b. w b l + over ls (w b)) ≡ total n (λ b. w b l) + total n (λ b. over ls (w b)) = total_add n (λ b. w b l) (λ b. over ls (w b)) in
    omega (arith, list_le n ls m w h.1, h.0)

-- so with one mark at most, and each board waiting for one line at most, of this list or l
pub short : (n l : ℕ) (ls : List ℕ) (m : ℕ → ℕ) (w : ℕ → ℕ → ℕ) → All (λ l. 1 ≤ m l + total n (λ b. w b l)) ls
    → over ls m ≤ 1 → ((b : ℕ) → b < n → over ls (w b) + w b l ≤ 1)
    → length ls + total n (λ b. w b l) ≤ n + 1
short n l ls m w h k one =
    omega (arith, list_le n ls m w h, total_add n (λ b. over ls (w b)) (λ b. w b l), total_one n (λ b. over ls (w b) + w b l) one)

-- and one less where a board waits for none
pub shorter : (n l c : ℕ) (ls : List ℕ) (m : ℕ → ℕ) (w : ℕ → ℕ → ℕ) → All (λ l. 1 ≤ m l + total n (λ b. w b l)) ls
    → over ls m ≤ 1 → ((b : ℕ) → b < n → over ls (w b) + w b l ≤ 1) → c < n → over ls (w c) + w c l ≡ 0
    → length ls + total n (λ b. w b l) ≤ n
shorter n l c ls m w h k one hc idle =
    omega (arith, list_le n ls m w h, total_add n (λ b. over ls (w b)) (λ b. w b l), total_idle n c (λ b. over ls (w b) + w b l) one hc idle)

-- a row is as long as its boards occur in it
pub length_row : (n : ℕ) (row : List ℕ) → All (λ b. b < n) row → length row ≡ total n (λ b. occurs b row)
length_row n [] h = sym (total_zero n)
length_row n (c ∷ row) h =
    let t = total_add n (λ b. cond (eqb b c) 1 0) (λ b. occurs b row) in
    omega (arith, length_row n row h.1, t, total_pick n c h.0)
  where
    total_none : (n c : ℕ) → n ≤ c → total n (λ b. cond (eqb b c) 1 0) ≡ 0
    total_none zero c h = refl
    total_none (suc n) c h =
        let k = cond-false {A = ℕ} (eqb n c) 1 0 (ne_eqb n c (omega arith)) in omega (arith, total_none n c (omega arith))

    total_pick : (n c : ℕ) → c < n → total n (λ b. cond (eqb b c) 1 0) ≡ 1
    total_pick zero c h = absurd (not-suc-le-zero h)
    total_pick (suc n) c h =
        elim (cases_eq n c) [
          | inl q ↦ let k = cond-true {A = ℕ} (eqb n c) 1 0 (eq-eqb n c q) in omega (arith, total_none n c (omega arith))
          | inr ne ↦ let k = cond-false {A = ℕ} (eqb n c) 1 0 (ne_eqb n c ne) in omega (arith, total_pick n c (omega arith))
        ]

-- a board that waits for the line k alone
pub over_pick : (ls : List ℕ) (k p : ℕ) → over ls (λ l. cond (eqb l k) p 0) ≡ p * occurs k ls
over_pick [] k p = omega arith
over_pick (l ∷ ls) k p =
    elim (cases_eq l k) [
      | inl q ↦ rw (cond-true (eqb l k) p 0 (eq-eqb l k q), cond-true {A = ℕ} (eqb k l) 1 0 (eq-eqb k l (sym q))) (omega (arith, over_pick ls k p))
      | inr ne ↦ rw (cond-false (eqb l k) p 0 (ne_eqb l k ne), cond-false {A = ℕ} (eqb k l) 1 0 (ne_eqb k l (λ q. ne (sym q)))) (omega (arith, over_pick ls k p))
    ]
