-- Places in rows and lists.
use Rattle.std.proofs.Common.{◌≡◌, ℕ, suc, ◌≤◌, eqb, ◌≢◌, List, [], ◌∷◌, ◌++◌, length, refl, ap, inl, inr, not-suc-le-zero, arith}
use Rattle.std.proofs.lemmas.Bool.{cases_eq, cond-true, cond-false, eq-eqb, ne_eqb}
use Rattle.coherence.proofs.Turns.Counts.{occurs}
use Rattle.coherence.proofs.Runs.Clock.{place_of}

pub place_here : (b : ℕ) (r : List ℕ) → place_of b (b ∷ r) ≡ 1
place_here b r = cond-true (eqb b b) 1 (suc (place_of b r)) (eq-eqb b b refl)

pub place_next : (b c : ℕ) (r : List ℕ) → b ≢ c → place_of b (c ∷ r) ≡ suc (place_of b r)
place_next b c r ne = cond-false (eqb b c) 1 (suc (place_of b r)) (ne_eqb b c ne)

pub place_pos : (b : ℕ) (r : List ℕ) → 1 ≤ place_of b r
place_pos b [] = omega arith
place_pos b (c ∷ r) =
    elim (cases_eq b c) [
      | inl q ↦ rw (cond-true (eqb b c) 1 (suc (place_of b r)) (eq-eqb b c q)) (omega arith)
      | inr ne ↦ rw (place_next b c r ne) (omega arith)
    ]

pub occurs_next : (b c : ℕ) (r : List ℕ) → b ≢ c → occurs b (c ∷ r) ≡ occurs b r
occurs_next b c r ne = let k = cond-false {A = ℕ} (eqb b c) 1 0 (ne_eqb b c ne) in omega arith

-- what stands in it keeps its place as more are put behind
pub place_push : (b d : ℕ) (r : List ℕ) → 1 ≤ occurs b r → place_of b (r ++ d ∷ []) ≡ place_of b r
place_push b d [] h = absurd (not-suc-le-zero h)
place_push b d (c ∷ r) h =
    elim (cases_eq b c) [
      | inl q ↦ rw (cond-true (eqb b c) 1 (suc (place_of b r)) (eq-eqb b c q), cond-true (eqb b c) 1 (suc (place_of b (r ++ d ∷ []))) (eq-eqb b c q)) refl
      | inr ne ↦ rw (place_next b c r ne, place_next b c (r ++ d ∷ []) ne) (ap suc (place_push b d r (rw (occurs_next b c r ne) at h)))
    ]

pub place_last : (b : ℕ) (r : List ℕ) → occurs b r ≡ 0 → place_of b (r ++ b ∷ []) ≡ suc (length r)
place_last b [] h = place_here b []
place_last b (c ∷ r) h =
    elim (cases_eq b c) [
      | inl q ↦ absurd (let k = cond-true {A = ℕ} (eqb b c) 1 0 (eq-eqb b c q) in omega arith)
      | inr ne ↦ rw (place_next b c (r ++ b ∷ []) ne) (ap suc (place_last b r (rw (occurs_next b c r ne) at h)))
    ]

pub place_le : (b : ℕ) (r : List ℕ) → 1 ≤ occurs b r → place_of b r ≤ length r
place_le b [] h = absurd (not-suc-le-zero h)
place_le b (c ∷ r) h =
    elim (cases_eq b c) [
      | inl q ↦ rw (cond-true (eqb b c) 1 (suc (place_of b r)) (eq-eqb b c q)) (omega arith)
      | inr ne ↦ rw (place_next b c r ne) (let k = place_le b r (rw (occurs_next b c r ne) at h) in omega arith)
    ]
