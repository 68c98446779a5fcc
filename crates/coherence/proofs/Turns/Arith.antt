-- The arithmetic of the potential.
use Rattle.std.proofs.Common.{◌≡◌, ℕ, ◌+◌, ◌-◌, ◌*◌, ◌≤◌, mul-le-mul_left, arith}
use Rattle.coherence.proofs.Turns.Turns.{turns, Bounded}

-- without subtraction: s = a + 1, n = a + 1 + d
pub turns_at : (a d h : ℕ) → turns (a + 1 + d) (a + 1) h ≡ 2 * a + 2 + 2 * h + a * (a + 2 * d + 3)
unfolding turns
turns_at a d h =
    let p : a + 1 - 1 ≡ a = omega arith in
    let q : 2 * (a + 1 + d) + 2 - (a + 1) ≡ a + 2 * d + 3 = omega arith in
    rw (p, q) (omega arith)

-- to prove a thing of 1 ≤ s ≤ n, prove it of a + 1 and a + 1 + d
pub by_parts : (P : ℕ → ℕ → Type 0) → ((a d : ℕ) → P (a + 1 + d) (a + 1)) → (n s : ℕ) → 1 ≤ s → s ≤ n → P n s
by_parts P f n s h1 h2 =
    let p : s - 1 + 1 + (n - s) ≡ n = omega arith in
    let q : s - 1 + 1 ≡ s = omega arith in
    (rw (p, q) at (f (s - 1) (n - s)))

-- with a holder
bounded_at : (a d h : ℕ) → 1 ≤ d → h ≤ d + 2 → turns (a + 1 + d) (a + 1) h + 2 ≤ (a + 1 + d) * (a + 1 + d + 3)
bounded_at a d h h1 h2 = rw turns_at (omega (arith, mul-le-mul_left d h1))

pub bounded : Bounded
bounded n s h h1 h2 h3 =
    by_parts (λ n s. s + 1 ≤ n → h + s ≤ n + 2 → turns n s h + 2 ≤ n * (n + 3))
    (λ a d p q. bounded_at a d h (omega arith) (omega arith)) n s h1 (omega arith) h2 h3

-- without one
pub bounded_free : (n s : ℕ) → 1 ≤ s → s ≤ n → turns n s 0 + 2 ≤ n * (n + 3)
bounded_free = by_parts (λ n s. turns n s 0 + 2 ≤ n * (n + 3)) (λ a d. rw turns_at (omega arith))

-- the first is served, and stands as holder at place h of a list with at most n + 2 - s entries: two turns fewer
served_at : (a d h : ℕ) → h ≤ d + 2 → turns (a + 1 + (d + 1)) (a + 1) h + 2 ≤ turns (a + 1 + (d + 1)) (a + 1 + 1) 0
served_at a d h q =
    let m : a + 1 + (d + 1) ≡ a + 1 + 1 + d = omega arith in
    let r : turns (a + 1 + (d + 1)) (a + 1 + 1) 0 ≡ 2 * (a + 1) + 2 + 2 * 0 + (a + 1) * (a + 1 + 2 * d + 3) = rw m (turns_at (a + 1) d 0) in
    omega (arith, turns_at a (d + 1) h, r)

pub served : (n s h : ℕ) → 1 ≤ s → s + 1 ≤ n → h + s ≤ n + 1 → turns n s h + 2 ≤ turns n (s + 1) 0
served n s h h1 h2 h3 =
    let p : s - 1 + 1 ≡ s = omega arith in
    let q : s - 1 + 1 + (n - (s + 1) + 1) ≡ n = omega arith in
    (rw (q, p) at (served_at (s - 1) (n - (s + 1)) h (omega arith)))
