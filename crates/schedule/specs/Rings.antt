-- Walking round a ring of p places.
use Rattle.std.specs.Prelude.{◌≡◌, ℕ, ◌+◌, ◌-◌, ◌%◌, ◌<◌, ◌≤◌}
use Rattle.std.proofs.Common.{sym, ap, ◌∙◌, inl, inr, mod-lt, mod-eq_of_lt, arith}
use Rattle.std.proofs.Math.Nat.{mod-add-mod, add-mod_right}
use Rattle.std.proofs.Math.Path.{fun_ext}
use Rattle.std.proofs.lemmas.Bool.{cases_lt}
use Rattle.schedule.specs.Rows.{in_turn, later}

-- The places from s on, round and round.
unfoldable pub places : (p s : ℕ) → ℕ → ℕ
places p s k = (s + k) % p

-- From place s on, less than p steps lead to any place t.
pub reaches : (p s t : ℕ) → t < p → (j : ℕ) × (j < p) × ((s + j) % p ≡ t)
reaches p s t h =
    let x : s % p < p = mod-lt s (omega arith) in
    elim (cases_lt t (s % p)) [
      | inr le ↦
          let e : s % p + (t - s % p) ≡ t = omega arith in
          (t - s % p, omega arith, sym (mod-add-mod s p (t - s % p)) ∙ ap (λ n. n % p) e ∙ mod-eq_of_lt h)
      | inl lt ↦
          let e : s % p + (p + t - s % p) ≡ t + p = omega arith in
          (p + t - s % p, omega arith, sym (mod-add-mod s p (p + t - s % p)) ∙ ap (λ n. n % p) e ∙ add-mod_right t p ∙ mod-eq_of_lt h)
    ]

pub stays : (p s : ℕ) → s < p → s ≡ places p s 0
unfolding places
stays p s h = let e : s ≡ s + 0 = omega arith in sym (mod-eq_of_lt h) ∙ ap (λ n. n % p) e

-- The place after s, and k more.
pub steps : (p s t k : ℕ) → t ≡ (s + 1) % p → (t + k) % p ≡ (s + (k + 1)) % p
steps p s t k e =
    let a : s + 1 + k ≡ s + (k + 1) = omega arith in
    ap (λ n. (n + k) % p) e ∙ mod-add-mod (s + 1) p k ∙ ap (λ n. n % p) a

pub wraps : (p s : ℕ) → s < p → p ≤ s + 1 → 0 ≡ (s + 1) % p
wraps p s h k = let e : s + 1 ≡ 0 + p = omega arith in sym (ap (λ n. n % p) e ∙ add-mod_right 0 p ∙ mod-eq_of_lt (omega arith))

-- One step on, the row is the rest of the row.
pub around_later : (f : ℕ → ℕ) (p place next : ℕ) → next ≡ (place + 1) % p → ◌≡◌ {A = ℕ → ℕ} (λ k. f ((next + k) % p)) (later (λ k. f ((place + k) % p)))
unfolding later
around_later f p place next e = fun_ext (λ k. ap f (steps p place next k e))

later_from : (p s t : ℕ) → t ≡ (s + 1) % p → places p t ≡ later (places p s)
unfolding places
later_from p s t e = around_later (λ n. n) p s t e

pub later_up : (p s : ℕ) → s + 1 < p → places p (s + 1) ≡ later (places p s)
later_up p s h = later_from p s (s + 1) (sym (mod-eq_of_lt h))

pub later_round : (p s : ℕ) → s < p → p ≤ s + 1 → places p 0 ≡ later (places p s)
later_round p s h k = later_from p s 0 (wraps p s h k)

-- The row that starts at place 0.
pub around_start : (f : ℕ → ℕ) (p : ℕ) → ◌≡◌ {A = ℕ → ℕ} (λ k. f ((0 + k) % p)) (λ k. f (k % p))
around_start f p = fun_ext (λ k. let e : 0 + k ≡ k = omega arith in ap (λ m. f (m % p)) e)

pub from_zero : (p : ℕ) → places p 0 ≡ in_turn p
unfolding places in_turn
from_zero p = around_start (λ n. n) p
