-- When a board's next turn comes.
use Rattle.std.proofs.Common.{◌≡◌, ℕ, zero, suc, ◌+◌, ◌<◌, ◌≤◌, eqb, ◌≢◌, sym, ap, ◌∙◌, subst, inl, inr, not-suc-le-zero, zero-add, arith}
use Rattle.std.proofs.lemmas.Bool.{cases_eq, cond-true, cond-false, eq-eqb, ne_eqb}
use Rattle.schedule.specs.Rows.{Lawful, later}
use Rattle.coherence.proofs.Turns.Waits.{until}

-- the row one slot on
later_at : (o : ℕ → ℕ) (k : ℕ) → later o k ≡ o (suc k)
unfolding later
later_at o k = let e : k + 1 ≡ suc k = omega arith in ap o e

pub until_now : (f b : ℕ) (o : ℕ → ℕ) → o 0 ≡ b → until (suc f) b o ≡ 1
until_now f b o e = cond-true (eqb (o 0) b) 1 (suc (until f b (later o))) (eq-eqb (o 0) b e)

pub until_later : (f b : ℕ) (o : ℕ → ℕ) → o 0 ≢ b → until (suc f) b o ≡ suc (until f b (later o))
until_later f b o ne = cond-false (eqb (o 0) b) 1 (suc (until f b (later o))) (ne_eqb (o 0) b ne)

-- found at k: with more to look at it is the same
pub until_found : (k f g b : ℕ) (o : ℕ → ℕ) → o k ≡ b → k < f → k < g → (until f b o ≡ until g b o) × (until f b o ≤ suc k)
until_found k zero g b o e h1 h2 = absurd (not-suc-le-zero h1)
until_found k (suc f) zero b o e h1 h2 = absurd (not-suc-le-zero h2)
until_found zero (suc f) (suc g) b o e h1 h2 =
    rw (until_now f b o e, until_now g b o e) (omega arith)
until_found (suc k) (suc f) (suc g) b o e h1 h2 =
    elim (cases_eq (o 0) b) [
      | inl q ↦ rw (until_now f b o q, until_now g b o q) (omega arith)
      | inr ne ↦ let r = until_found k f g b (later o) (later_at o k ∙ e) (omega arith) (omega arith) in
          rw (until_later f b o ne, until_later g b o ne) (omega arith)
    ]

pub later_lawful : (n p : ℕ) (o : ℕ → ℕ) → Lawful n p o → Lawful n p (later o)
later_lawful n p o f = record {
  some = f.some;
  few = f.few;
  short = f.short;
  below = λ k. subst (λ i. i < n) (sym (later_at o k)) (f.below (suc k));
  fair = λ k b h.
      let t = f.fair (suc k) b h in
      let e : suc (k + t.0) ≡ suc k + t.0 = omega arith in
      (t.0, t.1, later_at o (k + t.0) ∙ ap o e ∙ t.2);
}

pub until_pos : (f b : ℕ) (o : ℕ → ℕ) → 1 ≤ until f b o
until_pos zero b o = omega arith
until_pos (suc f) b o =
    elim (cases_eq (o 0) b) [
      | inl q ↦ rw (until_now f b o q) (omega arith)
      | inr ne ↦ rw (until_later f b o ne) (omega arith)
    ]

-- a turn comes within p slots
pub within : (n p b : ℕ) (o : ℕ → ℕ) → Lawful n p o → b < n → until p b o ≤ p
within n p b o f h =
    let t = f.fair 0 b h in
    let e : o t.0 ≡ b = rw zero-add at t.2 in
    let u = until_found t.0 p p b o e t.1 t.1 in
    omega (arith, u.1, t.1)

-- a slot of another board brings it one nearer
pub nearer : (n p b : ℕ) (o : ℕ → ℕ) → Lawful n p o → b < n → o 0 ≢ b → until p b o ≡ suc (until p b (later o))
nearer n zero b o f h ne = absurd (not-suc-le-zero (f.fair 0 b h).1)
nearer n (suc p) b o f h ne =
    let t = f.fair 0 b h in
    go t.0 t.1 (rw zero-add at t.2)
  where
    go : (k : ℕ) → k < suc p → o k ≡ b → until (suc p) b o ≡ suc (until (suc p) b (later o))
    go zero l e = absurd (ne e)
    go (suc k) l e =
        until_later p b o ne ∙ ap suc (until_found k p (suc p) b (later o) (later_at o k ∙ e) (omega arith) (omega arith)).0
