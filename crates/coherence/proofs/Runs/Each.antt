-- A function with one value changed.
use Rattle.std.proofs.Common.{◌≡◌, ℕ, eqb, ◌≢◌, sym, refl, subst, inl, inr}
use Rattle.std.proofs.lemmas.Bool.{cases_eq, cond-true, cond-false, eq-eqb, ne_eqb}
use Rattle.rules.specs.Boards.{change}
use Rattle.coherence.proofs.Line.Sound.{update}
use Rattle.coherence.proofs.Line.Sends.{update_same, update_other}

-- what holds of the new value, and of the others as they were
pub each : {A : Type 0} (P : ℕ → A → Type 0) (f : ℕ → A) (i : ℕ) (a : A) → P i a → ((j : ℕ) → j ≢ i → P j (f j)) → (j : ℕ) → P j (update f i a j)
each P f i a h k j =
    elim (cases_eq j i) [
      | inl q ↦ subst (λ m. P m (update f i a m)) (sym q) (subst (P i) (sym (update_same f i a)) h)
      | inr ne ↦ subst (P j) (sym (update_other f i j a ne)) (k j ne)
    ]

pub change_same : {A : Type 0} (f : ℕ → A) (i : ℕ) (a : A) → change f i a i ≡ a
unfolding change
change_same f i a = cond-true (eqb i i) a (f i) (eq-eqb i i refl)

pub change_other : {A : Type 0} (f : ℕ → A) (i j : ℕ) (a : A) → j ≢ i → change f i a j ≡ f j
unfolding change
change_other f i j a ne = cond-false (eqb j i) a (f j) (ne_eqb j i ne)
