-- What one board does alone keeps a line sound: posting, replacement, data, PutM.
use Rattle.std.proofs.Common.{◌≡◌, ℕ, ◌<◌, true, cond, eqb, ◌≢◌, List, [], ◌∷◌, sym, refl, ap, ◌∙◌, subst, inl, inr, arith, lit<}
use Rattle.std.specs.List.{AllByRecursion as All}
use Rattle.coherence.proofs.Turns.Counts.{occurs}
use Rattle.std.proofs.lemmas.Bool.{cases_eq, cond-true, cond-false, eq-eqb, ne_eqb, eqb-true}
use Rattle.coherence.proofs.Line.Codes.{table, next, holds, copies, waits, writes, wants}
use Rattle.coherence.proofs.Line.Sound.{snoop, update, Sound, Ordered, fits, before}
use Rattle.coherence.proofs.Line.Tables.{fits_put, fits_data, fits_sym, data_small, waits_one, fits_upg, imp_from}
use Rattle.coherence.proofs.Line.Sends.{update_same, update_other, all_absent, all_occurs, snoop_own, snoop_other}

module _ (x : ℕ → ℕ) (b t : ℕ) where
  alls : (s : ℕ) (r : List ℕ) → All (λ c. c ≢ b) r → All (λ c. before s (x c) ≡ true) r → All (λ c. before s (update x b t c) ≡ true) r
  alls s [] n h = tt
  alls s (c ∷ r) n h = let ne = n.0 in (rw (update_other x b c t) h.0, alls s r n.1 h.1)

  orders : (row : List ℕ) → All (λ c. c ≢ b) row → Ordered x row → Ordered (update x b t) row
  orders [] n h = tt
  orders (c ∷ row) n h =
      let ne = n.0 in
      (rw (update_other x b c t) (alls (x c) row n.1 h.0), rw (update_other x b c t) h.1, orders row n.1 h.2)

  -- b, which is not in the row, changes to t, which does not wait
  pub own : (row : List ℕ) → ((c : ℕ) → x c < 11) → ((c d : ℕ) → c ≢ d → fits (x c) (x d) ≡ true)
      → occurs b row ≡ 0 → ((c : ℕ) → c ≢ b → occurs c row ≡ waits (x c)) → Ordered x row
      → t < 11 → waits t ≡ 0 → ((c : ℕ) → c ≢ b → fits t (x c) ≡ true) → Sound (update x b t) row
  own row small fit none others o st wt ft =
      record { small = smalls; fit = fitting; waiting = waiting; ordered = orders row (all_absent b row none) o }
    where
      smalls : (c : ℕ) → update x b t c < 11
      smalls c = elim (cases_eq c b) [ inl q ↦ rw (q, update_same x b t) st | inr ne ↦ rw (update_other x b c t) (small c) ]

      fitting : (c d : ℕ) → c ≢ d → fits (update x b t c) (update x b t d) ≡ true
      fitting c d ne =
          elim (cases_eq c b) [
            | inl q ↦ let nd : d ≢ b = λ h. ne (q ∙ sym h) in rw (q, update_same x b t, update_other x b d t) (ft d nd)
            | inr nc ↦ elim (cases_eq d b) [
              | inl q ↦ rw (q, update_same x b t, update_other x b c t) (fits_sym t (x c) st (small c) (ft c nc))
              | inr nd ↦ rw (update_other x b c t, update_other x b d t) (fit c d ne)
            ]
          ]

      waiting : (c : ℕ) → occurs c row ≡ waits (update x b t c)
      waiting c =
          elim (cases_eq c b) [
            | inl q ↦ rw (q, update_same x b t) (none ∙ sym wt)
            | inr ne ↦ rw (update_other x b c t) (others c ne)
          ]

-- own PutM
pub put_keeps : (x : ℕ → ℕ) (row : List ℕ) (b : ℕ) → Sound x row → waits (x b) ≡ 0 → writes (x b) ≡ 1 → next (x b) 6 < 11 → waits (next (x b) 6) ≡ 0
    → Sound (update x b (next (x b) 6)) row
put_keeps x row b s w0 w n6 w6 =
    own x b (next (x b) 6) row s.small s.fit (s.waiting b ∙ w0) (λ c _. s.waiting c) s.ordered n6 w6
    (λ c ne. fits_put (x b) (x c) (s.small b) (s.small c) w (s.fit b c (λ q. ne (sym q))))

-- own data, of the first in the row, without a holder
pub data_keeps : (x : ℕ → ℕ) (row : List ℕ) (b : ℕ) → Sound x (b ∷ row) → ((c : ℕ) → holds (x c) ≡ 0)
    → Sound (update x b (next (x b) 4)) row
data_keeps x row b s free =
    let one : cond {A = ℕ} (eqb b b) 1 0 ≡ 1 = cond-true (eqb b b) 1 0 (eq-eqb b b refl) in
    let w : waits (x b) ≡ 1 = waits_one (x b) (s.small b) (omega (arith, s.waiting b)) in
    let none : occurs b row ≡ 0 = omega (arith, s.waiting b) in
    let d = data_small (x b) (s.small b) w in
    own x b (next (x b) 4) row s.small s.fit none
    (λ c ne. let k = cond-false {A = ℕ} (eqb c b) 1 0 (ne_eqb c b ne) in omega (arith, s.waiting c))
    s.ordered.2 d.0 d.1
    (λ c ne. fits_data (x b) (x c) (s.small b) (s.small c) w (free c) (s.fit b c (λ q. ne (sym q))) (imp_from (eqb (waits (x c)) 1) (before (x b) (x c)) (λ e.
    let k = cond-false {A = ℕ} (eqb c b) 1 0 (ne_eqb c b ne) in
    all_occurs (λ c. before (x b) (x c) ≡ true) row s.ordered.0 c (omega (arith, s.waiting c, eqb-true (waits (x c)) 1 e)))))

-- own Upg, where nobody waits
pub upg_keeps : (x : ℕ → ℕ) (b : ℕ) → Sound x [] → x b ≡ 5 → Sound (snoop x b 5 9) []
unfolding table next waits fits holds copies wants
upg_keeps x b s e = record { small = smalls; fit = fitting; waiting = waiting; ordered = tt }
  where
    others : (c : ℕ) → c ≢ b → (fits 2 (next (x c) 9) ≡ true) × (next (x c) 9 ≡ 0)
    others c ne = fits_upg (x c) (s.small c) (subst (λ (v : ℕ). fits v (x c) ≡ true) e (s.fit b c (λ q. ne (sym q)))) (sym (s.waiting c))

    mine : snoop x b 5 9 b ≡ 2
    mine = snoop_own x b 5 9 ∙ ap (λ v. next v 5) e

    theirs : (c : ℕ) → c ≢ b → snoop x b 5 9 c ≡ 0
    theirs c ne = snoop_other x b 5 9 c ne ∙ (others c ne).1

    smalls : (c : ℕ) → snoop x b 5 9 c < 11
    smalls c = elim (cases_eq c b) [ inl q ↦ rw (q, mine) (lit< tt) | inr ne ↦ rw (theirs c ne) (lit< tt) ]

    fitting : (c d : ℕ) → c ≢ d → fits (snoop x b 5 9 c) (snoop x b 5 9 d) ≡ true
    fitting c d ne =
        elim (cases_eq c b) [
          | inl q ↦ let nd : d ≢ b = λ h. ne (q ∙ sym h) in rw (q, mine, theirs d nd) refl
          | inr nc ↦ elim (cases_eq d b) [
            | inl q ↦ rw (q, mine, theirs c nc) refl
            | inr nd ↦ rw (theirs c nc, theirs d nd) refl
          ]
        ]

    waiting : (c : ℕ) → occurs c [] ≡ waits (snoop x b 5 9 c)
    waiting c = elim (cases_eq c b) [ inl q ↦ rw (q, mine) refl | inr ne ↦ rw (theirs c ne) refl ]
