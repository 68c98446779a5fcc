-- A slot brings every unserved request nearer.
use Rattle.std.proofs.Common.{◌≡◌, ℕ, suc, ◌+◌, ◌*◌, ◌<◌, ◌≤◌, cond, eqb, ◌≢◌, List, ◌∷◌, sym, refl, ap, ◌∙◌, subst, inl, inr, not-suc-le-zero, mul-le-mul_left, mul-zero, mul-one, arith}
use Rattle.std.proofs.lemmas.Bool.{cases_eq, cases_lt, cond-true, cond-false, cond_both, eq-eqb, ne_eqb}
use Rattle.coherence.proofs.Turns.Counts.{occurs}
use Rattle.coherence.proofs.Turns.Turns.{turns}
use Rattle.coherence.proofs.Line.Codes.{holds, writes}
use Rattle.rules.specs.declared.kind.Kind.{Kind}
use Rattle.rules.specs.Boards.{Place, free, posted, sent, served}
use Rattle.coherence.proofs.Runs.Reading.{Board, Reading, older, aged, age_board}
use Rattle.coherence.proofs.Runs.Good.{pend, Good}
use Rattle.coherence.proofs.Runs.Clock.{place_of, ask, Clock, Tick}
use Rattle.coherence.proofs.Runs.Places.{place_here, place_next}
use Rattle.coherence.proofs.Runs.Short.{waiting_below}

-- the counts grow by one
older_posted : (q : Place) (l w : ℕ) (kd : Kind) → older q ≡ posted l kd w → (w0 : ℕ) × (q ≡ posted l kd w0) × (w ≡ w0 + 1)
older_posted free l w kd h = absurd (let z : ◌≡◌ {A = ℕ} 0 1 = cc in omega arith)
older_posted (posted k d y) l w kd h = (y, cc, cc)
older_posted (sent k d y) l w kd h = absurd (let z : ◌≡◌ {A = ℕ} 0 1 = cc in omega arith)
older_posted (served k d r y) l w kd h = absurd (let z : ◌≡◌ {A = ℕ} 0 1 = cc in omega arith)

older_sent : (q : Place) (l w : ℕ) (kd : Kind) → older q ≡ sent l kd w → (w0 : ℕ) × (q ≡ sent l kd w0) × (w ≡ w0 + 1)
older_sent free l w kd h = absurd (let z : ◌≡◌ {A = ℕ} 0 1 = cc in omega arith)
older_sent (posted k d y) l w kd h = absurd (let z : ◌≡◌ {A = ℕ} 0 1 = cc in omega arith)
older_sent (sent k d y) l w kd h = (y, cc, cc)
older_sent (served k d r y) l w kd h = absurd (let z : ◌≡◌ {A = ℕ} 0 1 = cc in omega arith)

pub aged_clock : (n p : ℕ) (u : ℕ → ℕ) (s : Reading) → Clock n p 0 u s → Clock n p 1 u (aged s)
unfolding aged age_board
aged_clock n p u s k =
    record {
      inside = λ b l w kd e. let o = older_posted (s.boards b).place l w kd e in k.inside b l o.0 kd o.1;
      unsent = λ b l w kd e. let o = older_posted (s.boards b).place l w kd e in omega (arith, k.unsent b l o.0 kd o.1, o.2);
      held = λ b l w h kd e y. let o = older_sent (s.boards b).place l w kd e in omega (arith, k.held b l o.0 h kd o.1 y, o.2);
      open' = λ b l w f r kd e y z. let o = older_sent (s.boards b).place l w kd e in omega (arith, k.open' b l o.0 f r kd o.1 y z, o.2);
    }

pub times_one : (p k : ℕ) → k ≡ 1 → p * k ≡ p
times_one p k e = rw e (mul-one p)

pub times_zero : (p k : ℕ) → k ≡ 0 → p * k ≡ 0
times_zero p k e = rw e (mul-zero p)

pub ask_le : (b : Board) → ask b ≤ 1
ask_le b = cond_both b.asked 1 0 (λ v. v ≤ 1) (λ _. omega arith) (λ _. omega arith)

pub times_ask : (p : ℕ) (b : Board) → p * ask b ≤ p
times_ask p b = omega (arith, mul-le-mul_left p (ask_le b))

pub writing_below : (n : ℕ) (s : Reading) (l c : ℕ) → Good n s → writes ((s.lines l).state c) ≡ 1 → c < n
unfolding writes
writing_below n s l c g h =
    elim (cases_lt c n) [ inl k ↦ k | inr k ↦ absurd (let z : writes 0 ≡ 1 = rw (g.outside l c k) at h in omega arith) ]

pub turns_step : (n s h : ℕ) → turns n s h + 2 ≤ turns n s (suc h)
unfolding turns
turns_step n s h = omega arith

pub mul_two : (p a b : ℕ) → a + 2 ≤ b → p * a + 2 * p ≤ p * b
mul_two p a b h = omega (arith, mul-le-mul_left p h)

-- who waits for l is in its row
pub in_row : (n : ℕ) (s : Reading) (b l w : ℕ) (kd : Kind) → Good n s → (s.boards b).place ≡ sent l kd w → occurs b (s.lines l).row ≡ 1
in_row n s b l w kd g e = (g.sound l).waiting b ∙ (g.cells l b).pending ∙ ap (λ q. pend q l) e ∙ cond-true {A = ℕ} (eqb l l) 1 0 (eq-eqb l l refl)

-- the first in a row waits
pub first_in : (n : ℕ) (s : Reading) (l f : ℕ) (r : List ℕ) → Good n s → (s.lines l).row ≡ f ∷ r → 1 ≤ pend (s.boards f).place l
first_in n s l f r g e =
    let one = cond-true {A = ℕ} (eqb f f) 1 0 (eq-eqb f f refl) in
    let o : occurs f (s.lines l).row ≡ cond (eqb f f) 1 0 + occurs f r = ap (occurs f) e in
    omega (arith, (g.sound l).waiting f, (g.cells l f).pending)

pub first_below : (n : ℕ) (s : Reading) (l f : ℕ) (r : List ℕ) → Good n s → (s.lines l).row ≡ f ∷ r → f < n
first_below n s l f r g e = waiting_below n s l f g (omega (arith, first_in n s l f r g e, (g.cells l f).pending))

-- who waits for l, as its request says
pub pend_is : (q : Place) (l : ℕ) → 1 ≤ pend q l → (kd : Kind) × (w : ℕ) × (q ≡ sent l kd w)
pend_is free l h = absurd (not-suc-le-zero h)
pend_is (posted k kd w) l h = absurd (not-suc-le-zero h)
pend_is (sent k kd w) l h =
    elim (cases_eq l k) [
      | inl q ↦ (kd, w, ap (λ m. sent m kd w) (sym q))
      | inr ne ↦ absurd (let z = cond-false {A = ℕ} (eqb l k) 1 0 (ne_eqb l k ne) in omega arith)
    ]
pend_is (served k kd r w) l h = absurd (not-suc-le-zero h)

-- a's write-back of l0, where a request that is ready waits only after another
module _ (n p a l0 : ℕ) (ls : List ℕ) (u v : ℕ → ℕ) (t : Tick n p a u v) (s s' : Reading) (g : Good n s) (g' : Good n s') (k : Clock n p 1 u s) (an : a < n)
    (list : (s.boards a).list ≡ l0 ∷ ls)
    (list' : (s'.boards a).list ≡ ls) (place' : (s'.boards a).place ≡ (s.boards a).place) (asked' : ask (s'.boards a) ≡ 0)
    (bo : (c : ℕ) → c ≢ a → s'.boards c ≡ s.boards c)
    (ro : (l : ℕ) → (s'.lines l).row ≡ (s.lines l).row)
    (xo : (l c : ℕ) → (l ≡ l0 → c ≡ a → ⊥) → (s'.lines l).state c ≡ (s.lines l).state c)
    (xa : writes ((s'.lines l0).state a) ≡ 0)
    (was : writes ((s.lines l0).state a) ≡ 1)
    (yields-posted : (l w : ℕ) (kd : Kind) → (s.boards a).place ≡ posted l kd w → ask (s.boards a) ≡ 1)
    (yields-sent : (l w : ℕ) (kd : Kind) (r : List ℕ) → (s.boards a).place ≡ sent l kd w → (s.lines l).row ≡ a ∷ r → ((c : ℕ) → holds ((s.lines l).state c) ≡ 0) → ask (s.boards a) ≡ 1) where
  same_place : (b : ℕ) (q : Place) → (s'.boards b).place ≡ q → (s.boards b).place ≡ q
  same_place b q e = elim (cases_eq b a) [ inl h ↦ ap (λ c. (s.boards c).place) h ∙ sym place' ∙ ap (λ c. (s'.boards c).place) (sym h) ∙ e | inr ne ↦ ap (λ (z : Board). z.place) (sym (bo b ne)) ∙ e ]

  pub put_clock : Clock n p 0 v s'
  put_clock = record { inside = λ b l w kd e. k.inside b l w kd (same_place b (posted l kd w) e); unsent = unsent'; held = held'; open' = open'' }
    where
      unsent' : (b l w : ℕ) (kd : Kind) → (s'.boards b).place ≡ posted l kd w → w + p * ask (s'.boards b) + v b ≤ 2 * p + 0
      unsent' b l w kd e =
          let e0 = same_place b (posted l kd w) e in
          elim (cases_eq b a) [
            | inl h ↦ let ea : (s.boards a).place ≡ posted l kd w = subst (λ (c : ℕ). (s.boards c).place ≡ posted l kd w) h e0 in
                rw h (omega (arith, k.unsent a l w kd ea, times_one p (ask (s.boards a)) (yields-posted l w kd ea), times_zero p (ask (s'.boards a)) asked', t.now, t.soon a an))
            | inr ne ↦ rw (bo b ne) (omega (arith, k.unsent b l w kd e0, t.nearer b (k.inside b l w kd e0) ne))
          ]

      held' : (b l w h : ℕ) (kd : Kind) → (s'.boards b).place ≡ sent l kd w → writes ((s'.lines l).state h) ≡ 1
          → w + p * turns n (place_of b (s'.lines l).row) (place_of l (s'.boards h).list) + v h ≤ p * (n * (n + 3)) + p + p * ask (s'.boards h) + 0
      held' b l w h kd e y =
          let e0 = same_place b (sent l kd w) e in
          elim (cases_eq h a) [
            | inl q ↦ let ya : writes ((s'.lines l).state a) ≡ 1 = subst (λ (c : ℕ). writes ((s'.lines l).state c) ≡ 1) q y in
                let nl : l ≢ l0 = λ z. let y0 : writes ((s'.lines l0).state a) ≡ 1 = subst (λ (m : ℕ). writes ((s'.lines m).state a) ≡ 1) z ya in omega arith in
                let y0 : writes ((s.lines l).state a) ≡ 1 = rw (xo l a (λ z _. nl z)) at ya in
                let pl : place_of l (s.boards a).list ≡ suc (place_of l ls) = ap (place_of l) list ∙ place_next l l0 ls nl in
                let ts = mul_two p _ _ (turns_step n (place_of b (s.lines l).row) (place_of l ls)) in
                rw (q, list', ro l) (omega (arith, rw pl at (k.held b l w a kd e0 y0), ts, times_zero p (ask (s'.boards a)) asked', times_ask p (s.boards a), t.now, t.soon a an))
            | inr ne ↦ let y0 : writes ((s.lines l).state h) ≡ 1 = rw (xo l h (λ _ z. ne z)) at y in
                rw (bo h ne, ro l) (omega (arith, k.held b l w h kd e0 y0, t.nearer h (writing_below n s l h g y0) ne))
          ]

      open'' : (b l w f : ℕ) (r : List ℕ) (kd : Kind) → (s'.boards b).place ≡ sent l kd w → ((c : ℕ) → holds ((s'.lines l).state c) ≡ 0) → (s'.lines l).row ≡ f ∷ r
          → w + p * turns n (place_of b (s'.lines l).row) 0 + p * ask (s'.boards f) + v f ≤ p * (n * (n + 3)) + 2 * p + 0
      open'' b l w f r kd e y z =
          let e0 = same_place b (sent l kd w) e in
          let z0 : (s.lines l).row ≡ f ∷ r = sym (ro l) ∙ z in
          let fn : f < n = first_below n s l f r g z0 in
          elim (cases_eq l l0) [
            | inl q ↦ let y0 : writes ((s.lines l).state a) ≡ 1 = subst (λ (m : ℕ). writes ((s.lines m).state a) ≡ 1) (sym q) was in
                let pl : place_of l (s.boards a).list ≡ 1 = ap (place_of l) list ∙ subst (λ (m : ℕ). place_of l (m ∷ ls) ≡ 1) q (place_here l ls) in
                let ts = mul_two p _ _ (turns_step n (place_of b (s.lines l).row) 0) in
                rw (ro l) (omega (arith, rw pl at (k.held b l w a kd e0 y0), ts, times_ask p (s'.boards f), times_ask p (s.boards a), t.now, t.soon f fn))
            | inr nl ↦
                let y0 : (c : ℕ) → holds ((s.lines l).state c) ≡ 0 = λ c. rw (xo l c (λ q _. nl q)) at (y c) in
                elim (cases_eq f a) [
                  | inl q ↦ let za : (s.lines l).row ≡ a ∷ r = subst (λ (c : ℕ). (s.lines l).row ≡ c ∷ r) q z0 in
                      let pe = pend_is (s.boards a).place l (first_in n s l a r g za) in
                      let one = yields-sent l pe.1 pe.0 r pe.2 za y0 in
                      rw (q, ro l) (omega (arith, k.open' b l w a r kd e0 y0 za, times_one p (ask (s.boards a)) one, times_zero p (ask (s'.boards a)) asked', t.now, t.soon a an))
                  | inr ne ↦ rw (bo f ne, ro l) (omega (arith, k.open' b l w f r kd e0 y0 z0, t.nearer f fn ne))
                ]
          ]
