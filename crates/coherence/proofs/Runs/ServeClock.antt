-- Serving, sending, upgrading and idling bring every unserved request nearer.
use Rattle.std.proofs.Common.{◌≡◌, ℕ, suc, ◌+◌, ◌*◌, ◌<◌, ◌≤◌, eqb, ◌≢◌, List, ◌∷◌, length, sym, ap, ◌∙◌, subst, inl, inr, arith}
use Rattle.std.proofs.lemmas.Bool.{cases_eq, cond-false, ne_eqb}
use Rattle.coherence.proofs.Turns.Counts.{occurs}
use Rattle.coherence.proofs.Turns.Turns.{turns}
use Rattle.coherence.proofs.Turns.Arith as pot
use Rattle.coherence.proofs.Line.Codes.{holds, writes}
use Rattle.rules.specs.declared.kind.Kind.{Kind}
use Rattle.rules.specs.Boards.{Place, posted, sent, served}
use Rattle.coherence.proofs.Runs.Reading.{Board, Reading}
use Rattle.coherence.proofs.Runs.Good.{pend, Good}
use Rattle.coherence.proofs.Runs.Clock.{place_of, ask, Clock, Tick}
use Rattle.coherence.proofs.Runs.Facts.{writes_holds}
use Rattle.coherence.proofs.Runs.Places.{place_next, place_pos, place_le}
use Rattle.coherence.proofs.Runs.Short.{row_short, list_short}
use Rattle.coherence.proofs.Runs.WriteBackClock.{times_one, times_zero, times_ask, writing_below, mul_two, in_row, first_in, first_below}

-- at one line, or at the others
pub by_line : (P : ℕ → Type 0) (l0 : ℕ) → P l0 → ((l : ℕ) → l ≢ l0 → P l) → (l : ℕ) → P l
by_line P l0 h k l = elim (cases_eq l l0) [ inl q ↦ subst P (sym q) h | inr ne ↦ k l ne ]

abbrev pub HeldAt : (n p d : ℕ) (u : ℕ → ℕ) (s : Reading) (b l w h : ℕ) → Type 0
HeldAt n p d u s b l w h = w + p * turns n (place_of b (s.lines l).row) (place_of l (s.boards h).list) + u h ≤ p * (n * (n + 3)) + p + p * ask (s.boards h) + d

abbrev pub OpenAt : (n p d : ℕ) (u : ℕ → ℕ) (s : Reading) (b l w f : ℕ) → Type 0
OpenAt n p d u s b l w f = w + p * turns n (place_of b (s.lines l).row) 0 + p * ask (s.boards f) + u f ≤ p * (n * (n + 3)) + 2 * p + d

-- a, the first of the row of l0, is served
module _ (n p a l0 w0 q0 : ℕ) (kd0 : Kind) (r0 : List ℕ) (u v : ℕ → ℕ) (t : Tick n p a u v) (s s' : Reading) (g : Good n s) (g' : Good n s') (k : Clock n p 1 u s) (an : a < n)
    (place : (s.boards a).place ≡ sent l0 kd0 w0) (front : (s.lines l0).row ≡ a ∷ r0) (free0 : (c : ℕ) → holds ((s.lines l0).state c) ≡ 0)
    (fresh : (l : ℕ) → 1 ≤ occurs l (s.boards a).list → ask (s.boards a) ≡ 0)
    (place' : (s'.boards a).place ≡ served l0 kd0 q0 w0) (asked' : ask (s'.boards a) ≡ 1)
    (list' : (l : ℕ) → 1 ≤ occurs l (s.boards a).list → place_of l (s'.boards a).list ≡ place_of l (s.boards a).list)
    (list'' : writes ((s'.lines l0).state a) ≡ 1 → place_of l0 (s'.boards a).list ≡ suc (length (s.boards a).list))
    (bo : (c : ℕ) → c ≢ a → s'.boards c ≡ s.boards c)
    (lo : (l : ℕ) → l ≢ l0 → s'.lines l ≡ s.lines l) (row' : (s'.lines l0).row ≡ r0)
    (xo : (c : ℕ) → c ≢ a → (s'.lines l0).state c ≡ (s.lines l0).state c) where
  served_place : (b : ℕ) (z : Place) → (s'.boards b).place ≡ z → (z ≡ served l0 kd0 q0 w0 → ⊥) → (b ≢ a) × ((s.boards b).place ≡ z)
  served_place b z e d =
      let ne : b ≢ a = λ h. d (sym e ∙ ap (λ c. (s'.boards c).place) h ∙ place') in
      (ne, ap (λ (y : Board). y.place) (sym (bo b ne)) ∙ e)

  is_posted : (b l w : ℕ) (kd : Kind) → (s'.boards b).place ≡ posted l kd w → (b ≢ a) × ((s.boards b).place ≡ posted l kd w)
  is_posted b l w kd e = served_place b (posted l kd w) e (λ h. let z : ◌≡◌ {A = ℕ} 0 1 = cc in omega arith)

  is_sent : (b l w : ℕ) (kd : Kind) → (s'.boards b).place ≡ sent l kd w → (b ≢ a) × ((s.boards b).place ≡ sent l kd w)
  is_sent b l w kd e = served_place b (sent l kd w) e (λ h. let z : ◌≡◌ {A = ℕ} 0 1 = cc in omega arith)

  -- b behind a
  behind : (b : ℕ) → b ≢ a → place_of b (s.lines l0).row ≡ suc (place_of b r0)
  behind b ne = ap (place_of b) front ∙ place_next b a r0 ne

  room : (b w : ℕ) (kd : Kind) → (s'.boards b).place ≡ sent l0 kd w → place_of b r0 ≤ length r0
  room b w kd e = place_le b r0 (omega (arith, ap (occurs b) (sym row'), in_row n s' b l0 w kd g' e))

  long : suc (length r0) ≤ n
  long = omega (arith, row_short n s l0 g, ap length front)

  pub serve_clock : Clock n p 0 v s'
  serve_clock =
      record {
        inside = λ b l w kd e. k.inside b l w kd (is_posted b l w kd e).1;
        unsent = λ b l w kd e.
            let i = is_posted b l w kd e in
            let ne = i.0 in
            rw (bo b ne) (omega (arith, k.unsent b l w kd i.1, t.nearer b (k.inside b l w kd i.1) ne));
        held = λ b l w h kd. held' l b w h kd;
        open' = λ b l w f r kd. open'' l b w f r kd;
      }
    where
      held0 : (b w h : ℕ) (kd : Kind) → (s'.boards b).place ≡ sent l0 kd w → writes ((s'.lines l0).state h) ≡ 1 → HeldAt n p 0 v s' b l0 w h
      held0 b w h kd e y =
          let i = is_sent b l0 w kd e in
          elim (cases_eq h a) [
            | inl q ↦
                let ya : writes ((s'.lines l0).state a) ≡ 1 = subst (λ (c : ℕ). writes ((s'.lines l0).state c) ≡ 1) q y in
                let none : occurs l0 (s.boards a).list ≡ 0 = omega (arith, (g.cells l0 a).listed, writes_holds ((s.lines l0).state a) ((g.sound l0).small a), free0 a) in
                let ls = list_short n a l0 (s.boards a).list s g (λ m. omega arith) none in
                let ts = mul_two p _ _ (pot.served n (place_of b r0) (suc (length (s.boards a).list)) (place_pos b r0) (omega (arith, room b w kd e, long)) (omega (arith, room b w kd e, ls, ap length front))) in
                let pl : place_of b (s.lines l0).row ≡ place_of b r0 + 1 = omega (arith, behind b i.0) in
                rw (q, list'' ya, row')
                (omega (arith, rw pl at (k.open' b l0 w a r0 kd i.1 free0 front), ts, times_one p (ask (s'.boards a)) asked', t.now, t.soon a an))
            | inr ne ↦ absurd (let y0 : writes ((s.lines l0).state h) ≡ 1 = rw (xo h ne) at y in omega (arith, writes_holds ((s.lines l0).state h) ((g.sound l0).small h), free0 h))
          ]

      heldk : (l : ℕ) → l ≢ l0 → (b w h : ℕ) (kd : Kind) → (s'.boards b).place ≡ sent l kd w → writes ((s'.lines l).state h) ≡ 1 → HeldAt n p 0 v s' b l w h
      heldk l nl b w h kd e y =
          let i = is_sent b l w kd e in
          let y0 : writes ((s.lines l).state h) ≡ 1 = rw (lo l nl) at y in
          elim (cases_eq h a) [
            | inl q ↦
                let ya : writes ((s.lines l).state a) ≡ 1 = subst (λ (c : ℕ). writes ((s.lines l).state c) ≡ 1) q y0 in
                let oc : 1 ≤ occurs l (s.boards a).list = omega (arith, (g.cells l a).listed) in
                rw (q, list' l oc, lo l nl) (omega (arith, k.held b l w a kd i.1 ya, times_zero p (ask (s.boards a)) (fresh l oc), times_one p (ask (s'.boards a)) asked', t.now, t.soon a an))
            | inr ne ↦ rw (bo h ne, lo l nl) (omega (arith, k.held b l w h kd i.1 y0, t.nearer h (writing_below n s l h g y0) ne))
          ]

      held' : (l : ℕ) (b w h : ℕ) (kd : Kind) → (s'.boards b).place ≡ sent l kd w → writes ((s'.lines l).state h) ≡ 1 → HeldAt n p 0 v s' b l w h
      held' = by_line (λ l. (b w h : ℕ) (kd : Kind) → (s'.boards b).place ≡ sent l kd w → writes ((s'.lines l).state h) ≡ 1 → HeldAt n p 0 v s' b l w h) l0 held0 heldk

      open0 : (b w f : ℕ) (r : List ℕ) (kd : Kind) → (s'.boards b).place ≡ sent l0 kd w → ((c : ℕ) → holds ((s'.lines l0).state c) ≡ 0) → (s'.lines l0).row ≡ f ∷ r → OpenAt n p 0 v s' b l0 w f
      open0 b w f r kd e y z =
          let i = is_sent b l0 w kd e in
          let ts = mul_two p _ _ (pot.served n (place_of b r0) 0 (place_pos b r0) (omega (arith, room b w kd e, long)) (omega (arith, room b w kd e, long))) in
          let pl : place_of b (s.lines l0).row ≡ place_of b r0 + 1 = omega (arith, behind b i.0) in
          rw row' (omega (arith, rw pl at (k.open' b l0 w a r0 kd i.1 free0 front), ts, times_ask p (s'.boards f), t.now, t.soon f (first_below n s' l0 f r g' z)))

      openk : (l : ℕ) → l ≢ l0 → (b w f : ℕ) (r : List ℕ) (kd : Kind) → (s'.boards b).place ≡ sent l kd w → ((c : ℕ) → holds ((s'.lines l).state c) ≡ 0) → (s'.lines l).row ≡ f ∷ r → OpenAt n p 0 v s' b l w f
      openk l nl b w f r kd e y z =
          let i = is_sent b l w kd e in
          let y0 : (c : ℕ) → holds ((s.lines l).state c) ≡ 0 = λ c. rw (lo l nl) at (y c) in
          let z0 : (s.lines l).row ≡ f ∷ r = rw (lo l nl) at z in
          let ne : f ≢ a = λ q.
          let za : (s.lines l).row ≡ a ∷ r = subst (λ (c : ℕ). (s.lines l).row ≡ c ∷ r) q z0 in
          let zero-pend : pend (s.boards a).place l ≡ 0 = ap (λ d. pend d l) place ∙ cond-false {A = ℕ} (eqb l l0) 1 0 (ne_eqb l l0 nl) in
          omega (arith, first_in n s l a r g za) in
          rw (bo f ne, lo l nl) (omega (arith, k.open' b l w f r kd i.1 y0 z0, t.nearer f (first_below n s l f r g z0) ne))

      open'' : (l : ℕ) (b w f : ℕ) (r : List ℕ) (kd : Kind) → (s'.boards b).place ≡ sent l kd w → ((c : ℕ) → holds ((s'.lines l).state c) ≡ 0) → (s'.lines l).row ≡ f ∷ r → OpenAt n p 0 v s' b l w f
      open'' = by_line (λ l. (b w f : ℕ) (r : List ℕ) (kd : Kind) → (s'.boards b).place ≡ sent l kd w → ((c : ℕ) → holds ((s'.lines l).state c) ≡ 0) → (s'.lines l).row ≡ f ∷ r → OpenAt n p 0 v s' b l w f) l0 open0 openk
