-- Being served with none behind, and idling, bring every unserved request nearer.
use Rattle.std.proofs.Common.{◌≡◌, ℕ, ◌+◌, ◌*◌, ◌<◌, ◌≤◌, ◌≢◌, List, [], ◌∷◌, sym, ap, ◌∙◌, subst, inl, inr, arith}
use Rattle.std.proofs.lemmas.Bool.{cases_eq}
use Rattle.coherence.proofs.Turns.Counts.{occurs}
use Rattle.coherence.proofs.Turns.Turns.{turns}
use Rattle.coherence.proofs.Line.Codes.{holds, writes}
use Rattle.rules.specs.declared.kind.Kind.{Kind}
use Rattle.rules.specs.Boards.{Place, posted, sent, served}
use Rattle.coherence.proofs.Runs.Reading.{Board, Reading}
use Rattle.coherence.proofs.Runs.Good.{pend, Good}
use Rattle.coherence.proofs.Runs.Clock.{place_of, ask, Clock, Tick}
use Rattle.coherence.proofs.Runs.WriteBackClock.{writing_below, in_row, first_in, first_below}
use Rattle.coherence.proofs.Runs.ServeClock.{HeldAt, OpenAt}

-- a is served at l0, and nobody waits for l0 any more; with d = 1 over a slot, with d = 0 in the slot of its sending
module _ (n p d a l0 w0 q0 : ℕ) (kd0 : Kind) (u v : ℕ → ℕ) (s s' : Reading) (g : Good n s) (g' : Good n s') (k : Clock n p d u s)
    (nearer : (c : ℕ) → c < n → c ≢ a → u c ≡ d + v c)
    (mine : (l x y : ℕ) → 1 ≤ occurs l (s.boards a).list → x + u a ≤ y + p * ask (s.boards a) + d → x + v a ≤ y + p * ask (s'.boards a) + 0)
    (place' : (s'.boards a).place ≡ served l0 kd0 q0 w0)
    (list' : (l : ℕ) → 1 ≤ occurs l (s.boards a).list → place_of l (s'.boards a).list ≡ place_of l (s.boards a).list)
    (not_first : (l : ℕ) → l ≢ l0 → pend (s.boards a).place l ≡ 0)
    (bo : (c : ℕ) → c ≢ a → s'.boards c ≡ s.boards c)
    (lo : (l : ℕ) → l ≢ l0 → s'.lines l ≡ s.lines l) (row' : (s'.lines l0).row ≡ []) where
  other_place : (b : ℕ) (z : Place) → (s'.boards b).place ≡ z → (z ≡ served l0 kd0 q0 w0 → ⊥) → (b ≢ a) × ((s.boards b).place ≡ z)
  other_place b z e no' =
      let ne : b ≢ a = λ h. no' (sym e ∙ ap (λ c. (s'.boards c).place) h ∙ place') in
      (ne, ap (λ (y : Board). y.place) (sym (bo b ne)) ∙ e)

  is_posted : (b l w : ℕ) (kd : Kind) → (s'.boards b).place ≡ posted l kd w → (b ≢ a) × ((s.boards b).place ≡ posted l kd w)
  is_posted b l w kd e = other_place b (posted l kd w) e (λ h. let z : ◌≡◌ {A = ℕ} 0 1 = cc in omega arith)

  is_sent : (b l w : ℕ) (kd : Kind) → (s'.boards b).place ≡ sent l kd w → (b ≢ a) × ((s.boards b).place ≡ sent l kd w)
  is_sent b l w kd e = other_place b (sent l kd w) e (λ h. let z : ◌≡◌ {A = ℕ} 0 1 = cc in omega arith)

  elsewhere : (b l w : ℕ) (kd : Kind) → (s'.boards b).place ≡ sent l kd w → l ≢ l0
  elsewhere b l w kd e q =
      let e0 : (s'.boards b).place ≡ sent l0 kd w = subst (λ (m : ℕ). (s'.boards b).place ≡ sent m kd w) q e in
      let o : occurs b (s'.lines l0).row ≡ 0 = ap (occurs b) row' in
      omega (arith, in_row n s' b l0 w kd g' e0)

  pub done_clock : Clock n p 0 v s'
  done_clock =
      record {
        inside = λ b l w kd e. k.inside b l w kd (is_posted b l w kd e).1;
        unsent = λ b l w kd e.
            let i = is_posted b l w kd e in
            let ne = i.0 in
            rw (bo b ne) (omega (arith, k.unsent b l w kd i.1, nearer b (k.inside b l w kd i.1) ne));
        held = held';
        open' = open'';
      }
    where
      held' : (b l w h : ℕ) (kd : Kind) → (s'.boards b).place ≡ sent l kd w → writes ((s'.lines l).state h) ≡ 1 → HeldAt n p 0 v s' b l w h
      held' b l w h kd e y =
          let i = is_sent b l w kd e in
          let nl = elsewhere b l w kd e in
          let y0 : writes ((s.lines l).state h) ≡ 1 = rw (lo l nl) at y in
          elim (cases_eq h a) [
            | inl q ↦
                let ya : writes ((s.lines l).state a) ≡ 1 = subst (λ (c : ℕ). writes ((s.lines l).state c) ≡ 1) q y0 in
                let oc : 1 ≤ occurs l (s.boards a).list = omega (arith, (g.cells l a).listed) in
                rw (q, list' l oc, lo l nl)
                (mine l (w + p * turns n (place_of b (s.lines l).row) (place_of l (s.boards a).list)) (p * (n * (n + 3)) + p) oc (k.held b l w a kd i.1 ya))
            | inr ne ↦ rw (bo h ne, lo l nl) (omega (arith, k.held b l w h kd i.1 y0, nearer h (writing_below n s l h g y0) ne))
          ]

      open'' : (b l w f : ℕ) (r : List ℕ) (kd : Kind) → (s'.boards b).place ≡ sent l kd w → ((c : ℕ) → holds ((s'.lines l).state c) ≡ 0) → (s'.lines l).row ≡ f ∷ r → OpenAt n p 0 v s' b l w f
      open'' b l w f r kd e y z =
          let i = is_sent b l w kd e in
          let nl = elsewhere b l w kd e in
          let z0 : (s.lines l).row ≡ f ∷ r = rw (lo l nl) at z in
          let y0 : (c : ℕ) → holds ((s.lines l).state c) ≡ 0 = λ c. rw (lo l nl) at (y c) in
          let nf : f ≢ a = λ q. omega (arith, first_in n s l a r g (subst (λ (c : ℕ). (s.lines l).row ≡ c ∷ r) q z0), not_first l nl) in
          rw (bo f nf, lo l nl) (omega (arith, k.open' b l w f r kd i.1 y0 z0, nearer f (first_below n s l f r g z0) nf))

-- a has nothing to do
pub idle_clock : (n p a : ℕ) (u v : ℕ → ℕ) → Tick n p a u v → (s : Reading) → Good n s → Clock n p 1 u s
    → (s.boards a).list ≡ [] → ((l w : ℕ) (kd : Kind) → (s.boards a).place ≡ posted l kd w → ⊥)
    → ((l f : ℕ) (r : List ℕ) → ((c : ℕ) → holds ((s.lines l).state c) ≡ 0) → (s.lines l).row ≡ f ∷ r → f ≢ a)
    → Clock n p 0 v s
idle_clock n p a u v t s g k empty np nf =
    record {
      inside = k.inside;
      unsent = λ b l w kd e.
          let ne : b ≢ a = λ q. np l w kd (subst (λ (c : ℕ). (s.boards c).place ≡ posted l kd w) q e) in
          omega (arith, k.unsent b l w kd e, t.nearer b (k.inside b l w kd e) ne);
      held = λ b l w h kd e y.
          let ne : h ≢ a = λ q.
          let ya : writes ((s.lines l).state a) ≡ 1 = subst (λ (c : ℕ). writes ((s.lines l).state c) ≡ 1) q y in
          let o : occurs l (s.boards a).list ≡ 0 = ap (occurs l) empty in
          omega (arith, (g.cells l a).listed) in
          omega (arith, k.held b l w h kd e y, t.nearer h (writing_below n s l h g y) ne);
      open' = λ b l w f r kd e y z. omega (arith, k.open' b l w f r kd e y z, t.nearer f (first_below n s l f r g z) (nf l f r y z));
    }
