-- Sending, upgrading and idling bring every unserved request nearer.
use Rattle.std.proofs.Common.{◌≡◌, ℕ, ◌*◌, ◌<◌, ◌≤◌, ◌≢◌, List, [], ◌∷◌, ◌++◌, sym, ap, ◌∙◌, subst, inl, inr, not-suc-le-zero, arith}
use Rattle.std.proofs.lemmas.Bool.{cases_eq}
use Rattle.coherence.proofs.Turns.Counts.{occurs}
use Rattle.coherence.proofs.Turns.Arith as pot
use Rattle.coherence.proofs.Line.Codes.{holds, writes}
use Rattle.rules.specs.declared.kind.Kind.{Kind}
use Rattle.rules.specs.Boards.{posted, sent}
use Rattle.coherence.proofs.Runs.Reading.{Line, Reading}
use Rattle.coherence.proofs.Runs.Good.{pend, Good}
use Rattle.coherence.proofs.Runs.Clock.{place_of, ask, Clock, Tick}
use Rattle.coherence.proofs.Runs.Facts.{own_put}
use Rattle.coherence.proofs.Runs.Places.{place_pos, place_push, place_le}
use Rattle.coherence.proofs.Runs.Short.{row_short, held_row, held_short}
use Rattle.coherence.proofs.Runs.WriteBackClock.{times_one, times_zero, times_ask, writing_below, mul_two, in_row, first_in, first_below}
use Rattle.coherence.proofs.Runs.ServeClock.{by_line, HeldAt, OpenAt}

-- a sends for l0
module _ (n p a l0 w0 : ℕ) (kd0 : Kind) (u v : ℕ → ℕ) (t : Tick n p a u v) (s s' : Reading) (g : Good n s) (g' : Good n s') (k : Clock n p 1 u s) (an : a < n)
    (place : (s.boards a).place ≡ posted l0 kd0 w0)
    (fresh : (l : ℕ) → 1 ≤ occurs l (s.boards a).list → ask (s.boards a) ≡ 0)
    (place' : (s'.boards a).place ≡ sent l0 kd0 w0) (asked' : ask (s'.boards a) ≡ 1) (list' : (s'.boards a).list ≡ (s.boards a).list)
    (po : (c : ℕ) → c ≢ a → (s'.boards c).place ≡ (s.boards c).place) (ao : (c : ℕ) → c ≢ a → ask (s'.boards c) ≡ ask (s.boards c))
    (lio : (c l : ℕ) → c ≢ a → 1 ≤ occurs l (s.boards c).list → place_of l (s'.boards c).list ≡ place_of l (s.boards c).list)
    (lo : (l : ℕ) → l ≢ l0 → s'.lines l ≡ s.lines l) (row' : (s'.lines l0).row ≡ (s.lines l0).row ++ a ∷ [])
    (ho : (c : ℕ) → holds ((s'.lines l0).state c) ≡ holds ((s.lines l0).state c))
    (wo : (b c : ℕ) → occurs b (s.lines l0).row ≡ 1 → writes ((s'.lines l0).state c) ≡ writes ((s.lines l0).state c)) where
  sent_other : (b l w : ℕ) (kd : Kind) → b ≢ a → (s'.boards b).place ≡ sent l kd w → (s.boards b).place ≡ sent l kd w
  sent_other b l w kd ne e = sym (po b ne) ∙ e

  -- the sender's own limit
  begun : w0 ≤ 2 * p
  begun = omega (arith, k.unsent a l0 w0 kd0 place, t.now)

  not_in : (l : ℕ) → pend (s.boards a).place l ≡ 0
  not_in l = ap (λ d. pend d l) place

  mine_held : (l w h : ℕ) (kd : Kind) → (s'.boards a).place ≡ sent l kd w → writes ((s'.lines l).state h) ≡ 1 → HeldAt n p 0 v s' a l w h
  mine_held l w h kd e y =
      let ww : w ≡ w0 = cc in
      let hn = writing_below n s' l h g' y in
      let pl = place_le a (s'.lines l).row (omega (arith, in_row n s' a l w kd g' e)) in
      let ts = mul_two p _ _ (pot.bounded n (place_of a (s'.lines l).row) (place_of l (s'.boards h).list) (place_pos a (s'.lines l).row)
      (omega (arith, held_row n s' l h g' hn y)) (omega (arith, held_short n s' l h g'))) in
      omega (arith, begun, t.soon h hn)

  mine_open : (l w f : ℕ) (r : List ℕ) (kd : Kind) → (s'.boards a).place ≡ sent l kd w → (s'.lines l).row ≡ f ∷ r → OpenAt n p 0 v s' a l w f
  mine_open l w f r kd e z =
      let ww : w ≡ w0 = cc in
      let pl = place_le a (s'.lines l).row (omega (arith, in_row n s' a l w kd g' e)) in
      let ts = mul_two p _ _ (pot.bounded_free n (place_of a (s'.lines l).row) (place_pos a (s'.lines l).row) (omega (arith, row_short n s' l g'))) in
      omega (arith, begun, times_ask p (s'.boards f), t.soon f (first_below n s' l f r g' z))

  pub send_clock : Clock n p 0 v s'
  send_clock =
      record {
        inside = λ b l w kd e. inside' b l w kd e;
        unsent = λ b l w kd e.
            let ne = not_a b l w kd e in
            let e0 = sym (po b ne) ∙ e in
            rw (ao b ne) (omega (arith, k.unsent b l w kd e0, t.nearer b (k.inside b l w kd e0) ne));
        held = λ b l w h kd e y. elim (cases_eq b a) [
          | inl q ↦ subst (λ (c : ℕ). HeldAt n p 0 v s' c l w h) (sym q) (mine_held l w h kd (subst (λ (c : ℕ). (s'.boards c).place ≡ sent l kd w) q e) y)
          | inr ne ↦ held' l b w h kd ne (sent_other b l w kd ne e) y
        ];
        open' = λ b l w f r kd e y z. elim (cases_eq b a) [
          | inl q ↦ subst (λ (c : ℕ). OpenAt n p 0 v s' c l w f) (sym q) (mine_open l w f r kd (subst (λ (c : ℕ). (s'.boards c).place ≡ sent l kd w) q e) z)
          | inr ne ↦ open'' l b w f r kd ne (sent_other b l w kd ne e) y z
        ];
      }
    where
      not_a : (b l w : ℕ) (kd : Kind) → (s'.boards b).place ≡ posted l kd w → b ≢ a
      not_a b l w kd e q = let ea : (s'.boards a).place ≡ posted l kd w = subst (λ (c : ℕ). (s'.boards c).place ≡ posted l kd w) q e in let z : ◌≡◌ {A = ℕ} 0 1 = cc in omega arith

      inside' : (b l w : ℕ) (kd : Kind) → (s'.boards b).place ≡ posted l kd w → b < n
      inside' b l w kd e = k.inside b l w kd (sym (po b (not_a b l w kd e)) ∙ e)

      -- another holder, at whatever line
      other : (l b w h : ℕ) (kd : Kind) → h ≢ a → (s.boards b).place ≡ sent l kd w → writes ((s.lines l).state h) ≡ 1 → place_of b (s'.lines l).row ≡ place_of b (s.lines l).row → HeldAt n p 0 v s' b l w h
      other l b w h kd nh e y pl =
          let oc : 1 ≤ occurs l (s.boards h).list = omega (arith, (g.cells l h).listed) in
          rw (pl, lio h l nh oc, ao h nh) (omega (arith, k.held b l w h kd e y, t.nearer h (writing_below n s l h g y) nh))

      held0 : (b w h : ℕ) (kd : Kind) → b ≢ a → (s.boards b).place ≡ sent l0 kd w → writes ((s'.lines l0).state h) ≡ 1 → HeldAt n p 0 v s' b l0 w h
      held0 b w h kd ne e y =
          let ir = in_row n s b l0 w kd g e in
          let y0 : writes ((s.lines l0).state h) ≡ 1 = sym (wo b h ir) ∙ y in
          let pl : place_of b (s'.lines l0).row ≡ place_of b (s.lines l0).row = ap (place_of b) row' ∙ place_push b a (s.lines l0).row (omega (arith, ir)) in
          let nh : h ≢ a = λ q.
          let ya : writes ((s'.lines l0).state a) ≡ 1 = subst (λ (c : ℕ). writes ((s'.lines l0).state c) ≡ 1) q y in
          let c0 = (own_put ((s'.lines l0).state a) ((g'.sound l0).small a) ya).calm in
          omega (arith, in_row n s' a l0 w0 kd0 g' place', (g'.sound l0).waiting a) in
          other l0 b w h kd nh e y0 pl

      heldk : (l : ℕ) → l ≢ l0 → (b w h : ℕ) (kd : Kind) → b ≢ a → (s.boards b).place ≡ sent l kd w → writes ((s'.lines l).state h) ≡ 1 → HeldAt n p 0 v s' b l w h
      heldk l nl b w h kd ne e y =
          let y0 : writes ((s.lines l).state h) ≡ 1 = rw (lo l nl) at y in
          elim (cases_eq h a) [
            | inl q ↦
                let ya : writes ((s.lines l).state a) ≡ 1 = subst (λ (c : ℕ). writes ((s.lines l).state c) ≡ 1) q y0 in
                let oc : 1 ≤ occurs l (s.boards a).list = omega (arith, (g.cells l a).listed) in
                rw (q, list', lo l nl) (omega (arith, k.held b l w a kd e ya, times_zero p (ask (s.boards a)) (fresh l oc), times_one p (ask (s'.boards a)) asked', t.now, t.soon a an))
            | inr nh ↦ other l b w h kd nh e y0 (ap (λ (z : Line). place_of b z.row) (lo l nl))
          ]

      held' : (l : ℕ) (b w h : ℕ) (kd : Kind) → b ≢ a → (s.boards b).place ≡ sent l kd w → writes ((s'.lines l).state h) ≡ 1 → HeldAt n p 0 v s' b l w h
      held' = by_line (λ l. (b w h : ℕ) (kd : Kind) → b ≢ a → (s.boards b).place ≡ sent l kd w → writes ((s'.lines l).state h) ≡ 1 → HeldAt n p 0 v s' b l w h) l0 held0 heldk

      first_other : (l f : ℕ) (r : List ℕ) → (s.lines l).row ≡ f ∷ r → f ≢ a
      first_other l f r z q = omega (arith, first_in n s l a r g (subst (λ (c : ℕ). (s.lines l).row ≡ c ∷ r) q z), not_in l)

      first_same : (b f : ℕ) (r q : List ℕ) → 1 ≤ occurs b q → q ++ a ∷ [] ≡ f ∷ r → (r1 : List ℕ) × (q ≡ f ∷ r1)
      first_same b f r [] h e = absurd (not-suc-le-zero h)
      first_same b f r (c ∷ q) h e = (q, ap (λ d. d ∷ q) cc)

      open0 : (b w f : ℕ) (r : List ℕ) (kd : Kind) → b ≢ a → (s.boards b).place ≡ sent l0 kd w → ((c : ℕ) → holds ((s'.lines l0).state c) ≡ 0) → (s'.lines l0).row ≡ f ∷ r → OpenAt n p 0 v s' b l0 w f
      open0 b w f r kd ne e y z =
          let ir = in_row n s b l0 w kd g e in
          let fs = first_same b f r (s.lines l0).row (omega (arith, ir)) (sym row' ∙ z) in
          let nf = first_other l0 f fs.0 fs.1 in
          let pl : place_of b (s'.lines l0).row ≡ place_of b (s.lines l0).row = ap (place_of b) row' ∙ place_push b a (s.lines l0).row (omega (arith, ir)) in
          rw (pl, ao f nf) (omega (arith, k.open' b l0 w f fs.0 kd e (λ c. sym (ho c) ∙ y c) fs.1, t.nearer f (first_below n s l0 f fs.0 g fs.1) nf))

      openk : (l : ℕ) → l ≢ l0 → (b w f : ℕ) (r : List ℕ) (kd : Kind) → b ≢ a → (s.boards b).place ≡ sent l kd w → ((c : ℕ) → holds ((s'.lines l).state c) ≡ 0) → (s'.lines l).row ≡ f ∷ r → OpenAt n p 0 v s' b l w f
      openk l nl b w f r kd ne e y z =
          let z0 : (s.lines l).row ≡ f ∷ r = rw (lo l nl) at z in
          let y0 : (c : ℕ) → holds ((s.lines l).state c) ≡ 0 = λ c. rw (lo l nl) at (y c) in
          let nf = first_other l f r z0 in
          rw (lo l nl, ao f nf) (omega (arith, k.open' b l w f r kd e y0 z0, t.nearer f (first_below n s l f r g z0) nf))

      open'' : (l : ℕ) (b w f : ℕ) (r : List ℕ) (kd : Kind) → b ≢ a → (s.boards b).place ≡ sent l kd w → ((c : ℕ) → holds ((s'.lines l).state c) ≡ 0) → (s'.lines l).row ≡ f ∷ r → OpenAt n p 0 v s' b l w f
      open'' = by_line (λ l. (b w f : ℕ) (r : List ℕ) (kd : Kind) → b ≢ a → (s.boards b).place ≡ sent l kd w → ((c : ℕ) → holds ((s'.lines l).state c) ≡ 0) → (s'.lines l).row ≡ f ∷ r → OpenAt n p 0 v s' b l w f) l0 open0 openk
