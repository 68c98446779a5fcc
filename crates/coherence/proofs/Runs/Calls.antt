-- The board calls keep what every run keeps.
use Rattle.std.proofs.Common.{◌≡◌, ℕ, ◌+◌, ◌*◌, ◌<◌, ◌≤◌, true, false, not, eqb, ◌≢◌, length, sym, refl, ap, ◌∙◌, subst, inl, inr, arith}
use Rattle.std.proofs.lemmas.Bool.{cases_eq, cond-true, cond-false, eq-eqb, ne_eqb}
use Rattle.coherence.proofs.Line.Codes.{next, holds, waits, writes}
use Rattle.coherence.proofs.Line.Sound.{update, Sound}
use Rattle.coherence.proofs.Line.Sends.{update_same, update_other}
use Rattle.coherence.proofs.Line.Own.{own}
use Rattle.rules.specs.declared.kind.Kind.{Kind}
use Rattle.rules.specs.declared.kind.Kind.TheVariants.{Load, Store}
use Rattle.rules.specs.Boards.{Place, free, posted, sent, served}
use Rattle.coherence.proofs.Runs.Reading.{Board, Line, Reading}
use Rattle.coherence.proofs.Runs.Changes.{post, post_line, hitting, clear, hits}
use Rattle.coherence.proofs.Runs.Good.{pend, agrees, Cell, Good, unsent_fits}
use Rattle.coherence.proofs.Runs.Clock.{ask, Clock}
use Rattle.coherence.proofs.Runs.Each.{each}
use Rattle.coherence.proofs.Runs.Facts.{post_load, post_store, Posted, fits_post, unsent_store}
use Rattle.coherence.proofs.Runs.WriteBackClock.{times_ask}

-- nothing moves but requests that are not sent
pub quiet_clock : (n p : ℕ) (u : ℕ → ℕ) (s s' : Reading) → Clock n p 0 u s
    → ((b l w : ℕ) (kd : Kind) → (s'.boards b).place ≡ posted l kd w → (b < n) × (w + p * ask (s'.boards b) + u b ≤ 2 * p + 0))
    → ((b l w : ℕ) (kd : Kind) → (s'.boards b).place ≡ sent l kd w → (s.boards b).place ≡ sent l kd w)
    → ((c : ℕ) → ask (s'.boards c) ≡ ask (s.boards c)) → ((c : ℕ) → (s'.boards c).list ≡ (s.boards c).list)
    → ((l : ℕ) → (s'.lines l).row ≡ (s.lines l).row)
    → ((l c : ℕ) → writes ((s'.lines l).state c) ≡ writes ((s.lines l).state c)) → ((l c : ℕ) → holds ((s'.lines l).state c) ≡ holds ((s.lines l).state c))
    → Clock n p 0 u s'
quiet_clock n p u s s' k po so ao lo ro wo ho =
    record {
      inside = λ b l w kd e. (po b l w kd e).0;
      unsent = λ b l w kd e. (po b l w kd e).1;
      held = λ b l w h kd e y. rw (ao h, lo h, ro l) (k.held b l w h kd (so b l w kd e) (sym (wo l h) ∙ y));
      open' = λ b l w f r kd e y z. rw (ao f, ro l) (k.open' b l w f r kd (so b l w kd e) (λ c. sym (ho l c) ∙ y c) (sym (ro l) ∙ z));
    }

with_place : Place → Board → Board
with_place q b = record { place = q; list = b.list; asked = b.asked; mark = b.mark }

cell_placed : (x y l : ℕ) (q : Place) (b : Board) (r : ℕ) → writes y ≡ writes x → waits y ≡ pend q l → agrees q l y ≡ true → Cell x l b r → Cell y l (with_place q b) r
unfolding with_place
cell_placed x y l q b r w e a c = record { listed = c.listed ∙ sym w; pending = e; agreed = a; needed = λ h. c.needed (sym w ∙ h) }

module _ (n b l : ℕ) (s : Reading) (g : Good n s) (bn : b < n) (empty : (s.boards b).place ≡ free) where
  calm : (m : ℕ) → waits ((s.lines m).state b) ≡ 0
  calm m = (g.cells m b).pending ∙ ap (λ q. pend q m) empty

  not5 : (m : ℕ) → not (eqb ((s.lines m).state b) 5) ≡ true
  not5 m = sym (ap (λ q. agrees q m ((s.lines m).state b)) empty) ∙ (g.cells m b).agreed

  agreeing : (kd : Kind) (m y : ℕ) → (m ≡ l → unsent_fits kd y ≡ true) → (m ≢ l → y ≡ (s.lines m).state b) → agrees (posted l kd 0) m y ≡ true
  agreeing kd m y f e =
      elim (cases_eq m l) [
        | inl q ↦ cond-true (eqb m l) (unsent_fits kd y) (not (eqb y 5)) (eq-eqb m l q) ∙ f q
        | inr ne ↦ cond-false (eqb m l) (unsent_fits kd y) (not (eqb y 5)) (ne_eqb m l ne) ∙ ap (λ z. not (eqb z 5)) (e ne) ∙ not5 m
      ]

  pub post_good : (kd : Kind) → hits kd ((s.lines l).state b) ≡ false → Good n (post b l kd s)
  unfolding post post_line with_place
  post_good Load h =
      record {
        sound = g.sound;
        outside = g.outside;
        cells = λ m. each (λ c (z : Board). Cell ((s.lines m).state c) m z (length (s.lines m).row)) s.boards b _
            (cell_placed ((s.lines m).state b) ((s.lines m).state b) m (posted l Load 0) (s.boards b) (length (s.lines m).row) refl (calm m)
            (agreeing Load m ((s.lines m).state b)
            (λ q. post_load ((s.lines m).state b) ((g.sound m).small b) (calm m) (not5 m) (subst (λ (i : ℕ). hits Load ((s.lines i).state b) ≡ false) (sym q) h)) (λ _. refl))
            (g.cells m b))
            (λ c _. g.cells m c);
      }
  post_good (Store v) h =
      record {
        sound = each (λ k ln. Sound ln.state ln.row) s.lines l _
            (own x b (next (x b) 0) (s.lines l).row (g.sound l).small (g.sound l).fit ((g.sound l).waiting b ∙ calm l) (λ c _. (g.sound l).waiting c) (g.sound l).ordered
            f.small f.calm (λ c ne. fits_post (x b) (x c) ((g.sound l).small b) ((g.sound l).small c) f.fitting ((g.sound l).fit b c (λ q. ne (sym q)))))
            (λ k _. g.sound k);
        outside = each (λ k ln. (c : ℕ) → n ≤ c → ln.state c ≡ 0) s.lines l _
            (λ c h. let ne : c ≢ b = omega arith in update_other x b c (next (x b) 0) ne ∙ g.outside l c h) (λ k _. g.outside k);
        cells = each (λ k ln. (c : ℕ) → Cell (ln.state c) k (update s.boards b mineB c) (length ln.row)) s.lines l _ here there;
      }
    where
      x : ℕ → ℕ
      x = (s.lines l).state

      f : Posted ((s.lines l).state b) (next ((s.lines l).state b) 0)
      f = post_store ((s.lines l).state b) ((g.sound l).small b) (calm l) (not5 l) h

      mineB : Board
      mineB = with_place (posted l (Store v) 0) (s.boards b)

      here : (c : ℕ) → Cell (update x b (next (x b) 0) c) l (update s.boards b mineB c) (length (s.lines l).row)
      here c = elim (cases_eq c b) [
        | inl q ↦ rw (q, update_same x b (next (x b) 0), update_same s.boards b mineB)
            (cell_placed (x b) (next (x b) 0) l (posted l (Store v) 0) (s.boards b) (length (s.lines l).row) f.silent f.calm
            (agreeing (Store v) l (next (x b) 0) (λ _. unsent_store v (next (x b) 0) f.fitting) (λ ne. absurd (ne refl))) (g.cells l b))
        | inr ne ↦ rw (update_other x b c (next (x b) 0), update_other s.boards b c mineB) (g.cells l c)
      ]

      there : (k : ℕ) → k ≢ l → (c : ℕ) → Cell ((s.lines k).state c) k (update s.boards b mineB c) (length (s.lines k).row)
      there k nk c = elim (cases_eq c b) [
        | inl q ↦ rw (q, update_same s.boards b mineB)
            (cell_placed ((s.lines k).state b) ((s.lines k).state b) k (posted l (Store v) 0) (s.boards b) (length (s.lines k).row) refl (calm k)
            (agreeing (Store v) k ((s.lines k).state b) (λ q. absurd (nk q)) (λ _. refl)) (g.cells k b))
        | inr ne ↦ rw (update_other s.boards b c mineB) (g.cells k c)
      ]

  pub post_clock : (kd : Kind) (p : ℕ) (u : ℕ → ℕ) → hits kd ((s.lines l).state b) ≡ false → u b ≤ p → Clock n p 0 u s → Clock n p 0 u (post b l kd s)
  unfolding post post_line with_place
  post_clock Load p u h ub k = quiet_clock n p u s (post b l Load s) k
      (each (λ c (z : Board). (m w : ℕ) (kd : Kind) → z.place ≡ posted m kd w → (c < n) × (w + p * ask z + u c ≤ 2 * p + 0)) s.boards b _
      (λ m w kd e. (bn, let w0 : w ≡ 0 = cc in omega (arith, times_ask p (s.boards b)))) (λ c _ m w kd e. (k.inside c m w kd e, k.unsent c m w kd e)))
      (each (λ c (z : Board). (m w : ℕ) (kd : Kind) → z.place ≡ sent m kd w → (s.boards c).place ≡ sent m kd w) s.boards b _ (λ m w kd e. absurd (let z : ◌≡◌ {A = ℕ} 0 1 = cc in omega arith)) (λ c _ m w kd e. e))
      (each (λ c (z : Board). ask z ≡ ask (s.boards c)) s.boards b _ refl (λ c _. refl))
      (each (λ c (z : Board). z.list ≡ (s.boards c).list) s.boards b _ refl (λ c _. refl))
      (λ m. refl) (λ m c. refl) (λ m c. refl)
  post_clock (Store v) p u h ub k = quiet_clock n p u s (post b l (Store v) s) k
      (each (λ c (z : Board). (m w : ℕ) (kd : Kind) → z.place ≡ posted m kd w → (c < n) × (w + p * ask z + u c ≤ 2 * p + 0)) s.boards b _
      (λ m w kd e. (bn, let w0 : w ≡ 0 = cc in omega (arith, times_ask p (s.boards b)))) (λ c _ m w kd e. (k.inside c m w kd e, k.unsent c m w kd e)))
      (each (λ c (z : Board). (m w : ℕ) (kd : Kind) → z.place ≡ sent m kd w → (s.boards c).place ≡ sent m kd w) s.boards b _ (λ m w kd e. absurd (let z : ◌≡◌ {A = ℕ} 0 1 = cc in omega arith)) (λ c _ m w kd e. e))
      (each (λ c (z : Board). ask z ≡ ask (s.boards c)) s.boards b _ refl (λ c _. refl))
      (each (λ c (z : Board). z.list ≡ (s.boards c).list) s.boards b _ refl (λ c _. refl))
      (each (λ m (z : Line). z.row ≡ (s.lines m).row) s.lines l _ refl (λ m _. refl))
      (each (λ m (z : Line). (c : ℕ) → writes (z.state c) ≡ writes ((s.lines m).state c)) s.lines l _
      (each (λ c y. writes y ≡ writes ((s.lines l).state c)) (s.lines l).state b _ f.silent (λ c _. refl)) (λ m _ c. refl))
      (each (λ m (z : Line). (c : ℕ) → holds (z.state c) ≡ holds ((s.lines m).state c)) s.lines l _
      (each (λ c y. holds y ≡ holds ((s.lines l).state c)) (s.lines l).state b _ f.holding (λ c _. refl)) (λ m _ c. refl))
    where
      f : Posted ((s.lines l).state b) (next ((s.lines l).state b) 0)
      f = post_store ((s.lines l).state b) ((g.sound l).small b) (calm l) (not5 l) h

-- a collected request
module _ (n b l q w : ℕ) (kd : Kind) (s : Reading) (g : Good n s) (full : (s.boards b).place ≡ served l kd q w) where
  pub clear_good : Good n (clear b s)
  unfolding clear with_place
  clear_good =
      record {
        sound = g.sound;
        outside = g.outside;
        cells = λ m. each (λ c (z : Board). Cell ((s.lines m).state c) m z (length (s.lines m).row)) s.boards b _
            (cell_placed ((s.lines m).state b) ((s.lines m).state b) m free (s.boards b) (length (s.lines m).row) refl
            ((g.cells m b).pending ∙ ap (λ z. pend z m) full) (sym (ap (λ z. agrees z m ((s.lines m).state b)) full) ∙ (g.cells m b).agreed) (g.cells m b))
            (λ c _. g.cells m c);
      }

  pub clear_clock : (p : ℕ) (u : ℕ → ℕ) → Clock n p 0 u s → Clock n p 0 u (clear b s)
  unfolding clear with_place
  clear_clock p u k = quiet_clock n p u s (clear b s) k
      (each (λ c (z : Board). (m w : ℕ) (kd : Kind) → z.place ≡ posted m kd w → (c < n) × (w + p * ask z + u c ≤ 2 * p + 0)) s.boards b _
      (λ m w kd e. absurd (let z : ◌≡◌ {A = ℕ} 0 1 = cc in omega arith)) (λ c _ m w kd e. (k.inside c m w kd e, k.unsent c m w kd e)))
      (each (λ c (z : Board). (m w : ℕ) (kd : Kind) → z.place ≡ sent m kd w → (s.boards c).place ≡ sent m kd w) s.boards b _ (λ m w kd e. absurd (let z : ◌≡◌ {A = ℕ} 0 1 = cc in omega arith)) (λ c _ m w kd e. e))
      (each (λ c (z : Board). ask z ≡ ask (s.boards c)) s.boards b _ refl (λ c _. refl))
      (each (λ c (z : Board). z.list ≡ (s.boards c).list) s.boards b _ refl (λ c _. refl))
      (λ m. refl) (λ m c. refl) (λ m c. refl)

-- a hit
pub hit_good : (n b l : ℕ) (kd : Kind) (s : Reading) → Good n s → Good n (hitting b l kd s)
unfolding hitting
hit_good n b l Load s g = g
hit_good n b l (Store v) s g =
    record {
      sound = each (λ k ln. Sound ln.state ln.row) s.lines l _ (g.sound l) (λ k _. g.sound k);
      outside = each (λ k ln. (c : ℕ) → n ≤ c → ln.state c ≡ 0) s.lines l _ (g.outside l) (λ k _. g.outside k);
      cells = each (λ k ln. (c : ℕ) → Cell (ln.state c) k (s.boards c) (length ln.row)) s.lines l _ (g.cells l) (λ k _. g.cells k);
    }

pub hit_clock : (n p b l : ℕ) (u : ℕ → ℕ) (kd : Kind) (s : Reading) → Clock n p 0 u s → Clock n p 0 u (hitting b l kd s)
unfolding hitting
hit_clock n p b l u Load s k = k
hit_clock n p b l u (Store v) s k = quiet_clock n p u s (hitting b l (Store v) s) k
    (λ c m w kd e. (k.inside c m w kd e, k.unsent c m w kd e)) (λ c m w kd e. e) (λ c. refl) (λ c. refl)
    (each (λ m (z : Line). z.row ≡ (s.lines m).row) s.lines l _ refl (λ m _. refl))
    (each (λ m (z : Line). (c : ℕ) → writes (z.state c) ≡ writes ((s.lines m).state c)) s.lines l _ (λ c. refl) (λ m _ c. refl))
    (each (λ m (z : Line). (c : ℕ) → holds (z.state c) ≡ holds ((s.lines m).state c)) s.lines l _ (λ c. refl) (λ m _ c. refl))
