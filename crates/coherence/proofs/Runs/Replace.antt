-- Replacement keeps what every run keeps.
use Rattle.std.proofs.Common.{◌≡◌, ℕ, suc, ◌<◌, ◌≤◌, Bool, true, false, not, ◌&&◌, ◌||◌, eqb, ◌≢◌, length, sym, refl, ap, ◌∙◌, inl, inr, arith}
use Rattle.std.proofs.lemmas.Bool.{cases_eq, cond-true, cond-false, eq-eqb, ne_eqb, eqb-true, and_cases, not-false, false≢true}
use Rattle.coherence.proofs.Turns.Counts.{occurs}
use Rattle.coherence.proofs.Line.Codes.{next, holds, copies, waits, writes}
use Rattle.coherence.proofs.Line.Sound.{update, Sound}
use Rattle.coherence.proofs.Line.Sends.{update_same, update_other, occurs_push}
use Rattle.coherence.proofs.Line.Own.{own}
use Rattle.rules.specs.declared.kind.Kind.{Kind}
use Rattle.rules.specs.Boards.{free, sent, served}
use Rattle.coherence.proofs.Runs.Reading.{Board, Line, Reading, keep}
use Rattle.coherence.proofs.Runs.Changes.{replaces, replace_line, mark_board}
use Rattle.coherence.specs.Book.{Book}
use Rattle.coherence.proofs.Runs.Good.{pend, agrees, marked, Cell, Good}
use Rattle.coherence.proofs.Runs.Clock.{place_of, ask, Clock}
use Rattle.coherence.proofs.Runs.Each.{each}
use Rattle.coherence.proofs.Runs.Facts.{Replaced, own_replaced, wait_no_m, wait_not_m}
use Rattle.coherence.proofs.Runs.Places.{place_push}
use Rattle.coherence.proofs.Runs.WriteBackClock.{in_row}
use Rattle.coherence.proofs.Runs.Done.{Done}
use Rattle.coherence.proofs.Runs.Values.{Fresh}
use Rattle.coherence.proofs.Runs.Booked.{Told, view}

mark_place : (t : Bool) (l : ℕ) (b : Board) → (mark_board t l b).place ≡ b.place
mark_place true l b = refl
mark_place false l b = refl

mark_ask : (t : Bool) (l : ℕ) (b : Board) → ask (mark_board t l b) ≡ ask b
mark_ask true l b = refl
mark_ask false l b = refl

mark_list : (t : Bool) (l k : ℕ) (b : Board) → 1 ≤ occurs k b.list → place_of k (mark_board t l b).list ≡ place_of k b.list
mark_list true l k b h = place_push k l b.list h
mark_list false l k b h = refl

module _ (n b l : ℕ) (s : Reading) (g : Good n s) (bn : b < n) (empty : (s.boards b).place ≡ free)
    (may : (eqb ((s.lines l).state b) 0 || eqb ((s.lines l).state b) 6) ≡ false)
    (single-mark : (eqb ((s.lines l).state b) 2 && not (eqb (s.boards b).mark 0)) ≡ false) where
  calm : (m : ℕ) → waits ((s.lines m).state b) ≡ 0
  calm m = (g.cells m b).pending ∙ ap (λ q. pend q m) empty

  f : Replaced ((s.lines l).state b) (next ((s.lines l).state b) 3)
  f = own_replaced ((s.lines l).state b) ((g.sound l).small b) (calm l) (sym (ap (λ q. agrees q l ((s.lines l).state b)) empty) ∙ (g.cells l b).agreed) may

  no_mark : eqb ((s.lines l).state b) 2 ≡ true → (s.boards b).mark ≡ 0
  no_mark h = elim (and_cases (eqb ((s.lines l).state b) 2) (not (eqb (s.boards b).mark 0)) single-mark)
      [ inl q ↦ absurd (false≢true (sym q ∙ h)) | inr q ↦ eqb-true (s.boards b).mark 0 (not-false (eqb (s.boards b).mark 0) q) ]

  here_b : (t : Bool) → eqb ((s.lines l).state b) 2 ≡ t → Cell (next ((s.lines l).state b) 3) l (mark_board t l (s.boards b)) (length (s.lines l).row)
  here_b true h =
      record {
        listed = rw (occurs_push l l (s.boards b).list, cond-true {A = ℕ} (eqb l l) 1 0 (eq-eqb l l refl)) (omega (arith, (g.cells l b).listed, f.from_m h));
        pending = f.calm ∙ sym (ap (λ q. pend q l) empty);
        agreed = rw empty f.not5;
        needed = λ _. rw (cond-true {A = ℕ} (eqb (suc l) (suc l)) 1 0 (eq-eqb (suc l) (suc l) refl)) (omega arith);
      }
  here_b false h =
      record {
        listed = (g.cells l b).listed ∙ sym (f.not_m h);
        pending = f.calm ∙ sym (ap (λ q. pend q l) empty);
        agreed = rw empty f.not5;
        needed = λ w. (g.cells l b).needed (sym (f.not_m h) ∙ w);
      }

  there_b : (t : Bool) → eqb ((s.lines l).state b) 2 ≡ t → (k : ℕ) → k ≢ l → Cell ((s.lines k).state b) k (mark_board t l (s.boards b)) (length (s.lines k).row)
  there_b true h k ne =
      record {
        listed = rw (occurs_push k l (s.boards b).list, cond-false {A = ℕ} (eqb k l) 1 0 (ne_eqb k l ne)) (omega (arith, (g.cells k b).listed));
        pending = (g.cells k b).pending;
        agreed = (g.cells k b).agreed;
        needed = λ w. let m0 : marked (s.boards b).mark k ≡ 0 = rw (no_mark h) (cond-false {A = ℕ} (eqb 0 (suc k)) 1 0 (ne_eqb 0 (suc k) (omega arith))) in omega (arith, (g.cells k b).needed w);
      }
  there_b false h k ne = g.cells k b

  pub replace_good : Good n (replaces b l s)
  unfolding replaces replace_line
  replace_good =
      record {
        sound = each (λ k ln. Sound ln.state ln.row) s.lines l _
            (own x b (next (x b) 3) (s.lines l).row (g.sound l).small (g.sound l).fit ((g.sound l).waiting b ∙ calm l) (λ c _. (g.sound l).waiting c) (g.sound l).ordered
            f.small f.calm (λ c ne. f.beside (x c) ((g.sound l).small c) ((g.sound l).fit b c (λ q. ne (sym q)))))
            (λ k _. g.sound k);
        outside = each (λ k ln. (c : ℕ) → n ≤ c → ln.state c ≡ 0) s.lines l _
            (λ c h. let ne : c ≢ b = omega arith in update_other x b c (next (x b) 3) ne ∙ g.outside l c h) (λ k _. g.outside k);
        cells = each (λ k ln. (c : ℕ) → Cell (ln.state c) k (update s.boards b mineB c) (length ln.row)) s.lines l _
            (λ c. elim (cases_eq c b) [
              | inl q ↦ rw (q, update_same x b (next (x b) 3), update_same s.boards b mineB) (here_b (eqb (x b) 2) refl)
              | inr ne ↦ rw (update_other x b c (next (x b) 3), update_other s.boards b c mineB) (g.cells l c)
            ])
            (λ k nk c. elim (cases_eq c b) [
              | inl q ↦ rw (q, update_same s.boards b mineB) (there_b (eqb (x b) 2) refl k nk)
              | inr ne ↦ rw (update_other s.boards b c mineB) (g.cells k c)
            ]);
      }
    where
      x : ℕ → ℕ
      x = (s.lines l).state

      mineB : Board
      mineB = mark_board (eqb ((s.lines l).state b) 2) l (s.boards b)

  pub replace_done : (z : ℕ) → Done z s → Done z (replaces b l s)
  unfolding replaces
  replace_done z d = each (λ c (y : Board). (m q w : ℕ) (kd : Kind) → y.place ≡ served m kd q w → w ≤ z) s.boards b _
      (λ m q w kd e. d b m q w kd (sym (mark_place (eqb ((s.lines l).state b) 2) l (s.boards b)) ∙ e)) (λ c _. d c)

  pub replace_told : (k : Book) → Told k s → Told k (replaces b l s)
  unfolding replaces replace_line
  replace_told k t =
      record {
        fresh = each (λ m (y : Line). Fresh (k.words m) y) s.lines l _
            (record {
              copy = λ c. elim (cases_eq c b) [
                | inl q ↦ rw (q, update_same x b (next (x b) 3), update_same (s.lines l).word b (keep (next (x b) 3) ((s.lines l).word b)))
                    (λ y. cond-true (eqb (copies (next (x b) 3)) 1) ((s.lines l).word b) 0 (eq-eqb (copies (next (x b) 3)) 1 y) ∙ (t.fresh l).copy b (f.copying y))
                | inr ne ↦ rw (update_other x b c (next (x b) 3), update_other (s.lines l).word b c (keep (next (x b) 3) ((s.lines l).word b))) ((t.fresh l).copy c)
              ];
              memory = λ y. (t.fresh l).memory (λ c. sym (holding c) ∙ y c);
            })
            (λ m _. t.fresh m);
        noted = each (λ c (y : Board). k.notes c ≡ view y.place) s.boards b _ (t.noted b ∙ ap view (sym (mark_place (eqb (x b) 2) l (s.boards b)))) (λ c _. t.noted c);
      }
    where
      x : ℕ → ℕ
      x = (s.lines l).state

      holding : (c : ℕ) → holds (update x b (next (x b) 3) c) ≡ holds (x c)
      holding = each (λ c y. holds y ≡ holds (x c)) x b (next (x b) 3) f.holding (λ c _. refl)

  pub replace_clock : (p : ℕ) (u : ℕ → ℕ) → Clock n p 0 u s → Clock n p 0 u (replaces b l s)
  unfolding replaces replace_line
  replace_clock p u k =
      record {
        inside = λ c m w kd e. k.inside c m w kd (sym (pl c) ∙ e);
        unsent = λ c m w kd e. rw (as' c) (k.unsent c m w kd (sym (pl c) ∙ e));
        held = λ c m w h kd e y.
            let e0 = sym (pl c) ∙ e in
            let y0 = wr c m w h kd e0 y in
            rw (as' h, ro m, li h m (omega (arith, (g.cells m h).listed))) (k.held c m w h kd e0 y0);
        open' = λ c m w q r kd e y z. rw (as' q, ro m) (k.open' c m w q r kd (sym (pl c) ∙ e) (λ i. sym (ho m i) ∙ y i) (sym (ro m) ∙ z));
      }
    where
      x : ℕ → ℕ
      x = (s.lines l).state

      pl : (c : ℕ) → ((replaces b l s).boards c).place ≡ (s.boards c).place
      pl = each (λ c (y : Board). y.place ≡ (s.boards c).place) s.boards b _ (mark_place (eqb (x b) 2) l (s.boards b)) (λ c _. refl)

      as' : (c : ℕ) → ask ((replaces b l s).boards c) ≡ ask (s.boards c)
      as' = each (λ c (y : Board). ask y ≡ ask (s.boards c)) s.boards b _ (mark_ask (eqb (x b) 2) l (s.boards b)) (λ c _. refl)

      li : (c m : ℕ) → 1 ≤ occurs m (s.boards c).list → place_of m ((replaces b l s).boards c).list ≡ place_of m (s.boards c).list
      li = each (λ c (y : Board). (m : ℕ) → 1 ≤ occurs m (s.boards c).list → place_of m y.list ≡ place_of m (s.boards c).list) s.boards b _ (λ m oc. mark_list (eqb (x b) 2) l m (s.boards b) oc) (λ c _ m oc. refl)

      ro : (m : ℕ) → ((replaces b l s).lines m).row ≡ (s.lines m).row
      ro = each (λ m (y : Line). y.row ≡ (s.lines m).row) s.lines l _ refl (λ m _. refl)

      ho : (m c : ℕ) → holds (((replaces b l s).lines m).state c) ≡ holds ((s.lines m).state c)
      ho = each (λ m (y : Line). (c : ℕ) → holds (y.state c) ≡ holds ((s.lines m).state c)) s.lines l _
          (each (λ c y. holds y ≡ holds (x c)) x b (next (x b) 3) f.holding (λ c _. refl)) (λ m _ c. refl)

      no_m : (c w : ℕ) (kd : Kind) → (s.boards c).place ≡ sent l kd w → eqb (x b) 2 ≡ false
      no_m c w kd e =
          let wc : waits (x c) ≡ 1 = sym ((g.sound l).waiting c) ∙ in_row n s c l w kd g e in
          elim (cases_eq b c) [
            | inl q ↦ rw q (wait_not_m (x c) ((g.sound l).small c) wc)
            | inr ne ↦ wait_no_m (x c) (x b) ((g.sound l).small c) ((g.sound l).small b) ((g.sound l).fit c b (λ q. ne (sym q))) wc
          ]

      wr : (c m w h : ℕ) (kd : Kind) → (s.boards c).place ≡ sent m kd w → writes (((replaces b l s).lines m).state h) ≡ 1 → writes ((s.lines m).state h) ≡ 1
      wr c m w h kd = each (λ m (y : Line). (s.boards c).place ≡ sent m kd w → writes (y.state h) ≡ 1 → writes ((s.lines m).state h) ≡ 1) s.lines l _
          (λ e. each (λ i y. writes y ≡ 1 → writes (x i) ≡ 1) x b (next (x b) 3) (λ y. sym (f.not_m (no_m c w kd e)) ∙ y) (λ i _ y. y) h)
          (λ m _ e y. y) m
