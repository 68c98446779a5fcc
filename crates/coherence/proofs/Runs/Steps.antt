-- Each step keeps what every run keeps.
use Rattle.std.proofs.Common.{◌≡◌, ℕ, zero, suc, ◌+◌, ◌<◌, ◌≤◌, true, false, cond, not, eqb, ◌≢◌, List, [], ◌∷◌, ◌++◌, length, drop, sym, refl, ap, ◌∙◌, subst, inl, inr, not-suc-le-zero, arith, length-append}
use Rattle.std.proofs.lemmas.Bool.{cases_eq, cond-true, cond-false, eq-eqb, ne_eqb, cases_lt, ltb-false}
use Rattle.coherence.proofs.Turns.Counts.{occurs, total}
use Rattle.coherence.proofs.Line.Codes.{table, next, holds, copies, waits, writes, wants}
use Rattle.coherence.proofs.Line.Sound.{update, snoop, Sound, fits}
use Rattle.coherence.proofs.Line.Own.{data_keeps, put_keeps, upg_keeps}
use Rattle.coherence.proofs.Line.Sends.{snoop_own, snoop_other, update_same, update_other}
use Rattle.rules.specs.declared.kind.Kind.{Kind}
use Rattle.rules.specs.declared.kind.Kind.TheVariants.{Store}
use Rattle.rules.specs.Boards.{Place, posted, sent, served}
use Rattle.rules.specs.Boards.{result_of}
use Rattle.coherence.proofs.Runs.Reading.{Board, Reading, ask_board, put_board, with_list, send_line, sends, aged, held, serves, serve_line, puts, put_line, upgrades, upg_line}
use Rattle.coherence.proofs.Runs.Good.{pend, Cell, Good, unsent_fits, sent_fits}
use Rattle.coherence.proofs.Runs.Each.{each}
use Rattle.coherence.proofs.Runs.Facts.{Sent, Written, Dropped, own_data, own_put, upg_beside, writes_holds, holds_le}
use Rattle.coherence.proofs.Runs.Cells.{cell_aged, cell_with, cell_asked, cell_put, cell_snooped, cell_served, cell_written, cell_dropped}

pub aged_keeps : (n : ℕ) (s : Reading) → Good n s → Good n (aged s)
unfolding aged
aged_keeps n s g =
    record {
      sound = g.sound;
      outside = g.outside;
      cells = λ l c. cell_aged ((s.lines l).state c) l (s.boards c) (length (s.lines l).row) (g.cells l c);
    }

-- b's own cell at the line that it sends for
cell_sender : (kd : Kind) (x y l w : ℕ) (b : Board) (r : ℕ) → Sent kd x y → Cell x l b r → Cell y l (ask_board (sent l kd w) b) (r + 1)
unfolding ask_board
cell_sender kd x y l w b r f c =
    record {
      listed = omega (arith, c.listed, f.silent, f.still);
      pending = rw (cond-true {A = ℕ} (eqb l l) 1 0 (eq-eqb l l refl)) f.waited;
      agreed = rw (cond-true (eqb l l) (sent_fits kd y) (not (eqb y 5)) (eq-eqb l l refl)) f.fitting;
      needed = λ q. omega arith;
    }

module _ (n b l act e w : ℕ) (kd : Kind) (he : e < 2) (s : Reading) (g : Good n s) (hb : b < n)
    (place : (s.boards b).place ≡ posted l kd w)
    (line : Sound (snoop (s.lines l).state b act (e + 7)) ((s.lines l).row ++ b ∷ []))
    (mine : Sent kd ((s.lines l).state b) (next ((s.lines l).state b) act))
    (zero-stays : next 0 (e + 7) ≡ 0) where
  row_length : length ((s.lines l).row ++ b ∷ []) ≡ length (s.lines l).row + 1
  row_length = length-append (s.lines l).row (b ∷ [])

  pub sends_keeps : Good n (sends b l act (e + 7) (sent l kd w) s)
  unfolding sends send_line
  sends_keeps =
      record {
        sound = each (λ k ln. Sound ln.state ln.row) s.lines l _ line (λ k _. g.sound k);
        outside = each (λ k ln. (c : ℕ) → n ≤ c → ln.state c ≡ 0) s.lines l _
            (λ c h. let ne : c ≢ b = omega arith in
            snoop_other (s.lines l).state b act (e + 7) c ne ∙ ap (λ v. next v (e + 7)) (g.outside l c h) ∙ zero-stays)
            (λ k _. g.outside k);
        cells = each (λ k ln. (c : ℕ) → Cell (ln.state c) k ((sends b l act (e + 7) (sent l kd w) s).boards c) (length ln.row)) s.lines l _ here there;
      }
    where
      x : ℕ → ℕ
      x = (s.lines l).state

      others : ℕ → Board
      others c = with_list (eqb ((s.lines l).state c) 2) l (s.boards c)

      mineB : Board
      mineB = ask_board (sent l kd w) (s.boards b)

      here : (c : ℕ) → Cell (snoop (s.lines l).state b act (e + 7) c) l ((sends b l act (e + 7) (sent l kd w) s).boards c) (length ((s.lines l).row ++ b ∷ []))
      here c =
          elim (cases_eq c b) [
            | inl q ↦ rw (q, snoop_own x b act (e + 7), update_same others b mineB, row_length)
                (cell_sender kd (x b) (next (x b) act) l w (s.boards b) (length (s.lines l).row) mine (g.cells l b))
            | inr ne ↦ rw (snoop_other x b act (e + 7) c, update_other others b c mineB, row_length)
                (cell_snooped e he (x c) l (s.boards c) (length (s.lines l).row) ((g.sound l).small c) (g.cells l c))
          ]

      there : (k : ℕ) → k ≢ l → (c : ℕ) → Cell ((s.lines k).state c) k ((sends b l act (e + 7) (sent l kd w) s).boards c) (length (s.lines k).row)
      there k nk c =
          elim (cases_eq c b) [
            | inl q ↦ rw (q, update_same others b mineB)
                (cell_asked ((s.lines k).state b) k (s.boards b) (length (s.lines k).row) (sent l kd w)
                (rw (place, cond-false {A = ℕ} (eqb k l) 1 0 (ne_eqb k l nk)))
                (rw (
                  place,
                  cond-false (eqb k l) (sent_fits kd ((s.lines k).state b)) (not (eqb ((s.lines k).state b) 5)) (ne_eqb k l nk),
                  cond-false (eqb k l) (unsent_fits kd ((s.lines k).state b)) (not (eqb ((s.lines k).state b) 5)) (ne_eqb k l nk),
                ))
                (g.cells k b))
            | inr ne ↦ rw (update_other others b c mineB)
                (cell_with (eqb (x c) 2) ((s.lines k).state c) k l (s.boards c) (length (s.lines k).row) nk (g.cells k c))
          ]

-- no holder below n is none
pub total_none : (n c : ℕ) (f : ℕ → ℕ) → total n f ≡ 0 → c < n → f c ≡ 0
total_none zero c f h k = absurd (not-suc-le-zero k)
total_none (suc n) c f h k =
    elim (cases_eq c n) [
      | inl q ↦ rw q (omega arith)
      | inr ne ↦ total_none n c f (omega arith) (omega arith)
    ]

pub none_holds : (n : ℕ) (s : Reading) (l : ℕ) → Good n s → held n (s.lines l) ≡ false → (c : ℕ) → holds ((s.lines l).state c) ≡ 0
unfolding holds
none_holds n s l g h c =
    elim (cases_lt c n) [
      | inl k ↦ total_none n c (λ c. holds ((s.lines l).state c)) (omega (arith, ltb-false 0 (total n (λ c. holds ((s.lines l).state c))) h)) k
      | inr k ↦ rw (g.outside l c k) refl
    ]

module _ (n b l w : ℕ) (kd : Kind) (r : List ℕ) (s : Reading) (g : Good n s) (hb : b < n)
    (place : (s.boards b).place ≡ sent l kd w)
    (front : (s.lines l).row ≡ b ∷ r)
    (open-line : (c : ℕ) → holds ((s.lines l).state c) ≡ 0) where
  at_front : Sound (s.lines l).state (b ∷ r)
  at_front = subst (λ (q : List ℕ). Sound (s.lines l).state q) front (g.sound l)

  first_waits : waits ((s.lines l).state b) ≡ 1
  first_waits = (g.cells l b).pending ∙ ap (λ p. pend p l) place ∙ cond-true {A = ℕ} (eqb l l) 1 0 (eq-eqb l l refl)

  pub serves_keeps : Good n (serves b l kd w s)
  unfolding serves serve_line
  serves_keeps =
      record {
        sound = each (λ k ln. Sound ln.state ln.row) s.lines l _
            (rw front (data_keeps x r b at_front open-line)) (λ k _. g.sound k);
        outside = each (λ k ln. (c : ℕ) → n ≤ c → ln.state c ≡ 0) s.lines l _
            (λ c h. let ne : c ≢ b = omega arith in update_other x b c (next (x b) 4) ne ∙ g.outside l c h)
            (λ k _. g.outside k);
        cells = each (λ k ln. (c : ℕ) → Cell (ln.state c) k (update s.boards b mineB c) (length ln.row)) s.lines l _ here there;
      }
    where
      x : ℕ → ℕ
      x = (s.lines l).state

      p : Place
      p = served l kd (result_of kd (s.lines l).mem) w

      mineB : Board
      mineB = with_list (eqb (writes (next ((s.lines l).state b) 4)) 1) l (ask_board p (s.boards b))

      cell_first : (c : ℕ) → Cell (x c) l (s.boards c) (suc (length r))
      cell_first c = subst (λ (q : List ℕ). Cell (x c) l (s.boards c) (length q)) front (g.cells l c)

      here : (c : ℕ) → Cell (update x b (next (x b) 4) c) l (update s.boards b mineB c) (length (drop 1 (s.lines l).row))
      here c =
          rw front
          (elim (cases_eq c b) [
            | inl q ↦ rw (q, update_same x b (next (x b) 4), update_same s.boards b mineB)
                (cell_served (x b) (next (x b) 4) l w (result_of kd (s.lines l).mem) kd (s.boards b) (length r)
                (own_data (x b) ((g.sound l).small b) first_waits) at_front.ordered.1 (cell_first b))
            | inr ne ↦ rw (update_other x b c (next (x b) 4), update_other s.boards b c mineB)
                (record {
                  listed = (cell_first c).listed;
                  pending = (cell_first c).pending;
                  agreed = (cell_first c).agreed;
                  needed = λ h. omega (arith, writes_holds (x c) ((g.sound l).small c), open-line c);
                })
          ])

      there : (k : ℕ) → k ≢ l → (c : ℕ) → Cell ((s.lines k).state c) k (update s.boards b mineB c) (length (s.lines k).row)
      there k nk c =
          elim (cases_eq c b) [
            | inl q ↦ rw (q, update_same s.boards b mineB)
                (cell_with (eqb (writes (next (x b) 4)) 1) ((s.lines k).state b) k l (ask_board p (s.boards b)) (length (s.lines k).row) nk
                (cell_asked ((s.lines k).state b) k (s.boards b) (length (s.lines k).row) p
                (rw (place, cond-false {A = ℕ} (eqb k l) 1 0 (ne_eqb k l nk)))
                (rw (place, cond-false (eqb k l) (sent_fits kd ((s.lines k).state b)) (not (eqb ((s.lines k).state b) 5)) (ne_eqb k l nk)))
                (g.cells k b)))
            | inr ne ↦ rw (update_other s.boards b c mineB) (g.cells k c)
          ]

module _ (n b l : ℕ) (ls : List ℕ) (s : Reading) (g : Good n s) (hb : b < n)
    (first : (s.boards b).list ≡ l ∷ ls) where
  pub has_copy : writes ((s.lines l).state b) ≡ 1
  has_copy =
      let one : cond {A = ℕ} (eqb l l) 1 0 ≡ 1 = cond-true (eqb l l) 1 0 (eq-eqb l l refl) in
      let o : occurs l (s.boards b).list ≡ cond (eqb l l) 1 0 + occurs l ls = ap (occurs l) first in
      omega (arith, (g.cells l b).listed, writes_holds ((s.lines l).state b) ((g.sound l).small b), holds_le ((s.lines l).state b) ((g.sound l).small b))

  pub puts_keeps : Good n (puts b l s)
  unfolding puts put_line
  puts_keeps =
      record {
        sound = each (λ k ln. Sound ln.state ln.row) s.lines l _
            (put_keeps x (s.lines l).row b (g.sound l) f.calm has_copy f.small f.over) (λ k _. g.sound k);
        outside = each (λ k ln. (c : ℕ) → n ≤ c → ln.state c ≡ 0) s.lines l _
            (λ c h. let ne : c ≢ b = omega arith in update_other x b c (next (x b) 6) ne ∙ g.outside l c h)
            (λ k _. g.outside k);
        cells = each (λ k ln. (c : ℕ) → Cell (ln.state c) k (update s.boards b mineB c) (length ln.row)) s.lines l _ here there;
      }
    where
      x : ℕ → ℕ
      x = (s.lines l).state

      mineB : Board
      mineB = put_board l (s.boards b)

      f : Written ((s.lines l).state b) (next ((s.lines l).state b) 6)
      f = own_put ((s.lines l).state b) ((g.sound l).small b) has_copy

      here : (c : ℕ) → Cell (update x b (next (x b) 6) c) l (update s.boards b mineB c) (length (s.lines l).row)
      here c =
          elim (cases_eq c b) [
            | inl q ↦ rw (q, update_same x b (next (x b) 6), update_same s.boards b mineB)
                (cell_written (x b) (next (x b) 6) l ls (s.boards b) (length (s.lines l).row) f first has_copy (g.cells l b))
            | inr ne ↦ rw (update_other x b c (next (x b) 6), update_other s.boards b c mineB) (g.cells l c)
          ]

      there : (k : ℕ) → k ≢ l → (c : ℕ) → Cell ((s.lines k).state c) k (update s.boards b mineB c) (length (s.lines k).row)
      there k nk c =
          elim (cases_eq c b) [
            | inl q ↦ rw (q, update_same s.boards b mineB) (cell_put ((s.lines k).state b) k l ls (s.boards b) (length (s.lines k).row) nk first (g.cells k b))
            | inr ne ↦ rw (update_other s.boards b c mineB) (g.cells k c)
          ]

module _ (n b l v w : ℕ) (s : Reading) (g : Good n s) (hb : b < n)
    (place : (s.boards b).place ≡ posted l (Store v) w)
    (in-SMw : (s.lines l).state b ≡ 5)
    (alone : (s.lines l).row ≡ []) where
  pub upgrades_keeps : Good n (upgrades b l v w s)
  unfolding upgrades upg_line ask_board table next waits writes fits holds copies wants
  upgrades_keeps =
      record {
        sound = each (λ k ln. Sound ln.state ln.row) s.lines l _ (rw alone (upg_keeps x b at_none in-SMw)) (λ k _. g.sound k);
        outside = each (λ k ln. (c : ℕ) → n ≤ c → ln.state c ≡ 0) s.lines l _
            (λ c h. let ne : c ≢ b = omega arith in theirs c ne)
            (λ k _. g.outside k);
        cells = each (λ k ln. (c : ℕ) → Cell (ln.state c) k (update s.boards b mineB c) (length ln.row)) s.lines l _ here there;
      }
    where
      x : ℕ → ℕ
      x = (s.lines l).state

      at_none : Sound (s.lines l).state []
      at_none = subst (λ (q : List ℕ). Sound (s.lines l).state q) alone (g.sound l)

      p : Place
      p = served l (Store v) v w

      mineB : Board
      mineB = ask_board p (s.boards b)

      dropped : (c : ℕ) → c ≢ b → Dropped ((s.lines l).state c) (next ((s.lines l).state c) 9)
      dropped c ne = upg_beside (x c) ((g.sound l).small c) (subst (λ (q : ℕ). fits q (x c) ≡ true) in-SMw ((g.sound l).fit b c (λ h. ne (sym h)))) (sym (at_none.waiting c))

      mine : snoop x b 5 9 b ≡ 2
      mine = snoop_own x b 5 9 ∙ ap (λ q. next q 5) in-SMw

      theirs : (c : ℕ) → c ≢ b → snoop x b 5 9 c ≡ 0
      theirs c ne = snoop_other x b 5 9 c ne ∙ (dropped c ne).none

      here : (c : ℕ) → Cell (snoop x b 5 9 c) l (update s.boards b mineB c) (length (s.lines l).row)
      here c =
          elim (cases_eq c b) [
            | inl q ↦ rw (q, mine, update_same s.boards b mineB) (record { listed = (g.cells l b).listed ∙ ap writes in-SMw; pending = refl; agreed = refl; needed = λ h. omega arith })
            | inr ne ↦ rw (snoop_other x b 5 9 c, update_other s.boards b c mineB)
                (cell_dropped (x c) (next (x c) 9) l (s.boards c) (length (s.lines l).row) ((g.sound l).small c) (sym (at_none.waiting c)) (dropped c ne) (g.cells l c))
          ]

      there : (k : ℕ) → k ≢ l → (c : ℕ) → Cell ((s.lines k).state c) k (update s.boards b mineB c) (length (s.lines k).row)
      there k nk c =
          elim (cases_eq c b) [
            | inl q ↦ rw (q, update_same s.boards b mineB)
                (cell_asked ((s.lines k).state b) k (s.boards b) (length (s.lines k).row) p
                (rw (place))
                (rw (place, cond-false (eqb k l) (unsent_fits (Store v) ((s.lines k).state b)) (not (eqb ((s.lines k).state b) 5)) (ne_eqb k l nk)))
                (g.cells k b))
            | inr ne ↦ rw (update_other s.boards b c mineB) (g.cells k c)
          ]
