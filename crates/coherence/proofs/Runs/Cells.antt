-- What a board does at one line, seen at each line.
use Rattle.std.proofs.Common.{◌≡◌, ℕ, suc, ◌+◌, ◌<◌, ◌≤◌, Bool, true, false, cond, not, eqb, ◌≢◌, List, ◌∷◌, sym, refl, ap, ◌∙◌, inl, inr, arith}
use Rattle.std.proofs.lemmas.Bool.{cases_eq, cond-true, cond-false, eq-eqb, ne_eqb, eqb-true, eqb-false}
use Rattle.coherence.proofs.Turns.Counts.{occurs}
use Rattle.coherence.proofs.Line.Codes.{next, waits, writes, gives}
use Rattle.coherence.proofs.Line.Sends.{occurs_push}
use Rattle.coherence.proofs.Line.Tables.{waits_after}
use Rattle.coherence.proofs.Runs.Facts.{snoop_not5, snoop_unsent, snoop_sent, snoop_writes, snoop_writes_m, Given, Written, Dropped, open_unsent, calm_sent}
use Rattle.rules.specs.declared.kind.Kind.{Kind}
use Rattle.rules.specs.Boards.{Place, free, posted, sent, served}
use Rattle.coherence.proofs.Runs.Reading.{Board, age_board, older, push_board, ask_board, put_board, with_list}
use Rattle.coherence.proofs.Runs.Good.{pend, agrees, marked, Cell, unsent_fits, sent_fits}

pub cell_aged : (x l : ℕ) (b : Board) (r : ℕ) → Cell x l b r → Cell x l (age_board b) r
unfolding age_board
cell_aged x l b r c =
    record {
      listed = c.listed;
      pending = c.pending ∙ same_pend b.place;
      agreed = same_agrees b.place ∙ c.agreed;
      needed = c.needed;
    }
  where
    same_pend : (p : Place) → pend p l ≡ pend (older p) l
    same_pend free = refl
    same_pend (posted k kd w) = refl
    same_pend (sent k kd w) = refl
    same_pend (served k kd q w) = refl

    same_agrees : (p : Place) → agrees (older p) l x ≡ agrees p l x
    same_agrees free = refl
    same_agrees (posted k kd w) = refl
    same_agrees (sent k kd w) = refl
    same_agrees (served k kd q w) = refl

-- another line goes to the list's end
pub cell_pushed : (x l k : ℕ) (b : Board) (r : ℕ) → l ≢ k → Cell x l b r → Cell x l (push_board k b) r
unfolding push_board
cell_pushed x l k b r ne c =
    record {
      listed = rw (occurs_push l k b.list, cond-false {A = ℕ} (eqb l k) 1 0 (ne_eqb l k ne)) (omega (arith, c.listed));
      pending = c.pending;
      agreed = c.agreed;
      needed = c.needed;
    }

pub cell_with : (t : Bool) (x l k : ℕ) (b : Board) (r : ℕ) → l ≢ k → Cell x l b r → Cell x l (with_list t k b) r
cell_with true x l k b r ne c = cell_pushed x l k b r ne c
cell_with false x l k b r ne c = c

-- the request changes, to one that says the same of this line
pub cell_asked : (x l : ℕ) (b : Board) (r : ℕ) (p : Place) → pend p l ≡ pend b.place l → agrees p l x ≡ agrees b.place l x → Cell x l b r → Cell x l (ask_board p b) r
unfolding ask_board
cell_asked x l b r p e a c =
    record { listed = c.listed; pending = c.pending ∙ sym e; agreed = a ∙ c.agreed; needed = c.needed }

-- another line is written back
pub cell_put : (x l k : ℕ) (ls : List ℕ) (b : Board) (r : ℕ) → l ≢ k → b.list ≡ k ∷ ls → Cell x l b r → Cell x l (put_board k b) r
unfolding put_board
cell_put x l k ls b r ne e c =
    let z : cond {A = ℕ} (eqb l k) 1 0 ≡ 0 = cond-false (eqb l k) 1 0 (ne_eqb l k ne) in
    let o : occurs l b.list ≡ cond (eqb l k) 1 0 + occurs l ls = ap (occurs l) e in
    record {
      listed = rw e (omega (arith, c.listed));
      pending = c.pending;
      agreed = c.agreed;
      needed = λ w. elim (cases_eq b.mark (suc k)) [
        | inl q ↦ let m0 : marked b.mark l ≡ 0 = cond-false (eqb b.mark (suc l)) 1 0 (ne_eqb b.mark (suc l) (λ h. ne (omega arith))) in omega (arith, c.needed w)
        | inr nm ↦ rw (cond-false (eqb b.mark (suc k)) 0 b.mark (ne_eqb b.mark (suc k) nm)) (c.needed w)
      ];
    }

pub cond_map : (t u u' n n' : Bool) → (u ≡ true → u' ≡ true) → (n ≡ true → n' ≡ true) → cond t u n ≡ true → cond t u' n' ≡ true
cond_map true u u' n n' f g h = f h
cond_map false u u' n n' f g h = g h

-- another board's GetS or GetM for this line
pub cell_snooped : (e : ℕ) → e < 2 → (x l : ℕ) (b : Board) (r : ℕ) → x < 11 → Cell x l b r → Cell (next x (e + 7)) l (with_list (eqb x 2) l b) (r + 1)
unfolding push_board
cell_snooped e he x l b r hx c = go (eqb x 2) refl
  where
    plain : waits (next x (e + 7)) ≡ waits x
    plain = (waits_after e he x hx).0

    not5 : not (eqb x 5) ≡ true → not (eqb (next x (e + 7)) 5) ≡ true
    not5 h = snoop_not5 e he x hx h

    agreeing : (p : Place) → agrees p l x ≡ true → agrees p l (next x (e + 7)) ≡ true
    agreeing free h = not5 h
    agreeing (posted k kd w) h = cond_map (eqb l k) (unsent_fits kd x) (unsent_fits kd (next x (e + 7))) (not (eqb x 5)) (not (eqb (next x (e + 7)) 5)) (snoop_unsent kd e he x hx) not5 h
    agreeing (sent k kd w) h = cond_map (eqb l k) (sent_fits kd x) (sent_fits kd (next x (e + 7))) (not (eqb x 5)) (not (eqb (next x (e + 7)) 5)) (snoop_sent kd e he x hx) not5 h
    agreeing (served k kd q w) h = not5 h

    go : (t : Bool) → eqb x 2 ≡ t → Cell (next x (e + 7)) l (with_list t l b) (r + 1)
    go true q =
        record {
          listed = rw (occurs_push l l b.list, cond-true {A = ℕ} (eqb l l) 1 0 (eq-eqb l l refl)) (omega (arith, c.listed, snoop_writes_m e he x hx q));
          pending = plain ∙ c.pending;
          agreed = agreeing b.place c.agreed;
          needed = λ w. omega arith;
        }
    go false q =
        record {
          listed = c.listed ∙ sym (snoop_writes e he x hx q);
          pending = plain ∙ c.pending;
          agreed = agreeing b.place c.agreed;
          needed = λ w. omega arith;
        }

-- own data, of one that waited
pub cell_served : (s t l w q : ℕ) (kd : Kind) (b : Board) (r : ℕ) → Given s t → gives s ≤ r → Cell s l b (suc r)
    → Cell t l (with_list (eqb (writes t) 1) l (ask_board (served l kd q w) b)) r
unfolding ask_board push_board
cell_served s t l w q kd b r f gl c = go (eqb (writes t) 1) refl
  where
    go : (u : Bool) → eqb (writes t) 1 ≡ u → Cell t l (with_list u l (ask_board (served l kd q w) b)) r
    go true e =
        record {
          listed = rw (occurs_push l l b.list, cond-true {A = ℕ} (eqb l l) 1 0 (eq-eqb l l refl)) (omega (arith, c.listed, f.silent, eqb-true (writes t) 1 e));
          pending = f.over;
          agreed = f.not5;
          needed = λ h. omega (arith, f.gives_up, gl);
        }
    go false e =
        let ne : writes t ≢ 1 = eqb-false (writes t) 1 e in
        record {
          listed = omega (arith, c.listed, f.silent, f.flagged);
          pending = f.over;
          agreed = f.not5;
          needed = λ h. absurd (ne h);
        }

-- own PutM
pub cell_written : (s t l : ℕ) (ls : List ℕ) (b : Board) (r : ℕ) → Written s t → b.list ≡ l ∷ ls → writes s ≡ 1 → Cell s l b r → Cell t l (put_board l b) r
unfolding put_board
cell_written s t l ls b r f e w c =
    let one : cond {A = ℕ} (eqb l l) 1 0 ≡ 1 = cond-true (eqb l l) 1 0 (eq-eqb l l refl) in
    let o : occurs l b.list ≡ cond (eqb l l) 1 0 + occurs l ls = ap (occurs l) e in
    record {
      listed = rw e (omega (arith, c.listed, f.gone));
      pending = f.over ∙ sym f.calm ∙ c.pending;
      agreed = agreeing b.place c.agreed;
      needed = λ h. omega (arith, f.gone);
    }
  where
    agreeing : (p : Place) → agrees p l s ≡ true → agrees p l t ≡ true
    agreeing free h = f.not5
    agreeing (posted k kd v) h = cond_map (eqb l k) (unsent_fits kd s) (unsent_fits kd t) (not (eqb s 5)) (not (eqb t 5)) (f.no_unsent kd) (λ _. f.not5) h
    agreeing (sent k kd v) h = cond_map (eqb l k) (sent_fits kd s) (sent_fits kd t) (not (eqb s 5)) (not (eqb t 5)) (f.no_sent kd) (λ _. f.not5) h
    agreeing (served k kd q v) h = f.not5

-- a copy that another's upgrade drops
pub cell_dropped : (t u l : ℕ) (b : Board) (r : ℕ) → t < 11 → waits t ≡ 0 → Dropped t u → Cell t l b r → Cell u l b r
unfolding waits writes
cell_dropped t u l b r ht w f c =
    rw f.none
    (record {
      listed = c.listed ∙ f.silent;
      pending = sym w ∙ c.pending;
      agreed = agreeing b.place c.agreed;
      needed = λ h. omega arith;
    })
  where
    agreeing : (p : Place) → agrees p l t ≡ true → agrees p l 0 ≡ true
    agreeing free h = refl
    agreeing (posted k kd v) h = cond_map (eqb l k) (unsent_fits kd t) (unsent_fits kd 0) (not (eqb t 5)) true (λ _. open_unsent kd) (λ _. refl) h
    agreeing (sent k kd v) h = cond_map (eqb l k) (sent_fits kd t) (sent_fits kd 0) (not (eqb t 5)) true (λ q. absurd (calm_sent kd t ht w q)) (λ _. refl) h
    agreeing (served k kd q v) h = refl
