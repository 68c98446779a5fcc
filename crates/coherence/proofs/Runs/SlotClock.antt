-- A slot brings every unserved request nearer.
use Rattle.std.proofs.Common.{◌≡◌, ℕ, zero, suc, ◌+◌, ◌<◌, ◌≤◌, Bool, true, false, cond, not, ◌&&◌, eqb, List, [], ◌∷◌, ◌++◌, length, drop, Some, sym, refl, ap, ◌∙◌, subst, inl, inr, arith, lit<}
use Rattle.std.proofs.lemmas.Bool.{cases_eq, cond-true, cond-false, eq-eqb, ne_eqb, eqb-true, and_parts, and_from, le-ltb, not-true, not-false, false≢true}
use Rattle.coherence.proofs.Turns.Counts.{occurs, total}
use Rattle.coherence.proofs.Line.Codes.{table, next, holds, waits, writes}
use Rattle.coherence.proofs.Line.Sound.{snoop}
use Rattle.coherence.proofs.Line.Sends.{update_same, update_other, snoop_own, snoop_other, occurs_push}
use Rattle.rules.specs.declared.kind.Kind.{Kind}
use Rattle.rules.specs.declared.kind.Kind.TheVariants.{Load, Store}
use Rattle.rules.specs.declared.deed.Deed.{Deed}
use Rattle.rules.specs.declared.deed.Deed.TheVariants.{GetS, GetSServed, GetM, GetMServed, Upg}
use Rattle.rules.specs.Boards.{Place, free, posted, sent, served}
use Rattle.rules.specs.Boards.{result_of}
use Rattle.rules.specs.Cells.{is_empty}
use Rattle.coherence.proofs.Runs.Reading.{Board, Line, Reading, Did, ask_board, push_board, put_board, with_list, sends, send_line, aged, held, serves, serve_line, puts, put_line, upgrades, upg_line, due, ready, is_first, requests, sends_too, writes_back, acts, slot}
use Rattle.coherence.proofs.Runs.Good.{pend, Good, unsent_fits}
use Rattle.coherence.proofs.Runs.Clock.{place_of, ask, Clock, Tick}
use Rattle.coherence.proofs.Runs.Each.{each}
use Rattle.coherence.proofs.Runs.Facts.{Sent, sound_get_s, sound_get_m, own_get_s, own_get_m, own_put, snoop_holds, snoop_writes, wait_no_m, wait_not_m, sender_holds, act_of, own_data}
use Rattle.coherence.proofs.Runs.Steps.{aged_keeps, sends_keeps, puts_keeps, upgrades_keeps, none_holds, has_copy}
use Rattle.coherence.proofs.Runs.Slots.{first_is, empty_is, due_keeps, unsent}
use Rattle.coherence.proofs.Runs.Places.{place_push, place_last}
use Rattle.coherence.proofs.Runs.WriteBackClock.{put_clock, aged_clock, times_one, times_zero, in_row, first_in, pend_is}
use Rattle.coherence.proofs.Runs.ServeClock.{serve_clock}
use Rattle.coherence.proofs.Runs.SendClock.{send_clock}
use Rattle.coherence.proofs.Runs.RestClock.{done_clock, idle_clock}

ask_true : (b : Board) → b.asked ≡ true → ask b ≡ 1
ask_true b e = ap (λ t. cond {A = ℕ} t 1 0) e

ask_false : (b : Board) → b.asked ≡ false → ask b ≡ 0
ask_false b e = ap (λ t. cond {A = ℕ} t 1 0) e

total_zeros : (n : ℕ) (f : ℕ → ℕ) → ((c : ℕ) → f c ≡ 0) → total n f ≡ 0
total_zeros zero f h = refl
total_zeros (suc n) f h = omega (arith, total_zeros n f h, h n)

is_due : (n a : ℕ) (s : Reading) (m : ℕ) (r : List ℕ) → (s.lines m).row ≡ a ∷ r → ((c : ℕ) → holds ((s.lines m).state c) ≡ 0) → due n a (s.lines m) ≡ true
is_due n a s m r z y =
    and_from (is_first a (s.lines m).row) (not (held n (s.lines m))) (ap (is_first a) z ∙ eq-eqb a a refl)
    (ap not (le-ltb 0 (total n (λ c. holds ((s.lines m).state c))) (omega (arith, total_zeros n (λ c. holds ((s.lines m).state c)) y))))

-- with-list keeps the rest
with_ask : (t : Bool) (l : ℕ) (b : Board) → ask (with_list t l b) ≡ ask b
unfolding push_board
with_ask true l b = refl
with_ask false l b = refl

with_place : (t : Bool) (l : ℕ) (b : Board) → (with_list t l b).place ≡ b.place
unfolding push_board
with_place true l b = refl
with_place false l b = refl

with_list_lem : (t : Bool) (l k : ℕ) (b : Board) → 1 ≤ occurs k b.list → place_of k (with_list t l b).list ≡ place_of k b.list
unfolding push_board
with_list_lem true l k b h = place_push k l b.list h
with_list_lem false l k b h = refl

module _ (n p a : ℕ) (u v : ℕ → ℕ) (t : Tick n p a u v) (s : Reading) (g : Good n s) (k : Clock n p 1 u s) (an : a < n) where
  puts_clock : (l : ℕ) (ls : List ℕ) → (s.boards a).list ≡ l ∷ ls → (ready n a s (s.boards a).place ≡ true → (s.boards a).asked ≡ true) → Clock n p 0 v (puts a l s)
  unfolding puts put_line put_board
  puts_clock l ls list turn =
      put_clock n p a l ls u v t s (puts a l s) g (puts_keeps n a l ls s g an list) k an list
      (ap (λ (z : Board). z.list) (update_same s.boards a mineB) ∙ ap (drop 1) list)
      (ap (λ (z : Board). z.place) (update_same s.boards a mineB))
      (ap ask (update_same s.boards a mineB))
      (λ c ne. update_other s.boards a c mineB ne)
      (each (λ m ln. ln.row ≡ (s.lines m).row) s.lines l _ refl (λ m _. refl))
      (each (λ m ln. (c : ℕ) → (m ≡ l → c ≡ a → ⊥) → ln.state c ≡ (s.lines m).state c) s.lines l _ (λ c h. update_other (s.lines l).state a c (next ((s.lines l).state a) 6) (λ q. h refl q)) (λ m _ c h. refl))
      (ap (λ (z : Line). writes (z.state a)) (update_same s.lines l (put_line a (s.lines l))) ∙ ap writes (update_same (s.lines l).state a (next ((s.lines l).state a) 6))
      ∙ (own_put ((s.lines l).state a) ((g.sound l).small a) (has_copy n a l ls s g an list)).gone)
      (has_copy n a l ls s g an list)
      (λ m w kd e. ask_true (s.boards a) (turn (ap (λ z. ready n a s z) e)))
      (λ m w kd r e z y. ask_true (s.boards a) (turn (ap (λ z. ready n a s z) e ∙ is_due n a s m r z y)))
    where
      mineB : Board
      mineB = put_board l (s.boards a)

  -- a's list is empty, or its last deed was a write-back
  Fresh : Type 0
  Fresh = (l : ℕ) → 1 ≤ occurs l (s.boards a).list → ask (s.boards a) ≡ 0

  serves_clock : (l w : ℕ) (kd : Kind) → (s.boards a).place ≡ sent l kd w → Fresh → due n a (s.lines l) ≡ true → Clock n p 0 v (serves a l kd w s)
  unfolding serves serve_line ask_board push_board Fresh
  serves_clock l w kd place fresh h =
      let pr = and_parts (is_first a (s.lines l).row) (not (held n (s.lines l))) h in
      let f = first_is a (s.lines l).row pr.0 in
      let y = none_holds n s l g (not-true (held n (s.lines l)) pr.1) in
      serve_clock n p a l w (result_of kd (s.lines l).mem) kd f.0 u v t s (serves a l kd w s) g (due_keeps n a l w kd s g an place h) k an place f.1 y fresh
      (ap (λ (z : Board). z.place) (update_same s.boards a mineB) ∙ with_place test l askB)
      (ap ask (update_same s.boards a mineB) ∙ with_ask test l askB)
      (λ m oc. ap (λ (z : Board). place_of m z.list) (update_same s.boards a mineB) ∙ with_list_lem test l m askB oc)
      (λ wr. ap (λ (z : Board). place_of l z.list) (update_same s.boards a mineB)
      ∙ pushed test (ap (λ c. eqb c 1) (sym (ap (λ (z : Line). writes (z.state a)) (update_same s.lines l (serve_line a kd (s.lines l))) ∙ ap writes (update_same (s.lines l).state a (next ((s.lines l).state a) 4))) ∙ wr))
      (omega (arith, (g.cells l a).listed, (own_data ((s.lines l).state a) ((g.sound l).small a) (sym ((g.sound l).waiting a) ∙ in_row n s a l w kd g place)).silent)))
      (λ c ne. update_other s.boards a c mineB ne)
      (λ m nm. update_other s.lines l m (serve_line a kd (s.lines l)) nm)
      (ap (λ (z : Line). z.row) (update_same s.lines l (serve_line a kd (s.lines l))) ∙ ap (drop 1) f.1)
      (λ c ne. ap (λ (z : Line). z.state c) (update_same s.lines l (serve_line a kd (s.lines l))) ∙ update_other (s.lines l).state a c (next ((s.lines l).state a) 4) ne)
    where
      test : Bool
      test = eqb (writes (next ((s.lines l).state a) 4)) 1

      askB : Board
      askB = ask_board (served l kd (result_of kd (s.lines l).mem) w) (s.boards a)

      mineB : Board
      mineB = with_list test l askB

      pushed : (q : Bool) → q ≡ true → occurs l (s.boards a).list ≡ 0 → place_of l (with_list q l askB).list ≡ suc (length (s.boards a).list)
      pushed true e z = place_last l (s.boards a).list z
      pushed false e z = absurd (false≢true e)

  sends_clock : (l act e w : ℕ) (kd : Kind) → e < 2 → (s.boards a).place ≡ posted l kd w → Fresh → Good n (sends a l act (e + 7) (sent l kd w) s)
      → holds ((s.lines l).state a) ≡ 0 → holds (next ((s.lines l).state a) act) ≡ 0 → writes ((s.lines l).state a) ≡ 0 → writes (next ((s.lines l).state a) act) ≡ 0
      → Clock n p 0 v (sends a l act (e + 7) (sent l kd w) s)
  unfolding sends send_line ask_board Fresh
  sends_clock l act e w kd he place fresh g' h0 h1 w0 w1 =
      send_clock n p a l w kd u v t s (sends a l act (e + 7) (sent l kd w) s) g g' k an place fresh
      (ap (λ (z : Board). z.place) (update_same others a mineB))
      (ap ask (update_same others a mineB))
      (ap (λ (z : Board). z.list) (update_same others a mineB))
      (λ c ne. ap (λ (z : Board). z.place) (update_other others a c mineB ne) ∙ with_place (eqb (x c) 2) l (s.boards c))
      (λ c ne. ap ask (update_other others a c mineB ne) ∙ with_ask (eqb (x c) 2) l (s.boards c))
      (λ c m ne oc. ap (λ (z : Board). place_of m z.list) (update_other others a c mineB ne) ∙ with_list_lem (eqb (x c) 2) l m (s.boards c) oc)
      (λ m nm. update_other s.lines l m nl nm)
      (ap (λ (z : Line). z.row) (update_same s.lines l nl))
      (λ c. ap (λ (z : Line). holds (z.state c)) (update_same s.lines l nl) ∙ holding c)
      (λ b c o. ap (λ (z : Line). writes (z.state c)) (update_same s.lines l nl) ∙ writing b c o)
    where
      x : ℕ → ℕ
      x = (s.lines l).state

      others : ℕ → Board
      others c = with_list (eqb ((s.lines l).state c) 2) l (s.boards c)

      mineB : Board
      mineB = ask_board (sent l kd w) (s.boards a)

      nl : Line
      nl = send_line a act (e + 7) (s.lines l)

      holding : (c : ℕ) → holds (snoop x a act (e + 7) c) ≡ holds (x c)
      holding c = elim (cases_eq c a) [
        | inl q ↦ rw (q, snoop_own x a act (e + 7)) (h1 ∙ sym h0)
        | inr ne ↦ rw (snoop_other x a act (e + 7) c) (snoop_holds e he (x c) ((g.sound l).small c))
      ]

      no_m : (b c : ℕ) → occurs b (s.lines l).row ≡ 1 → eqb (x c) 2 ≡ false
      no_m b c o =
          let wb : waits (x b) ≡ 1 = sym ((g.sound l).waiting b) ∙ o in
          elim (cases_eq c b) [
            | inl q ↦ rw q (wait_not_m (x b) ((g.sound l).small b) wb)
            | inr ne ↦ wait_no_m (x b) (x c) ((g.sound l).small b) ((g.sound l).small c) ((g.sound l).fit b c (λ q. ne (sym q))) wb
          ]

      writing : (b c : ℕ) → occurs b (s.lines l).row ≡ 1 → writes (snoop x a act (e + 7) c) ≡ writes (x c)
      writing b c o = elim (cases_eq c a) [
        | inl q ↦ rw (q, snoop_own x a act (e + 7)) (w1 ∙ sym w0)
        | inr ne ↦ rw (snoop_other x a act (e + 7) c) (snoop_writes e he (x c) ((g.sound l).small c) (no_m b c o))
      ]

  upg_clock : (l w v0 : ℕ) → (s.boards a).place ≡ posted l (Store v0) w → Fresh → (s.lines l).row ≡ [] → Good n (upgrades a l v0 w s) → Clock n p 0 v (upgrades a l v0 w s)
  unfolding upgrades upg_line ask_board Fresh
  upg_clock l w v0 place fresh alone g' =
      done_clock n p 1 a l w v0 (Store v0) u v s (upgrades a l v0 w s) g g' k
      (λ c cn ne. omega (arith, t.nearer c cn ne))
      (λ m x y oc h. omega (arith, times_zero p (ask (s.boards a)) (fresh m oc), times_one p (ask ((upgrades a l v0 w s).boards a)) (ap ask (update_same s.boards a mineB)), t.now, t.soon a an))
      (ap (λ (z : Board). z.place) (update_same s.boards a mineB))
      (λ m oc. ap (λ (z : Board). place_of m z.list) (update_same s.boards a mineB))
      (λ m nm. ap (λ z. pend z m) place)
      (λ c ne. update_other s.boards a c mineB ne)
      (λ m nm. update_other s.lines l m (upg_line a v0 (s.lines l)) nm)
      (ap (λ (z : Line). z.row) (update_same s.lines l (upg_line a v0 (s.lines l))) ∙ alone)
    where
      mineB : Board
      mineB = ask_board (served l (Store v0) v0 w) (s.boards a)

-- served in the slot of its sending, where nobody else waits
too_clock : (n p a l w : ℕ) (kd : Kind) (v : ℕ → ℕ) (d dp : Deed) (s : Reading) → Good n s → Clock n p 0 v s → a < n → (s.boards a).place ≡ sent l kd w → ask (s.boards a) ≡ 1
    → (r : List ℕ) → (s.lines l).row ≡ r ++ a ∷ [] → Clock n p 0 v (sends_too n a l kd w d dp s).after
unfolding serves serve_line ask_board
too_clock n p a l w kd v d dp s g k an place asked r last = go (due n a (s.lines l)) refl
  where
    test : Bool
    test = eqb (writes (next ((s.lines l).state a) 4)) 1

    askB : Board
    askB = ask_board (served l kd (result_of kd (s.lines l).mem) w) (s.boards a)

    mineB : Board
    mineB = with_list test l askB

    alone : (q r : List ℕ) → occurs a q ≡ 1 → q ≡ r ++ a ∷ [] → is_first a q ≡ true → drop 1 q ≡ []
    alone q [] o e f = ap (drop 1) e
    alone q (c ∷ r) o e f =
        let fc : a ≡ c = eqb-true a c (sym (ap (is_first a) e) ∙ f) in
        let oq : occurs a q ≡ cond (eqb a c) 1 0 + occurs a (r ++ a ∷ []) = ap (occurs a) e in
        let one = cond-true {A = ℕ} (eqb a c) 1 0 (eq-eqb a c fc) in
        let two = cond-true {A = ℕ} (eqb a a) 1 0 (eq-eqb a a refl) in
        absurd (omega (arith, occurs_push a a r))

    go : (t : Bool) → due n a (s.lines l) ≡ t → Clock n p 0 v (elim t as (λ _. Did) [ true ↦ record { deed = dp; line = Some l; after = serves a l kd w s } | false ↦ record { deed = d; line = Some l; after = s } ]).after
    go true h =
        let pr = and_parts (is_first a (s.lines l).row) (not (held n (s.lines l))) h in
        done_clock n p 0 a l w (result_of kd (s.lines l).mem) kd v v s (serves a l kd w s) g (due_keeps n a l w kd s g an place h) k
        (λ c cn ne. omega arith)
        (λ m x y oc h. omega (arith, times_one p (ask (s.boards a)) asked, times_one p (ask ((serves a l kd w s).boards a)) (ap ask (update_same s.boards a mineB) ∙ with_ask test l askB)))
        (ap (λ (z : Board). z.place) (update_same s.boards a mineB) ∙ with_place test l askB)
        (λ m oc. ap (λ (z : Board). place_of m z.list) (update_same s.boards a mineB) ∙ with_list_lem test l m askB oc)
        (λ m nm. ap (λ z. pend z m) place ∙ cond-false {A = ℕ} (eqb m l) 1 0 (ne_eqb m l nm))
        (λ c ne. update_other s.boards a c mineB ne)
        (λ m nm. update_other s.lines l m (serve_line a kd (s.lines l)) nm)
        (ap (λ (z : Line). z.row) (update_same s.lines l (serve_line a kd (s.lines l))) ∙ alone (s.lines l).row r (in_row n s a l w kd g place) last pr.0)
    go false h = k

sent_place : (b l act e : ℕ) (q : Place) (s : Reading) → (((sends b l act e q s).boards b).place ≡ q) × (ask ((sends b l act e q s).boards b) ≡ 1) × (((sends b l act e q s).lines l).row ≡ (s.lines l).row ++ b ∷ [])
unfolding sends send_line ask_board
sent_place b l act e q s =
    let h = update_same (λ c. with_list (eqb ((s.lines l).state c) 2) l (s.boards c)) b (ask_board q (s.boards b)) in
    (ap (λ (z : Board). z.place) h, ap ask h, ap (λ (z : Line). z.row) (update_same s.lines l (send_line b act e (s.lines l))))

module _ (n p a : ℕ) (u v : ℕ → ℕ) (t : Tick n p a u v) (s : Reading) (g : Good n s) (k : Clock n p 1 u s) (an : a < n) where
  sending : (l act e w : ℕ) (kd : Kind) (d dp : Deed) → e < 2 → (s.boards a).place ≡ posted l kd w → Fresh n p a u v t s g k an → Good n (sends a l act (e + 7) (sent l kd w) s)
      → (holds ((s.lines l).state a) ≡ 0) × (holds (next ((s.lines l).state a) act) ≡ 0) → Sent kd ((s.lines l).state a) (next ((s.lines l).state a) act)
      → Clock n p 0 v (sends_too n a l kd w d dp (sends a l act (e + 7) (sent l kd w) s)).after
  sending l act e w kd d dp he place fresh g' h f =
      let q = sent_place a l act (e + 7) (sent l kd w) s in
      too_clock n p a l w kd v d dp (sends a l act (e + 7) (sent l kd w) s) g'
      (sends_clock n p a u v t s g k an l act e w kd he place fresh g' h.0 h.1 f.silent f.still) an q.0 q.1 (s.lines l).row q.2

  requests_clock : (q : Place) → (s.boards a).place ≡ q → ready n a s q ≡ true → Fresh n p a u v t s g k an → Clock n p 0 v (requests n a s q).after
  unfolding table next holds act_of
  requests_clock free e h fresh = absurd (false≢true h)
  requests_clock (posted l Load w) e h fresh =
      let x = unsent n a l w Load s g e in
      sending l 1 0 w Load GetS GetSServed (lit< tt) e fresh
      (sends_keeps n a l 1 0 w Load (lit< tt) s g an e (sound_get_s (s.lines l).state (s.lines l).row a x (g.sound l)) (own_get_s ((s.lines l).state a) x) refl)
      (sender_holds Load ((s.lines l).state a) x) (own_get_s ((s.lines l).state a) x)
  requests_clock (posted l (Store v0) w) e h fresh = go (eqb ((s.lines l).state a) 5 && is_empty (s.lines l).row) refl
    where
      x : unsent_fits (Store v0) ((s.lines l).state a) ≡ true
      x = unsent n a l w (Store v0) s g e

      go : (z : Bool) → (eqb ((s.lines l).state a) 5 && is_empty (s.lines l).row) ≡ z
          → Clock n p 0 v (elim z as (λ _. Did) [
            | true ↦ record { deed = Upg; line = Some l; after = upgrades a l v0 w s }
            | false ↦ sends_too n a l (Store v0) w GetM GetMServed (sends a l 2 8 (sent l (Store v0) w) s)
          ]).after
      go true q =
          let pr = and_parts (eqb ((s.lines l).state a) 5) (is_empty (s.lines l).row) q in
          let row = empty_is (s.lines l).row pr.1 in
          upg_clock n p a u v t s g k an l w v0 e fresh row (upgrades_keeps n a l v0 w s g an e (eqb-true ((s.lines l).state a) 5 pr.0) row)
      go false q =
          sending l 2 1 w (Store v0) GetM GetMServed (lit< tt) e fresh
          (sends_keeps n a l 2 1 w (Store v0) (lit< tt) s g an e (sound_get_m v0 (s.lines l).state (s.lines l).row a x (g.sound l)) (own_get_m v0 ((s.lines l).state a) x) refl)
          (sender_holds (Store v0) ((s.lines l).state a) x) (own_get_m v0 ((s.lines l).state a) x)
  requests_clock (sent l kd w) e h fresh = serves_clock n p a u v t s g k an l w kd e fresh h
  requests_clock (served l kd r w) e h fresh = absurd (false≢true h)

  writes_clock : (ls : List ℕ) → (s.boards a).list ≡ ls → not (is_empty ls) ≡ true → (ready n a s (s.boards a).place ≡ true → (s.boards a).asked ≡ true) → Clock n p 0 v (writes_back a s ls).after
  writes_clock [] e h turn = absurd (false≢true h)
  writes_clock (l ∷ ls) e h turn = puts_clock n p a u v t s g k an l ls e turn

  empty_list : not (is_empty (s.boards a).list) ≡ false → (s.boards a).list ≡ []
  empty_list h = empty_is (s.boards a).list (not-false (is_empty (s.boards a).list) h)

  acts_clock : (x y z : Bool) → ready n a s (s.boards a).place ≡ x → not (is_empty (s.boards a).list) ≡ y → (s.boards a).asked ≡ z → Clock n p 0 v (acts n a s x y z).after
  unfolding Fresh
  acts_clock true true true r l q = writes_clock (s.boards a).list refl l (λ _. q)
  acts_clock true true false r l q = requests_clock (s.boards a).place refl r (λ _ _. ask_false (s.boards a) q)
  acts_clock true false z r l q =
      requests_clock (s.boards a).place refl r (λ m oc. absurd (let o : occurs m (s.boards a).list ≡ 0 = ap (occurs m) (empty_list l) in omega arith))
  acts_clock false true z r l q = writes_clock (s.boards a).list refl l (λ h. absurd (false≢true (sym r ∙ h)))
  acts_clock false false z r l q =
      idle_clock n p a u v t s g k (empty_list l)
      (λ m w kd e. false≢true (sym r ∙ ap (λ c. ready n a s c) e))
      (λ m f rr y e h.
      let ea : (s.lines m).row ≡ a ∷ rr = subst (λ (c : ℕ). (s.lines m).row ≡ c ∷ rr) h e in
      let pe = pend_is (s.boards a).place m (first_in n s m a rr g ea) in
      false≢true (sym r ∙ ap (λ c. ready n a s c) pe.2 ∙ is_due n a s m rr ea y))

pub slot_clock : (n p a : ℕ) (u v : ℕ → ℕ) → Tick n p a u v → (s : Reading) → Good n s → Clock n p 0 u s → a < n → Clock n p 0 v (slot n a s).after
unfolding slot
slot_clock n p a u v t s g k an =
    acts_clock n p a u v t (aged s) (aged_keeps n s g) (aged_clock n p u s k) an
    (ready n a (aged s) ((aged s).boards a).place) (not (is_empty ((aged s).boards a).list)) ((aged s).boards a).asked refl refl refl
