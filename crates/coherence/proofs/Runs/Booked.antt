-- The book tells every answer.
use Rattle.std.proofs.Common.{◌≡◌, ℕ, ◌+◌, ◌<◌, Bool, true, false, not, ◌&&◌, eqb, ◌≢◌, List, [], ◌∷◌, Some, sym, refl, ap, ◌∙◌, subst, inl, inr, arith, lit<}
use Rattle.std.proofs.lemmas.Bool.{cases_eq, cond-true, eq-eqb, eqb-true, and_parts, not-true}
use Rattle.coherence.proofs.Line.Codes.{table, next, holds, copies, writes}
use Rattle.coherence.proofs.Line.Sound.{update, Sound}
use Rattle.coherence.proofs.Line.Sends.{update_same, update_other}
use Rattle.rules.specs.declared.kind.Kind.{Kind}
use Rattle.rules.specs.declared.kind.Kind.TheVariants.{Load, Store}
use Rattle.rules.specs.declared.deed.Deed.{Deed}
use Rattle.rules.specs.declared.deed.Deed.TheVariants.{GetS, GetSServed, GetM, GetMServed, Upg}
use Rattle.rules.specs.Boards.{Place, free, posted, sent, served}
use Rattle.rules.specs.Boards.{result_of}
use Rattle.rules.specs.Cells.{is_empty}
use Rattle.coherence.proofs.Runs.Reading.{Board, Line, Reading, Did, older, aged, age_board, ask_board, push_board, put_board, with_list, sends, serves, serve_line, puts, upgrades, upg_line, due, held, ready, is_first, requests, sends_too, writes_back, acts, slot}
use Rattle.coherence.specs.Book.{Book, Note, counted, longer_by, none, serving, settled, settles, slotted, unserved, worded}
use Rattle.coherence.proofs.Runs.Good.{agrees, Good, unsent_fits, sent_fits}
use Rattle.coherence.proofs.Runs.Each.{change_other, change_same, each}
use Rattle.coherence.proofs.Runs.Facts.{own_get_s, own_get_m, sender_copies, sender_holds, sender_small, act_of, writes_holds, holds_le, holds_copies, sound_get_s, sound_get_m}
use Rattle.coherence.proofs.Runs.Steps.{aged_keeps, sends_keeps, none_holds, has_copy}
use Rattle.coherence.proofs.Runs.Slots.{empty_is, unsent}
use Rattle.coherence.proofs.Runs.Values.{Fresh, fresh_sent, fresh_put, fresh_served, fresh_upg}

-- what the book has of a request
abbrev pub view : Place → Note
view free = none
view (posted l kd w) = unserved l kd w
view (sent l kd w) = unserved l kd w
view (served l kd r w) = settled l kd r w

pub record Told (k : Book) (s : Reading) : Type 0 where
  pub fresh : (l : ℕ) → Fresh (k.words l) (s.lines l)
  pub noted : (b : ℕ) → k.notes b ≡ view (s.boards b).place

view_older : (q : Place) → longer_by (view q) ≡ view (older q)
view_older free = refl
view_older (posted l kd w) = refl
view_older (sent l kd w) = refl
view_older (served l kd r w) = refl

aged_told : (k : Book) (s : Reading) → Told k s → Told (counted k) (aged s)
unfolding counted aged age_board
aged_told k s t = record { fresh = t.fresh; noted = λ b. ap longer_by (t.noted b) ∙ view_older (s.boards b).place }

with_view : (t : Bool) (l : ℕ) (b : Board) → view (with_list t l b).place ≡ view b.place
unfolding push_board
with_view true l b = refl
with_view false l b = refl

pub worded_same : (kd : Kind) (l : ℕ) (f : ℕ → ℕ) → worded kd l f l ≡ result_of kd (f l)
unfolding worded
worded_same Load l f = refl
worded_same (Store v) l f = change_same f l v

pub worded_other : (kd : Kind) (l m : ℕ) (f : ℕ → ℕ) → m ≢ l → worded kd l f m ≡ f m
unfolding worded
worded_other Load l m f ne = refl
worded_other (Store v) l m f ne = change_other f l m v ne

-- the slot's part of the book once the notes have grown older
abbrev after' : Bool → ℕ → Book → Book
after' true a k = settles a (k.notes a) k
after' false a k = k

served_told : (k : Book) (a l w : ℕ) (kd : Kind) (s : Reading) (f : ℕ → Line) (nl : Line) (g : ℕ → Board) (z : Board) → k.notes a ≡ unserved l kd w
    → ((b : ℕ) → k.notes b ≡ view (g b).place) → ((m : ℕ) → Fresh (k.words m) (f m))
    → z.place ≡ served l kd (result_of kd (k.words l)) w → Fresh (result_of kd (k.words l)) nl
    → Told (settles a (k.notes a) k) (record { boards = update g a z; lines = update f l nl })
unfolding settles
served_told k a l w kd s f nl g z e nt fr ze fl =
    rw e
    (record {
      fresh = each (λ m (y : Line). Fresh (worded kd l k.words m) y) f l nl (rw (worded_same kd l k.words) fl) (λ m ne. rw (worded_other kd l m k.words ne) (fr m));
      noted = λ b. elim (cases_eq b a) [
        | inl q ↦ rw (q, change_same k.notes a (settled l kd (result_of kd (k.words l)) w), update_same g a z, ze) refl
        | inr ne ↦ rw (change_other k.notes a b (settled l kd (result_of kd (k.words l)) w) ne, update_other g a b z ne) (nt b)
      ];
    })

same_book : (q : Bool) (a : ℕ) (k : Book) → slotted q a k ≡ after' q a (counted k)
unfolding slotted
same_book true a k = refl
same_book false a k = refl

sent_at' : (b l act e : ℕ) (p : Place) (s : Reading) → ((sends b l act e p s).boards b).place ≡ p
unfolding sends ask_board
sent_at' b l act e p s = ap (λ (q : Board). q.place) (update_same (λ c. with_list (eqb ((s.lines l).state c) 2) l (s.boards c)) b (ask_board p (s.boards b)))

module _ (n a : ℕ) (an : a < n) (k : Book) where
  sent_at : (l act e : ℕ) (p : Place) (s : Reading) → ((sends a l act e p s).boards a).place ≡ p
  sent_at l act e p s = sent_at' a l act e p s

  serves_told : (s : Reading) (l w : ℕ) (kd : Kind) → Good n s → Told k s → (s.boards a).place ≡ sent l kd w → due n a (s.lines l) ≡ true → Told (after' true a k) (serves a l kd w s)
  unfolding serves ask_board push_board
  serves_told s l w kd g t place h =
      let pr = and_parts (is_first a (s.lines l).row) (not (held n (s.lines l))) h in
      let y = none_holds n s l g (not-true (held n (s.lines l)) pr.1) in
      let sf : sent_fits kd ((s.lines l).state a) ≡ true = sym (cond-true (eqb l l) (sent_fits kd ((s.lines l).state a)) (not (eqb ((s.lines l).state a) 5)) (eq-eqb l l refl)) ∙ sym (ap (λ q. agrees q l ((s.lines l).state a)) place) ∙ (g.cells l a).agreed in
      served_told k a l w kd s s.lines (serve_line a kd (s.lines l)) s.boards (with_list test l askB) (t.noted a ∙ ap view place) t.noted t.fresh
      (with_place test ∙ ap (λ m. served l kd (result_of kd m) w) ((t.fresh l).memory y))
      (fresh_served (k.words l) a kd (s.lines l) (s.lines l).row (g.sound l) sf y (t.fresh l))
    where
      test : Bool
      test = eqb (writes (next ((s.lines l).state a) 4)) 1

      askB : Board
      askB = ask_board (served l kd (result_of kd (s.lines l).mem) w) (s.boards a)

      with_place : (q : Bool) → (with_list q l askB).place ≡ served l kd (result_of kd (s.lines l).mem) w
      with_place true = refl
      with_place false = refl

  sends_told : (s : Reading) (l act e w : ℕ) (kd : Kind) → e < 2 → Good n s → Told k s → (s.boards a).place ≡ posted l kd w → copies (next ((s.lines l).state a) act) ≡ 0 → holds ((s.lines l).state a) ≡ 0 → Told k (sends a l act (e + 7) (sent l kd w) s)
  unfolding sends ask_board
  sends_told s l act e w kd he g t place c0 h0 =
      record {
        fresh = each (λ m (y : Line). Fresh (k.words m) y) s.lines l _ (fresh_sent (k.words l) a act e he (s.lines l) (g.sound l).small c0 h0 (t.fresh l)) (λ m _. t.fresh m);
        noted = each (λ b (z : Board). k.notes b ≡ view z.place) (λ c. with_list (eqb ((s.lines l).state c) 2) l (s.boards c)) a _ (t.noted a ∙ ap view place)
            (λ b _. t.noted b ∙ sym (with_view (eqb ((s.lines l).state b) 2) l (s.boards b)));
      }

  puts_told : (s : Reading) (l : ℕ) (ls : List ℕ) → Good n s → Told k s → (s.boards a).list ≡ l ∷ ls → Told k (puts a l s)
  unfolding puts put_board
  puts_told s l ls g t e =
      let wr = has_copy n a l ls s g an e in
      let hc = holds_copies ((s.lines l).state a) ((g.sound l).small a) (omega (arith, writes_holds ((s.lines l).state a) ((g.sound l).small a), holds_le ((s.lines l).state a) ((g.sound l).small a))) in
      record {
        fresh = each (λ m (y : Line). Fresh (k.words m) y) s.lines l _ (fresh_put (k.words l) a (s.lines l) hc (t.fresh l)) (λ m _. t.fresh m);
        noted = each (λ b (z : Board). k.notes b ≡ view z.place) s.boards a _ (t.noted a) (λ b _. t.noted b);
      }

  upg_told : (s : Reading) (l w v : ℕ) → Good n s → Told k s → (s.boards a).place ≡ posted l (Store v) w → (s.lines l).state a ≡ 5 → (s.lines l).row ≡ [] → Told (after' true a k) (upgrades a l v w s)
  unfolding upgrades ask_board
  upg_told s l w v g t place s5 alone =
      served_told k a l w (Store v) s s.lines (upg_line a v (s.lines l)) s.boards (ask_board (served l (Store v) v w) (s.boards a)) (t.noted a ∙ ap view place) t.noted t.fresh refl
      (fresh_upg (k.words l) v a (s.lines l) (subst (λ (q : List ℕ). Sound (s.lines l).state q) alone (g.sound l)) s5 (t.fresh l))

  Said : Did → Type 0
  Said d = Told (after' (serving d.deed) a k) d.after

  too_told : (s : Reading) (l w : ℕ) (kd : Kind) (d dp : Deed) → serving d ≡ false → serving dp ≡ true → Good n s → Told k s → (s.boards a).place ≡ sent l kd w → Said (sends_too n a l kd w d dp s)
  unfolding Said
  too_told s l w kd d dp ed ep g t place = go (due n a (s.lines l)) refl
    where
      go : (q : Bool) → due n a (s.lines l) ≡ q → Said (elim q as (λ _. Did) [ true ↦ record { deed = dp; line = Some l; after = serves a l kd w s } | false ↦ record { deed = d; line = Some l; after = s } ])
      go true h = rw ep (serves_told s l w kd g t place h)
      go false h = rw ed t

  requests_told : (s : Reading) (q : Place) → Good n s → Told k s → (s.boards a).place ≡ q → ready n a s q ≡ true → Said (requests n a s q)
  unfolding Said table next act_of
  requests_told s free g t e h = t
  requests_told s (posted l Load w) g t e h =
      let x = unsent n a l w Load s g e in
      let f = own_get_s ((s.lines l).state a) x in
      too_told (sends a l 1 7 (sent l Load w) s) l w Load GetS GetSServed refl refl
      (sends_keeps n a l 1 0 w Load (lit< tt) s g an e (sound_get_s (s.lines l).state (s.lines l).row a x (g.sound l)) f refl)
      (sends_told s l 1 0 w Load (lit< tt) g t e (sender_copies Load (next ((s.lines l).state a) 1) (sender_small Load ((s.lines l).state a) x) f.fitting) (sender_holds Load ((s.lines l).state a) x).0)
      (sent_at l 1 7 (sent l Load w) s)
  requests_told s (posted l (Store v) w) g t e h = go (eqb ((s.lines l).state a) 5 && is_empty (s.lines l).row) refl
    where
      x : unsent_fits (Store v) ((s.lines l).state a) ≡ true
      x = unsent n a l w (Store v) s g e

      go : (z : Bool) → (eqb ((s.lines l).state a) 5 && is_empty (s.lines l).row) ≡ z
          → Said (elim z as (λ _. Did) [
            | true ↦ record { deed = Upg; line = Some l; after = upgrades a l v w s }
            | false ↦ sends_too n a l (Store v) w GetM GetMServed (sends a l 2 8 (sent l (Store v) w) s)
          ])
      go true q =
          let pr = and_parts (eqb ((s.lines l).state a) 5) (is_empty (s.lines l).row) q in
          upg_told s l w v g t e (eqb-true ((s.lines l).state a) 5 pr.0) (empty_is (s.lines l).row pr.1)
      go false q =
          let f = own_get_m v ((s.lines l).state a) x in
          too_told (sends a l 2 8 (sent l (Store v) w) s) l w (Store v) GetM GetMServed refl refl
          (sends_keeps n a l 2 1 w (Store v) (lit< tt) s g an e (sound_get_m v (s.lines l).state (s.lines l).row a x (g.sound l)) f refl)
          (sends_told s l 2 1 w (Store v) (lit< tt) g t e (sender_copies (Store v) (next ((s.lines l).state a) 2) (sender_small (Store v) ((s.lines l).state a) x) f.fitting) (sender_holds (Store v) ((s.lines l).state a) x).0)
          (sent_at l 2 8 (sent l (Store v) w) s)
  requests_told s (sent l kd w) g t e h = serves_told s l w kd g t e h
  requests_told s (served l kd r w) g t e h = t

  writes_told : (s : Reading) (ls : List ℕ) → Good n s → Told k s → (s.boards a).list ≡ ls → Said (writes_back a s ls)
  unfolding Said
  writes_told s [] g t e = t
  writes_told s (l ∷ ls) g t e = puts_told s l ls g t e

  acts_told : (s : Reading) (x y z : Bool) → Good n s → Told k s → ready n a s (s.boards a).place ≡ x → Said (acts n a s x y z)
  unfolding Said
  acts_told s true true true g t r = writes_told s (s.boards a).list g t refl
  acts_told s true true false g t r = requests_told s (s.boards a).place g t refl r
  acts_told s true false z g t r = requests_told s (s.boards a).place g t refl r
  acts_told s false true z g t r = writes_told s (s.boards a).list g t refl
  acts_told s false false z g t r = t

pub slot_told : (n a : ℕ) → a < n → (k : Book) (s : Reading) → Good n s → Told k s → Told (slotted (serving (slot n a s).deed) a k) (slot n a s).after
unfolding slot Said
slot_told n a an k s g t =
    rw (same (serving (acts n a (aged s) (ready n a (aged s) ((aged s).boards a).place) (not (is_empty ((aged s).boards a).list)) ((aged s).boards a).asked).deed))
    (acts_told n a an (counted k) (aged s) (ready n a (aged s) ((aged s).boards a).place) (not (is_empty ((aged s).boards a).list)) ((aged s).boards a).asked (aged_keeps n s g) (aged_told k s t) refl)
  where
    same : (q : Bool) → slotted q a k ≡ after' q a (counted k)
    same q = same_book q a k
