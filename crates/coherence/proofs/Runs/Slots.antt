-- A slot keeps what every run keeps.
use Rattle.std.proofs.Common.{◌≡◌, ℕ, ◌<◌, Bool, true, false, not, ◌&&◌, eqb, List, [], ◌∷◌, Some, sym, refl, ap, ◌∙◌, lit<}
use Rattle.std.proofs.lemmas.Bool.{cond-true, eq-eqb, eqb-true, and_parts, not-true, false≢true}
use Rattle.coherence.proofs.Line.Codes.{table, next}
use Rattle.coherence.proofs.Line.Sends.{update_same}
use Rattle.rules.specs.declared.kind.Kind.{Kind}
use Rattle.rules.specs.declared.kind.Kind.TheVariants.{Load, Store}
use Rattle.rules.specs.declared.deed.Deed.{Deed}
use Rattle.rules.specs.declared.deed.Deed.TheVariants.{GetS, GetSServed, GetM, GetMServed, Upg}
use Rattle.rules.specs.Boards.{Place, free, posted, sent, served}
use Rattle.rules.specs.Cells.{is_empty}
use Rattle.coherence.proofs.Runs.Reading.{Board, Reading, Did, ask_board, with_list, sends, aged, held, serves, upgrades, due, ready, is_first, requests, sends_too, writes_back, acts, slot}
use Rattle.coherence.proofs.Runs.Good.{agrees, Good, unsent_fits}
use Rattle.coherence.proofs.Runs.Facts.{sound_get_s, sound_get_m, own_get_s, own_get_m}
use Rattle.coherence.proofs.Runs.Steps.{aged_keeps, sends_keeps, serves_keeps, puts_keeps, upgrades_keeps, none_holds}

pub first_is : (b : ℕ) (row : List ℕ) → is_first b row ≡ true → (r : List ℕ) × (row ≡ b ∷ r)
first_is b [] h = absurd (false≢true h)
first_is b (c ∷ r) h = (r, ap (λ d. d ∷ r) (sym (eqb-true b c h)))

pub empty_is : (row : List ℕ) → is_empty row ≡ true → row ≡ []
empty_is [] h = refl
empty_is (c ∷ r) h = absurd (false≢true h)

-- a request that is due is served
pub due_keeps : (n b l w : ℕ) (kd : Kind) (s : Reading) → Good n s → b < n → (s.boards b).place ≡ sent l kd w → due n b (s.lines l) ≡ true → Good n (serves b l kd w s)
due_keeps n b l w kd s g hb place h =
    let p = and_parts (is_first b (s.lines l).row) (not (held n (s.lines l))) h in
    let f = first_is b (s.lines l).row p.0 in
    serves_keeps n b l w kd f.0 s g hb place f.1 (none_holds n s l g (not-true (held n (s.lines l)) p.1))

pub too_keeps : (n b l w : ℕ) (kd : Kind) (d dp : Deed) (s : Reading) → Good n s → b < n → (s.boards b).place ≡ sent l kd w → Good n (sends_too n b l kd w d dp s).after
too_keeps n b l w kd d dp s g hb place = go (due n b (s.lines l)) refl
  where
    go : (t : Bool) → due n b (s.lines l) ≡ t → Good n (elim t as (λ _. Did) [ true ↦ record { deed = dp; line = Some l; after = serves b l kd w s } | false ↦ record { deed = d; line = Some l; after = s } ]).after
    go true h = due_keeps n b l w kd s g hb place h
    go false h = g

pub sent_place : (b l act e : ℕ) (p : Place) (s : Reading) → ((sends b l act e p s).boards b).place ≡ p
unfolding sends ask_board
sent_place b l act e p s = ap (λ (q : Board). q.place) (update_same (λ c. with_list (eqb ((s.lines l).state c) 2) l (s.boards c)) b (ask_board p (s.boards b)))

pub unsent : (n b l w : ℕ) (kd : Kind) (s : Reading) → Good n s → (s.boards b).place ≡ posted l kd w → unsent_fits kd ((s.lines l).state b) ≡ true
unsent n b l w kd s g place =
    sym (cond-true (eqb l l) (unsent_fits kd ((s.lines l).state b)) (not (eqb ((s.lines l).state b) 5)) (eq-eqb l l refl))
    ∙ sym (ap (λ p. agrees p l ((s.lines l).state b)) place) ∙ (g.cells l b).agreed

-- sent as GetS, or as GetM
pub get_s_keeps : (n b l w : ℕ) (s : Reading) → Good n s → b < n → (s.boards b).place ≡ posted l Load w → Good n (sends b l 1 7 (sent l Load w) s)
unfolding table next
get_s_keeps n b l w s g hb e =
    let u = unsent n b l w Load s g e in
    sends_keeps n b l 1 0 w Load (lit< tt) s g hb e (sound_get_s (s.lines l).state (s.lines l).row b u (g.sound l)) (own_get_s ((s.lines l).state b) u) refl

pub get_m_keeps : (n b l v w : ℕ) (s : Reading) → Good n s → b < n → (s.boards b).place ≡ posted l (Store v) w → Good n (sends b l 2 8 (sent l (Store v) w) s)
unfolding table next
get_m_keeps n b l v w s g hb e =
    let u = unsent n b l w (Store v) s g e in
    sends_keeps n b l 2 1 w (Store v) (lit< tt) s g hb e (sound_get_m v (s.lines l).state (s.lines l).row b u (g.sound l)) (own_get_m v ((s.lines l).state b) u) refl

requests_keep : (n b : ℕ) (s : Reading) (p : Place) → Good n s → b < n → (s.boards b).place ≡ p → ready n b s p ≡ true → Good n (requests n b s p).after
requests_keep n b s free g hb e h = g
requests_keep n b s (posted l Load w) g hb e h =
    too_keeps n b l w Load GetS GetSServed (sends b l 1 7 (sent l Load w) s) (get_s_keeps n b l w s g hb e) hb (sent_place b l 1 7 (sent l Load w) s)
requests_keep n b s (posted l (Store v) w) g hb e h = go (eqb ((s.lines l).state b) 5 && is_empty (s.lines l).row) refl
  where
    go : (t : Bool) → (eqb ((s.lines l).state b) 5 && is_empty (s.lines l).row) ≡ t
        → Good n (elim t as (λ _. Did) [
          | true ↦ record { deed = Upg; line = Some l; after = upgrades b l v w s }
          | false ↦ sends_too n b l (Store v) w GetM GetMServed (sends b l 2 8 (sent l (Store v) w) s)
        ]).after
    go true q =
        let p = and_parts (eqb ((s.lines l).state b) 5) (is_empty (s.lines l).row) q in
        upgrades_keeps n b l v w s g hb e (eqb-true ((s.lines l).state b) 5 p.0) (empty_is (s.lines l).row p.1)
    go false q =
        too_keeps n b l w (Store v) GetM GetMServed (sends b l 2 8 (sent l (Store v) w) s) (get_m_keeps n b l v w s g hb e) hb (sent_place b l 2 8 (sent l (Store v) w) s)
requests_keep n b s (sent l kd w) g hb e h = due_keeps n b l w kd s g hb e h
requests_keep n b s (served l kd r w) g hb e h = g

writes_keep : (n b : ℕ) (s : Reading) (ls : List ℕ) → Good n s → b < n → (s.boards b).list ≡ ls → Good n (writes_back b s ls).after
writes_keep n b s [] g hb e = g
writes_keep n b s (l ∷ ls) g hb e = puts_keeps n b l ls s g hb e

acts_keep : (n b : ℕ) (s : Reading) (t u a : Bool) → Good n s → b < n → ready n b s (s.boards b).place ≡ t → Good n (acts n b s t u a).after
acts_keep n b s true true true g hb h = writes_keep n b s (s.boards b).list g hb refl
acts_keep n b s true true false g hb h = requests_keep n b s (s.boards b).place g hb refl h
acts_keep n b s true false a g hb h = requests_keep n b s (s.boards b).place g hb refl h
acts_keep n b s false true a g hb h = writes_keep n b s (s.boards b).list g hb refl
acts_keep n b s false false a g hb h = g

pub slot_keeps : (n b : ℕ) (s : Reading) → Good n s → b < n → Good n (slot n b s).after
unfolding slot
slot_keeps n b s g hb =
    acts_keep n b (aged s) (ready n b (aged s) ((aged s).boards b).place) (not (is_empty ((aged s).boards b).list)) ((aged s).boards b).asked (aged_keeps n s g) hb refl
