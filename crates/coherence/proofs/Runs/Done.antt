-- A served request has not waited long.
use Rattle.std.proofs.Common.{◌≡◌, ℕ, zero, suc, ◌+◌, ◌*◌, ◌<◌, ◌≤◌, Bool, true, false, not, ◌&&◌, eqb, ◌⊎◌, List, [], ◌∷◌, Some, sym, refl, ap, ◌∙◌, inl, inr, mul-le-mul_left, arith}
use Rattle.std.proofs.lemmas.Bool.{cases_eq, cases_lt, and_parts, not-true, le-ltb}
use Rattle.coherence.proofs.Turns.Counts.{occurs, total}
use Rattle.coherence.proofs.Turns.Turns.{turns}
use Rattle.coherence.proofs.Line.Codes.{next, holds, waits, writes}
use Rattle.rules.specs.declared.kind.Kind.{Kind}
use Rattle.rules.specs.declared.kind.Kind.TheVariants.{Load, Store}
use Rattle.rules.specs.declared.deed.Deed.{Deed}
use Rattle.rules.specs.declared.deed.Deed.TheVariants.{GetS, GetSServed, GetM, GetMServed, Upg}
use Rattle.rules.specs.Boards.{Place, free, posted, sent, served}
use Rattle.rules.specs.Boards.{result_of}
use Rattle.rules.specs.Cells.{is_empty}
use Rattle.coherence.proofs.Runs.Reading.{Board, Reading, Did, older, aged, age_board, ask_board, push_board, put_board, with_list, sends, serves, puts, upgrades, due, held, ready, is_first, requests, sends_too, writes_back, acts, slot}
use Rattle.coherence.proofs.Runs.Good.{Good}
use Rattle.coherence.proofs.Runs.Clock.{place_of, Clock}
use Rattle.coherence.proofs.Runs.Each.{each}
use Rattle.coherence.proofs.Runs.Facts.{wait_no_m, wait_not_m, holds_writes, holds_le}
use Rattle.coherence.proofs.Runs.Steps.{aged_keeps, none_holds}
use Rattle.coherence.proofs.Runs.Slots.{first_is}
use Rattle.coherence.proofs.Runs.Places.{place_here, place_pos}
use Rattle.coherence.proofs.Runs.WriteBackClock.{aged_clock, in_row, times_ask}

abbrev pub Done : ℕ → Reading → Type 0
Done z s = (b l q w : ℕ) (kd : Kind) → (s.boards b).place ≡ served l kd q w → w ≤ z

older_served : (y : Place) (l q w : ℕ) (kd : Kind) → older y ≡ served l kd q w → y ≡ served l kd q w
older_served free l q w kd h = h
older_served (posted k d x) l q w kd h = absurd (let z : ◌≡◌ {A = ℕ} 0 1 = cc in omega arith)
older_served (sent k d x) l q w kd h = absurd (let z : ◌≡◌ {A = ℕ} 0 1 = cc in omega arith)
older_served (served k d r x) l q w kd h = h

-- two rounds are within the limit
pub two_rounds : (n p : ℕ) → 1 ≤ n → 2 * p ≤ p * (n * (n + 3))
two_rounds n p h = omega (arith, mul-le-mul_left p (mul_two_n n h))
  where
    mul_two_n : (n : ℕ) → 1 ≤ n → 2 ≤ n * (n + 3)
    mul_two_n n h = omega arith

with_place : (t : Bool) (l : ℕ) (b : Board) → (with_list t l b).place ≡ b.place
unfolding push_board
with_place true l b = refl
with_place false l b = refl

module _ (n p a : ℕ) (u : ℕ → ℕ) (s : Reading) (g : Good n s) (k : Clock n p 1 u s) (ua : u a ≡ 1) (an : a < n) (d : Done (p * (n * (n + 3))) s) where
  serves_done : (s1 : Reading) (l w : ℕ) (kd : Kind) → w ≤ p * (n * (n + 3)) → Done (p * (n * (n + 3))) s1 → Done (p * (n * (n + 3))) (serves a l kd w s1)
  unfolding serves ask_board
  serves_done s1 l w kd h d1 =
      each (λ c (z : Board). (m q x : ℕ) (kd' : Kind) → z.place ≡ served m kd' q x → x ≤ p * (n * (n + 3))) s1.boards a _
      (λ m q x kd' e. let e1 : served l kd (result_of kd (s1.lines l).mem) w ≡ served m kd' q x = sym (with_place (eqb (writes (next ((s1.lines l).state a) 4)) 1) l (ask_board (served l kd (result_of kd (s1.lines l).mem) w) (s1.boards a))) ∙ e in
      let xw : x ≡ w = cc e1 in omega arith)
      (λ c _. d1 c)

  sends_done : (l act e w : ℕ) (kd : Kind) → Done (p * (n * (n + 3))) (sends a l act e (sent l kd w) s)
  unfolding sends ask_board
  sends_done l act e w kd =
      each (λ c (z : Board). (m q x : ℕ) (kd' : Kind) → z.place ≡ served m kd' q x → x ≤ p * (n * (n + 3))) (λ c. with_list (eqb ((s.lines l).state c) 2) l (s.boards c)) a _
      (λ m q x kd' e. absurd (let z : ◌≡◌ {A = ℕ} 0 1 = cc in omega arith))
      (λ c _ m q x kd' e. d c m q x kd' (sym (with_place (eqb ((s.lines l).state c) 2) l (s.boards c)) ∙ e))

  too_done : (l act e w : ℕ) (kd : Kind) (dd dp : Deed) → (s.boards a).place ≡ posted l kd w → Done (p * (n * (n + 3))) (sends_too n a l kd w dd dp (sends a l act e (sent l kd w) s)).after
  too_done l act e w kd dd dp place = go (due n a ((sends a l act e (sent l kd w) s).lines l))
    where
      go : (t : Bool) → Done (p * (n * (n + 3))) (elim t as (λ _. Did) [ true ↦ record { deed = dp; line = Some l; after = serves a l kd w (sends a l act e (sent l kd w) s) } | false ↦ record { deed = dd; line = Some l; after = sends a l act e (sent l kd w) s } ]).after
      go true = serves_done (sends a l act e (sent l kd w) s) l w kd (omega (arith, k.unsent a l w kd place, two_rounds n p (omega arith))) (sends_done l act e w kd)
      go false = sends_done l act e w kd

  requests_done : (q : Place) → (s.boards a).place ≡ q → ready n a s q ≡ true → Done (p * (n * (n + 3))) (requests n a s q).after
  unfolding upgrades ask_board turns
  requests_done free e h = d
  requests_done (posted l Load w) e h = too_done l 1 7 w Load GetS GetSServed e
  requests_done (posted l (Store v) w) e h = go (eqb ((s.lines l).state a) 5 && is_empty (s.lines l).row)
    where
      go : (z : Bool) → Done (p * (n * (n + 3))) (elim z as (λ _. Did) [
        | true ↦ record { deed = Upg; line = Some l; after = upgrades a l v w s }
        | false ↦ sends_too n a l (Store v) w GetM GetMServed (sends a l 2 8 (sent l (Store v) w) s)
      ]).after
      go true =
          each (λ c (z : Board). (m q x : ℕ) (kd' : Kind) → z.place ≡ served m kd' q x → x ≤ p * (n * (n + 3))) s.boards a _
          (λ m q x kd' e1. let xw : x ≡ w = cc e1 in omega (arith, k.unsent a l w (Store v) e, two_rounds n p (omega arith)))
          (λ c _. d c)
      go false = too_done l 2 8 w (Store v) GetM GetMServed e
  requests_done (sent l kd w) e h =
      let pr = and_parts (is_first a (s.lines l).row) (not (held n (s.lines l))) h in
      let f = first_is a (s.lines l).row pr.0 in
      let y = none_holds n s l g (not-true (held n (s.lines l)) pr.1) in
      let pl : place_of a (s.lines l).row ≡ 1 = ap (place_of a) f.1 ∙ place_here a f.0 in
      let tw : 2 ≤ turns n (place_of a (s.lines l).row) 0 = omega arith in
      serves_done s l w kd (omega (arith, k.open' a l w a f.0 kd e y f.1, mul-le-mul_left p tw)) d
  requests_done (served l kd r w) e h = d

  writes_done : (ls : List ℕ) → Done (p * (n * (n + 3))) (writes_back a s ls).after
  unfolding puts put_board
  writes_done [] = d
  writes_done (l ∷ ls) =
      each (λ c (z : Board). (m q x : ℕ) (kd' : Kind) → z.place ≡ served m kd' q x → x ≤ p * (n * (n + 3))) s.boards a _ (d a) (λ c _. d c)

  acts_done : (x y z : Bool) → ready n a s (s.boards a).place ≡ x → Done (p * (n * (n + 3))) (acts n a s x y z).after
  acts_done true true true r = writes_done (s.boards a).list
  acts_done true true false r = requests_done (s.boards a).place refl r
  acts_done true false z r = requests_done (s.boards a).place refl r
  acts_done false true z r = writes_done (s.boards a).list
  acts_done false false z r = d

pub slot_done : (n p a : ℕ) (u : ℕ → ℕ) → u a ≡ 1 → (s : Reading) → Good n s → Clock n p 0 u s → a < n → Done (p * (n * (n + 3))) s → Done (p * (n * (n + 3))) (slot n a s).after
unfolding slot aged age_board
slot_done n p a u ua s g k an d =
    acts_done n p a u (aged s) (aged_keeps n s g) (aged_clock n p u s k) ua an
    (λ b l q w kd e. d b l q w kd (older_served (s.boards b).place l q w kd e))
    (ready n a (aged s) ((aged s).boards a).place) (not (is_empty ((aged s).boards a).list)) ((aged s).boards a).asked refl

-- some board holds, or none does
some_or_none : (n : ℕ) (f : ℕ → ℕ) → ((c : ℕ) × (c < n) × (1 ≤ f c)) ⊎ (total n f ≡ 0)
some_or_none zero f = inr refl
some_or_none (suc n) f =
    elim (some_or_none n f) [
      | inl h ↦ inl (h.0, omega (arith, h.1), h.2)
      | inr z ↦ elim (cases_lt 0 (f n)) [ inl k ↦ inl (n, omega arith, k) | inr k ↦ inr (omega arith) ]
    ]

-- an unserved one has not waited that long
pub unserved : (n p : ℕ) (u : ℕ → ℕ) (s : Reading) → ((c : ℕ) → 1 ≤ u c) → Good n s → Clock n p 0 u s → (b l w : ℕ) (kd : Kind) → (s.boards b).place ≡ sent l kd w → w < p * (n * (n + 3))
unfolding turns
unserved n p u s pos g k b l w kd e =
    elim (some_or_none n (λ c. holds ((s.lines l).state c))) [
      | inl h ↦
          let ir = in_row n s b l w kd g e in
          let wb : waits ((s.lines l).state b) ≡ 1 = sym ((g.sound l).waiting b) ∙ ir in
          let nm : eqb ((s.lines l).state h.0) 2 ≡ false = no_m h.0 wb in
          let y : writes ((s.lines l).state h.0) ≡ 1 = omega (arith, holds_writes ((s.lines l).state h.0) ((g.sound l).small h.0) nm, h.2, holds_le ((s.lines l).state h.0) ((g.sound l).small h.0)) in
          let tw : 2 ≤ turns n (place_of b (s.lines l).row) (place_of l (s.boards h.0).list) = omega (arith, place_pos b (s.lines l).row) in
          omega (arith, k.held b l w h.0 kd e y, mul-le-mul_left p tw, times_ask p (s.boards h.0), pos h.0)
      | inr z ↦
          let y = none_holds n s l g (le-ltb 0 (total n (λ c. holds ((s.lines l).state c))) (omega arith)) in
          let f = nonempty (s.lines l).row (in_row n s b l w kd g e) in
          let tw : 2 ≤ turns n (place_of b (s.lines l).row) 0 = omega (arith, place_pos b (s.lines l).row) in
          omega (arith, k.open' b l w f.0 f.1 kd e y f.2, mul-le-mul_left p tw, pos f.0)
    ]
  where
    nonempty : (q : List ℕ) → occurs b q ≡ 1 → (f : ℕ) × (r : List ℕ) × (q ≡ f ∷ r)
    nonempty [] h = absurd (let z : ◌≡◌ {A = ℕ} 0 1 = h in omega arith)
    nonempty (f ∷ r) h = (f, r, refl)

    no_m : (c : ℕ) → waits ((s.lines l).state b) ≡ 1 → eqb ((s.lines l).state c) 2 ≡ false
    no_m c wb =
        elim (cases_eq c b) [
          | inl q ↦ rw q (wait_not_m ((s.lines l).state b) ((g.sound l).small b) wb)
          | inr ne ↦ wait_no_m ((s.lines l).state b) ((s.lines l).state c) ((g.sound l).small b) ((g.sound l).small c) ((g.sound l).fit b c (λ q. ne (sym q))) wb
        ]
