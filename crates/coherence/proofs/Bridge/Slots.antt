-- A slot is the same by boards and by lines.
use Rattle.std.proofs.Common.{◌≡◌, ℕ, zero, suc, ◌+◌, ◌<◌, ◌≤◌, Bool, true, false, cond, not, ◌&&◌, ◌||◌, eqb, ltb, ◌≢◌, List, [], ◌∷◌, ◌++◌, length, Some, sym, refl, ap, ◌∙◌, subst, inl, inr, arith, length-append}
use Rattle.std.specs.List.{AllByRecursion as All}
use Rattle.std.proofs.lemmas.Bool.{and_parts, cases_Bool, cases_eq, cases_lt, eq-eqb, ne_eqb, eqb-true, lt-ltb}
use Rattle.copystate.specs.States.{holds, state_code}
use Rattle.copystate.specs.Events.{event_code}
use Rattle.copystate.specs.declared.states.State.{State}
use Rattle.copystate.specs.declared.events.Event.{Event}
use Rattle.copystate.specs.declared.states.State.TheVariants.{I}
use Rattle.copystate.specs.declared.events.Event.TheVariants.{SendGetS, SendGetM, OtherGetS, OtherGetM}
use Rattle.rules.specs.declared.deed.Deed.{Deed}
use Rattle.rules.specs.declared.deed.Deed.TheVariants.{GetS, GetM, GetSServed, GetMServed, Upg, Data, PutM}
use Rattle.rules.specs.declared.kind.Kind.{Kind}
use Rattle.rules.specs.declared.kind.Kind.TheVariants.{Load, Store}
use Rattle.rules.specs.declared.kind.LastDeed.{LastDeed}
use Rattle.rules.specs.declared.kind.LastDeed.TheVariants.{WriteBack, Request}
use Rattle.rules.specs.Boards as boards
use Rattle.rules.specs.Boards.{Place, ages, free, posted, sent, served, begins, next, result_of}
use Rattle.rules.specs.Cells.{Cells, aged, below, board_at, held, is_empty, is_first, row_at, with_boards}
use Rattle.rules.specs.Slots as rules
use Rattle.coherence.proofs.Turns.Counts.{total}
use Rattle.coherence.proofs.Line.Codes as codes
use Rattle.coherence.proofs.Line.Sends.{update_other, update_same}
use Rattle.coherence.proofs.Runs.Reading as reading
use Rattle.coherence.proofs.Runs.Reading.{Board, Did, Line, Reading, ask_board, push_board, send_line, with_list}
use Rattle.coherence.proofs.Runs.Good.{Good}
use Rattle.coherence.proofs.Runs.Short.{list_within, row_short}
use Rattle.coherence.proofs.Runs.Slots.{due_keeps, get_m_keeps, get_s_keeps, sent_place}
use Rattle.coherence.proofs.Runs.Steps.{aged_keeps}
use Rattle.coherence.proofs.Runs.WriteBackClock.{in_row}
use Rattle.coherence.proofs.Bridge.Codes.{calm_send_get_m, calm_send_get_s, holds_flag, leaves_get_m, leaves_get_s, upgrades_code}
use Rattle.coherence.proofs.Bridge.Readings.{asked_of, each_above, each_below, line_of, reading}
use Rattle.coherence.proofs.Bridge.Moves.{Quiet}
use Rattle.coherence.proofs.Bridge.Deeds.{Countable, same_aged, same_puts, same_sends, same_serves, same_upgrades}

abbrev pub did_of : rules.Did → Did
did_of d = record { deed = d.deed; line = d.line; after = reading d.after }

-- a holder, found or counted
held_is : (n : ℕ) (f : ℕ → State) → below n (λ c. holds (f c)) ≡ ltb 0 (total n (λ c. codes.holds (state_code (f c))))
held_is zero f = refl
held_is (suc n) f =
    elim (cases_Bool (holds (f n))) [
      | inl h ↦ ap (λ t. t || below n (λ c. holds (f c))) h
          ∙ sym (lt-ltb 0 (total n (λ c. codes.holds (state_code (f c))) + codes.holds (state_code (f n))) (omega (arith, holds_flag (f n), ap (λ t. cond {A = ℕ} t 1 0) h)))
      | inr h ↦ ap (λ t. t || below n (λ c. holds (f c))) h ∙ held_is n f
          ∙ ap (ltb 0) (let z : codes.holds (state_code (f n)) ≡ 0 = holds_flag (f n) ∙ ap (λ t. cond {A = ℕ} t 1 0) h in omega arith)
    ]

first_same : (b : ℕ) (r : List ℕ) → is_first b r ≡ reading.is_first b r
first_same b [] = refl
first_same b (c ∷ r) = elim (cases_eq c b) [ inl e ↦ eq-eqb c b e ∙ sym (eq-eqb b c (sym e)) | inr ne ↦ ne_eqb c b ne ∙ sym (ne_eqb b c (λ q. ne (sym q))) ]

due_is : (n b l : ℕ) (s : Cells) → rules.due n b l s ≡ reading.due n b (line_of s l)
unfolding held row_at
due_is n b l s = (λ i. first_same b (s.rows l) i && not (held_is n (λ c. (s.boards c).state l) i))

ready_is : (n b : ℕ) (s : Cells) (p : Place) → rules.ready n b s p ≡ reading.ready n b (reading s) p
unfolding reading
ready_is n b s free = refl
ready_is n b s (posted l k w) = refl
ready_is n b s (sent l k w) = due_is n b l s
ready_is n b s (served l k r w) = refl

-- what has one line more after a deed had room for it
grown_serve : (b l w : ℕ) (k : Kind) (s : Reading) → eqb (codes.writes (codes.next ((s.lines l).state b) 4)) 1 ≡ true → ((reading.serves b l k w s).boards b).list ≡ (s.boards b).list ++ l ∷ []
unfolding reading.serves ask_board push_board
grown_serve b l w k s h =
    ap (λ (z : Board). z.list) (update_same s.boards b _)
    ∙ ap (λ t. (with_list t l (ask_board (served l k (result_of k (s.lines l).mem) w) (s.boards b))).list) h

grown_send : (b l act e : ℕ) (p : Place) (s : Reading) (c : ℕ) → c ≢ b → eqb ((s.lines l).state c) 2 ≡ true → ((reading.sends b l act e p s).boards c).list ≡ (s.boards c).list ++ l ∷ []
unfolding reading.sends push_board
grown_send b l act e p s c ne h =
    ap (λ (z : Board). z.list) (update_other (λ c. with_list (eqb ((s.lines l).state c) 2) l (s.boards c)) b c (ask_board p (s.boards b)) ne) ∙ ap (λ t. (with_list t l (s.boards c)).list) h

grown_row : (b l act e : ℕ) (p : Place) (s : Reading) → ((reading.sends b l act e p s).lines l).row ≡ (s.lines l).row ++ b ∷ []
unfolding reading.sends send_line
grown_row b l act e p s = ap (λ (z : Line). z.row) (update_same s.lines l (send_line b act e (s.lines l)))

length_one : (xs : List ℕ) (x : ℕ) → length (xs ++ x ∷ []) ≡ length xs + 1
length_one xs x = length-append xs (x ∷ [])

in_m_below : (n l c : ℕ) (s : Reading) → Good n s → eqb ((s.lines l).state c) 2 ≡ true → c < n
in_m_below n l c s g h =
    elim (cases_lt c n) [
      | inl k ↦ k
      | inr k ↦ absurd (let z : ◌≡◌ {A = ℕ} 0 2 = sym (g.outside l c k) ∙ eqb-true ((s.lines l).state c) 2 h in omega arith)
    ]

module _ (n b : ℕ) (few : n ≤ 16) (bn : b < n) where
  serve_is : (l w : ℕ) (k : Kind) (s : Cells) → Good n (reading s) → (s.boards b).place ≡ sent l k w → reading.due n b (line_of s l) ≡ true → reading (rules.serves b l k w s) ≡ reading.serves b l k w (reading s)
  unfolding reading
  serve_is l w k s g place h =
      same_serves b l w k s (sym ((g.sound l).waiting b) ∙ in_row n (reading s) b l w k g place)
      (λ q. let g' = due_keeps n b l w k (reading s) g bn place h in
      let e = grown_serve b l w k (reading s) q in
      omega (arith, list_within n b (reading.serves b l k w (reading s)) g' bn, ap length e, length_one (s.boards b).list l))

  send_is : (l w : ℕ) (k : Kind) (mine theirs : Event) (s : Cells) → Quiet n s → next I theirs ≡ I → begins I theirs ≡ false
      → begins ((s.boards b).state l) mine ≡ false → ((x : State) → begins x theirs ≡ eqb (state_code x) 2)
      → Good n (reading s) → Good n (reading.sends b l (event_code mine) (event_code theirs) (sent l k w) (reading s))
      → reading (rules.sends_out n b mine theirs l k w s) ≡ reading.sends b l (event_code mine) (event_code theirs) (sent l k w) (reading s)
  unfolding reading
  send_is l w k mine theirs s quiet stays calm silent leaves g g' =
      same_sends n b l w k mine theirs s bn quiet stays calm silent leaves
      (λ c ne h. let e = grown_send b l act th (sent l k w) (reading s) c ne h in
      omega (arith, list_within n c (reading.sends b l act th (sent l k w) (reading s)) g' (in_m_below n l c (reading s) g h), ap length e, length_one (s.boards c).list l))
      (omega (arith, row_short n (reading.sends b l act th (sent l k w) (reading s)) l g', ap length (grown_row b l act th (sent l k w) (reading s)), length_one (s.rows l) b))
    where
      act : ℕ
      act = event_code mine

      th : ℕ
      th = event_code theirs

  too_is : (l w : ℕ) (k : Kind) (d dp : Deed) (s : Cells) → Good n (reading s) → (s.boards b).place ≡ sent l k w → did_of (rules.served_too n b l k w d dp s) ≡ reading.sends_too n b l k w d dp (reading s)
  unfolding reading
  too_is l w k d dp s g place = ap (λ t. did_of (elim t as (λ _. rules.Did) [ true ↦ record { deed = dp; line = Some l; after = rules.serves b l k w s } | false ↦ record { deed = d; line = Some l; after = s } ])) (due_is n b l s) ∙ go (reading.due n b (line_of s l)) refl
    where
      go : (t : Bool) → reading.due n b (line_of s l) ≡ t
          → did_of (elim t as (λ _. rules.Did) [ true ↦ record { deed = dp; line = Some l; after = rules.serves b l k w s } | false ↦ record { deed = d; line = Some l; after = s } ])
          ≡ (elim t as (λ _. Did) [ true ↦ record { deed = dp; line = Some l; after = reading.serves b l k w (reading s) } | false ↦ record { deed = d; line = Some l; after = reading s } ])
      go true h = ap (λ f. record { deed = dp; line = Some l; after = f }) (serve_is l w k s g place h)
      go false h = refl

  place_is : (s : Cells) (r : Reading) (q : Place) → reading s ≡ r → (r.boards b).place ≡ q → (s.boards b).place ≡ q
  unfolding reading
  place_is s r q e h = ap (λ (f : Reading). (f.boards b).place) e ∙ h

  -- sent, and served too where it is due
  sent_is : (l w : ℕ) (k : Kind) (d dp : Deed) (s : Cells) (r : Reading) → reading s ≡ r → Good n r → (r.boards b).place ≡ sent l k w → did_of (rules.served_too n b l k w d dp s) ≡ reading.sends_too n b l k w d dp r
  sent_is l w k d dp s r e g place = too_is l w k d dp s (subst (Good n) (sym e) g) (place_is s r (sent l k w) e place) ∙ ap (reading.sends_too n b l k w d dp) e

  requests_is : (s : Cells) (p : Place) → Quiet n s → Good n (reading s) → (s.boards b).place ≡ p → reading.ready n b (reading s) p ≡ true → did_of (rules.requests n b s p) ≡ reading.requests n b (reading s) p
  unfolding reading next board_at row_at
  requests_is s free quiet g e h = refl
  requests_is s (posted l Load w) quiet g e h =
      let g' = get_s_keeps n b l w (reading s) g bn e in
      sent_is l w Load GetS GetSServed (rules.sends_out n b SendGetS OtherGetS l Load w s) (reading.sends b l 1 7 (sent l Load w) (reading s))
      (send_is l w Load SendGetS OtherGetS s quiet refl (leaves_get_s I) (calm_send_get_s ((s.boards b).state l)) leaves_get_s g g') g' (sent_place b l 1 7 (sent l Load w) (reading s))
  requests_is s (posted l (Store v) w) quiet g e h =
      ap (λ t. did_of (elim (t && is_empty (s.rows l)) as (λ _. rules.Did) [ true ↦ record { deed = Upg; line = Some l; after = rules.upgrades_to n b l v w s } | false ↦ rules.served_too n b l (Store v) w GetM GetMServed (rules.sends_out n b SendGetM OtherGetM l (Store v) w s) ])) (sym (upgrades_code ((s.boards b).state l)))
      ∙ go (eqb (state_code ((s.boards b).state l)) 5 && is_empty (s.rows l)) refl
    where
      go : (t : Bool) → (eqb (state_code ((s.boards b).state l)) 5 && is_empty (s.rows l)) ≡ t
          → did_of (elim t as (λ _. rules.Did) [ true ↦ record { deed = Upg; line = Some l; after = rules.upgrades_to n b l v w s } | false ↦ rules.served_too n b l (Store v) w GetM GetMServed (rules.sends_out n b SendGetM OtherGetM l (Store v) w s) ])
          ≡ (elim t as (λ _. Did) [ true ↦ record { deed = Upg; line = Some l; after = reading.upgrades b l v w (reading s) } | false ↦ reading.sends_too n b l (Store v) w GetM GetMServed (reading.sends b l 2 8 (sent l (Store v) w) (reading s)) ])
      go true q = ap (λ f. record { deed = Upg; line = Some l; after = f }) (same_upgrades n b l v w s bn quiet refl (eqb-true (state_code ((s.boards b).state l)) 5 (and_parts (eqb (state_code ((s.boards b).state l)) 5) (is_empty (s.rows l)) q).0))
      go false q =
          let g' = get_m_keeps n b l v w (reading s) g bn e in
          sent_is l w (Store v) GetM GetMServed (rules.sends_out n b SendGetM OtherGetM l (Store v) w s) (reading.sends b l 2 8 (sent l (Store v) w) (reading s))
          (send_is l w (Store v) SendGetM OtherGetM s quiet refl (leaves_get_m I) (calm_send_get_m ((s.boards b).state l)) leaves_get_m g g') g' (sent_place b l 2 8 (sent l (Store v) w) (reading s))
  requests_is s (sent l k w) quiet g e h = ap (λ f. record { deed = Data; line = Some l; after = f }) (serve_is l w k s g e h)
  requests_is s (served l k r w) quiet g e h = refl

  writes_is : (s : Cells) (ls : List ℕ) → All (λ l. l < s.size) ls → did_of (rules.writes_back b s (rules.first_of ls)) ≡ reading.writes_back b (reading s) ls
  writes_is s [] h = refl
  writes_is s (l ∷ ls) h = ap (λ f. record { deed = PutM; line = Some l; after = f }) (same_puts b l s h.0)

  acts_is : (s : Cells) (t u : Bool) (a : LastDeed) → Quiet n s → Good n (reading s) → All (λ l. l < s.size) (s.boards b).list → reading.ready n b (reading s) (s.boards b).place ≡ t
      → did_of (rules.acts n b s t u a) ≡ reading.acts n b (reading s) t u (asked_of a)
  unfolding reading board_at
  acts_is s true true Request quiet g ls h = writes_is s (s.boards b).list ls
  acts_is s true true WriteBack quiet g ls h = requests_is s (s.boards b).place quiet g refl h
  acts_is s true false Request quiet g ls h = requests_is s (s.boards b).place quiet g refl h
  acts_is s true false WriteBack quiet g ls h = requests_is s (s.boards b).place quiet g refl h
  acts_is s false true Request quiet g ls h = writes_is s (s.boards b).list ls
  acts_is s false true WriteBack quiet g ls h = writes_is s (s.boards b).list ls
  acts_is s false false Request quiet g ls h = refl
  acts_is s false false WriteBack quiet g ls h = refl

quiet_aged : (n : ℕ) (s : Cells) → Quiet n s → Quiet n (aged n s)
unfolding aged with_boards
quiet_aged n s quiet c h = each_above n (λ c. ages) s.boards c h ∙ quiet c h

aged_list : (n : ℕ) (s : Cells) (b : ℕ) → b < n → ((aged n s).boards b).list ≡ (s.boards b).list
unfolding aged with_boards
aged_list n s b h = ap (λ (x : boards.Board). x.list) (each_below n (λ c. ages) s.boards b h)

aged_size : (n : ℕ) (s : Cells) → (aged n s).size ≡ s.size
unfolding aged with_boards
aged_size n s = refl

module _ (n b : ℕ) (few : n ≤ 16) (bn : b < n) (s : Cells) (quiet : Quiet n s) (good : Good n (reading s)) (lines : All (λ l. l < s.size) (s.boards b).list) (countable : (c : ℕ) → Countable (s.boards c).place) where
  pub same_slot : did_of (rules.slot_of n b s) ≡ reading.slot n b (reading s)
  unfolding reading reading.slot board_at
  same_slot =
      let t = aged n s in
      let e = same_aged n s quiet countable in
      let g : Good n (reading t) = subst (Good n) (sym e) (aged_keeps n (reading s) good) in
      let ls : All (λ l. l < t.size) (t.boards b).list =
      subst (λ m. All (λ l. l < m) (t.boards b).list) (sym (aged_size n s)) (subst (All (λ l. l < s.size)) (sym (aged_list n s b bn)) lines) in
      ap (λ q. did_of (rules.acts n b t q (not (is_empty (t.boards b).list)) (t.boards b).last)) (ready_is n b t (t.boards b).place)
      ∙ acts_is n b few bn t (reading.ready n b (reading t) (t.boards b).place) (not (is_empty (t.boards b).list)) (t.boards b).last (quiet_aged n s quiet) g ls refl
      ∙ ap (λ (f : Reading). reading.acts n b f (reading.ready n b f (f.boards b).place) (not (is_empty (f.boards b).list)) (f.boards b).asked) e
