-- The deeds of a slot are the same by boards and by lines.
use Rattle.std.proofs.Common.{◌≡◌, ℕ, suc, ◌+◌, ◌-◌, ◌^◌, ◌<◌, ◌≤◌, true, false, cond, ◌&&◌, eqb, ltb, ◌≢◌, length, drop, Some, None, Option, sym, refl, ap, ◌∙◌, inl, inr, arith}
use Rattle.std.proofs.lemmas.Bool.{and_from, cases_eq, cases_lt, cond-true, cond-false, eq-eqb, ne_eqb, lt-ltb}
use Rattle.copystate.specs.States.{state_code}
use Rattle.copystate.specs.Events.{event_code}
use Rattle.copystate.specs.declared.states.State.{State}
use Rattle.copystate.specs.declared.states.State.TheVariants.{I}
use Rattle.copystate.specs.declared.events.Event.{Event}
use Rattle.copystate.specs.declared.events.Event.TheVariants.{OtherUpg}
use Rattle.rules.specs.declared.kind.Kind.{Kind}
use Rattle.rules.specs.declared.kind.Kind.TheVariants.{Store}
use Rattle.rules.specs.Boards as rules
use Rattle.rules.specs.Boards.{Place, free, sent, served, begins, blank, change, kept, lays, lifts, moves, next, pushed}
use Rattle.rules.specs.Cells.{Cells, board_at, row_at, snoops, with_board, with_boards, with_row}
use Rattle.rules.specs.Slots.{sends_out, upgrades_to}
use Rattle.coherence.proofs.Line.Codes as codes
use Rattle.coherence.proofs.Line.Sound.{snoop, update}
use Rattle.coherence.proofs.Line.Sends.{snoop_other, snoop_own, update_other, update_same}
use Rattle.coherence.proofs.Runs.Reading as reading
use Rattle.coherence.proofs.Runs.Reading.{Board, Line, Reading, ask_board, keep, push_board, send_line, upg_line, with_list}
use Rattle.coherence.proofs.Runs.Each.{change_other, change_same}
use Rattle.coherence.proofs.Bridge.Codes.{calm_other_upg, calm_own_upg}
use Rattle.coherence.proofs.Bridge.Readings.{asked_of, board_of, each_above, each_below, line_of, mark_of, reading}
use Rattle.copystate.specs.declared.events.Event.TheVariants.{OwnData, OwnPutM, OwnUpg}
use Rattle.rules.specs.Boards.{ages, asks, gets, gives, longer, older, posted, result_of, unmarked}
use Rattle.rules.specs.Cells.{aged, with_word, word_at}
use Rattle.rules.specs.Slots.{puts_back, serves}
use Rattle.memory.specs.Interface.{written}
use Rattle.coherence.proofs.Runs.Reading.{age_board, put_board, put_line, serve_line}
use Rattle.coherence.proofs.Bridge.Codes.{calm_own_put_m, data_begins}
use Rattle.coherence.proofs.Bridge.Readings.{reads_boards}
use Rattle.coherence.proofs.Bridge.Moves.{Quiet, board_reads, hears, line_reads, listed, room, state_beside, state_here, unheard, word_beside, word_here}

module _ (n b l w : ℕ) (k : Kind) (mine theirs : Event) (s : Cells) (bn : b < n) (quiet : Quiet n s) (stays : next I theirs ≡ I) (calm : begins I theirs ≡ false)
    (silent : begins ((s.boards b).state l) mine ≡ false) (leaves-M : (x : State) → begins x theirs ≡ eqb (state_code x) 2)
    (lists : (c : ℕ) → c ≢ b → eqb (state_code ((s.boards c).state l)) 2 ≡ true → length (s.boards c).list < 16) (rows : length (s.rows l) < 16) where
  abbrev x : ℕ → ℕ
  x c = state_code ((s.boards c).state l)

  abbrev rest : ℕ → Board
  rest c = with_list (eqb (state_code ((s.boards c).state l)) 2) l (board_of (s.boards c))

  abbrev own : Board
  own = ask_board (sent l k w) (board_of (s.boards b))

  own_board : board_of (rules.sends mine l k w (s.boards b)) ≡ own
  unfolding ask_board
  own_board =
      ap (λ r. record { place = sent l k w; list = r; asked = true; mark = mark_of (s.boards b).mark })
      (cond-false (begins ((s.boards b).state l) mine) (pushed (s.boards b).list l) (s.boards b).list silent)

  other_board : (c : ℕ) → c ≢ b → board_of (moves l theirs (s.boards c)) ≡ rest c
  other_board c ne =
      ap (λ t. record { place = (s.boards c).place; list = cond t (pushed (s.boards c).list l) (s.boards c).list; asked = asked_of (s.boards c).last; mark = mark_of (s.boards c).mark })
      (leaves-M ((s.boards c).state l))
      ∙ listed (eqb (state_code ((s.boards c).state l)) 2) (s.boards c) l (lists c ne)

  pub same_sends : reading (sends_out n b mine theirs l k w s) ≡ reading.sends b l (event_code mine) (event_code theirs) (sent l k w) (reading s)
  unfolding with_row with_board with_boards board_at row_at snoops reading reading.sends send_line
  same_sends =
      line_reads b l (moves l theirs) s (sends_out n b mine theirs l k w s) (rules.sends mine l k w (s.boards b))
      (change_same heard b (rules.sends mine l k w (heard b)) ∙ ap (rules.sends mine l k w) (unheard n b l theirs s quiet stays calm bn))
      (λ c ne. change_other heard b c (rules.sends mine l k w (heard b)) ne ∙ hears n b l theirs s quiet stays calm c ne)
      (state_beside l mine ((s.boards b).word l) (s.boards b)) (word_beside l mine ((s.boards b).word l) (s.boards b))
      (λ x. state_beside l theirs (x.word l) x) (λ x. word_beside l theirs (x.word l) x)
      (λ m ne. change_other s.rows l m (pushed (s.rows l) b) ne) (λ m _. refl)
      (update rest b own) (send_line b (event_code mine) (event_code theirs) (line_of s l))
      (own_board ∙ sym (update_same rest b own))
      (state_here l mine ((s.boards b).word l) (s.boards b) ∙ sym (snoop_own x b act e))
      (word_here l mine ((s.boards b).word l) (s.boards b) ∙ ap (λ v. keep v ((s.boards b).word l)) (sym (snoop_own x b act e)))
      (λ c ne. other_board c ne ∙ sym (update_other rest b c own ne))
      (λ c ne. state_here l theirs ((s.boards c).word l) (s.boards c) ∙ sym (snoop_other x b act e c ne))
      (λ c ne. word_here l theirs ((s.boards c).word l) (s.boards c) ∙ ap (λ v. keep v ((s.boards c).word l)) (sym (snoop_other x b act e c ne)))
      (change_same s.rows l (pushed (s.rows l) b) ∙ room (s.rows l) b rows) refl
    where
      act : ℕ
      act = event_code mine

      e : ℕ
      e = event_code theirs

      heard : ℕ → rules.Board
      heard = (snoops n b l theirs s).boards

-- an upgrade, which makes nobody leave M
module _ (n b l v w : ℕ) (s : Cells) (bn : b < n) (quiet : Quiet n s) (stays : next I OtherUpg ≡ I) (in-SMw : state_code ((s.boards b).state l) ≡ 5) where
  upg_board : board_of (lifts l v w (s.boards b)) ≡ ask_board (served l (Store v) v w) (board_of (s.boards b))
  unfolding ask_board
  upg_board =
      ap (λ r. record { place = served l (Store v) v w; list = r; asked = true; mark = mark_of (s.boards b).mark })
      (cond-false (begins ((s.boards b).state l) OwnUpg) (pushed (s.boards b).list l) (s.boards b).list (calm_own_upg ((s.boards b).state l)))

  upg_other : (c : ℕ) → board_of (moves l OtherUpg (s.boards c)) ≡ board_of (s.boards c)
  upg_other c =
      ap (λ r. record { place = (s.boards c).place; list = r; asked = asked_of (s.boards c).last; mark = mark_of (s.boards c).mark })
      (cond-false (begins ((s.boards c).state l) OtherUpg) (pushed (s.boards c).list l) (s.boards c).list (calm_other_upg ((s.boards c).state l)))

  upg_word : keep (codes.next (state_code ((s.boards b).state l)) 5) v ≡ v
  unfolding codes.next codes.table codes.copies
  upg_word = ap (λ q. keep (codes.next q 5) v) in-SMw

  pub same_upgrades : reading (upgrades_to n b l v w s) ≡ reading.upgrades b l v w (reading s)
  unfolding with_board with_boards board_at snoops reading reading.upgrades upg_line
  same_upgrades =
      line_reads b l (moves l OtherUpg) s (upgrades_to n b l v w s) (lifts l v w (s.boards b))
      (change_same heard b (lifts l v w (heard b)) ∙ ap (lifts l v w) (unheard n b l OtherUpg s quiet stays (calm_other_upg I) bn))
      (λ c ne. change_other heard b c (lifts l v w (heard b)) ne ∙ hears n b l OtherUpg s quiet stays (calm_other_upg I) c ne)
      (state_beside l OwnUpg v (s.boards b)) (word_beside l OwnUpg v (s.boards b))
      (λ x. state_beside l OtherUpg (x.word l) x) (λ x. word_beside l OtherUpg (x.word l) x)
      (λ m _. refl) (λ m _. refl)
      (update (λ c. board_of (s.boards c)) b own) (upg_line b v (line_of s l))
      (upg_board ∙ sym (update_same (λ c. board_of (s.boards c)) b own))
      (state_here l OwnUpg v (s.boards b) ∙ sym (snoop_own x b 5 9))
      (word_here l OwnUpg v (s.boards b) ∙ upg_word ∙ sym (update_same ws b v))
      (λ c ne. upg_other c ∙ sym (update_other (λ c. board_of (s.boards c)) b c own ne))
      (λ c ne. state_here l OtherUpg ((s.boards c).word l) (s.boards c) ∙ sym (snoop_other x b 5 9 c ne))
      (λ c ne. word_here l OtherUpg ((s.boards c).word l) (s.boards c) ∙ ap (λ q. keep q ((s.boards c).word l)) (sym (snoop_other x b 5 9 c ne)) ∙ sym (update_other ws b c v ne))
      refl refl
    where
      x : ℕ → ℕ
      x c = state_code ((s.boards c).state l)

      ws : ℕ → ℕ
      ws c = keep (snoop x b 5 9 c) ((s.boards c).word l)

      own : Board
      own = ask_board (served l (Store v) v w) (board_of (s.boards b))

      heard : ℕ → rules.Board
      heard = (snoops n b l OtherUpg s).boards

-- own data
module _ (b l w : ℕ) (k : Kind) (s : Cells) (waiting : codes.waits (state_code ((s.boards b).state l)) ≡ 1)
    (list : eqb (codes.writes (codes.next (state_code ((s.boards b).state l)) 4)) 1 ≡ true → length (s.boards b).list < 16) where
  data_board : board_of (gets l k w (s.words l) (s.boards b))
      ≡ with_list (eqb (codes.writes (codes.next (state_code ((s.boards b).state l)) 4)) 1) l (ask_board (served l k (result_of k (s.words l)) w) (board_of (s.boards b)))
  unfolding ask_board
  data_board =
      ap (λ t. record { place = served l k (result_of k (s.words l)) w; list = cond t (pushed (s.boards b).list l) (s.boards b).list; asked = true; mark = mark_of (s.boards b).mark })
      (data_begins ((s.boards b).state l) waiting)
      ∙ listed (eqb (codes.writes (codes.next (state_code ((s.boards b).state l)) 4)) 1) (asks (served l k (result_of k (s.words l)) w) (s.boards b)) l list

  pub same_serves : reading (serves b l k w s) ≡ reading.serves b l k w (reading s)
  unfolding with_row with_board with_boards board_at row_at word_at reading reading.serves serve_line
  same_serves =
      board_reads b l s (serves b l k w s) (gets l k w (s.words l) (s.boards b)) refl
      (state_beside l OwnData (result_of k (s.words l)) (s.boards b)) (word_beside l OwnData (result_of k (s.words l)) (s.boards b))
      (λ m ne. change_other s.rows l m (drop 1 (s.rows l)) ne) (λ m _. refl)
      _ _ _ _ _ data_board
      (state_here l OwnData (result_of k (s.words l)) (s.boards b)) (word_here l OwnData (result_of k (s.words l)) (s.boards b))
      (change_same s.rows l (drop 1 (s.rows l))) refl

-- a write-back
mark_put : (l : ℕ) (m : Option ℕ) → mark_of (unmarked l m) ≡ cond (eqb (mark_of m) (suc l)) 0 (mark_of m)
mark_put l None = sym (cond-false (eqb 0 (suc l)) 0 0 (ne_eqb 0 (suc l) (omega arith)))
mark_put l (Some k) =
    elim (cases_eq k l) [
      | inl e ↦ ap mark_of (cond-true (eqb k l) None (Some k) (eq-eqb k l e)) ∙ sym (cond-true (eqb (suc k) (suc l)) 0 (suc k) (eq-eqb (suc k) (suc l) (ap suc e)))
      | inr ne ↦ ap mark_of (cond-false (eqb k l) None (Some k) (ne_eqb k l ne)) ∙ sym (cond-false (eqb (suc k) (suc l)) 0 (suc k) (ne_eqb (suc k) (suc l) (λ h. ne (omega arith))))
    ]

module _ (b l : ℕ) (s : Cells) (inside : l < s.size) where
  put_board_lem : board_of (gives l (s.boards b)) ≡ put_board l (board_of (s.boards b))
  unfolding put_board
  put_board_lem i =
      record {
        place = (s.boards b).place;
        list = cond-false (begins ((s.boards b).state l) OwnPutM) (pushed (drop 1 (s.boards b).list) l) (drop 1 (s.boards b).list) (calm_own_put_m ((s.boards b).state l)) i;
        asked = false;
        mark = mark_put l (s.boards b).mark i;
      }

  put_there : written s.size s.words l ((s.boards b).word l) l ≡ (s.boards b).word l
  unfolding written
  put_there = cond-true (eqb l l && ltb l s.size) ((s.boards b).word l) (s.words l) (and_from (eqb l l) (ltb l s.size) (eq-eqb l l refl) (lt-ltb l s.size inside))

  put_elsewhere : (m : ℕ) → m ≢ l → written s.size s.words l ((s.boards b).word l) m ≡ s.words m
  unfolding written
  put_elsewhere m ne = cond-false (eqb m l && ltb m s.size) ((s.boards b).word l) (s.words m) (ap (λ t. t && ltb m s.size) (ne_eqb m l ne))

  pub same_puts : reading (puts_back b l s) ≡ reading.puts b l (reading s)
  unfolding with_word with_board with_boards board_at reading reading.puts put_line
  same_puts =
      board_reads b l s (puts_back b l s) (gives l (s.boards b)) refl
      (state_beside l OwnPutM ((s.boards b).word l) (s.boards b)) (word_beside l OwnPutM ((s.boards b).word l) (s.boards b))
      (λ m _. refl) put_elsewhere _ _ _ _ _ put_board_lem
      (state_here l OwnPutM ((s.boards b).word l) (s.boards b)) (word_here l OwnPutM ((s.boards b).word l) (s.boards b))
      refl put_there

-- a slot passes
abbrev pub Countable : Place → Type 0
Countable free = Unit {0}
Countable (posted l k w) = w + 1 ≤ 2 ^ 64 - 1
Countable (sent l k w) = w + 1 ≤ 2 ^ 64 - 1
Countable (served l k r w) = Unit {0}

longer_is : (w : ℕ) → w + 1 ≤ 2 ^ 64 - 1 → longer w ≡ w + 1
longer_is w h = omega arith

older_is : (p : Place) → Countable p → older p ≡ reading.older p
older_is free h = refl
older_is (posted l k w) h = ap (posted l k) (longer_is w h)
older_is (sent l k w) h = ap (sent l k) (longer_is w h)
older_is (served l k r w) h = refl

module _ (n : ℕ) (s : Cells) (quiet : Quiet n s) (countable : (c : ℕ) → Countable (s.boards c).place) where
  aged_at : (c : ℕ) → (aged n s).boards c ≡ ages (s.boards c)
  unfolding aged with_boards
  aged_at c =
      elim (cases_lt c n) [
        | inl h ↦ each_below n (λ c. ages) s.boards c h
        | inr h ↦ each_above n (λ c. ages) s.boards c h ∙ quiet c h ∙ ap ages (sym (quiet c h))
      ]

  pub same_aged : reading (aged n s) ≡ reading.aged (reading s)
  unfolding aged with_boards reading reading.aged age_board
  same_aged =
      reads_boards s (aged n s) (λ c. age_board (board_of (s.boards c)))
      (λ c. ap board_of (aged_at c) ∙ ap (λ p. record { place = p; list = (s.boards c).list; asked = asked_of (s.boards c).last; mark = mark_of (s.boards c).mark }) (older_is (s.boards c).place (countable c)))
      (λ l c. ap (λ (x : rules.Board). x.state l) (aged_at c)) (λ l c. ap (λ (x : rules.Board). x.word l) (aged_at c)) refl refl
