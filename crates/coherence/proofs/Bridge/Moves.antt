-- What a board does at a line, and what the others hear, read line by line.
use Rattle.std.proofs.Common.{◌≡◌, ℕ, ◌<◌, ◌≤◌, Bool, true, false, cond, eqb, ltb, ◌≢◌, List, [], ◌∷◌, ◌++◌, length, None, sym, refl, ap, ◌∙◌, inl, inr}
use Rattle.std.proofs.lemmas.Bool.{cases_eq, cases_lt, cond-true, cond-false, eq-eqb, ne_eqb, lt-ltb}
use Rattle.copystate.specs.States.{state_code}
use Rattle.copystate.specs.Events.{event_code}
use Rattle.copystate.specs.declared.states.State.TheVariants.{I}
use Rattle.copystate.specs.declared.events.Event.{Event}
use Rattle.rules.specs.declared.kind.LastDeed.TheVariants.{WriteBack}
use Rattle.rules.specs.Boards as rules
use Rattle.rules.specs.Boards.{Place, free, sent, served, begins, blank, change, kept, lays, lifts, moves, next, pushed}
use Rattle.rules.specs.Cells.{Cells, but_for, snoops, with_boards}
use Rattle.coherence.proofs.Line.Codes as codes
use Rattle.coherence.proofs.Line.Sound.{update}
use Rattle.coherence.proofs.Line.Sends.{update_other, update_same}
use Rattle.coherence.proofs.Runs.Reading.{Board, Line, keep, push_board, with_list}
use Rattle.coherence.proofs.Runs.Each.{change_other, change_same}
use Rattle.coherence.proofs.Bridge.Codes.{kept_code, next_code}
use Rattle.coherence.proofs.Bridge.Readings.{Beside, asked_of, board_of, change_kept, each_above, each_below, line_of, mark_of, reading, reads}

-- nothing has happened to boards that there are not
abbrev pub Quiet : ℕ → Cells → Type 0
Quiet n s = (c : ℕ) → n ≤ c → s.boards c ≡ blank

pub room : (xs : List ℕ) (x : ℕ) → length xs < 16 → pushed xs x ≡ xs ++ x ∷ []
room xs x h = cond-true (ltb (length xs) 16) (xs ++ x ∷ []) xs (lt-ltb (length xs) 16 h)

-- a board whose list has one line more, or not
pub listed : (t : Bool) (x : rules.Board) (l : ℕ) → (t ≡ true → length x.list < 16)
    → record { place = x.place; list = cond t (pushed x.list l) x.list; asked = asked_of x.last; mark = mark_of x.mark } ≡ with_list t l (board_of x)
unfolding push_board
listed true x l h = ap (λ r. record { place = x.place; list = r; asked = asked_of x.last; mark = mark_of x.mark }) (room x.list l (h refl))
listed false x l h = refl

module _ (n b l : ℕ) (e : Event) (s : Cells) (quiet : Quiet n s) (stays : next I e ≡ I) (calm : begins I e ≡ false) where
  moves_blank : moves l e blank ≡ blank
  unfolding kept
  moves_blank i =
      record {
        place = free;
        list = cond-false (begins I e) (pushed [] l) [] calm i;
        last = WriteBack;
        mark = None;
        state = (ap (change (λ k. I) l) stays ∙ change_kept (λ k. I) l) i;
        word = (ap (λ x. change (λ k. 0) l (kept x 0)) stays ∙ change_kept (λ k. 0) l) i;
      }

  pub hears : (c : ℕ) → c ≢ b → (snoops n b l e s).boards c ≡ moves l e (s.boards c)
  unfolding snoops with_boards
  hears c ne =
      elim (cases_lt c n) [
        | inl h ↦ each_below n (but_for b (moves l e)) s.boards c h ∙ cond-false (eqb c b) (s.boards c) (moves l e (s.boards c)) (ne_eqb c b ne)
        | inr h ↦ each_above n (but_for b (moves l e)) s.boards c h ∙ quiet c h ∙ sym moves_blank ∙ ap (moves l e) (sym (quiet c h))
      ]

  pub unheard : b < n → (snoops n b l e s).boards b ≡ s.boards b
  unfolding snoops with_boards
  unheard h = each_below n (but_for b (moves l e)) s.boards b h ∙ cond-true (eqb b b) (s.boards b) (moves l e (s.boards b)) (eq-eqb b b refl)

-- an event at a line, seen there and elsewhere
pub state_here : (l : ℕ) (e : Event) (w : ℕ) (x : rules.Board) → state_code ((lays l e w x).state l) ≡ codes.next (state_code (x.state l)) (event_code e)
state_here l e w x = ap state_code (change_same x.state l (next (x.state l) e)) ∙ sym (next_code (x.state l) e)

pub word_here : (l : ℕ) (e : Event) (w : ℕ) (x : rules.Board) → (lays l e w x).word l ≡ keep (codes.next (state_code (x.state l)) (event_code e)) w
word_here l e w x =
    change_same x.word l (kept (next (x.state l) e) w) ∙ kept_code (next (x.state l) e) w ∙ ap (λ v. keep v w) (sym (next_code (x.state l) e))

-- b is y after it, and the others are by f what they were: at one line
module _ (b l : ℕ) (f : rules.Board → rules.Board) (s after : Cells) (y : rules.Board) (mine : after.boards b ≡ y) (others : (c : ℕ) → c ≢ b → after.boards c ≡ f (s.boards c))
    (states : (m : ℕ) → m ≢ l → y.state m ≡ (s.boards b).state m) (words : (m : ℕ) → m ≢ l → y.word m ≡ (s.boards b).word m)
    (f-states : (x : rules.Board) (m : ℕ) → m ≢ l → (f x).state m ≡ x.state m) (f-words : (x : rules.Board) (m : ℕ) → m ≢ l → (f x).word m ≡ x.word m)
    (rows : (m : ℕ) → m ≢ l → after.rows m ≡ s.rows m) (memory : (m : ℕ) → m ≢ l → after.words m ≡ s.words m) where
  by_board : {A : Type 0} (g : rules.Board → A) (h : ℕ → A) → g y ≡ h b → ((c : ℕ) → c ≢ b → g (f (s.boards c)) ≡ h c) → (c : ℕ) → g (after.boards c) ≡ h c
  by_board g h own rest c =
      elim (cases_eq c b) [
        | inl q ↦ ap (λ i. g (after.boards i)) q ∙ ap g mine ∙ own ∙ ap h (sym q)
        | inr ne ↦ ap g (others c ne) ∙ rest c ne
      ]

  beside : Beside l s after
  beside =
      record {
        states = λ m ne. by_board (λ (x : rules.Board). x.state m) (λ c. (s.boards c).state m) (states m ne) (λ c _. f-states (s.boards c) m ne);
        words = λ m ne. by_board (λ (x : rules.Board). x.word m) (λ c. (s.boards c).word m) (words m ne) (λ c _. f-words (s.boards c) m ne);
        rows = rows;
        memory = memory;
      }

  pub line_reads : (bs : ℕ → Board) (ln : Line) → board_of y ≡ bs b → state_code (y.state l) ≡ ln.state b → y.word l ≡ ln.word b
      → ((c : ℕ) → c ≢ b → board_of (f (s.boards c)) ≡ bs c) → ((c : ℕ) → c ≢ b → state_code ((f (s.boards c)).state l) ≡ ln.state c) → ((c : ℕ) → c ≢ b → (f (s.boards c)).word l ≡ ln.word c)
      → after.rows l ≡ ln.row → after.words l ≡ ln.mem → reading after ≡ record { boards = bs; lines = update (reading s).lines l ln }
  line_reads bs ln hb hs hw ob os ow hr hm =
      reads s after l bs ln (by_board board_of bs hb ob) (by_board (λ (x : rules.Board). state_code (x.state l)) ln.state hs os)
      (by_board (λ (x : rules.Board). x.word l) ln.word hw ow) hr hm beside

-- only b moves
module _ (b l : ℕ) (s after : Cells) (y : rules.Board) (boards : after.boards ≡ change s.boards b y)
    (states : (m : ℕ) → m ≢ l → y.state m ≡ (s.boards b).state m) (words : (m : ℕ) → m ≢ l → y.word m ≡ (s.boards b).word m)
    (rows : (m : ℕ) → m ≢ l → after.rows m ≡ s.rows m) (memory : (m : ℕ) → m ≢ l → after.words m ≡ s.words m) where
  pub board_reads : (z : Board) (v w : ℕ) (r : List ℕ) (m : ℕ) → board_of y ≡ z → state_code (y.state l) ≡ v → y.word l ≡ w → after.rows l ≡ r → after.words l ≡ m
      → reading after ≡ record { boards = update (reading s).boards b z; lines = update (reading s).lines l (record { state = update (line_of s l).state b v; word = update (line_of s l).word b w; row = r; mem = m }) }
  unfolding reading
  board_reads z v w r m hb hs hw hr hm =
      line_reads b l (λ x. x) s after y (ap (λ g. g b) boards ∙ change_same s.boards b y) (λ c ne. ap (λ g. g c) boards ∙ change_other s.boards b c y ne)
      states words (λ x m _. refl) (λ x m _. refl) rows memory (update (λ c. board_of (s.boards c)) b z) _
      (hb ∙ sym (update_same (λ c. board_of (s.boards c)) b z)) (hs ∙ sym (update_same (line_of s l).state b v)) (hw ∙ sym (update_same (line_of s l).word b w))
      (λ c ne. sym (update_other (λ c. board_of (s.boards c)) b c z ne)) (λ c ne. sym (update_other (line_of s l).state b c v ne)) (λ c ne. sym (update_other (line_of s l).word b c w ne)) hr hm

-- an event changes nothing at other lines
pub state_beside : (l : ℕ) (e : Event) (w : ℕ) (x : rules.Board) (m : ℕ) → m ≢ l → (lays l e w x).state m ≡ x.state m
state_beside l e w x m ne = change_other x.state l m (next (x.state l) e) ne

pub word_beside : (l : ℕ) (e : Event) (w : ℕ) (x : rules.Board) (m : ℕ) → m ≢ l → (lays l e w x).word m ≡ x.word m
word_beside l e w x m ne = change_other x.word l m (kept (next (x.state l) e) w) ne
