-- A fabric by boards, read line by line.
use Rattle.std.proofs.Common.{◌≡◌, ℕ, suc, ◌<◌, ◌≤◌, Bool, true, false, ltb, ◌≢◌, Some, None, Option, sym, ap, ◌∙◌, inl, inr}
use mathlib.Core.Path.{fun_ext}
use Rattle.std.proofs.lemmas.Bool.{cases_eq, cond-true, cond-false, lt-ltb, le-ltb}
use Rattle.copystate.specs.States.{state_code}
use Rattle.rules.specs.declared.kind.LastDeed.{LastDeed}
use Rattle.rules.specs.declared.kind.LastDeed.TheVariants.{WriteBack, Request}
use Rattle.rules.specs.Boards as rules
use Rattle.rules.specs.Boards.{change}
use Rattle.rules.specs.Cells.{Cells, each}
use Rattle.coherence.proofs.Line.Sound.{update}
use Rattle.coherence.proofs.Line.Sends.{update_same, update_other}
use Rattle.coherence.proofs.Runs.Reading.{Board, Line, Reading}
use Rattle.coherence.proofs.Runs.Each.{change_other, change_same}

abbrev pub asked_of : LastDeed → Bool
asked_of WriteBack = false
asked_of Request = true

abbrev pub mark_of : Option ℕ → ℕ
mark_of None = 0
mark_of (Some l) = suc l

abbrev pub board_of : rules.Board → Board
board_of x = record { place = x.place; list = x.list; asked = asked_of x.last; mark = mark_of x.mark }

abbrev pub line_of : Cells → ℕ → Line
line_of s l = record { state = λ c. state_code ((s.boards c).state l); word = λ c. (s.boards c).word l; row = s.rows l; mem = s.words l }

unfoldable pub reading : Cells → Reading
reading s = record { boards = λ c. board_of (s.boards c); lines = line_of s }

-- what stays at the lines but one
pub record Beside (l : ℕ) (s s' : Cells) : Type 0 where
  pub states : (k : ℕ) → k ≢ l → (c : ℕ) → (s'.boards c).state k ≡ (s.boards c).state k
  pub words : (k : ℕ) → k ≢ l → (c : ℕ) → (s'.boards c).word k ≡ (s.boards c).word k
  pub rows : (k : ℕ) → k ≢ l → s'.rows k ≡ s.rows k
  pub memory : (k : ℕ) → k ≢ l → s'.words k ≡ s.words k

-- one line is new, and the others are as they were
pub reads : (s s' : Cells) (l : ℕ) (bs : ℕ → Board) (ln : Line) → ((c : ℕ) → board_of (s'.boards c) ≡ bs c)
    → ((c : ℕ) → state_code ((s'.boards c).state l) ≡ ln.state c) → ((c : ℕ) → (s'.boards c).word l ≡ ln.word c) → s'.rows l ≡ ln.row → s'.words l ≡ ln.mem
    → Beside l s s' → reading s' ≡ record { boards = bs; lines = update (reading s).lines l ln }
unfolding reading
reads s s' l bs ln hb hs hw hr hm o i = record { boards = λ c. hb c i; lines = λ k. at k i }
  where
    here : line_of s' l ≡ ln
    here j = record { state = λ c. hs c j; word = λ c. hw c j; row = hr j; mem = hm j }

    there : (k : ℕ) → k ≢ l → line_of s' k ≡ line_of s k
    there k ne j = record { state = λ c. state_code (o.states k ne c j); word = λ c. o.words k ne c j; row = o.rows k ne j; mem = o.memory k ne j }

    at : (k : ℕ) → line_of s' k ≡ update (line_of s) l ln k
    at k =
        elim (cases_eq k l) [
          | inl e ↦ ap (line_of s') e ∙ here ∙ sym (update_same (line_of s) l ln) ∙ ap (update (line_of s) l ln) (sym e)
          | inr ne ↦ there k ne ∙ sym (update_other (line_of s) l k ln ne)
        ]

-- no line is new
pub reads_boards : (s s' : Cells) (bs : ℕ → Board) → ((c : ℕ) → board_of (s'.boards c) ≡ bs c) → ((l c : ℕ) → (s'.boards c).state l ≡ (s.boards c).state l)
    → ((l c : ℕ) → (s'.boards c).word l ≡ (s.boards c).word l) → s'.rows ≡ s.rows → s'.words ≡ s.words → reading s' ≡ record { boards = bs; lines = (reading s).lines }
unfolding reading
reads_boards s s' bs hb hs hw hr hm i =
    record { boards = λ c. hb c i; lines = λ k. record { state = λ c. state_code (hs k c i); word = λ c. hw k c i; row = hr i k; mem = hm i k } }

-- the first n boards by their numbers
pub each_below : (n : ℕ) (g : ℕ → rules.Board → rules.Board) (bs : ℕ → rules.Board) (c : ℕ) → c < n → each n g bs c ≡ g c (bs c)
unfolding each
each_below n g bs c h = cond-true (ltb c n) (g c (bs c)) (bs c) (lt-ltb c n h)

pub each_above : (n : ℕ) (g : ℕ → rules.Board → rules.Board) (bs : ℕ → rules.Board) (c : ℕ) → n ≤ c → each n g bs c ≡ bs c
unfolding each
each_above n g bs c h = cond-false (ltb c n) (g c (bs c)) (bs c) (le-ltb c n h)

pub change_kept : {A : Type 0} (f : ℕ → A) (l : ℕ) → change f l (f l) ≡ f
change_kept f l = fun_ext (λ k. elim (cases_eq k l) [ inl e ↦ ap (change f l (f l)) e ∙ change_same f l (f l) ∙ ap f (sym e) | inr ne ↦ change_other f l k (f l) ne ])
