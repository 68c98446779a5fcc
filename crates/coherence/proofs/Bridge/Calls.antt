-- The calls are the same by boards and by lines.
use Rattle.std.proofs.Common.{◌≡◌, ℕ, suc, ◌<◌, Bool, true, false, cond, eqb, length, Some, sym, refl, ap, ◌∙◌, inl, inr}
use Rattle.std.proofs.lemmas.Bool.{cases_eq, cond-false}
use Rattle.copystate.specs.States.{modified, state_code}
use Rattle.copystate.specs.declared.events.Event.TheVariants.{PostStore, Replace}
use Rattle.rules.specs.declared.kind.Kind.{Kind}
use Rattle.rules.specs.declared.kind.Kind.TheVariants.{Load, Store}
use Rattle.rules.specs.Boards as rules
use Rattle.rules.specs.Boards.{Place, free, posted, begins, change, placed, posts, pushed, replaces, stored}
use Rattle.rules.specs.Cells.{Cells, board_at, with_board, with_boards, with_key}
use Rattle.rules.specs.Calls as calls
use Rattle.coherence.proofs.Line.Sound.{update}
use Rattle.coherence.proofs.Line.Sends.{update_other, update_same}
use Rattle.coherence.proofs.Runs.Reading.{Board}
use Rattle.coherence.proofs.Runs.Changes as changes
use Rattle.coherence.proofs.Runs.Changes.{mark_board, post_line, replace_line}
use Rattle.coherence.proofs.Runs.Each.{change_other, change_same}
use Rattle.coherence.proofs.Bridge.Codes.{calm_post_store, leaves_replace}
use Rattle.coherence.proofs.Bridge.Readings.{asked_of, board_of, line_of, mark_of, reading, reads_boards}
use Rattle.coherence.proofs.Bridge.Moves.{board_reads, line_reads, room, state_beside, state_here, word_beside, word_here}

-- only the place of b's request
only_place : (b : ℕ) (p : Place) (s : Cells)
    → reading (with_board b (placed p (board_at s b)) s) ≡ record { boards = update (reading s).boards b (record { place = p; list = ((reading s).boards b).list; asked = ((reading s).boards b).asked; mark = ((reading s).boards b).mark }); lines = (reading s).lines }
unfolding reading with_board with_boards board_at
only_place b p s =
    reads_boards s (with_board b (placed p (board_at s b)) s) (update (λ c. board_of (s.boards c)) b z)
    (λ c. elim (cases_eq c b) [
      | inl q ↦ ap (λ i. board_of (change s.boards b y i)) q ∙ ap board_of (change_same s.boards b y) ∙ sym (update_same (λ c. board_of (s.boards c)) b z) ∙ ap (update (λ c. board_of (s.boards c)) b z) (sym q)
      | inr ne ↦ ap board_of (change_other s.boards b c y ne) ∙ sym (update_other (λ c. board_of (s.boards c)) b c z ne)
    ])
    (λ l. at (λ (x : rules.Board). x.state l) refl) (λ l. at (λ (x : rules.Board). x.word l) refl) refl refl
  where
    y : rules.Board
    y = placed p (s.boards b)

    z : Board
    z = record { place = p; list = (s.boards b).list; asked = asked_of (s.boards b).last; mark = mark_of (s.boards b).mark }

    at : {A : Type 0} (f : rules.Board → A) → f y ≡ f (s.boards b) → (c : ℕ) → f (change s.boards b y c) ≡ f (s.boards c)
    at f e c =
        elim (cases_eq c b) [
          | inl q ↦ ap (λ i. f (change s.boards b y i)) q ∙ ap f (change_same s.boards b y) ∙ e ∙ ap (λ i. f (s.boards i)) (sym q)
          | inr ne ↦ ap f (change_other s.boards b c y ne)
        ]

post_board : (b l v : ℕ) (s : Cells) → board_of (posts l (Store v) (s.boards b)) ≡ record { place = posted l (Store v) 0; list = (s.boards b).list; asked = asked_of (s.boards b).last; mark = mark_of (s.boards b).mark }
post_board b l v s =
    ap (λ r. record { place = posted l (Store v) 0; list = r; asked = asked_of (s.boards b).last; mark = mark_of (s.boards b).mark })
    (cond-false (begins ((s.boards b).state l) PostStore) (pushed (s.boards b).list l) (s.boards b).list (calm_post_store ((s.boards b).state l)))

pub same_post : (b l : ℕ) (k : Kind) (s : Cells) → reading (with_board b (posts l k (board_at s b)) s) ≡ changes.post b l k (reading s)
unfolding reading with_board with_boards board_at changes.post post_line
same_post b l Load s = only_place b (posted l Load 0) s
same_post b l (Store v) s =
    board_reads b l s (with_board b (posts l (Store v) (s.boards b)) s) (posts l (Store v) (s.boards b)) refl
    (state_beside l PostStore ((s.boards b).word l) (s.boards b)) (word_beside l PostStore ((s.boards b).word l) (s.boards b)) (λ m _. refl) (λ m _. refl)
    _ _ _ _ _ (post_board b l v s) (state_here l PostStore ((s.boards b).word l) (s.boards b)) (word_here l PostStore ((s.boards b).word l) (s.boards b)) refl refl

pub same_clear : (b : ℕ) (s : Cells) → reading (with_board b (placed free (board_at s b)) s) ≡ changes.clear b (reading s)
unfolding changes.clear
same_clear b s = only_place b free s

pub same_hit : (b l : ℕ) (k : Kind) (s : Cells) → reading (calls.hitting b l k s) ≡ changes.hitting b l k (reading s)
unfolding reading with_board with_boards board_at changes.hitting
same_hit b l Load s = refl
same_hit b l (Store v) s =
    line_reads b l (λ x. x) s (with_board b (stored l v (s.boards b)) s) (stored l v (s.boards b))
    (change_same s.boards b y) (λ c ne. change_other s.boards b c y ne)
    (λ m _. refl) (λ m ne. change_other (s.boards b).word l m v ne) (λ x m _. refl) (λ x m _. refl) (λ m _. refl) (λ m _. refl)
    (λ c. board_of (s.boards c)) (record { state = (line_of s l).state; word = update (line_of s l).word b v; row = s.rows l; mem = s.words l })
    refl refl (change_same (s.boards b).word l v ∙ sym (update_same (line_of s l).word b v)) (λ c ne. refl) (λ c ne. refl) (λ c ne. sym (update_other (line_of s l).word b c v ne)) refl refl
  where
    y : rules.Board
    y = stored l v (s.boards b)

-- a replacement out of M is marked
marked_is : (t : Bool) (l : ℕ) (x : rules.Board) → (t ≡ true → length x.list < 16)
    → record { place = x.place; list = cond t (pushed x.list l) x.list; asked = asked_of x.last; mark = mark_of (cond t (Some l) x.mark) } ≡ mark_board t l (board_of x)
marked_is true l x h = ap (λ r. record { place = x.place; list = r; asked = asked_of x.last; mark = suc l }) (room x.list l (h refl))
marked_is false l x h = refl

pub same_replaces : (b l : ℕ) (s : Cells) → (eqb (state_code ((s.boards b).state l)) 2 ≡ true → length (s.boards b).list < 16) → reading (with_board b (replaces l (board_at s b)) s) ≡ changes.replaces b l (reading s)
unfolding reading with_board with_boards board_at changes.replaces replace_line
same_replaces b l s h =
    board_reads b l s (with_board b (replaces l (s.boards b)) s) (replaces l (s.boards b)) refl
    (state_beside l Replace ((s.boards b).word l) (s.boards b)) (word_beside l Replace ((s.boards b).word l) (s.boards b)) (λ m _. refl) (λ m _. refl)
    _ _ _ _ _
    (ap (λ t. record { place = (s.boards b).place; list = cond t (pushed (s.boards b).list l) (s.boards b).list; asked = asked_of (s.boards b).last; mark = mark_of (cond (modified ((s.boards b).state l)) (Some l) (s.boards b).mark) }) (leaves_replace ((s.boards b).state l))
    ∙ marked_is (eqb (state_code ((s.boards b).state l)) 2) l (s.boards b) h)
    (state_here l Replace ((s.boards b).word l) (s.boards b)) (word_here l Replace ((s.boards b).word l) (s.boards b)) refl refl

pub same_guard : (l k : ℕ) (s : Cells) → reading (with_key l k s) ≡ reading s
unfolding reading with_key
same_guard l k s = refl
