-- The tables' meaning after one change.
use Rattle.std.proofs.Common.{◌≡◌, ℕ, ◌+◌, ◌-◌, ◌<◌, ◌≤◌, true, not, List, [], ◌++◌, length, map, get_or, take, drop, set, arith, is_some, Some, None, Option, sym, refl, ap, ◌∙◌}
use Rattle.std.proofs.lemmas.List.{drop-map, get_or-append_right, get_or-drop, get_or-map, get_or-take, get_or_append_left, length-map, map-append, take-map}
use Rattle.rules.specs.Calls.{is_free}
use Rattle.rules.specs.Boards.{blank, change, stored}
use Rattle.fabric.specs.declared.board.Board.{Board}
use Rattle.fabric.specs.declared.board.LineRecord.{LineRecord}
use Rattle.fabric.specs.declared.board.Request.{Request}
use Rattle.fabric.specs.declared.board.Stage.{Stage}
use Rattle.fabric.specs.declared.board.Stage.TheVariants.{Posted, Sent, Served}
use Rattle.fabric.specs.declared.fabric_core.Line.{Line}
use Rattle.fabric.specs.declared.queue.Queue.{Queue}
use Rattle.fabric.specs.Boards.{board_of, boards_of, keys_of, no_line, place_at, place_of, rows_of, states_of, words_of}
use Rattle.fabric.specs.Queues.{row}
use Rattle.fabric.specs.Records.{recorded}
use Rattle.fabric.proofs.Arrays.{at_set, change_own, seen_set}

states_set : (rs : List LineRecord) (l : ℕ) (r : LineRecord) → l < length rs → states_of (set rs l r) ≡ change (states_of rs) l r.state
unfolding states_of
states_set rs l r h = at_set (λ (x : LineRecord). x.state) rs no_line l r h

words_set : (rs : List LineRecord) (l : ℕ) (r : LineRecord) → l < length rs → words_of (set rs l r) ≡ change (words_of rs) l r.word
unfolding words_of
words_set rs l r h = at_set (λ (x : LineRecord). x.word) rs no_line l r h

pub set_record_lem : (x : Board) (l : ℕ) (r : LineRecord) → l < length x.lines
    → board_of record { lines = set x.lines l r; request = x.request; write_backs = x.write_backs; last = x.last; marked = x.marked } ≡ recorded l r.state r.word (board_of x)
set_record_lem x l r h = rw (states_set x.lines l r h, words_set x.lines l r h) refl

pub set_word : (x : Board) (l : ℕ) (r : LineRecord) → l < length x.lines → r.state ≡ states_of x.lines l
    → board_of record { lines = set x.lines l r; request = x.request; write_backs = x.write_backs; last = x.last; marked = x.marked } ≡ stored l r.word (board_of x)
set_word x l r h e =
    set_record_lem x l r h
    ∙ ap (λ f. record { place = (board_of x).place; list = (board_of x).list; last = (board_of x).last; mark = (board_of x).mark; state = f; word = change (words_of x.lines) l r.word })
    (ap (change (states_of x.lines) l) e ∙ change_own (states_of x.lines) l)

pub boards_set : (bs : List Board) (b : ℕ) (x : Board) → b < length bs → boards_of (set bs b x) ≡ change (boards_of bs) b (board_of x)
unfolding boards_of
boards_set bs b x h = seen_set board_of bs blank b x h

pub board_at_lem : (bs : List Board) (b : ℕ) (d : Board) → b < length bs → boards_of bs b ≡ board_of (get_or bs b d)
unfolding boards_of
board_at_lem bs b d h = get_or-map board_of bs b d blank h

-- The boards of a front, and of the rest behind another front of its length.
pub front_take : (n : ℕ) (bs : List Board) (c : ℕ) → c < n → boards_of (take n bs) c ≡ boards_of bs c
unfolding boards_of
front_take n bs c h = ap (λ xs. get_or xs c blank) (sym (take-map board_of n bs)) ∙ get_or-take n (map board_of bs) c blank h

pub front_left : (ys zs : List Board) (c : ℕ) → c < length ys → boards_of (ys ++ zs) c ≡ boards_of ys c
unfolding boards_of
front_left ys zs c h =
    let n : length (map board_of ys) ≡ length ys = length-map ys board_of in
    rw map-append (get_or_append_left (map board_of ys) (map board_of zs) blank c (omega arith))

pub front_right : (n : ℕ) (ys bs : List Board) (c : ℕ) → length ys ≡ n → n ≤ c → boards_of (ys ++ drop n bs) c ≡ boards_of bs c
unfolding boards_of
front_right n ys bs c size h =
    let k : n + (c - n) ≡ c = omega arith in
    rw (map-append, ← drop-map, get_or-append_right (map board_of ys) (drop n (map board_of bs)) n c blank (length-map ys board_of ∙ size) h, get_or-drop, k) refl

pub row_at_lem : (xs : List Line) (l : ℕ) (d : Line) → l < length xs → rows_of xs l ≡ row (get_or xs l d).row
unfolding rows_of
row_at_lem xs l d h = get_or-map (λ (x : Line). row x.row) xs l d [] h

pub key_at_lem : (xs : List Line) (l : ℕ) (d : Line) → l < length xs → keys_of xs l ≡ (get_or xs l d).key
unfolding keys_of
key_at_lem xs l d h = get_or-map (λ (x : Line). x.key) xs l d 0 h

rows_set : (xs : List Line) (l : ℕ) (x : Line) → l < length xs → rows_of (set xs l x) ≡ change (rows_of xs) l (row x.row)
unfolding rows_of
rows_set xs l x h = seen_set (λ (y : Line). row y.row) xs [] l x h

keys_set : (xs : List Line) (l : ℕ) (x : Line) → l < length xs → keys_of (set xs l x) ≡ change (keys_of xs) l x.key
unfolding keys_of
keys_set xs l x h = seen_set (λ (y : Line). y.key) xs 0 l x h

-- A line with another row keeps its key, and one with another key its row.
module _ (xs : List Line) (l : ℕ) (d : Line) (h : l < length xs) where
  pub rows_put : (q : Queue 16) → rows_of (set xs l record { row = q; key = (get_or xs l d).key }) ≡ change (rows_of xs) l (row q)
  rows_put q = rows_set xs l record { row = q; key = (get_or xs l d).key } h

  pub keys_kept : (q : Queue 16) → keys_of (set xs l record { row = q; key = (get_or xs l d).key }) ≡ keys_of xs
  keys_kept q =
      keys_set xs l record { row = q; key = (get_or xs l d).key } h
      ∙ ap (change (keys_of xs) l) (sym (key_at_lem xs l d h)) ∙ change_own (keys_of xs) l

  pub keys_put : (k : ℕ) → keys_of (set xs l record { row = (get_or xs l d).row; key = k }) ≡ change (keys_of xs) l k
  keys_put k = keys_set xs l record { row = (get_or xs l d).row; key = k } h

  pub rows_kept : (k : ℕ) → rows_of (set xs l record { row = (get_or xs l d).row; key = k }) ≡ rows_of xs
  rows_kept k =
      rows_set xs l record { row = (get_or xs l d).row; key = k } h
      ∙ ap (change (rows_of xs) l) (sym (row_at_lem xs l d h)) ∙ change_own (rows_of xs) l

-- A board has a request just where its place is not free.
staged : (s : Stage) (q : Request) → true ≡ not (is_free (place_at s q))
staged Posted q = refl
staged Sent q = refl
staged (Served r) q = refl

pub request_place : (o : Option Request) → is_some o ≡ not (is_free (place_of o))
request_place None = refl
request_place (Some q) = staged q.stage q
