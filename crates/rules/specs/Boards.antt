-- What a board holds, and what it does at an event.
use Rattle.std.specs.Prelude.{ℕ, ◌+◌, ◌-◌, ◌^◌, min, Bool, cond, List, [], ◌∷◌, ◌++◌, length, drop, Some, None, Option, ◌==◌, nat_lt}
use Rattle.copystate.specs.States.{copies, modified}
use Rattle.copystate.specs.Table as table
use Rattle.copystate.specs.declared.states.State.{State}
use Rattle.copystate.specs.declared.states.State.TheVariants.{I}
use Rattle.copystate.specs.declared.events.Event.{Event}
use Rattle.copystate.specs.declared.events.Event.TheVariants.{PostStore, Replace, OwnData, OwnUpg, OwnPutM}
use Rattle.rules.specs.declared.kind.Kind.{Kind}
use Rattle.rules.specs.declared.kind.Kind.TheVariants.{Load, Store}
use Rattle.rules.specs.declared.kind.LastDeed.{LastDeed}
use Rattle.rules.specs.declared.kind.LastDeed.TheVariants.{WriteBack, Request}

-- The place of a board's request: none, or one that is posted, sent or served, with its line, its kind, its waited count and its result.
pub data Place : Type 0 where
  free : Place
  posted : (line : ℕ) (kind : Kind) (waited : ℕ) → Place
  sent : (line : ℕ) (kind : Kind) (waited : ℕ) → Place
  served : (line : ℕ) (kind : Kind) (result waited : ℕ) → Place

-- A board: its request, its write-back list, its last deed, its marked replacement, and its state and word at each line.
pub record Board : Type 0 where
  pub place : Place
  pub list : List ℕ
  pub last : LastDeed
  pub mark : Option ℕ
  pub state : ℕ → State
  pub word : ℕ → ℕ

abbrev pub blank : Board
blank = record { place = free; list = []; last = WriteBack; mark = None; state = λ l. I; word = λ l. 0 }

-- A function with one value changed.
unfoldable pub change : {A : Type 0} → (ℕ → A) → ℕ → A → ℕ → A
change f i a k = cond (k == i) a (f k)

-- One more at the end. A list has room for sixteen; that it is never full is shown of runs.
abbrev pub pushed : List ℕ → ℕ → List ℕ
pushed xs x = cond (nat_lt (length xs) 16) (xs ++ x ∷ []) xs

-- One slot more, as far as a count goes; that it never gets there is shown of runs.
abbrev pub longer : ℕ → ℕ
longer w = min (w + 1) (2 ^ 64 - 1)

-- The table of copy states.
unfoldable pub next : State → Event → State
next s e = table.next_of s e

unfoldable pub begins : State → Event → Bool
begins s e = table.begins_write_back s e

-- In a state without a copy the word is 0.
unfoldable pub kept : State → ℕ → ℕ
kept s w = cond (copies s) w 0

-- An event at a line, with the word that its copy then has. A write-back that begins puts the line at the end of the list.
abbrev pub lays : ℕ → Event → ℕ → Board → Board
lays l e w x =
    record {
      place = x.place;
      list = cond (begins (x.state l) e) (pushed x.list l) x.list;
      last = x.last;
      mark = x.mark;
      state = change x.state l (next (x.state l) e);
      word = change x.word l (kept (next (x.state l) e) w);
    }

-- An event that brings no word: the copy keeps its own.
abbrev pub moves : ℕ → Event → Board → Board
moves l e x = lays l e (x.word l) x

abbrev pub placed : Place → Board → Board
placed p x = record { place = p; list = x.list; last = x.last; mark = x.mark; state = x.state; word = x.word }

-- A deed for the request.
abbrev pub asks : Place → Board → Board
asks p x = record { place = p; list = x.list; last = Request; mark = x.mark; state = x.state; word = x.word }

-- A slot passes: an unserved request has waited one more.
abbrev pub older : Place → Place
older free = free
older (posted l k w) = posted l k (longer w)
older (sent l k w) = sent l k (longer w)
older (served l k r w) = served l k r w

abbrev pub ages : Board → Board
ages x = placed (older x.place) x

-- The result of a request that is served with the memory's word.
abbrev pub result_of : Kind → ℕ → ℕ
result_of Load m = m
result_of (Store v) m = v

-- Its own message goes out, and the request waits.
abbrev pub sends : Event → ℕ → Kind → ℕ → Board → Board
sends e l k w x = asks (sent l k w) (moves l e x)

-- Its own data come with the memory's word m.
abbrev pub gets : ℕ → Kind → ℕ → ℕ → Board → Board
gets l k w m x = asks (served l k (result_of k m) w) (lays l OwnData (result_of k m) x)

-- Its own Upg goes out: the store of v is served.
abbrev pub lifts : ℕ → ℕ → ℕ → Board → Board
lifts l v w x = asks (served l (Store v) v w) (lays l OwnUpg v x)

-- Its own PutM goes out for the first line of its list.
abbrev pub unmarked : ℕ → Option ℕ → Option ℕ
unmarked l None = None
unmarked l (Some k) = cond (k == l) None (Some k)

abbrev pub gives : ℕ → Board → Board
gives l x =
    let y = moves l OwnPutM (record { place = x.place; list = drop 1 x.list; last = x.last; mark = x.mark; state = x.state; word = x.word }) in
    record { place = y.place; list = y.list; last = WriteBack; mark = unmarked l y.mark; state = y.state; word = y.word }

-- It posts a request; the posting of a store is an event.
abbrev pub posts : ℕ → Kind → Board → Board
posts l Load x = placed (posted l Load 0) x
posts l (Store v) x = placed (posted l (Store v) 0) (moves l PostStore x)

-- A store that hits.
abbrev pub stored : ℕ → ℕ → Board → Board
stored l v x = record { place = x.place; list = x.list; last = x.last; mark = x.mark; state = x.state; word = change x.word l v }

-- It replaces a line; out of M the line is its marked replacement.
abbrev pub replaces : ℕ → Board → Board
replaces l x =
    let y = moves l Replace x in
    record { place = y.place; list = y.list; last = y.last; mark = cond (modified (x.state l)) (Some l) y.mark; state = y.state; word = y.word }
