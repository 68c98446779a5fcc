-- The book: it is fed only calls and their answers, and tells the words that loads must see and how long requests have waited.
use Rattle.std.specs.Prelude.{◌≡◌, ℕ, ◌+◌, Bool, true, false}
use Rattle.rules.specs.declared.deed.Deed.{Deed}
use Rattle.rules.specs.declared.deed.Deed.TheVariants.{Idle, GetS, GetM, GetSServed, GetMServed, Upg, Data, PutM}
use Rattle.rules.specs.declared.kind.Kind.{Kind}
use Rattle.rules.specs.declared.kind.Kind.TheVariants.{Load, Store}
use Rattle.rules.specs.Boards.{change, result_of}
use Rattle.rules.specs.Calls.{Answer, Call, collect, did, got, guard, hit, load, ok, refused, replace, slot, store, wait}

-- What the book has of a board: nothing, a request that is not served and the slots since its posting, or one that is served, with its result and count.
pub data Note : Type 0 where
  none : Note
  unserved : (line : ℕ) (kind : Kind) (count : ℕ) → Note
  settled : (line : ℕ) (kind : Kind) (result count : ℕ) → Note

-- A word for each line, and a note for each board.
pub record Book : Type 0 where
  pub words : ℕ → ℕ
  pub notes : ℕ → Note

-- The book at the making.
abbrev pub opened : (ℕ → ℕ) → Book
opened words = record { words = words; notes = λ b. none }

abbrev pub noting : ℕ → Note → Book → Book
noting b n k = record { words = k.words; notes = change k.notes b n }

-- A store that is done makes its word the line's.
unfoldable pub worded : Kind → ℕ → (ℕ → ℕ) → ℕ → ℕ
worded Load l f = f
worded (Store v) l f = change f l v

abbrev pub serving : Deed → Bool
serving Idle = false
serving GetS = false
serving GetM = false
serving GetSServed = true
serving GetMServed = true
serving Upg = true
serving Data = true
serving PutM = false

-- One slot more for a request that is not served.
abbrev pub longer_by : Note → Note
longer_by none = none
longer_by (unserved l k n) = unserved l k (n + 1)
longer_by (settled l k r n) = settled l k r n

unfoldable pub counted : Book → Book
counted k = record { words = k.words; notes = λ b. longer_by (k.notes b) }

-- The board's note is served: a store's word becomes the line's and the result, a load's result is the line's word.
unfoldable pub settles : ℕ → Note → Book → Book
settles b none k = k
settles b (unserved l kd n) k = record { words = worded kd l k.words; notes = change k.notes b (settled l kd (result_of kd (k.words l)) n) }
settles b (settled l kd r n) k = k

unfoldable pub slotted : Bool → ℕ → Book → Book
slotted true b k = let k' = counted k in settles b (k'.notes b) k'
slotted false b k = counted k

-- A request that waits is noted; a hit is done at once.
abbrev pub requested : ℕ → ℕ → Kind → Answer → Book → Book
requested b l kd wait k = noting b (unserved l kd 0) k
requested b l kd (hit v) k = record { words = worded kd l k.words; notes = k.notes }
requested b l kd ok k = k
requested b l kd (got r w) k = k
requested b l kd (did a d m) k = k
requested b l kd (refused e) k = k

abbrev pub taken : ℕ → Answer → Book → Book
taken b wait k = k
taken b (hit v) k = k
taken b ok k = k
taken b (got r w) k = noting b none k
taken b (did a d m) k = k
taken b (refused e) k = k

abbrev pub passed : Answer → Book → Book
passed wait k = k
passed (hit v) k = k
passed ok k = k
passed (got r w) k = k
passed (did a d m) k = slotted (serving d) a k
passed (refused e) k = k

-- The book after a call and its answer.
abbrev pub feed : Call → Answer → Book → Book
feed (load b l) a k = requested b l Load a k
feed (store b l v key) a k = requested b l (Store v) a k
feed (replace b l) a k = k
feed (guard l o n) a k = k
feed (collect b) a k = taken b a k
feed slot a k = passed a k

-- What the book says of an answer: a load's hit answers the line's word, and what is collected is the note's result and count.
abbrev pub Seen : ℕ → Answer → Book → Type 0
Seen l wait k = Unit {0}
Seen l (hit v) k = v ≡ k.words l
Seen l ok k = Unit {0}
Seen l (got r w) k = Unit {0}
Seen l (did a d m) k = Unit {0}
Seen l (refused e) k = Unit {0}

abbrev pub Settled : Note → (result count : ℕ) → Type 0
Settled none r w = ⊥
Settled (unserved l k n) r w = ⊥
Settled (settled l k q n) r w = (r ≡ q) × (w ≡ n)

abbrev pub Collected : ℕ → Answer → Book → Type 0
Collected b wait k = Unit {0}
Collected b (hit v) k = Unit {0}
Collected b ok k = Unit {0}
Collected b (got r w) k = Settled (k.notes b) r w
Collected b (did a d m) k = Unit {0}
Collected b (refused e) k = Unit {0}

abbrev pub Agrees : Call → Answer → Book → Type 0
Agrees (load b l) a k = Seen l a k
Agrees (store b l v key) a k = Unit {0}
Agrees (replace b l) a k = Unit {0}
Agrees (guard l o n) a k = Unit {0}
Agrees (collect b) a k = Collected b a k
Agrees slot a k = Unit {0}
