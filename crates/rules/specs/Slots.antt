-- One slot.
use Rattle.std.specs.Prelude.{ℕ, Bool, true, false, not, ◌&&◌, List, [], ◌∷◌, Some, None, Option}
use Rattle.copystate.specs.States.{upgrades}
use Rattle.copystate.specs.declared.events.Event.{Event}
use Rattle.copystate.specs.declared.events.Event.TheVariants.{SendGetS, SendGetM, OtherGetS, OtherGetM, OtherUpg}
use Rattle.rules.specs.declared.deed.Deed.{Deed}
use Rattle.rules.specs.declared.deed.Deed.TheVariants as deed
use Rattle.rules.specs.declared.kind.Kind.{Kind}
use Rattle.rules.specs.declared.kind.Kind.TheVariants.{Load, Store}
use Rattle.rules.specs.declared.kind.LastDeed.{LastDeed}
use Rattle.rules.specs.declared.kind.LastDeed.TheVariants.{WriteBack, Request}
use Rattle.rules.specs.Boards.{Place, free, posted, sent, served, gets, gives, lifts, sends}
use Rattle.rules.specs.Cells.{Cells, aged, board_at, held, is_empty, is_first, joins, leaves, row_at, snoops, with_board, with_word, word_at}

-- What a slot did: the deed, its line if it has one, and what the fabric holds after.
pub record Did : Type 0 where
  pub deed : Deed
  pub line : Option ℕ
  pub after : Cells

abbrev pub idles : Cells → Did
idles s = record { deed = deed.Idle; line = None; after = s }

-- A message goes out: all others hear it, and b joins the row.
abbrev pub sends_out : ℕ → ℕ → (mine theirs : Event) → ℕ → Kind → ℕ → Cells → Cells
sends_out n b mine theirs l k w s = let t = snoops n b l theirs s in joins l b (with_board b (sends mine l k w (board_at t b)) t)

-- b leaves the row, reads memory and takes its data.
abbrev pub serves : ℕ → ℕ → Kind → ℕ → Cells → Cells
serves b l k w s = let t = leaves l s in with_board b (gets l k w (word_at t l) (board_at t b)) t

-- An upgrade: all others hear it, and the store of v is served.
abbrev pub upgrades_to : ℕ → ℕ → ℕ → ℕ → ℕ → Cells → Cells
upgrades_to n b l v w s = let t = snoops n b l OtherUpg s in with_board b (lifts l v w (board_at t b)) t

-- A write-back of line l.
abbrev pub puts_back : ℕ → ℕ → Cells → Cells
puts_back b l s = with_word l ((board_at s b).word l) (with_board b (gives l (board_at s b)) s)

-- b is first in the row of a line without a holder.
abbrev pub due : ℕ → ℕ → ℕ → Cells → Bool
due n b l s = is_first b (row_at s l) && not (held n l s)

abbrev pub ready : ℕ → ℕ → Cells → Place → Bool
ready n b s free = false
ready n b s (posted l k w) = true
ready n b s (sent l k w) = due n b l s
ready n b s (served l k r w) = false

-- A request just sent is served at once where it is due.
abbrev pub served_too : ℕ → ℕ → ℕ → Kind → ℕ → (alone too : Deed) → Cells → Did
served_too n b l k w alone too s =
    elim (due n b l s) [ true ↦ record { deed = too; line = Some l; after = serves b l k w s } | false ↦ record { deed = alone; line = Some l; after = s } ]

-- A store goes as an upgrade from SMw where no board waits.
abbrev pub may_upgrade : ℕ → ℕ → Cells → Bool
may_upgrade b l s = upgrades ((board_at s b).state l) && is_empty (row_at s l)

abbrev pub requests : ℕ → ℕ → Cells → Place → Did
requests n b s free = idles s
requests n b s (posted l Load w) = served_too n b l Load w deed.GetS deed.GetSServed (sends_out n b SendGetS OtherGetS l Load w s)
requests n b s (posted l (Store v) w) =
    elim (may_upgrade b l s) [
      | true ↦ record { deed = deed.Upg; line = Some l; after = upgrades_to n b l v w s }
      | false ↦ served_too n b l (Store v) w deed.GetM deed.GetMServed (sends_out n b SendGetM OtherGetM l (Store v) w s)
    ]
requests n b s (sent l k w) = record { deed = deed.Data; line = Some l; after = serves b l k w s }
requests n b s (served l k r w) = idles s

abbrev pub first_of : List ℕ → Option ℕ
first_of [] = None
first_of (x ∷ xs) = Some x

abbrev pub writes_back : ℕ → Cells → Option ℕ → Did
writes_back b s None = idles s
writes_back b s (Some l) = record { deed = deed.PutM; line = Some l; after = puts_back b l s }

-- Of two that are ready, the one that was not the last deed.
abbrev pub acts : ℕ → ℕ → Cells → (request writeBack : Bool) → LastDeed → Did
acts n b s true true Request = writes_back b s (first_of (board_at s b).list)
acts n b s true true WriteBack = requests n b s (board_at s b).place
acts n b s true false d = requests n b s (board_at s b).place
acts n b s false true d = writes_back b s (first_of (board_at s b).list)
acts n b s false false d = idles s

-- The slot of board b, among n boards.
abbrev pub slot_of : ℕ → ℕ → Cells → Did
slot_of n b s = let t = aged n s in acts n b t (ready n b t (board_at t b).place) (not (is_empty (board_at t b).list)) (board_at t b).last
