-- Claimed loads and stores, and what becomes of a claim: it is redeemed, or finished.
use Rattle.std.specs.Prelude.{ℕ, zero, suc, ◌+◌, ◌*◌, Bool, true, false, not, ◌&&◌, List, [], ◌∷◌, ◌++◌, Some, None, Option, ◌==◌, nat_le}
use Rattle.rules.specs.declared.kind.Access.{Access}
use Rattle.rules.specs.declared.kind.Access.TheVariants as access
use Rattle.rules.specs.declared.kind.Kind.{Kind}
use Rattle.rules.specs.declared.kind.Kind.TheVariants.{Load, Store}
use Rattle.rules.specs.declared.refusal.Refusal.{Refusal}
use Rattle.rules.specs.declared.refusal.Refusal.TheVariants.{NoBoard, NoLine, NotClaimed, NotServed}
use Rattle.rules.specs.Words.{number}
use Rattle.rules.specs.Boards.{Place, free, posted, sent, served}
use Rattle.rules.specs.Cells.{board_at, size_of}
use Rattle.rules.specs.Calls.{Answer, Call, World, collect, did, first_fit, got, hit, is_served, load, ok, or_else, refused, says, slot, step, store, wait}

-- All that can happen to a fabric: the calls, and those that give a claim or take one back. A claim names its board, its line and load or store.
pub data Action : Type 0 where
  call : (call : Call) → Action
  claim_load : (board line : ℕ) → Action
  claim_store : (board line word key : ℕ) → Action
  redeem : (board line : ℕ) (access : Access) → Action
  finish : (board line : ℕ) (access : Access) → Action

pub data Outcome : Type 0 where
  answers : (answer : Answer) → Outcome
  claims : (board line : ℕ) (access : Access) → Outcome

abbrev pub access_of : Kind → Access
access_of Load = access.Load
access_of (Store v) = access.Store

abbrev pub same_access : Access → Access → Bool
same_access access.Load access.Load = true
same_access access.Load access.Store = false
same_access access.Store access.Load = false
same_access access.Store access.Store = true

-- The request, if there is one, is of the claim's line and kind.
abbrev pub is_claimed : ℕ → Access → Place → Bool
is_claimed l a free = false
is_claimed l a (posted m k w) = m == l && same_access (access_of k) a
is_claimed l a (sent m k w) = m == l && same_access (access_of k) a
is_claimed l a (served m k r w) = m == l && same_access (access_of k) a

unfoldable pub place_of : World → ℕ → Place
place_of w b = (board_at w.cells b).place

-- What redeem and finish test first.
unfoldable pub unclaimed : ℕ → ℕ → Access → World → Option Refusal
unclaimed b l a w = first_fit ((NoBoard, nat_le w.count b) ∷ (NoLine, nat_le (size_of w.cells) l) ∷ (NotClaimed, not (is_claimed l a (place_of w b))) ∷ [])

abbrev pub unredeemed : ℕ → ℕ → Access → World → Option Refusal
unredeemed b l a w = or_else (unclaimed b l a w) (first_fit ((NotServed, not (is_served (place_of w b))) ∷ []))

-- No wait is longer.
abbrev pub limit : World → ℕ
limit w = w.span * (w.count * (w.count + 3))

-- So many slots.
abbrev pub slotted : ℕ → World → World
slotted zero w = w
slotted (suc k) w = slotted k (step slot w)

-- The least number of slots, up to a most, after which the board's request is served.
abbrev pub slots_to : ℕ → ℕ → World → ℕ
slots_to zero b w = 0
slots_to (suc most) b w = elim (is_served (place_of w b)) [ true ↦ 0 | false ↦ suc (slots_to most b (step slot w)) ]

abbrev pub slots : ℕ → List Call
slots zero = []
slots (suc k) = slot ∷ slots k

-- The calls that an action is carried out by. A claim that is refused is carried out by none.
abbrev pub carried_by : Action → World → List Call
carried_by (call c) w = c ∷ []
carried_by (claim_load b l) w = load b l ∷ []
carried_by (claim_store b l v k) w = store b l v k ∷ []
carried_by (redeem b l a) w = elim (unredeemed b l a w) [ Some e ↦ [] | None ↦ collect b ∷ [] ]
carried_by (finish b l a) w = elim (unclaimed b l a w) [ Some e ↦ [] | None ↦ slots (slots_to (limit w) b w) ++ collect b ∷ [] ]

abbrev pub run : List Call → World → World
run [] w = w
run (c ∷ cs) w = run cs (step c w)

-- What an action leaves.
abbrev pub leaves : Action → World → World
leaves a w = run (carried_by a w) w

-- A claim in the place of "wait".
abbrev pub claimed : ℕ → ℕ → Access → Answer → Outcome
claimed b l a wait = claims b l a
claimed b l a (hit v) = answers (hit v)
claimed b l a ok = answers ok
claimed b l a (got v w) = answers (got v w)
claimed b l a (did o d m) = answers (did o d m)
claimed b l a (refused e) = answers (refused e)

-- What an action answers.
abbrev pub gives : Action → World → Outcome
gives (call c) w = answers (says c w)
gives (claim_load b l) w = claimed b l access.Load (says (load b l) w)
gives (claim_store b l v k) w = claimed b l access.Store (says (store b l v k) w)
gives (redeem b l a) w = elim (unredeemed b l a w) [ Some e ↦ answers (refused (number e)) | None ↦ answers (says (collect b) w) ]
gives (finish b l a) w = elim (unclaimed b l a w) [ Some e ↦ answers (refused (number e)) | None ↦ answers (says (collect b) (slotted (slots_to (limit w) b w) w)) ]
