-- The state of a board that waits is fixed by what it wants and who waits behind it.
-- Of each board of a row, oldest first, the list says whether it waits to write.
use Rattle.std.specs.Prelude.{◌≡◌, Bool, true, false, cond, List, [], ◌∷◌, ◌++◌}
use Rattle.std.specs.List.{list_any}
use Rattle.copystate.specs.declared.states.State.{State}
use Rattle.copystate.specs.declared.states.State.TheVariants.{I, S, M, ISd, IMd, SMw, MIwb, MSwb, IMdI, ISdI, IMdS}
use Rattle.copystate.specs.declared.events.Event.{Event}
use Rattle.copystate.specs.declared.events.Event.TheVariants.{SendGetS, SendGetM, OwnData, OtherGetS, OtherGetM}
use Rattle.copystate.specs.Truth.{same}
use Rattle.copystate.specs.States.{waits, wants}
use Rattle.copystate.specs.Table.{next_of}
use Rattle.copystate.specs.Pairs.{before}

abbrev pub someone : List Bool → Bool
someone [] = false
someone (w ∷ ws) = true

abbrev pub occurs : Bool → List Bool → Bool
occurs v = list_any (same v)

abbrev pub a_store : List Bool → Bool
a_store = occurs true

-- a board that wants to write, or not, with these boards behind it
abbrev pub waiting : Bool → List Bool → State
waiting w later = cond w (cond (a_store later) IMdI (cond (someone later) IMdS IMd)) (cond (a_store later) ISdI ISd)

-- what it becomes by own data
abbrev pub served : Bool → List Bool → State
served w later = cond w (cond (a_store later) MIwb (cond (someone later) MSwb M)) (cond (a_store later) I S)

-- the request of a board, as it sends it and as the others hear it
abbrev pub own_request : Bool → Event
own_request w = cond w SendGetM SendGetS

abbrev pub request : Bool → Event
request w = cond w OtherGetM OtherGetS

pub record WaitingLaw (w : Bool) (later : List Bool) : Type 0 where
  pub sent : next_of I (own_request w) ≡ waiting w []
  pub upgrade_sent : next_of SMw SendGetM ≡ waiting true []
  pub joined_by : (v : Bool) → next_of (waiting w later) (request v) ≡ waiting w (later ++ v ∷ [])
  pub data_serves : next_of (waiting w later) OwnData ≡ served w later
  pub is_waiting : waits (waiting w later) ≡ true
  pub wants_as_sent : wants (waiting w later) ≡ w
  pub stands_before : (t : State) → occurs (wants t) later ≡ true → before (waiting w later) t ≡ true

-- each state that waits is such a state
abbrev pub WaitingOnly : State → Type 0
WaitingOnly s = waits s ≡ true → (later : List Bool) × (s ≡ waiting (wants s) later)
