-- What each event does to a board, in words of what the board is: the rules that the table is held to.
use Rattle.std.specs.Prelude.{Bool, true, cond, not, ◌&&◌, ◌||◌, [], ◌∷◌}
use Rattle.copystate.specs.declared.states.State.{State}
use Rattle.copystate.specs.declared.states.State.TheVariants.{I, S, M, ISd, IMd, SMw, MIwb, MSwb, IMdI, ISdI, IMdS}
use Rattle.copystate.specs.declared.events.Event.{Event}
use Rattle.copystate.specs.declared.events.Event.TheVariants.{PostStore, SendGetS, SendGetM, Replace, OwnData, OwnUpg, OwnPutM, OtherGetS, OtherGetM, OtherUpg}
use Rattle.copystate.specs.Events.{same_event, one_of}
use Rattle.copystate.specs.States.{same_state, copies, holds, waits, wants, upgrades, writes_back, modified}

-- in which states the event is met
abbrev pub admits : State → Event → Bool
admits s PostStore = same_state s I || same_state s S
admits s SendGetS = same_state s I
admits s SendGetM = same_state s I || upgrades s
admits s Replace = same_state s S || (modified s || same_state s MSwb)
admits s OwnData = waits s
admits s OwnUpg = upgrades s
admits s OwnPutM = writes_back s
admits s OtherGetS = true
admits s OtherGetM = true
admits s OtherUpg = not (waits s) && not (holds s)

-- data goes to a board that waits: it keeps what those behind it in the row leave to it
abbrev pub supplied : State → State
supplied s = cond (same_state s ISd) S (cond (same_state s IMd) M (cond (same_state s IMdS) MSwb (cond (same_state s IMdI) MIwb I)))

-- what the board becomes where the event is met
abbrev pub becomes : State → Event → State
becomes s PostStore = cond (copies s) SMw I
becomes s SendGetS = ISd
becomes s SendGetM = IMd
becomes s Replace = cond (holds s) MIwb I
becomes s OwnData = supplied s
becomes s OwnUpg = M
becomes s OwnPutM = cond (same_state s MSwb) S I
becomes s OtherGetS = cond (modified s) MSwb (cond (same_state s IMd) IMdS s)
becomes s OtherGetM = cond (waits s) (cond (wants s) IMdI ISdI) (cond (holds s) MIwb I)
becomes s OtherUpg = I

-- only own data, to a board that waits to write, and own Upg make a holder
abbrev pub makes_holder : State → Event → Bool
makes_holder s e = (same_event e OwnData && wants s) || (same_event e OwnUpg && upgrades s)

-- only own PutM ends one
abbrev pub ends_holder : State → Event → Bool
ends_holder s e = same_event e OwnPutM && writes_back s

abbrev pub sends_to_write : State → Event → Bool
sends_to_write s e = same_event e SendGetM && (same_state s I || upgrades s)

abbrev pub sends : State → Event → Bool
sends s e = (same_event e SendGetS && same_state s I) || sends_to_write s e

abbrev pub begins_upgrade : State → Event → Bool
begins_upgrade s e = same_event e PostStore && same_state s S

-- the store is sent, carried out, or overtaken by another board
abbrev pub ends_upgrade : Event → Bool
ends_upgrade = one_of (SendGetM ∷ OwnUpg ∷ OtherGetM ∷ OtherUpg ∷ [])

-- M is left by replacement and for another board, never otherwise
abbrev pub takes_modified : Event → Bool
takes_modified = one_of (Replace ∷ OtherGetS ∷ OtherGetM ∷ [])

-- the board has to write back: as it leaves M, and as data comes to it with others behind it
abbrev pub owes_write_back : State → Event → Bool
owes_write_back s e = (takes_modified e && modified s) || (same_event e OwnData && (same_state s IMdI || same_state s IMdS))

-- another board is to write: no copy may be left but one that is being written back
abbrev pub clears : Event → Bool
clears = one_of (OtherGetM ∷ OtherUpg ∷ [])
