-- Two boards at one line: which states may stand beside one another, and when an event is allowed.
use Rattle.std.specs.Prelude.{Bool, true, cond, not, ◌&&◌, ◌||◌}
use Rattle.copystate.specs.declared.states.State.{State}
use Rattle.copystate.specs.declared.states.State.TheVariants.{IMd, MIwb, IMdI, ISdI}
use Rattle.copystate.specs.declared.events.Event.{Event}
use Rattle.copystate.specs.declared.events.Event.TheVariants.{PostStore, SendGetS, SendGetM, Replace, OwnData, OwnUpg, OwnPutM, OtherGetS, OtherGetM, OtherUpg}
use Rattle.copystate.specs.Truth.{implies}
use Rattle.copystate.specs.States.{same_state, copies, holds, waits, wants, modified}
use Rattle.copystate.specs.Table.{meets}

-- a board in s bears one in t: a holder no copy, one that waits to write no copy but MIwb, one that waits no M
abbrev pub bears : State → State → Bool
bears s t = implies (holds s) (not (copies t)) && (implies (wants s) (implies (copies t) (same_state t MIwb)) && implies (waits s) (not (modified t)))

abbrev pub beside : State → State → Bool
beside s t = bears s t && bears t s

-- a board that waits in s may stand in the row before one that waits in t:
-- before one that waits to write it will give up its copy, and before any it does not end in M
abbrev pub before : State → State → Bool
before s t = cond (wants t) (same_state s IMdI || same_state s ISdI) (not (same_state s IMd))

-- the event may happen to a board in s beside one in t: data comes only where nobody holds the line, to the first of the row;
-- Upg goes only where nobody waits
abbrev pub allowed : State → Event → State → Bool
allowed s PostStore t = true
allowed s SendGetS t = true
allowed s SendGetM t = true
allowed s Replace t = true
allowed s OwnData t = not (holds t) && implies (waits t) (before s t)
allowed s OwnUpg t = not (waits t)
allowed s OwnPutM t = true
allowed s OtherGetS t = true
allowed s OtherGetM t = true
allowed s OtherUpg t = meets t OtherUpg
