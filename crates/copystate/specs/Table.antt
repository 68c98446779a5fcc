-- The table of next states: a row for each state, an entry for each event.
use Rattle.std.specs.Prelude.{Bool, true, false, not, ◌&&◌, Some, None, Option}
use Rattle.copystate.specs.declared.states.State.{State}
use Rattle.copystate.specs.declared.states.State.TheVariants.{I, S, M, ISd, IMd, SMw, MIwb, MSwb, IMdI, ISdI, IMdS}
use Rattle.copystate.specs.declared.events.Event.{Event}
use Rattle.copystate.specs.declared.events.Event.TheVariants.{PostStore, SendGetS, SendGetM, Replace, OwnData, OwnUpg, OwnPutM, OtherGetS, OtherGetM, OtherUpg}
use Rattle.copystate.specs.declared.table.Entry.{Entry}
use Rattle.copystate.specs.declared.table.Entry.TheVariants.{Same, To, Never}
use Rattle.copystate.specs.States.{writes_back}

-- a row: its entries stand in the order of the events' codes
abbrev pub row : (ps gs gm r d u p os om ou : Entry) → Event → Entry
row ps gs gm r d u p os om ou PostStore = ps
row ps gs gm r d u p os om ou SendGetS = gs
row ps gs gm r d u p os om ou SendGetM = gm
row ps gs gm r d u p os om ou Replace = r
row ps gs gm r d u p os om ou OwnData = d
row ps gs gm r d u p os om ou OwnUpg = u
row ps gs gm r d u p os om ou OwnPutM = p
row ps gs gm r d u p os om ou OtherGetS = os
row ps gs gm r d u p os om ou OtherGetM = om
row ps gs gm r d u p os om ou OtherUpg = ou

-- the entry that stands in the table at a state and an event
abbrev pub entry_of : State → Event → Entry
entry_of I = row Same (To ISd) (To IMd) Never Never Never Never Same Same Same
entry_of S = row (To SMw) Never Never (To I) Never Never Never Same (To I) (To I)
entry_of M = row Never Never Never (To MIwb) Never Never Never (To MSwb) (To MIwb) Never
entry_of ISd = row Never Never Never Never (To S) Never Never Same (To ISdI) Never
entry_of IMd = row Never Never Never Never (To M) Never Never (To IMdS) (To IMdI) Never
entry_of SMw = row Never Never (To IMd) Never Never (To M) Never Same (To I) (To I)
entry_of MIwb = row Never Never Never Never Never Never (To I) Same Same Never
entry_of MSwb = row Never Never Never (To MIwb) Never Never (To S) Same (To MIwb) Never
entry_of IMdI = row Never Never Never Never (To MIwb) Never Never Same Same Never
entry_of ISdI = row Never Never Never Never (To I) Never Never Same Same Never
entry_of IMdS = row Never Never Never Never (To MSwb) Never Never Same (To IMdI) Never

-- where an entry takes a board in the state s
abbrev pub taken : State → Entry → State
taken s Same = s
taken s (To t) = t
taken s Never = s

abbrev pub next_of : State → Event → State
next_of s e = taken s (entry_of s e)

abbrev pub is_met : Entry → Bool
is_met Same = true
is_met (To t) = true
is_met Never = false

-- the event is ever met in the state
abbrev pub meets : State → Event → Bool
meets s e = is_met (entry_of s e)

abbrev pub begins_write_back : State → Event → Bool
begins_write_back s e = not (writes_back s) && writes_back (next_of s e)

-- a board in the state t after what it hears, if anything
abbrev pub after_heard : State → Option Event → State
after_heard t None = t
after_heard t (Some e) = next_of t e

abbrev pub hears : State → Option Event → Bool
hears t None = true
hears t (Some e) = meets t e
