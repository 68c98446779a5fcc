-- The events' codes, and what other boards hear of an event.
use Rattle.std.specs.Prelude.{ℕ, Bool, List, [], ◌∷◌, Some, None, Option, ◌==◌}
use Rattle.std.specs.List.{list_any}
use Rattle.copystate.specs.declared.events.Event.{Event}
use Rattle.copystate.specs.declared.events.Event.TheVariants.{PostStore, SendGetS, SendGetM, Replace, OwnData, OwnUpg, OwnPutM, OtherGetS, OtherGetM, OtherUpg}

abbrev pub event_code : Event → ℕ
event_code PostStore = 0
event_code SendGetS = 1
event_code SendGetM = 2
event_code Replace = 3
event_code OwnData = 4
event_code OwnUpg = 5
event_code OwnPutM = 6
event_code OtherGetS = 7
event_code OtherGetM = 8
event_code OtherUpg = 9

abbrev pub same_event : Event → Event → Bool
same_event e f = event_code e == event_code f

abbrev pub one_of : List Event → Event → Bool
one_of fs e = list_any (same_event e) fs

-- the event is a message of another board
abbrev pub of_another : Event → Bool
of_another = one_of (OtherGetS ∷ OtherGetM ∷ OtherUpg ∷ [])

-- what the other boards meet when a board meets the event: its GetS, GetM or Upg, and another's message as it is
abbrev pub heard : Event → Option Event
heard PostStore = None
heard SendGetS = Some OtherGetS
heard SendGetM = Some OtherGetM
heard Replace = None
heard OwnData = None
heard OwnUpg = Some OtherUpg
heard OwnPutM = None
heard OtherGetS = Some OtherGetS
heard OtherGetM = Some OtherGetM
heard OtherUpg = Some OtherUpg
