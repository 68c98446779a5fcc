-- The check of the table: each of its entries is tested against a list of facts.
use Rattle.std.specs.Prelude.{Bool, cond, not, ◌&&◌, ◌||◌, List, [], ◌∷◌}
use Rattle.copystate.specs.declared.states.State.{State}
use Rattle.copystate.specs.declared.states.State.TheVariants.{I, S, M, ISd, IMd, SMw, MIwb, MSwb, IMdI, ISdI, IMdS}
use Rattle.copystate.specs.declared.events.Event.{Event}
use Rattle.copystate.specs.declared.events.Event.TheVariants.{PostStore, SendGetS, SendGetM, Replace, OwnData, OwnUpg, OwnPutM, OtherGetS, OtherGetM, OtherUpg}
use Rattle.copystate.specs.declared.table.Entry.{Entry}
use Rattle.copystate.specs.Truth.{implies, same, every}
use Rattle.copystate.specs.Events.{same_event, of_another, heard}
use Rattle.copystate.specs.States.{same_state, copies, holds, waits, wants, upgrades, writes_back, modified}
use Rattle.copystate.specs.Table.{entry_of, taken, is_met, after_heard, hears}
use Rattle.copystate.specs.Rules.{admits, becomes, makes_holder, ends_holder, sends, sends_to_write, begins_upgrade, ends_upgrade, takes_modified, owes_write_back, clears}
use Rattle.copystate.specs.Pairs.{beside, allowed}

abbrev pub states : List State
states = I ∷ S ∷ M ∷ ISd ∷ IMd ∷ SMw ∷ MIwb ∷ MSwb ∷ IMdI ∷ ISdI ∷ IMdS ∷ []

abbrev pub events : List Event
events = PostStore ∷ SendGetS ∷ SendGetM ∷ Replace ∷ OwnData ∷ OwnUpg ∷ OwnPutM ∷ OtherGetS ∷ OtherGetM ∷ OtherUpg ∷ []

-- the facts, of any entry n that might stand at s and e
abbrev pub met_right : State → Event → Entry → Bool
met_right s e n = same (is_met n) (admits s e)

abbrev pub moved_right : State → Event → Entry → Bool
moved_right s e n = same_state (taken s n) (cond (is_met n) (becomes s e) s)

abbrev pub holder_right : State → Event → Entry → Bool
holder_right s e n = same (holds (taken s n)) (not (ends_holder s e) && (makes_holder s e || holds s))

abbrev pub waiting_right : State → Event → Entry → Bool
waiting_right s e n = same (waits (taken s n)) (sends s e || (not (same_event e OwnData) && waits s))

abbrev pub wanting_right : State → Event → Entry → Bool
wanting_right s e n = same (wants (taken s n)) (sends_to_write s e || (not (same_event e OwnData) && wants s))

abbrev pub write_back_right : State → Event → Entry → Bool
write_back_right s e n = same (writes_back (taken s n)) (owes_write_back s e || (not (same_event e OwnPutM) && writes_back s))

abbrev pub beginning_right : State → Event → Entry → Bool
beginning_right s e n = same (not (writes_back s) && writes_back (taken s n)) (owes_write_back s e)

abbrev pub upgrading_right : State → Event → Entry → Bool
upgrading_right s e n = same (upgrades (taken s n)) (begins_upgrade s e || (not (ends_upgrade e) && upgrades s))

-- only own data makes a copy
abbrev pub copied_right : State → Event → Entry → Bool
copied_right s e n = implies (copies (taken s n)) (same_event e OwnData || copies s)

-- another board's message makes no holder and no copy
abbrev pub nothing_made : State → Event → Entry → Bool
nothing_made s e n = implies (of_another e) (same (holds (taken s n)) (holds s) && implies (copies (taken s n)) (copies s))

-- where another board is to write, no copy is left but MIwb
abbrev pub copies_cleared : State → Event → Entry → Bool
copies_cleared s e n = implies (clears e) (implies (is_met n) (implies (copies (taken s n)) (same_state (taken s n) MIwb)))

-- where another board is to read, copies stay, and none in M
abbrev pub copies_shared : State → Event → Entry → Bool
copies_shared s e n = implies (same_event e OtherGetS) (same (copies (taken s n)) (copies s) && not (modified (taken s n)))

abbrev pub modified_left_right : State → Event → Entry → Bool
modified_left_right s e n = implies (modified s) (modified (taken s n) || (takes_modified e && writes_back (taken s n)))

-- the event happens to a board beside one in t
abbrev pub happens : State → Event → Entry → State → Bool
happens s e n t = beside s t && (is_met n && allowed s e t)

-- the two stay beside one another, and the other meets what it hears
abbrev pub pair_kept : State → Event → Entry → State → Bool
pair_kept s e n t = beside (taken s n) (after_heard t (heard e)) && hears t (heard e)

abbrev pub pair_safe : State → Event → Entry → State → Bool
pair_safe s e n t = implies (happens s e n t) (pair_kept s e n t)

-- what keeps one holder to a line
abbrev pub safety_facts : List (State → Event → Entry → Bool)
safety_facts = holder_right ∷ nothing_made ∷ copies_cleared ∷ copies_shared ∷ modified_left_right ∷ []

-- where the event is met, where it leads, and what the board is then
abbrev pub rule_facts : List (State → Event → Entry → Bool)
rule_facts = met_right ∷ moved_right ∷ waiting_right ∷ wanting_right ∷ upgrading_right ∷ write_back_right ∷ beginning_right ∷ copied_right ∷ []

abbrev pub board_safe : State → Event → Entry → Bool
board_safe s e n = every (λ fact. fact s e n) safety_facts

abbrev pub board_ruled : State → Event → Entry → Bool
board_ruled s e n = every (λ fact. fact s e n) rule_facts

abbrev pub pairs_safe : State → Event → Entry → Bool
pairs_safe s e n = every (pair_safe s e n) states

-- the table may have the entry n at s and e
abbrev pub passes : State → Event → Entry → Bool
passes s e n = board_safe s e n && (board_ruled s e n && pairs_safe s e n)

-- each of the 110 entries passes
unfoldable pub table_passes : Bool
table_passes = every (λ s. every (λ e. passes s e (entry_of s e)) events) states
