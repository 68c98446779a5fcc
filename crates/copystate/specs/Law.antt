-- The law of the table: what holds at any state and event, between two boards, and along a row of waiting boards.
use Rattle.std.specs.Prelude.{◌≡◌, Bool, true, false, not, ◌&&◌, ◌||◌, List}
use Rattle.copystate.specs.declared.states.State.{State}
use Rattle.copystate.specs.declared.states.State.TheVariants.{I, MIwb}
use Rattle.copystate.specs.declared.events.Event.{Event}
use Rattle.copystate.specs.declared.events.Event.TheVariants.{OwnData, OwnPutM, OtherGetS}
use Rattle.copystate.specs.Events.{same_event, of_another, heard}
use Rattle.copystate.specs.States.{copies, loads, stores, holds, waits, wants, upgrades, writes_back, modified}
use Rattle.copystate.specs.Table.{next_of, meets, begins_write_back, after_heard, hears}
use Rattle.copystate.specs.Rules.{admits, becomes, makes_holder, ends_holder, sends, sends_to_write, begins_upgrade, ends_upgrade, takes_modified, owes_write_back, clears}
use Rattle.copystate.specs.Pairs.{beside, allowed}
use Rattle.copystate.specs.Waiting.{WaitingLaw, WaitingOnly}

-- what a board is in a state
pub record StateLaw (s : State) : Type 0 where
  pub stores_as_holder : stores s ≡ holds s
  pub loads_unless_upgrading : loads s ≡ not (upgrades s) && copies s
  pub modified_is_holder_at_rest : modified s ≡ not (writes_back s) && holds s
  pub holder_has_copy : holds s ≡ true → copies s ≡ true
  pub writing_back_holds : writes_back s ≡ true → holds s ≡ true
  pub upgrading_has_copy : upgrades s ≡ true → copies s ≡ true
  pub upgrading_holds_not : upgrades s ≡ true → holds s ≡ false
  pub waiting_has_no_copy : waits s ≡ true → copies s ≡ false
  pub wanting_waits : wants s ≡ true → waits s ≡ true
  pub otherwise_i : copies s ≡ false → waits s ≡ false → s ≡ I

-- what an event does to a board: at a named event each part computes to its short form
pub record EntryLaw (s : State) (e : Event) : Type 0 where
  pub met_where_admitted : meets s e ≡ admits s e
  pub moves_by_rule : meets s e ≡ true → next_of s e ≡ becomes s e
  pub stays_where_unmet : meets s e ≡ false → next_of s e ≡ s
  pub holder_after : holds (next_of s e) ≡ not (ends_holder s e) && (makes_holder s e || holds s)
  pub waiting_after : waits (next_of s e) ≡ sends s e || (not (same_event e OwnData) && waits s)
  pub wanting_after : wants (next_of s e) ≡ sends_to_write s e || (not (same_event e OwnData) && wants s)
  pub upgrading_after : upgrades (next_of s e) ≡ begins_upgrade s e || (not (ends_upgrade e) && upgrades s)
  pub write_back_begins : begins_write_back s e ≡ owes_write_back s e
  pub write_back_after : writes_back (next_of s e) ≡ owes_write_back s e || (not (same_event e OwnPutM) && writes_back s)
  pub another_makes_no_holder : of_another e ≡ true → holds (next_of s e) ≡ holds s
  pub only_data_makes_a_copy : same_event e OwnData ≡ false → copies (next_of s e) ≡ true → copies s ≡ true
  pub another_makes_no_copy : of_another e ≡ true → copies (next_of s e) ≡ true → copies s ≡ true
  pub get_m_leaves_only_miwb : clears e ≡ true → meets s e ≡ true → copies (next_of s e) ≡ true → next_of s e ≡ MIwb
  pub get_s_takes_no_copy : same_event e OtherGetS ≡ true → copies (next_of s e) ≡ copies s
  pub get_s_leaves_no_m : same_event e OtherGetS ≡ true → modified (next_of s e) ≡ false
  pub modified_left_only_when_taken : modified s ≡ true → modified (next_of s e) ≡ false → takes_modified e ≡ true
  pub modified_left_to_write_back : modified s ≡ true → modified (next_of s e) ≡ false → writes_back (next_of s e) ≡ true

-- what standing beside one another says
pub record BesideLaw (s t : State) : Type 0 where
  pub either_way : beside s t ≡ true → beside t s ≡ true
  pub one_holder : beside s t ≡ true → holds s ≡ true → copies t ≡ false
  pub a_store_waits : beside s t ≡ true → wants s ≡ true → copies t ≡ true → t ≡ MIwb
  pub no_m_beside_waiting : beside s t ≡ true → waits s ≡ true → modified t ≡ false

-- an event that a board meets, and that is allowed beside another board, keeps the two beside one another, and the other meets what it hears
pub record PairLaw (s : State) (e : Event) (t : State) : Type 0 where
  pub stays_beside : beside s t ≡ true → meets s e ≡ true → allowed s e t ≡ true → beside (next_of s e) (after_heard t (heard e)) ≡ true
  pub hears_what_it_meets : beside s t ≡ true → meets s e ≡ true → allowed s e t ≡ true → hears t (heard e) ≡ true

pub record TableLaw : Type 0 where
  pub states : (s : State) → StateLaw s
  pub entries : (s : State) (e : Event) → EntryLaw s e
  pub neighbours : (s t : State) → BesideLaw s t
  pub pairs : (s : State) (e : Event) (t : State) → PairLaw s e t
  pub rows : (w : Bool) (later : List Bool) → WaitingLaw w later
  pub waiting_only : (s : State) → WaitingOnly s
