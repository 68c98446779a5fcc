-- What a board is in each state: each part is one test over all states.
use Rattle.std.proofs.Common.{not, ◌&&◌, ◌||◌, refl}
use Rattle.std.proofs.lemmas.Bool.{not-true}
use Rattle.copystate.specs.declared.states.State.{State}
use Rattle.copystate.specs.declared.states.State.TheVariants.{I}
use Rattle.copystate.specs.Truth.{implies, same}
use Rattle.copystate.specs.States.{same_state, copies, loads, stores, holds, waits, wants, upgrades, writes_back, modified}
use Rattle.copystate.specs.Law.{StateLaw}
use Rattle.copystate.proofs.Truths.{from_same, from_implies, or_second, from_same_state}
use Rattle.copystate.proofs.Checked.{at_state}

pub state_law : (s : State) → StateLaw s
state_law s = record {
  stores_as_holder = from_same (stores s) (holds s) (at_state (λ x. same (stores x) (holds x)) refl s);
  loads_unless_upgrading = from_same (loads s) (not (upgrades s) && copies s) (at_state (λ x. same (loads x) (not (upgrades x) && copies x)) refl s);
  modified_is_holder_at_rest = from_same (modified s) (not (writes_back s) && holds s) (at_state (λ x. same (modified x) (not (writes_back x) && holds x)) refl s);
  holder_has_copy = from_implies (holds s) (copies s) (at_state (λ x. implies (holds x) (copies x)) refl s);
  writing_back_holds = from_implies (writes_back s) (holds s) (at_state (λ x. implies (writes_back x) (holds x)) refl s);
  upgrading_has_copy = from_implies (upgrades s) (copies s) (at_state (λ x. implies (upgrades x) (copies x)) refl s);
  upgrading_holds_not = λ u. not-true (holds s) (from_implies (upgrades s) (not (holds s)) (at_state (λ x. implies (upgrades x) (not (holds x))) refl s) u);
  waiting_has_no_copy = λ w. not-true (copies s) (from_implies (waits s) (not (copies s)) (at_state (λ x. implies (waits x) (not (copies x))) refl s) w);
  wanting_waits = from_implies (wants s) (waits s) (at_state (λ x. implies (wants x) (waits x)) refl s);
  otherwise_i = λ c w.
      from_same_state s I
      (or_second (waits s) (same_state s I)
      (or_second (copies s) (waits s || same_state s I) (at_state (λ x. copies x || (waits x || same_state x I)) refl s) c) w);
}
