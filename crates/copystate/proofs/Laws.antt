-- The law of the table, read off the computed check.
use Rattle.std.proofs.Common.{◌≡◌, true, false, cond, not, ◌&&◌, ◌||◌, ◌∙◌, lit<}
use Rattle.std.proofs.lemmas.Bool.{and_parts, and_from, cond-true, cond-false, not-true}
use Rattle.copystate.specs.declared.states.State.{State}
use Rattle.copystate.specs.declared.states.State.TheVariants.{MIwb}
use Rattle.copystate.specs.declared.events.Event.{Event}
use Rattle.copystate.specs.declared.events.Event.TheVariants.{OwnData, OwnPutM, OtherGetS}
use Rattle.copystate.specs.Truth.{implies, same}
use Rattle.copystate.specs.Events.{same_event, of_another, heard}
use Rattle.copystate.specs.States.{same_state, copies, holds, waits, wants, upgrades, writes_back, modified}
use Rattle.copystate.specs.Table.{entry_of, next_of, meets, begins_write_back, after_heard, hears}
use Rattle.copystate.specs.Rules.{admits, becomes, makes_holder, ends_holder, sends, sends_to_write, begins_upgrade, ends_upgrade, takes_modified, owes_write_back, clears}
use Rattle.copystate.specs.Pairs.{bears, beside, allowed}
use Rattle.copystate.specs.Soundness.{happens, pair_kept}
use Rattle.copystate.specs.Law.{EntryLaw, BesideLaw, PairLaw, TableLaw}
use Rattle.copystate.proofs.Checked.{safety, rule as moving, pair}
use Rattle.copystate.proofs.Truths.{from_same, from_implies, or_second, from_same_state}
use Rattle.copystate.proofs.Flags.{state_law}
use Rattle.copystate.proofs.Rows.{waiting_law, waiting_only}

moved : (s : State) (e : Event) → next_of s e ≡ cond (meets s e) (becomes s e) s
moved s e = from_same_state (next_of s e) (cond (meets s e) (becomes s e) s) (moving 1 (lit< tt) s e)

modified_left : (s : State) (e : Event) → modified s ≡ true → modified (next_of s e) ≡ false → (takes_modified e ≡ true) × (writes_back (next_of s e) ≡ true)
modified_left s e m n =
    and_parts (takes_modified e) (writes_back (next_of s e))
    (or_second (modified (next_of s e)) (takes_modified e && writes_back (next_of s e))
    (from_implies (modified s) (modified (next_of s e) || (takes_modified e && writes_back (next_of s e))) (safety 4 (lit< tt) s e) m) n)

made : (s : State) (e : Event) → of_another e ≡ true → (same (holds (next_of s e)) (holds s) ≡ true) × (implies (copies (next_of s e)) (copies s) ≡ true)
made s e o =
    and_parts (same (holds (next_of s e)) (holds s)) (implies (copies (next_of s e)) (copies s))
    (from_implies (of_another e) (same (holds (next_of s e)) (holds s) && implies (copies (next_of s e)) (copies s)) (safety 1 (lit< tt) s e) o)

shared : (s : State) (e : Event) → same_event e OtherGetS ≡ true → (same (copies (next_of s e)) (copies s) ≡ true) × (not (modified (next_of s e)) ≡ true)
shared s e g =
    and_parts (same (copies (next_of s e)) (copies s)) (not (modified (next_of s e)))
    (from_implies (same_event e OtherGetS) (same (copies (next_of s e)) (copies s) && not (modified (next_of s e))) (safety 3 (lit< tt) s e) g)

pub entry_law : (s : State) (e : Event) → EntryLaw s e
entry_law s e = record {
  met_where_admitted = from_same (meets s e) (admits s e) (moving 0 (lit< tt) s e);
  moves_by_rule = λ h. moved s e ∙ cond-true (meets s e) (becomes s e) s h;
  stays_where_unmet = λ h. moved s e ∙ cond-false (meets s e) (becomes s e) s h;
  holder_after = from_same (holds (next_of s e)) (not (ends_holder s e) && (makes_holder s e || holds s)) (safety 0 (lit< tt) s e);
  waiting_after = from_same (waits (next_of s e)) (sends s e || (not (same_event e OwnData) && waits s)) (moving 2 (lit< tt) s e);
  wanting_after = from_same (wants (next_of s e)) (sends_to_write s e || (not (same_event e OwnData) && wants s)) (moving 3 (lit< tt) s e);
  upgrading_after = from_same (upgrades (next_of s e)) (begins_upgrade s e || (not (ends_upgrade e) && upgrades s)) (moving 4 (lit< tt) s e);
  write_back_begins = from_same (begins_write_back s e) (owes_write_back s e) (moving 6 (lit< tt) s e);
  write_back_after = from_same (writes_back (next_of s e)) (owes_write_back s e || (not (same_event e OwnPutM) && writes_back s)) (moving 5 (lit< tt) s e);
  another_makes_no_holder = λ o. from_same (holds (next_of s e)) (holds s) (made s e o).0;
  only_data_makes_a_copy = λ d c.
      or_second (same_event e OwnData) (copies s)
      (from_implies (copies (next_of s e)) (same_event e OwnData || copies s) (moving 7 (lit< tt) s e) c) d;
  another_makes_no_copy = λ o. from_implies (copies (next_of s e)) (copies s) (made s e o).1;
  get_m_leaves_only_miwb = λ c m k.
      from_same_state (next_of s e) MIwb
      (from_implies (copies (next_of s e)) (same_state (next_of s e) MIwb)
      (from_implies (meets s e) (implies (copies (next_of s e)) (same_state (next_of s e) MIwb))
      (from_implies (clears e) (implies (meets s e) (implies (copies (next_of s e)) (same_state (next_of s e) MIwb))) (safety 2 (lit< tt) s e) c) m) k);
  get_s_takes_no_copy = λ g. from_same (copies (next_of s e)) (copies s) (shared s e g).0;
  get_s_leaves_no_m = λ g. not-true (modified (next_of s e)) (shared s e g).1;
  modified_left_only_when_taken = λ m n. (modified_left s e m n).0;
  modified_left_to_write_back = λ m n. (modified_left s e m n).1;
}

pub beside_law : (s t : State) → BesideLaw s t
beside_law s t = record {
  either_way = λ b. and_from (bears t s) (bears s t) (and_parts (bears s t) (bears t s) b).1 (and_parts (bears s t) (bears t s) b).0;
  one_holder = λ b h. not-true (copies t) (from_implies (holds s) (not (copies t)) (borne b).0 h);
  a_store_waits = λ b w c.
      from_same_state t MIwb
      (from_implies (copies t) (same_state t MIwb) (from_implies (wants s) (implies (copies t) (same_state t MIwb)) (rest b).0 w) c);
  no_m_beside_waiting = λ b w. not-true (modified t) (from_implies (waits s) (not (modified t)) (rest b).1 w);
}
  where
    borne : beside s t ≡ true → (implies (holds s) (not (copies t)) ≡ true) × ((implies (wants s) (implies (copies t) (same_state t MIwb)) && implies (waits s) (not (modified t))) ≡ true)
    borne b = and_parts (implies (holds s) (not (copies t))) (implies (wants s) (implies (copies t) (same_state t MIwb)) && implies (waits s) (not (modified t))) (and_parts (bears s t) (bears t s) b).0

    rest : beside s t ≡ true → (implies (wants s) (implies (copies t) (same_state t MIwb)) ≡ true) × (implies (waits s) (not (modified t)) ≡ true)
    rest b = and_parts (implies (wants s) (implies (copies t) (same_state t MIwb))) (implies (waits s) (not (modified t))) (borne b).1

pub pair_law : (s : State) (e : Event) (t : State) → PairLaw s e t
pair_law s e t = record { stays_beside = λ b m a. (both b m a).0; hears_what_it_meets = λ b m a. (both b m a).1 }
  where
    both : beside s t ≡ true → meets s e ≡ true → allowed s e t ≡ true → (beside (next_of s e) (after_heard t (heard e)) ≡ true) × (hears t (heard e) ≡ true)
    both b m a =
        and_parts (beside (next_of s e) (after_heard t (heard e))) (hears t (heard e))
        (from_implies (happens s e (entry_of s e) t) (pair_kept s e (entry_of s e) t) (pair s e t)
        (and_from (beside s t) (meets s e && allowed s e t) b (and_from (meets s e) (allowed s e t) m a)))

pub table_law : TableLaw
table_law = record { states = state_law; entries = entry_law; neighbours = beside_law; pairs = pair_law; rows = waiting_law; waiting_only = waiting_only }
