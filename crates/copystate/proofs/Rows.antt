-- What a waiting board's state says of the row behind it.
use Rattle.std.proofs.Common.{◌≡◌, Bool, true, false, cond, not, ◌||◌, List, [], ◌∷◌, ◌++◌, sym, refl, ap, ◌∙◌, subst}
use Rattle.std.proofs.lemmas.Bool.{false≢true}
use Rattle.copystate.specs.declared.states.State.{State}
use Rattle.copystate.specs.declared.states.State.TheVariants.{I, S, M, ISd, IMd, SMw, MIwb, MSwb, IMdI, ISdI, IMdS}
use Rattle.copystate.specs.declared.events.Event.TheVariants.{OwnData}
use Rattle.copystate.specs.States.{same_state, waits, wants}
use Rattle.copystate.specs.Table.{next_of}
use Rattle.copystate.specs.Waiting.{someone, occurs, a_store, waiting, own_request, request, WaitingLaw, WaitingOnly}

-- the state by whether a store waits behind, and whether anyone does
abbrev form : Bool → Bool → Bool → State
form w a n = cond w (cond a IMdI (cond n IMdS IMd)) (cond a ISdI ISd)

step : (w a n v : Bool) → next_of (form w a n) (request v) ≡ form w (a || v) true
step true true n true = refl
step true true n false = refl
step true false true true = refl
step true false true false = refl
step true false false true = refl
step true false false false = refl
step false true n true = refl
step false true n false = refl
step false false n true = refl
step false false n false = refl

store_after : (later : List Bool) (v : Bool) → a_store (later ++ v ∷ []) ≡ (a_store later || v)
store_after [] true = refl
store_after [] false = refl
store_after (true ∷ later) v = refl
store_after (false ∷ later) v = store_after later v

someone_after : (later : List Bool) (v : Bool) → someone (later ++ v ∷ []) ≡ true
someone_after [] v = refl
someone_after (w ∷ later) v = refl

joined : (w : Bool) (later : List Bool) (v : Bool) → next_of (waiting w later) (request v) ≡ waiting w (later ++ v ∷ [])
joined w later v =
    step w (a_store later) (someone later) v
    ∙ ap (λ a. form w a true) (sym (store_after later v))
    ∙ ap (λ n. form w (a_store (later ++ v ∷ [])) n) (sym (someone_after later v))

supplied_form : (w a n : Bool) → next_of (form w a n) OwnData ≡ cond w (cond a MIwb (cond n MSwb M)) (cond a I S)
supplied_form true true n = refl
supplied_form true false true = refl
supplied_form true false false = refl
supplied_form false true n = refl
supplied_form false false n = refl

waits_form : (w a n : Bool) → waits (form w a n) ≡ true
waits_form true true n = refl
waits_form true false true = refl
waits_form true false false = refl
waits_form false true n = refl
waits_form false false n = refl

wants_form : (w a n : Bool) → wants (form w a n) ≡ w
wants_form true true n = refl
wants_form true false true = refl
wants_form true false false = refl
wants_form false true n = refl
wants_form false false n = refl

gives_up : (w n : Bool) → (same_state (form w true n) IMdI || same_state (form w true n) ISdI) ≡ true
gives_up true n = refl
gives_up false n = refl

no_m : (w a : Bool) → not (same_state (form w a true) IMd) ≡ true
no_m true true = refl
no_m true false = refl
no_m false true = refl
no_m false false = refl

someone_occurs : (v : Bool) (later : List Bool) → occurs v later ≡ true → someone later ≡ true
someone_occurs v [] h = absurd (false≢true h)
someone_occurs v (w ∷ later) h = refl

stands : (w : Bool) (later : List Bool) (v : Bool) → occurs v later ≡ true
    → cond v (same_state (waiting w later) IMdI || same_state (waiting w later) ISdI) (not (same_state (waiting w later) IMd)) ≡ true
stands w later true h =
    subst (λ (a : Bool). (same_state (form w a (someone later)) IMdI || same_state (form w a (someone later)) ISdI) ≡ true) (sym h) (gives_up w (someone later))
stands w later false h =
    subst (λ (n : Bool). not (same_state (form w (a_store later) n) IMd) ≡ true) (sym (someone_occurs false later h)) (no_m w (a_store later))

sent_form : (w : Bool) → next_of I (own_request w) ≡ waiting w []
sent_form true = refl
sent_form false = refl

pub waiting_law : (w : Bool) (later : List Bool) → WaitingLaw w later
waiting_law w later = record {
  sent = sent_form w;
  upgrade_sent = refl;
  joined_by = joined w later;
  data_serves = supplied_form w (a_store later) (someone later);
  is_waiting = waits_form w (a_store later) (someone later);
  wants_as_sent = wants_form w (a_store later) (someone later);
  stands_before = λ t h. stands w later (wants t) h;
}

pub waiting_only : (s : State) → WaitingOnly s
waiting_only I h = absurd (false≢true h)
waiting_only S h = absurd (false≢true h)
waiting_only M h = absurd (false≢true h)
waiting_only ISd h = ([], refl)
waiting_only IMd h = ([], refl)
waiting_only SMw h = absurd (false≢true h)
waiting_only MIwb h = absurd (false≢true h)
waiting_only MSwb h = absurd (false≢true h)
waiting_only IMdI h = (true ∷ [], refl)
waiting_only ISdI h = (true ∷ [], refl)
waiting_only IMdS h = (false ∷ [], refl)
