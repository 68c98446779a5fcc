-- What the codes say is what the states say.
use Rattle.std.proofs.Common.{◌≡◌, ℕ, ◌<◌, false, cond, not, ◌&&◌, eqb, ltb, sym, refl, ap}
use Rattle.std.proofs.lemmas.Bool.{eqb-true, ltb-true, not-true}
use Rattle.copystate.specs.States.{state_code, copies, holds, loads, stores, upgrades, waits}
use Rattle.copystate.specs.Events.{event_code}
use Rattle.copystate.specs.Truth.{every, implies, same}
use Rattle.copystate.specs.Soundness.{events}
use Rattle.copystate.specs.declared.states.State.{State}
use Rattle.copystate.specs.declared.events.Event.{Event}
use Rattle.copystate.specs.declared.events.Event.TheVariants.{PostStore, SendGetS, SendGetM, Replace, OwnData, OwnUpg, OwnPutM, OtherGetS, OtherGetM, OtherUpg}
use Rattle.copystate.proofs.Checked.{at_event, at_state}
use Rattle.copystate.proofs.Truths.{from_implies, from_same}
use Rattle.rules.specs.Boards.{begins, kept, next}
use Rattle.coherence.proofs.Line.Codes as codes
use Rattle.coherence.proofs.Runs.Reading.{keep}

pub code_small : (s : State) → state_code s < 11
code_small s = ltb-true (state_code s) 11 (at_state (λ s. ltb (state_code s) 11) refl s)

pub next_code : (s : State) (e : Event) → codes.next (state_code s) (event_code e) ≡ state_code (next s e)
unfolding next codes.next codes.table
next_code s e =
    eqb-true (codes.next (state_code s) (event_code e)) (state_code (next s e))
    (at_event (λ e. eqb (codes.next (state_code s) (event_code e)) (state_code (next s e)))
    (at_state (λ s. every (λ e. eqb (codes.next (state_code s) (event_code e)) (state_code (next s e))) events) refl s) e)

pub copies_code : (s : State) → eqb (codes.copies (state_code s)) 1 ≡ copies s
unfolding codes.copies
copies_code s = from_same (eqb (codes.copies (state_code s)) 1) (copies s) (at_state (λ s. same (eqb (codes.copies (state_code s)) 1) (copies s)) refl s)

pub holds_code : (s : State) → eqb (codes.holds (state_code s)) 1 ≡ holds s
unfolding codes.holds
holds_code s = from_same (eqb (codes.holds (state_code s)) 1) (holds s) (at_state (λ s. same (eqb (codes.holds (state_code s)) 1) (holds s)) refl s)

pub holds_flag : (s : State) → codes.holds (state_code s) ≡ cond (holds s) 1 0
unfolding codes.holds
holds_flag s = eqb-true (codes.holds (state_code s)) (cond (holds s) 1 0) (at_state (λ s. eqb (codes.holds (state_code s)) (cond (holds s) 1 0)) refl s)

pub waits_code : (s : State) → eqb (codes.waits (state_code s)) 1 ≡ waits s
unfolding codes.waits
waits_code s = from_same (eqb (codes.waits (state_code s)) 1) (waits s) (at_state (λ s. same (eqb (codes.waits (state_code s)) 1) (waits s)) refl s)

pub upgrades_code : (s : State) → eqb (state_code s) 5 ≡ upgrades s
upgrades_code s = from_same (eqb (state_code s) 5) (upgrades s) (at_state (λ s. same (eqb (state_code s) 5) (upgrades s)) refl s)

pub loads_code : (s : State) → (eqb (codes.copies (state_code s)) 1 && not (eqb (state_code s) 5)) ≡ loads s
unfolding codes.copies
loads_code s =
    from_same (eqb (codes.copies (state_code s)) 1 && not (eqb (state_code s) 5)) (loads s)
    (at_state (λ s. same (eqb (codes.copies (state_code s)) 1 && not (eqb (state_code s) 5)) (loads s)) refl s)

pub stores_code : (s : State) → eqb (codes.holds (state_code s)) 1 ≡ stores s
unfolding codes.holds
stores_code s = from_same (eqb (codes.holds (state_code s)) 1) (stores s) (at_state (λ s. same (eqb (codes.holds (state_code s)) 1) (stores s)) refl s)

pub kept_code : (s : State) (w : ℕ) → kept s w ≡ keep (state_code s) w
unfolding kept
kept_code s w = ap (λ t. cond t w 0) (sym (copies_code s))

-- which events begin a write-back
pub leaves_get_s : (s : State) → begins s OtherGetS ≡ eqb (state_code s) 2
unfolding begins
leaves_get_s s = from_same (begins s OtherGetS) (eqb (state_code s) 2) (at_state (λ s. same (begins s OtherGetS) (eqb (state_code s) 2)) refl s)

pub leaves_get_m : (s : State) → begins s OtherGetM ≡ eqb (state_code s) 2
unfolding begins
leaves_get_m s = from_same (begins s OtherGetM) (eqb (state_code s) 2) (at_state (λ s. same (begins s OtherGetM) (eqb (state_code s) 2)) refl s)

pub leaves_replace : (s : State) → begins s Replace ≡ eqb (state_code s) 2
unfolding begins
leaves_replace s = from_same (begins s Replace) (eqb (state_code s) 2) (at_state (λ s. same (begins s Replace) (eqb (state_code s) 2)) refl s)

pub calm_post_store : (s : State) → begins s PostStore ≡ false
unfolding begins
calm_post_store s = not-true (begins s PostStore) (at_state (λ s. not (begins s PostStore)) refl s)

pub calm_send_get_s : (s : State) → begins s SendGetS ≡ false
unfolding begins
calm_send_get_s s = not-true (begins s SendGetS) (at_state (λ s. not (begins s SendGetS)) refl s)

pub calm_send_get_m : (s : State) → begins s SendGetM ≡ false
unfolding begins
calm_send_get_m s = not-true (begins s SendGetM) (at_state (λ s. not (begins s SendGetM)) refl s)

pub calm_own_upg : (s : State) → begins s OwnUpg ≡ false
unfolding begins
calm_own_upg s = not-true (begins s OwnUpg) (at_state (λ s. not (begins s OwnUpg)) refl s)

pub calm_own_put_m : (s : State) → begins s OwnPutM ≡ false
unfolding begins
calm_own_put_m s = not-true (begins s OwnPutM) (at_state (λ s. not (begins s OwnPutM)) refl s)

pub calm_other_upg : (s : State) → begins s OtherUpg ≡ false
unfolding begins
calm_other_upg s = not-true (begins s OtherUpg) (at_state (λ s. not (begins s OtherUpg)) refl s)

pub data_begins : (s : State) → codes.waits (state_code s) ≡ 1 → begins s OwnData ≡ eqb (codes.writes (codes.next (state_code s) 4)) 1
unfolding begins codes.next codes.table codes.writes codes.waits
data_begins s h =
    from_same (begins s OwnData) (eqb (codes.writes (codes.next (state_code s) 4)) 1)
    (from_implies (eqb (codes.waits (state_code s)) 1) (same (begins s OwnData) (eqb (codes.writes (codes.next (state_code s) 4)) 1))
    (at_state (λ s. implies (eqb (codes.waits (state_code s)) 1) (same (begins s OwnData) (eqb (codes.writes (codes.next (state_code s) 4)) 1))) refl s)
    (ap (λ v. eqb v 1) h))
