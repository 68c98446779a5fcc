-- The check of the table, computed once, and what it says of each entry.
use Rattle.std.proofs.Common.{◌≡◌, ℕ, ◌<◌, Bool, true, ◌&&◌, length, get_or, refl, lit<}
use Rattle.std.proofs.lemmas.Bool.{and_parts}
use Rattle.std.proofs.lemmas.List.Sums.{AllPass-from_list_all as at}
use Rattle.copystate.specs.declared.states.State.{State}
use Rattle.copystate.specs.declared.states.State.TheVariants.{I, S, M, ISd, IMd, SMw, MIwb, MSwb, IMdI, ISdI, IMdS}
use Rattle.copystate.specs.declared.events.Event.{Event}
use Rattle.copystate.specs.declared.events.Event.TheVariants.{PostStore, SendGetS, SendGetM, Replace, OwnData, OwnUpg, OwnPutM, OtherGetS, OtherGetM, OtherUpg}
use Rattle.copystate.specs.Truth.{every}
use Rattle.copystate.specs.Table.{entry_of}
use Rattle.copystate.specs.Soundness.{states, events, safety_facts, rule_facts, met_right, board_safe, board_ruled, pair_safe, pairs_safe, passes, table_passes}

-- the whole check is this computation
pub table_passes_is_true : table_passes ≡ true
unfolding table_passes
table_passes_is_true = refl

pub at_state : (f : State → Bool) → every f states ≡ true → (x : State) → f x ≡ true
at_state f t I = at f states t 0 I (lit< tt)
at_state f t S = at f states t 1 I (lit< tt)
at_state f t M = at f states t 2 I (lit< tt)
at_state f t ISd = at f states t 3 I (lit< tt)
at_state f t IMd = at f states t 4 I (lit< tt)
at_state f t SMw = at f states t 5 I (lit< tt)
at_state f t MIwb = at f states t 6 I (lit< tt)
at_state f t MSwb = at f states t 7 I (lit< tt)
at_state f t IMdI = at f states t 8 I (lit< tt)
at_state f t ISdI = at f states t 9 I (lit< tt)
at_state f t IMdS = at f states t 10 I (lit< tt)

pub at_event : (f : Event → Bool) → every f events ≡ true → (x : Event) → f x ≡ true
at_event f t PostStore = at f events t 0 PostStore (lit< tt)
at_event f t SendGetS = at f events t 1 PostStore (lit< tt)
at_event f t SendGetM = at f events t 2 PostStore (lit< tt)
at_event f t Replace = at f events t 3 PostStore (lit< tt)
at_event f t OwnData = at f events t 4 PostStore (lit< tt)
at_event f t OwnUpg = at f events t 5 PostStore (lit< tt)
at_event f t OwnPutM = at f events t 6 PostStore (lit< tt)
at_event f t OtherGetS = at f events t 7 PostStore (lit< tt)
at_event f t OtherGetM = at f events t 8 PostStore (lit< tt)
at_event f t OtherUpg = at f events t 9 PostStore (lit< tt)

-- every entry passes
every_passes : (s : State) (e : Event) → passes s e (entry_of s e) ≡ true
unfolding table_passes
every_passes s e =
    at_event (λ y. passes s y (entry_of s y)) (at_state (λ x. every (λ y. passes x y (entry_of x y)) events) table_passes_is_true s) e

pub safe : (s : State) (e : Event) → board_safe s e (entry_of s e) ≡ true
safe s e = (and_parts (board_safe s e (entry_of s e)) (board_ruled s e (entry_of s e) && pairs_safe s e (entry_of s e)) (every_passes s e)).0

rest : (s : State) (e : Event) → (board_ruled s e (entry_of s e) ≡ true) × (pairs_safe s e (entry_of s e) ≡ true)
rest s e =
    and_parts (board_ruled s e (entry_of s e)) (pairs_safe s e (entry_of s e))
    (and_parts (board_safe s e (entry_of s e)) (board_ruled s e (entry_of s e) && pairs_safe s e (entry_of s e)) (every_passes s e)).1

pub pair : (s : State) (e : Event) (t : State) → pair_safe s e (entry_of s e) t ≡ true
pair s e t = at_state (pair_safe s e (entry_of s e)) (rest s e).1 t

-- the fact at place k of its list, at any state and event
pub safety : (k : ℕ) → k < length safety_facts → (s : State) (e : Event) → get_or safety_facts k met_right s e (entry_of s e) ≡ true
safety k h s e = at (λ f. f s e (entry_of s e)) safety_facts (safe s e) k met_right h

pub rule : (k : ℕ) → k < length rule_facts → (s : State) (e : Event) → get_or rule_facts k met_right s e (entry_of s e) ≡ true
rule k h s e = at (λ f. f s e (entry_of s e)) rule_facts (rest s e).0 k met_right h
