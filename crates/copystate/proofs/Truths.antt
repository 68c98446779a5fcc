-- From a test that passed to the fact that it tests.
use Rattle.std.proofs.Common.{◌≡◌, Bool, true, false, ◌||◌, get_or, sym, refl, ap, ◌∙◌}
use Rattle.std.proofs.lemmas.Bool.{eqb-true, false≢true, true≢false}
use Rattle.copystate.specs.declared.states.State.{State}
use Rattle.copystate.specs.declared.states.State.TheVariants.{I, S, M, ISd, IMd, SMw, MIwb, MSwb, IMdI, ISdI, IMdS}
use Rattle.copystate.specs.Truth.{implies, same}
use Rattle.copystate.specs.States.{state_code, same_state}
use Rattle.copystate.specs.Soundness.{states}

pub from_same : (a b : Bool) → same a b ≡ true → a ≡ b
from_same true true h = refl
from_same true false h = absurd (false≢true h)
from_same false true h = absurd (false≢true h)
from_same false false h = refl

pub from_implies : (a b : Bool) → implies a b ≡ true → a ≡ true → b ≡ true
from_implies true b h p = h
from_implies false b h p = absurd (false≢true p)

pub or_second : (a b : Bool) → (a || b) ≡ true → a ≡ false → b ≡ true
or_second true b h p = absurd (true≢false p)
or_second false b h p = h

named : (s : State) → get_or states (state_code s) I ≡ s
named I = refl
named S = refl
named M = refl
named ISd = refl
named IMd = refl
named SMw = refl
named MIwb = refl
named MSwb = refl
named IMdI = refl
named ISdI = refl
named IMdS = refl

pub from_same_state : (s t : State) → same_state s t ≡ true → s ≡ t
from_same_state s t h =
    sym (named s) ∙ ap (λ n. get_or states n I) (eqb-true (state_code s) (state_code t) h) ∙ named t
