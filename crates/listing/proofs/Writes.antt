-- A writing that succeeds just where another does.
use Rattle.std.proofs.Common.{◌≡◌, true, is_ok, IfOk, Ok, Err, Result, refl}
use Rattle.std.proofs.lemmas.Bool.{both_ways}

pub made_alike : {D E : Type 0} (r : Result (Unit {0}) D) (w : Result (Unit {0}) E) (P : Type 0) → is_ok r ≡ is_ok w → IfOk w (λ _. P) → IfOk r (λ _. P)
made_alike (Ok x) (Ok y) P e h = h
made_alike (Ok x) (Err d) P e h = absurd (both_ways true e refl)
made_alike (Err d) w P e h = tt
