-- A number found below its limit, or refused.
use Rattle.std.specs.Prelude.{◌≡◌, ℕ, ◌<◌, ◌≤◌, Result, MatchResult}
use Rattle.rules.specs.declared.refusal.Refusal.{Refusal}
use Rattle.fabric.specs.declared.index.Index.{Index}

abbrev pub Found : {N : ℕ} → ℕ → ℕ → Refusal → Result (Index N) Refusal → Type 0
Found number limit refusal r = MatchResult r (λ i. (i.at ≡ number) × (number < limit)) (λ e. (e ≡ refusal) × (limit ≤ number))
