-- Sums over the boards, and over a list.
use Rattle.std.proofs.Common.{ℕ, zero, suc, ◌+◌, cond, eqb, List, [], ◌∷◌}

-- f 0 + .. + f (n - 1)
abbrev pub total : ℕ → (ℕ → ℕ) → ℕ
total zero f = 0
total (suc n) f = total n f + f n

-- the sum of f over the list
abbrev pub over : List ℕ → (ℕ → ℕ) → ℕ
over [] f = 0
over (l ∷ ls) f = f l + over ls f

-- how often b stands in the list
abbrev pub occurs : ℕ → List ℕ → ℕ
occurs b [] = 0
occurs b (c ∷ r) = cond (eqb b c) 1 0 + occurs b r
