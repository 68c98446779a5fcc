-- A number kept below a cap.
use Rattle.std.proofs.Common.{◌≡◌, ℕ, ◌+◌, ◌-◌, ◌*◌, ◌^◌, ◌≤◌, min, List, ◌∷◌, length, take, drop, arith, take_all}

min_step : (n d : ℕ) → min (min n (2 ^ 64) * 10 + d) (2 ^ 64) ≡ min (n * 10 + d) (2 ^ 64)
min_step n d = omega arith

pub min_small : (n : ℕ) → n ≤ 2 ^ 64 → min n (2 ^ 64) ≡ n
min_small n h = omega arith

-- what `[_, rest @ ..]` binds
pub rest_cons : (c : ℕ) (cs : List ℕ) → take (length (c ∷ cs) - 1) (drop 1 (c ∷ cs)) ≡ cs
rest_cons c cs = take_all (length (c ∷ cs) - 1) cs (omega arith)
