-- What a queue holds, oldest first.
use Rattle.std.specs.Prelude.{ℕ, cond, List, length, map, take, Some, None, Option, nat_lt, slice_index}
use Rattle.fabric.specs.declared.queue.Queue.{Queue}

abbrev pub row : {N : ℕ} → Queue N → List ℕ
row q = take q.len (map (λ x. x.at) q.items)

-- What stands at a place, or none past the end.
abbrev pub place : List ℕ → ℕ → Option ℕ
place xs k = cond (nat_lt k (length xs)) (Some (slice_index xs k)) None
