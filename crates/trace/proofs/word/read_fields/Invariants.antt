use Rattle.std.proofs.Common.{◌≡◌, ℕ, ◌<◌, ◌≤◌, ◌++◌, Ok, length, get_or, take, drop}
use Rattle.trace.specs.Words.{in_fields, then}
use Rattle.trace.proofs.word.read_fields.Given as goal

-- the numbers read so far, in front of those to come
abbrev pub invariant-loop-i : goal.invariant-loop-i
invariant-loop-i g l = record {
  long : length l.numbers ≡ g.row.N;
  whole : then (in_fields (drop l.i l.fn.fields) (drop l.i l.words)) (λ ns. Ok (take l.i l.numbers ++ ns)) ≡ in_fields l.fn.fields l.words;
  bound : (k : ℕ) → k < l.i → get_or l.numbers k 0 ≤ (get_or l.fn.fields k (record { low = 0; high = 0 })).high;
}
