-- How near each unserved request is to being served.
use Rattle.std.proofs.Common.{◌≡◌, ℕ, suc, ◌+◌, ◌*◌, ◌<◌, ◌≤◌, cond, eqb, List, [], ◌∷◌}
use Rattle.coherence.proofs.Turns.Turns.{turns}
use Rattle.coherence.proofs.Line.Codes.{holds, writes}
use Rattle.rules.specs.declared.kind.Kind.{Kind}
use Rattle.rules.specs.Boards.{posted, sent}
use Rattle.coherence.proofs.Runs.Reading.{Board, Reading}

-- the place of b in the list, from 1
abbrev pub place_of : ℕ → List ℕ → ℕ
place_of b [] = 1
place_of b (c ∷ r) = cond (eqb b c) 1 (suc (place_of b r))

abbrev pub ask : Board → ℕ
ask b = cond b.asked 1 0

-- u c is the number of slots up to c's next turn
pub record Clock (n p d : ℕ) (u : ℕ → ℕ) (s : Reading) : Type 0 where
  pub inside : (b l w : ℕ) (kd : Kind) → (s.boards b).place ≡ posted l kd w → b < n
  pub unsent : (b l w : ℕ) (kd : Kind) → (s.boards b).place ≡ posted l kd w → w + p * ask (s.boards b) + u b ≤ 2 * p + d
  pub held : (b l w h : ℕ) (kd : Kind) → (s.boards b).place ≡ sent l kd w → writes ((s.lines l).state h) ≡ 1
      → w + p * turns n (place_of b (s.lines l).row) (place_of l (s.boards h).list) + u h ≤ p * (n * (n + 3)) + p + p * ask (s.boards h) + d
  pub open' : (b l w f : ℕ) (r : List ℕ) (kd : Kind) → (s.boards b).place ≡ sent l kd w → ((c : ℕ) → holds ((s.lines l).state c) ≡ 0) → (s.lines l).row ≡ f ∷ r
      → w + p * turns n (place_of b (s.lines l).row) 0 + p * ask (s.boards f) + u f ≤ p * (n * (n + 3)) + 2 * p + d

-- the slot of a: a's turn is now, every other's comes one slot nearer, and each comes within p
pub record Tick (n p a : ℕ) (u v : ℕ → ℕ) : Type 0 where
  pub now : u a ≡ 1
  pub nearer : (c : ℕ) → c < n → (c ≡ a → ⊥) → u c ≡ suc (v c)
  pub soon : (c : ℕ) → c < n → v c ≤ p
