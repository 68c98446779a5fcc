-- What a caller learns of a memory before and after, when both have the same around them.
use Rattle.std.proofs.Common.{◌≡◌, ℕ, ◌+◌, ◌<◌, ◌≤◌, ◌&&◌, ltb, leb, ◌⊎◌, List, [], ◌∷◌, length, get_or, sym, ap, ◌∙◌, inl, inr, arith}
use Rattle.std.proofs.lemmas.Bool.{cond-false, and_left, and_right, lt-leb, le-ltb}
use Rattle.memory.specs.declared.interface.LineMemory as memory
use Rattle.memory.specs.declared.window.Window.{Window}
use Rattle.memory.specs.Flat.{past}
use Rattle.memory.specs.Window.{Spares, hidden, around_of}

abbrev first : List (ℕ → ℕ) → ℕ → ℕ
first [] = λ _. 0
first (f ∷ _) = f

abbrev rest : List (ℕ → ℕ) → List (ℕ → ℕ)
rest [] = []
rest (_ ∷ fs) = fs

pub same_length : (before after : List ℕ) → past after ≡ past before → length after ≡ length before
same_length before after e = ap (λ fs. first fs 0) e

pub same_past : (before after : List ℕ) → past after ≡ past before → (k : ℕ) → get_or after (64 + k) 0 ≡ get_or before (64 + k) 0
same_past before after e k = ap (λ fs. first (rest fs) k) e

outside_hidden : (words : ℕ → ℕ) (start count k : ℕ) → (k < start) ⊎ (start + count ≤ k) → hidden words start count k ≡ words k
outside_hidden words start count k (inl lt) = cond-false (leb start k && ltb k (start + count)) 0 (words k) (and_left _ _ (lt-leb start k lt))
outside_hidden words start count k (inr ge) = cond-false (leb start k && ltb k (start + count)) 0 (words k) (and_right _ _ (le-ltb k (start + count) ge))

module _ {M : Type 0} (m : memory.Ghosts M) (before after : Window M) (e : around_of m after ≡ around_of m before) where
  pub same_start : after.start ≡ before.start
  same_start = ap (λ fs. first fs 0) e

  pub same_count : after.count ≡ before.count
  same_count = ap (λ fs. first (rest fs) 0) e

  pub spared : Spares before.start before.count (m.words before.below) (m.words after.below)
  spared k out =
      let s = same_start in
      let n = same_count in
      let out' : (k < after.start) ⊎ (after.start + after.count ≤ k) = elim out [ inl lt ↦ inl (omega arith) | inr ge ↦ inr (omega arith) ] in
      sym (outside_hidden (m.words after.below) after.start after.count k out')
      ∙ ap (λ fs. first (rest (rest fs)) k) e
      ∙ outside_hidden (m.words before.below) before.start before.count k out

  pub same_below : m.around after.below ≡ m.around before.below
  same_below = ap (λ fs. rest (rest (rest fs))) e
