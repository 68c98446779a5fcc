-- The lines that a window shows, and those that it hides.
use Rattle.std.specs.Prelude.{◌≡◌, ℕ, ◌+◌, ◌-◌, ◌<◌, ◌≤◌, min, cond, ◌&&◌, ◌⊎◌, List, ◌∷◌, nat_le, nat_lt}
use Rattle.memory.specs.declared.interface.LineMemory as memory
use Rattle.memory.specs.declared.window.Window.{Window}
use Rattle.memory.specs.Interface.{upto}

-- A window shows line start + k below as its line k, as far as both its count and the memory below reach.
pub record Shows (start count size : ℕ) (words : ℕ → ℕ) (lines : ℕ) (shown : ℕ → ℕ) : Type 0 where
  pub within : (k : ℕ) → k < lines → (k < count) × (start + k < size)
  pub reaches : (k : ℕ) → k < count → start + k < size → k < lines
  pub word : (k : ℕ) → k < lines → shown k ≡ words (start + k)

-- The lines below that lie outside the window keep their words.
abbrev pub Spares : ℕ → ℕ → (ℕ → ℕ) → (ℕ → ℕ) → Type 0
Spares start count before after = (k : ℕ) → (k < start) ⊎ (start + count ≤ k) → after k ≡ before k

-- How many lines a window has onto `size` lines.
abbrev pub reach : ℕ → ℕ → ℕ → ℕ
reach size start count = min count (size - start)

-- The word of each line of the window.
abbrev pub seen : (ℕ → ℕ) → ℕ → ℕ → ℕ → ℕ
seen words start count = upto count (λ k. words (start + k))

-- The words below, with those that the window shows blank.
abbrev pub hidden : (ℕ → ℕ) → ℕ → ℕ → ℕ → ℕ
hidden words start count k = cond (nat_le start k && nat_lt k (start + count)) 0 (words k)

abbrev pub size_of : {M : Type 0} → memory.Ghosts M → Window M → ℕ
size_of m w = reach (m.size w.below) w.start w.count

abbrev pub words_of : {M : Type 0} → memory.Ghosts M → Window M → ℕ → ℕ
words_of m w = seen (m.words w.below) w.start w.count

-- What no write reaches: where the window lies, the words that it hides, and what lies around the memory below.
abbrev pub around_of : {M : Type 0} → memory.Ghosts M → Window M → List (ℕ → ℕ)
around_of m w = (λ _. w.start) ∷ (λ _. w.count) ∷ hidden (m.words w.below) w.start w.count ∷ m.around w.below
