-- What a line memory means: a line count, and a word for each line.
use Rattle.std.specs.Prelude.{◌≡◌, ℕ, ◌<◌, ◌≤◌, cond, ◌&&◌, ◌==◌, ◌≢◌, nat_lt}

-- There are at most 64 lines, and past the last each word is 0.
pub record Sound (size : ℕ) (words : ℕ → ℕ) : Type 0 where
  pub few : size ≤ 64
  pub blank : (k : ℕ) → size ≤ k → words k ≡ 0

-- A write replaces the word of its line, if the memory has that line, and nothing else.
pub record Replaces (size : ℕ) (before after : ℕ → ℕ) (line word : ℕ) : Type 0 where
  pub there : line < size → after line ≡ word
  pub others : (k : ℕ) → (k ≢ line) → after k ≡ before k
  pub outside : size ≤ line → after ≡ before

-- The words after a write.
unfoldable pub written : ℕ → (ℕ → ℕ) → ℕ → ℕ → ℕ → ℕ
written size words line word k = cond (k == line && nat_lt k size) word (words k)

-- The first n of the words, and 0 from there on.
abbrev pub upto : ℕ → (ℕ → ℕ) → ℕ → ℕ
upto n words k = cond (nat_lt k n) (words k) 0
