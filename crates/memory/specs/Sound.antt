-- Proofs that each memory of the crate is sound, for their ghost members to hold.
use Rattle.std.specs.Prelude.{◌≡◌, ℕ, ◌+◌, ◌≤◌, true, false, cond, List, length, nat_lt, slice_index, refl}
use Rattle.std.proofs.Common.{inl, inr, arith}
use Rattle.std.proofs.lemmas.List.{get_or_past}
use Rattle.std.proofs.lemmas.Bool.{cases_lt, le-ltb}
use Rattle.memory.specs.Interface.{Sound, upto}
use Rattle.memory.specs.Flat.{counted, lined}
use Rattle.memory.specs.Window.{reach, seen}

upto_past : (n : ℕ) (words : ℕ → ℕ) (k : ℕ) → n ≤ k → upto n words k ≡ 0
upto_past n words k h = rw (le-ltb k n h)

upto_zero : (n : ℕ) (words : ℕ → ℕ) (k : ℕ) → words k ≡ 0 → upto n words k ≡ 0
upto_zero n words k e = elim (nat_lt k n) as (λ v. cond v (words k) 0 ≡ 0) [ true ↦ e | false ↦ refl ]

pub flat_blank : (words : List ℕ) (k : ℕ) → counted words ≤ k → lined words k ≡ 0
flat_blank words k h =
    elim (cases_lt k 64) [
      | inl lt ↦ let p : length words ≤ k = omega arith in upto_zero 64 (λ i. slice_index words i) k (get_or_past words k 0 p)
      | inr ge ↦ upto_past 64 (λ i. slice_index words i) k ge
    ]

pub flat_sound : (words : List ℕ) → Sound (counted words) (lined words)
flat_sound words = record { few = omega arith; blank = flat_blank words }

pub window_blank : (size : ℕ) (words : ℕ → ℕ) (start count : ℕ) → Sound size words → (k : ℕ) → reach size start count ≤ k → seen words start count k ≡ 0
window_blank size words start count s k h =
    elim (cases_lt k count) [
      | inl lt ↦ let p : size ≤ start + k = omega arith in upto_zero count (λ i. words (start + i)) k (s.blank (start + k) p)
      | inr ge ↦ upto_past count (λ i. words (start + i)) k ge
    ]

pub window_sound : (size : ℕ) (words : ℕ → ℕ) (start count : ℕ) → Sound size words → Sound (reach size start count) (seen words start count)
window_sound size words start count s =
    let few : size ≤ 64 = s.few in record { few = omega arith; blank = window_blank size words start count s }
