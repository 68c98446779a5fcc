-- A fabric over words that are all zero.
use Rattle.std.proofs.Common.{◌≡◌, ℕ, ◌+◌, ◌-◌, ◌≤◌, true, false, cond, ltb, List, ◌++◌, length, get_or, take, drop, replicate, slice_index, IfOk, Ok, Err, Result, refl, ap, ◌∙◌, subst, inl, inr, arith}
use mathlib.Core.Path.{fun_ext}
use lib.ListN.{length-replicate, get_or-replicate}
use Rattle.std.proofs.lemmas.List.{take-replicate, get_or_past}
use Rattle.std.proofs.lemmas.Bool.{cases_lt}
use Rattle.memory.specs.Interface.{upto}
use Rattle.memory.specs.Flat.{counted, lined}
use Rattle.memory.specs.Window.{reach, seen}
use Rattle.listing.specs.Beginnings.{stand_from}
use Rattle.listing.specs.Listing.{Stand, begun, listed}

none : (n : ℕ) (words : ℕ → ℕ) → ((k : ℕ) → words k ≡ 0) → upto n words ≡ (λ k. 0)
none n words e = fun_ext (λ k. elim (ltb k n) as (λ v. cond v (words k) 0 ≡ 0) [ true ↦ e k | false ↦ refl ])

all_zeros : (n k : ℕ) → get_or (replicate {A = ℕ} n 0) k 0 ≡ 0
all_zeros n k =
    let e : length (replicate {A = ℕ} n 0) ≡ n = length-replicate {A = ℕ} n 0 in
    elim (cases_lt k n) [
      | inl lt ↦ get_or-replicate {A = ℕ} n k 0 0 lt
      | inr ge ↦ get_or_past {X = ℕ} (replicate n 0) k 0 (omega (arith, e))
    ]

lined_zeros : (n : ℕ) → lined (replicate n 0) ≡ (λ k. 0)
lined_zeros n = none 64 (λ k. get_or (replicate n 0) k 0) (all_zeros n)

counted_zeros : (n : ℕ) → n ≤ 64 → counted (replicate n 0) ≡ n
counted_zeros n h =
    let e : length (replicate {A = ℕ} n 0) ≡ n = length-replicate {A = ℕ} n 0 in
    omega (arith, e)

same_stand : {words words' : ℕ → ℕ} {size size' : ℕ} (owners : ℕ → ℕ) (count span : ℕ) → words ≡ words' → size ≡ size' → stand_from words size owners count span ≡ stand_from words' size' owners count span
same_stand owners count span e e' = rw (e, e') refl

pub flat_begun : (l : ℕ) (words : List ℕ) (owners : ℕ → ℕ) (count span : ℕ) → l ≤ 64 → words ≡ take (l - 0) (drop 0 (replicate 64 0)) → stand_from (lined words) (counted words) owners count span ≡ begun l count span owners
flat_begun l words owners count span h e =
    let n : l - 0 ≡ l = omega arith in
    let z : words ≡ replicate l 0 = e ∙ ap (λ i. take i (replicate {A = ℕ} 64 0)) n ∙ take-replicate {X = ℕ} l 64 0 h in
    same_stand owners count span (ap lined z ∙ lined_zeros l) (ap counted z ∙ counted_zeros l h)

pub window_begun : (l start : ℕ) (words : List ℕ) (owners : ℕ → ℕ) (count span : ℕ) → l ≤ 64 → start ≡ 64 - l → words ≡ replicate 64 0 → stand_from (seen (lined words) start l) (reach (counted words) start l) owners count span ≡ begun l count span owners
window_begun l start words owners count span h s e =
    let n : counted words ≡ 64 = ap counted e in
    same_stand owners count span (none l (λ k. lined words (start + k)) (λ k. ap (λ (f : ℕ → ℕ). f (start + k)) (ap lined e ∙ lined_zeros 64))) (omega (arith, n))

pub listed_from : {X Y : Type 0} (r : Result X Y) (short : Type 0) (out out' : List ℕ) (line : ℕ) (rest : List (List ℕ)) {s s' : Stand} → s ≡ s' → IfOk r (λ _. short → out' ≡ out ++ listed line s rest) → IfOk r (λ _. short → out' ≡ out ++ listed line s' rest)
listed_from r short out out' line rest e m = subst (λ (x : Stand). IfOk r (λ _. short → out' ≡ out ++ listed line x rest)) e m

-- What a call that succeeds has added, in other words.
pub added_from : {X Y : Type 0} (r : Result X Y) (short : Type 0) (out out' text text' : List ℕ) → (short → text ≡ text') → IfOk r (λ _. out' ≡ out ++ text) → IfOk r (λ _. short → out' ≡ out ++ text')
added_from (Ok x) short out out' text text' e h = λ few. h ∙ ap (λ t. out ++ t) (e few)
added_from (Err d) short out out' text text' e h = tt

pub begun_zeros : (l start : ℕ) (words : ℕ → ℕ) (size : ℕ) (owners : ℕ → ℕ) (count span : ℕ) → words ≡ upto l (λ k. slice_index (replicate 64 0) (start + k)) → size ≡ l → stand_from words size owners count span ≡ begun l count span owners
begun_zeros l start words size owners count span e h =
    let blank : words ≡ (λ k. 0) = e ∙ none l _ (λ k. all_zeros 64 (start + k)) in
    rw (blank, h) refl
