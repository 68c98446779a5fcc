-- What a write through a window does to the lines that it shows and to those that it hides.
use Rattle.std.proofs.Common.{◌≡◌, ℕ, ◌+◌, ◌<◌, ◌≤◌, true, cond, ◌&&◌, ltb, leb, List, ◌∷◌, sym, ap, ◌∙◌, subst, inl, inr, arith}
use mathlib.Core.Path.{fun_ext}
use Rattle.std.proofs.lemmas.Bool.{cases_eq, cond-true, and_from, lt-ltb, le-leb}
use Rattle.memory.specs.Interface.{Replaces}
use Rattle.memory.specs.Window.{Spares, reach, seen, hidden}

module _ (size start count line place word : ℕ) (before after : ℕ → ℕ) (h : line < reach size start count) (e : place ≡ start + line) (there : Replaces size before after place word) where
  below : Replaces size before after (start + line) word
  below = subst (λ k. Replaces size before after k word) e there

  pub shown_replaces : Replaces (reach size start count) (seen before start count) (seen after start count) line word
  shown_replaces =
      let p : line < count = omega arith in
      let q : start + line < size = omega arith in
      record {
        there = λ _. cond-true (ltb line count) (after (start + line)) 0 (lt-ltb line count p) ∙ below.there q;
        others = λ k ne. ap (λ x. cond (ltb k count) x 0) (below.others (start + k) (λ e. ne (omega arith)));
        outside = λ ge. absurd (omega arith);
      }

  pub below_replaces : Replaces (start + reach size start count) before after (start + line) word
  below_replaces =
      let q : start + line < size = omega arith in
      record { there = λ _. below.there q; others = below.others; outside = λ ge. absurd (omega arith) }

  hidden_stays : hidden after start count ≡ hidden before start count
  hidden_stays =
      fun_ext (λ k.
      elim (cases_eq k (start + line)) [
        | inl e ↦
            let p : start ≤ k = omega arith in
            let q : k < start + count = omega arith in
            let t : (leb start k && ltb k (start + count)) ≡ true = and_from _ _ (le-leb start k p) (lt-ltb k (start + count) q) in
            cond-true _ 0 (after k) t ∙ sym (cond-true _ 0 (before k) t)
        | inr ne ↦ ap (λ x. cond (leb start k && ltb k (start + count)) 0 x) (below.others k ne)
      ])

  pub outside_stays : Spares start count before after
  outside_stays k (inl lt) = below.others k (λ e. omega arith)
  outside_stays k (inr ge) = below.others k (λ e. omega arith)

  pub around_stays : (around around' : List (ℕ → ℕ)) → around' ≡ around → ((λ _. start) ∷ (λ _. count) ∷ hidden after start count ∷ around') ≡ ((λ _. start) ∷ (λ _. count) ∷ hidden before start count ∷ around)
  around_stays around around' e = let h = hidden_stays in cc
