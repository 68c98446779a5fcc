-- The law of a write and the words written are one.
use Rattle.std.proofs.Common.{◌≡◌, ℕ, ◌<◌, ◌≤◌, ◌&&◌, eqb, ltb, sym, refl, ap, ◌∙◌, inl, inr, arith}
use mathlib.Core.Path.{fun_ext}
use Rattle.std.proofs.lemmas.Bool.{cases_lt, cases_eq, cond-true, cond-false, and_from, and_left, and_right, eq-eqb, ne_eqb, lt-ltb, le-ltb}
use Rattle.memory.specs.Interface.{Replaces, written}

-- Words that the law fits are the words written.
pub replaces_written : (size : ℕ) (before after : ℕ → ℕ) (line word : ℕ) → Replaces size before after line word → after ≡ written size before line word
unfolding written
replaces_written size before after line word r =
    fun_ext (λ k.
    elim (cases_eq k line) [
      | inr ne ↦ r.others k ne ∙ sym (cond-false (eqb k line && ltb k size) word (before k) (and_left _ _ (ne_eqb k line ne)))
      | inl e ↦
          elim (cases_lt k size) [
            | inl lt ↦
                let h : line < size = omega arith in
                ap after e ∙ r.there h ∙ sym (cond-true (eqb k line && ltb k size) word (before k) (and_from _ _ (eq-eqb k line e) (lt-ltb k size lt)))
            | inr ge ↦
                let h : size ≤ line = omega arith in
                ap (λ (f : ℕ → ℕ). f k) (r.outside h) ∙ sym (cond-false (eqb k line && ltb k size) word (before k) (and_right _ _ (le-ltb k size ge)))
          ]
    ])

-- A write outside the memory leaves all.
pub nothing_replaces : (size : ℕ) (before : ℕ → ℕ) (line word : ℕ) → size ≤ line → Replaces size before before line word
nothing_replaces size before line word h = record { there = λ lt. absurd (omega arith); others = λ k _. refl; outside = λ _. refl }
