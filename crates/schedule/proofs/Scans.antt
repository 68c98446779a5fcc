-- Loops that look through the entries, and stop at the first that passes a test.
use Rattle.std.proofs.Common.{◌≡◌, ℕ, ◌+◌, ◌<◌, ◌≤◌, Bool, true, false, ◌||◌, List, length, get_or, drop, sym, ap, ◌∙◌}
use Rattle.std.proofs.lemmas.List.{at_drop_more, at_drop_all}
use Rattle.std.specs.List.{list_any}

module _ (test : ℕ → Bool) (xs : List ℕ) (i : ℕ) {answer : Bool} (left : list_any test (drop i xs) ≡ answer) where
  pub some_passed : i < length xs → test (get_or xs i 0) ≡ false → list_any test (drop (i + 1) xs) ≡ answer
  some_passed h missed = ap (λ t. t || list_any test (drop (i + 1) xs)) (sym missed) ∙ sym (at_drop_more (list_any test) xs i 0 h) ∙ left

  pub some_found : i < length xs → test (get_or xs i 0) ≡ true → true ≡ answer
  some_found h hit = ap (λ t. t || list_any test (drop (i + 1) xs)) (sym hit) ∙ sym (at_drop_more (list_any test) xs i 0 h) ∙ left

  pub some_none : length xs ≤ i → false ≡ answer
  some_none h = sym (at_drop_all (list_any test) xs i h) ∙ left
