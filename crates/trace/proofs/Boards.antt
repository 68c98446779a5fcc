-- The boards of a slot list, read one by one.
use Rattle.std.proofs.Common.{◌≡◌, ℕ, ◌+◌, ◌<◌, ◌≤◌, true, List, [], ◌∷◌, ◌++◌, length, get_or, drop, Ok, Err, Result, sym, refl, ap, ◌∙◌, append_assoc, append-nil}
use Rattle.std.proofs.lemmas.List.{at_drop_more, at_drop_all}
use Rattle.trace.specs.declared.fault.LineFault.{LineFault}
use Rattle.trace.specs.declared.word.Field.{Field}
use Rattle.trace.specs.declared.word.Word.{Word}
use Rattle.trace.specs.declared.word.Word.TheVariants.{Other}
use Rattle.trace.specs.Commands.{board, boards_of, each_in}
use Rattle.trace.specs.Words.{all_numbers, in_field, then}

-- The numbers read so far, in front of those to come.
abbrev pub onto : List ℕ → Result (List ℕ) LineFault → Result (List ℕ) LineFault
onto done r = then r (λ ns. Ok (done ++ ns))

module _ (f : Field) (ws : List Word) (i : ℕ) (done : List ℕ) {total : Result (List ℕ) LineFault} (inv : onto done (each_in f (drop i ws)) ≡ total) where
  -- the next word decides
  next : i < length ws → onto done (then (in_field f (get_or ws i Other)) (λ n. then (each_in f (drop (i + 1) ws)) (λ ns. Ok (n ∷ ns)))) ≡ total
  next h = sym (ap (onto done) (at_drop_more (each_in f) ws i Other h)) ∙ inv

  pub one_in : i < length ws → (n : ℕ) → in_field f (get_or ws i Other) ≡ Ok n → onto (done ++ n ∷ []) (each_in f (drop (i + 1) ws)) ≡ total
  one_in h n e = regroup (each_in f (drop (i + 1) ws)) ∙ sym (ap (λ r. onto done (then r (λ m. then (each_in f (drop (i + 1) ws)) (λ ns. Ok (m ∷ ns))))) e) ∙ next h
    where
      regroup : (r : Result (List ℕ) LineFault) → onto (done ++ n ∷ []) r ≡ onto done (then r (λ ns. Ok (n ∷ ns)))
      regroup (Ok ns) = ap (λ l. Ok l) (append_assoc done (n ∷ []) ns)
      regroup (Err e) = refl

  pub one_out : i < length ws → (e : LineFault) → in_field f (get_or ws i Other) ≡ Err e → total ≡ Err e
  one_out h e bad = sym (next h) ∙ ap (λ r. onto done (then r (λ m. then (each_in f (drop (i + 1) ws)) (λ ns. Ok (m ∷ ns))))) bad

  pub all_in : length ws ≤ i → total ≡ Ok done
  all_in h = sym inv ∙ ap (onto done) (at_drop_all (each_in f) ws i h) ∙ ap (λ l. Ok l) (append-nil done)

pub all_numbers_lem : (ws : List Word) → all_numbers ws ≡ true → boards_of ws ≡ each_in board ws
all_numbers_lem ws e = rw e refl
