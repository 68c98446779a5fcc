-- Where a text is cut, and its pieces.
use Rattle.std.proofs.Common.{◌≡◌, ℕ, zero, suc, ◌+◌, ◌-◌, ◌<◌, ◌≢◌, Bool, true, false, cond, eqb, List, [], ◌∷◌, ◌++◌, map, length, get_or, take, drop, Some, None, Option, sym, refl, ap, ◌∙◌, subst, append_assoc, add-one, arith, eq-eqb, ne_eqb}
use Rattle.std.proofs.lemmas.Bool.{eqb-false, eqb-true}
use Rattle.std.proofs.lemmas.List.{take_rest}
use Rattle.std.specs.List.{slice_split, onto_first}
use Rattle.trace.specs.declared.word.Word.{Word}
use Rattle.trace.specs.Words.{word_of, words}
use Rattle.trace.specs.Pieces.{CutAt, rejoined, before, after, on_first, pieces}

abbrev pub pieces_after : ℕ → Option (List ℕ) → List (List ℕ)
pieces_after b None = []
pieces_after b (Some s) = pieces b s

pub pieces_cut : (b : ℕ) (s : List ℕ) → pieces b s ≡ before b s ∷ pieces_after b (after b s)
pieces_cut b [] = refl
pieces_cut b (c ∷ cs) = by (eqb c b) (pieces_cut b cs)
  where
    by : (t : Bool) → pieces b cs ≡ before b cs ∷ pieces_after b (after b cs) → cond t ([] ∷ pieces b cs) (on_first c (pieces b cs)) ≡ cond t [] (c ∷ before b cs) ∷ pieces_after b (cond t (Some cs) (after b cs))
    by true h = refl
    by false h = ap (on_first c) h

-- the first separator stands at n
pub before_at : (b : ℕ) (s : List ℕ) (n : ℕ) → n < length s → get_or s n 0 ≡ b → ((k : ℕ) → k < n → get_or s k 0 ≢ b) → before b s ≡ take n s
before_at b [] n lt is none = absurd (omega arith)
before_at b (c ∷ cs) zero lt is none = rw (eq-eqb c b is) refl
before_at b (c ∷ cs) (suc n) lt is none = rw (ne_eqb c b (none 0 (omega arith))) (ap (λ l. c ∷ l) (before_at b cs n (omega arith) is (λ k h. none (suc k) (omega arith))))

pub after_at : (b : ℕ) (s : List ℕ) (n : ℕ) → n < length s → get_or s n 0 ≡ b → ((k : ℕ) → k < n → get_or s k 0 ≢ b) → after b s ≡ Some (take (length s - (n + 1)) (drop (n + 1) s))
after_at b s n lt is none = rest s n lt is none ∙ ap (λ t. Some t) (ap (λ k. drop k s) (sym (add-one n)) ∙ sym (take_rest s (n + 1)))
  where
    rest : (s : List ℕ) (n : ℕ) → n < length s → get_or s n 0 ≡ b → ((k : ℕ) → k < n → get_or s k 0 ≢ b) → after b s ≡ Some (drop (suc n) s)
    rest [] n lt is none = absurd (omega arith)
    rest (c ∷ cs) zero lt is none = rw (eq-eqb c b is) refl
    rest (c ∷ cs) (suc n) lt is none = rw (ne_eqb c b (none 0 (omega arith))) (rest cs n (omega arith) is (λ k h. none (suc k) (omega arith)))

-- no separator stands in s
pub before_none : (b : ℕ) (s : List ℕ) → ((k : ℕ) → k < length s → get_or s k 0 ≢ b) → before b s ≡ s
before_none b [] none = refl
before_none b (c ∷ cs) none = rw (ne_eqb c b (none 0 (omega arith))) (ap (λ l. c ∷ l) (before_none b cs (λ k h. none (suc k) (omega arith))))

pub after_none : (b : ℕ) (s : List ℕ) → ((k : ℕ) → k < length s → get_or s k 0 ≢ b) → after b s ≡ None
after_none b [] none = refl
after_none b (c ∷ cs) none = rw (ne_eqb c b (none 0 (omega arith))) (after_none b cs (λ k h. none (suc k) (omega arith)))

pub cut_at : (b : ℕ) (s : List ℕ) (n : ℕ) → n < length s → ((k : ℕ) → k < n → get_or s k 0 ≡ b → ⊥) → get_or s n 0 ≡ b → (before b s ≡ take n s) × (after b s ≡ Some (drop (suc n) s))
cut_at b s n lt none is = (before_at b s n lt is none, after_at b s n lt is none ∙ ap (λ t. Some t) (take_rest s (n + 1) ∙ ap (λ k. drop k s) (add-one n)))

pub cut_none : (b : ℕ) (s : List ℕ) → ((k : ℕ) → k < length s → get_or s k 0 ≡ b → ⊥) → (before b s ≡ s) × (after b s ≡ None)
cut_none b s none = (before_none b s none, after_none b s none)

-- the same as the code's parts of a slice
pub cut_here : (b : ℕ) (s : List ℕ) (n : ℕ) → n < length s → ((k : ℕ) → k < n → get_or s k 0 ≡ b → ⊥) → get_or s n 0 ≡ b → (take (n - 0) s ≡ before b s) × (Some (take (length s - (n + 1)) (drop (n + 1) s)) ≡ after b s)
cut_here b s n lt none is =
    let same : n - 0 ≡ n = omega arith in
    (ap (λ k. take k s) same ∙ sym (before_at b s n lt is none), sym (after_at b s n lt is none))

-- the words of rest go on after those of done
pub one_more : {total done' : List Word} {w : Word} (done : List Word) (rest more : List ℕ) → done ++ map word_of (words rest) ≡ total → w ≡ word_of (before 32 rest) → after 32 rest ≡ Some more → done' ≡ done ++ (w ∷ []) → done' ++ map word_of (words more) ≡ total
one_more {total} {done'} {w} done rest more inv ew ea ed =
    ap (λ l. l ++ map word_of (words more)) ed ∙ append_assoc done (w ∷ []) (map word_of (words more)) ∙ ap (λ l. done ++ l) (ap (λ v. v ∷ map word_of (words more)) ew ∙ sym (ap (map word_of) (pieces_cut 32 rest ∙ ap (λ o. before 32 rest ∷ pieces_after 32 o) ea))) ∙ inv

pub no_more : {total done' : List Word} {w : Word} (done : List Word) (rest : List ℕ) → done ++ map word_of (words rest) ≡ total → w ≡ word_of (before 32 rest) → after 32 rest ≡ None → done' ≡ done ++ (w ∷ []) → done' ≡ total
no_more {total} {done'} {w} done rest inv ew ea ed =
    ed ∙ ap (λ l. done ++ l) (ap (λ v. v ∷ []) ew ∙ sym (ap (map word_of) (pieces_cut 32 rest ∙ ap (λ o. before 32 rest ∷ pieces_after 32 o) ea))) ∙ inv

-- what a cut gives obeys its law
pub before_clean : (b : ℕ) (s : List ℕ) (k : ℕ) → k < length (before b s) → get_or (before b s) k 0 ≡ b → ⊥
before_clean b [] k h e = omega arith
before_clean b (c ∷ cs) k h e = by (eqb c b) refl (before_clean b cs) k h e
  where
    by : (t : Bool) → eqb c b ≡ t → ((k : ℕ) → k < length (before b cs) → get_or (before b cs) k 0 ≡ b → ⊥) → (k : ℕ) → k < length (cond t [] (c ∷ before b cs)) → get_or (cond t [] (c ∷ before b cs)) k 0 ≡ b → ⊥
    by true is rest k h e = omega arith
    by false is rest zero h e = eqb-false c b is e
    by false is rest (suc k) h e = rest k (omega arith) e

pub before_after : (b : ℕ) (s : List ℕ) → s ≡ rejoined b (before b s) (after b s)
before_after b [] = refl
before_after b (c ∷ cs) = by (eqb c b) refl (before_after b cs)
  where
    onto : (o : Option (List ℕ)) (w : List ℕ) → c ∷ rejoined b w o ≡ rejoined b (c ∷ w) o
    onto None w = refl
    onto (Some r) w = refl

    by : (t : Bool) → eqb c b ≡ t → cs ≡ rejoined b (before b cs) (after b cs) → c ∷ cs ≡ rejoined b (cond t [] (c ∷ before b cs)) (cond t (Some cs) (after b cs))
    by true is h = ap (λ d. d ∷ cs) (eqb-true c b is)
    by false is h = ap (λ l. c ∷ l) h ∙ onto (after b cs) (before b cs)

pub cut_law : (b : ℕ) (s first : List ℕ) (rest : Option (List ℕ)) → first ≡ before b s → rest ≡ after b s → CutAt b s first rest
cut_law b s first rest ef er =
    subst (λ f. CutAt b s f rest) (sym ef) (subst (λ r. CutAt b s (before b s) r) (sym er) record { clean = before_clean b s; whole = before_after b s })

pub pieces_split : (b : ℕ) (s : List ℕ) → pieces b s ≡ slice_split (λ c. eqb c b) s
pieces_split b [] = refl
pieces_split b (c ∷ cs) = rw (pieces_split b cs) (same (slice_split (λ c. eqb c b) cs))
  where
    same : (ps : List (List ℕ)) → cond (eqb c b) ([] ∷ ps) (on_first c ps) ≡ cond (eqb c b) ([] ∷ ps) (onto_first c ps)
    same [] = refl
    same (p ∷ ps) = refl
