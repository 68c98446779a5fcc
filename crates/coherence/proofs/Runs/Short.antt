-- A write-back list is short.
use Rattle.std.proofs.Common.{◌≡◌, ℕ, zero, suc, ◌+◌, ◌*◌, ◌<◌, ◌≤◌, cond, eqb, List, [], ◌∷◌, length, sym, refl, ap, ◌∙◌, inl, inr, arith}
use Rattle.std.specs.List.{AllByRecursion as All}
use Rattle.std.proofs.lemmas.Bool.{cases_eq, cases_lt, cond-true, cond-false, eq-eqb, ne_eqb, cond_both}
use Rattle.coherence.proofs.Turns.Counts.{occurs, total, over}
use Rattle.coherence.proofs.Turns.Counting.{short, length_row, list_le, over_pick, total_one, total_idle}
use Rattle.coherence.proofs.Line.Codes.{waits, writes}
use Rattle.coherence.proofs.Line.Sends.{all_met}
use Rattle.rules.specs.Boards.{Place, free, posted, sent, served}
use Rattle.coherence.proofs.Runs.Reading.{Reading}
use Rattle.coherence.proofs.Runs.Good.{pend, marked, Good}
use Rattle.coherence.proofs.Runs.Facts.{writes_le, own_put}
use Rattle.coherence.proofs.Runs.Clock.{place_of}

-- who waits is below n
pub waiting_below : (n : ℕ) (s : Reading) (l c : ℕ) → Good n s → 1 ≤ waits ((s.lines l).state c) → c < n
unfolding waits
waiting_below n s l c g h =
    elim (cases_lt c n) [ inl k ↦ k | inr k ↦ absurd (let z : 1 ≤ waits 0 = rw (g.outside l c k) at h in omega arith) ]

total_same : (n : ℕ) (f g : ℕ → ℕ) → ((b : ℕ) → f b ≡ g b) → total n f ≡ total n g
total_same zero f g h = refl
total_same (suc n) f g h = omega (arith, total_same n f g h, h n)

-- a row is as long as there are boards that wait for its line
pub row_counted : (n : ℕ) (s : Reading) (l : ℕ) → Good n s → length (s.lines l).row ≡ total n (λ b. pend (s.boards b).place l)
row_counted n s l g =
    length_row n (s.lines l).row (all_met (λ b. b < n) (s.lines l).row (λ c h. waiting_below n s l c g (omega (arith, (g.sound l).waiting c))))
    ∙ total_same n (λ b. occurs b (s.lines l).row) (λ b. pend (s.boards b).place l) (λ b. (g.sound l).waiting b ∙ (g.cells l b).pending)

-- how often a line stands in a list of a board
pub once : (n : ℕ) (s : Reading) (l b : ℕ) → Good n s → occurs l (s.boards b).list ≤ 1
once n s l b g = omega (arith, (g.cells l b).listed, writes_le ((s.lines l).state b) ((g.sound l).small b))

over_zero : (ls : List ℕ) (f : ℕ → ℕ) → ((k : ℕ) → f k ≡ 0) → over ls f ≡ 0
over_zero [] f h = refl
over_zero (k ∷ ls) f h = omega (arith, over_zero ls f h, h k)

-- a part of b's list has one mark at most
module _ (n b : ℕ) (ls : List ℕ) (s : Reading) (g : Good n s) (part : (k : ℕ) → occurs k ls ≤ occurs k (s.boards b).list) where
  marks : (m : ℕ) → over ls (marked m) ≤ 1
  marks zero = omega (arith, none_marked ls)
    where
      none_marked : (ls : List ℕ) → over ls (marked 0) ≡ 0
      none_marked [] = refl
      none_marked (k ∷ ls) = let z = cond-false {A = ℕ} (eqb 0 (suc k)) 1 0 (ne_eqb 0 (suc k) (omega arith)) in omega (arith, none_marked ls)
  marks (suc m) = omega (arith, one_marked ls, part m, once n s m b g)
    where
      one_marked : (ls : List ℕ) → over ls (marked (suc m)) ≡ occurs m ls
      one_marked [] = refl
      one_marked (k ∷ ls) =
          elim (cases_eq m k) [
            | inl q ↦ let y = cond-true {A = ℕ} (eqb (suc m) (suc k)) 1 0 (eq-eqb (suc m) (suc k) (ap suc q)) in
                let z = cond-true {A = ℕ} (eqb m k) 1 0 (eq-eqb m k q) in omega (arith, one_marked ls)
            | inr ne ↦ let y = cond-false {A = ℕ} (eqb (suc m) (suc k)) 1 0 (ne_eqb (suc m) (suc k) (λ h. ne (omega arith))) in
                let z = cond-false {A = ℕ} (eqb m k) 1 0 (ne_eqb m k ne) in omega (arith, one_marked ls)
          ]

-- a part of b's list that l is not in
module _ (n b l : ℕ) (ls : List ℕ) (s : Reading) (g : Good n s)
    (part : (k : ℕ) → occurs k ls ≤ occurs k (s.boards b).list) (none : occurs l ls ≡ 0) where
  counted : All (λ k. 1 ≤ marked (s.boards b).mark k + total n (λ c. pend (s.boards c).place k)) ls
  counted =
      all_met (λ k. 1 ≤ marked (s.boards b).mark k + total n (λ c. pend (s.boards c).place k)) ls
      (λ k h. omega (
        arith,
        row_counted n s k g,
        (g.cells k b).needed (omega (arith, part k, (g.cells k b).listed, writes_le ((s.lines k).state b) ((g.sound k).small b))),
      ))

  pub one_line : (p : Place) → over ls (pend p) + pend p l ≤ 1
  one_line free = omega (arith, over_zero ls (pend free) (λ k. refl))
  one_line (posted k kd w) = omega (arith, over_zero ls (pend (posted k kd w)) (λ k. refl))
  one_line (sent k kd w) =
      let o : over ls (pend (sent k kd w)) ≡ 1 * occurs k ls = over_pick ls k 1 in
      elim (cases_eq l k) [
        | inl q ↦ let z = cond-true {A = ℕ} (eqb l k) 1 0 (eq-eqb l k q) in omega (arith, rw q at none)
        | inr ne ↦ let z = cond-false {A = ℕ} (eqb l k) 1 0 (ne_eqb l k ne) in omega (arith, part k, once n s k b g)
      ]
  one_line (served k kd r w) = omega (arith, over_zero ls (pend (served k kd r w)) (λ k. refl))

  pub list_short : length ls + length (s.lines l).row ≤ n + 1
  list_short =
      omega (
        arith,
        row_counted n s l g,
        short n l ls (marked (s.boards b).mark) (λ c. pend (s.boards c).place) counted (marks n b ls s g part (s.boards b).mark) (λ c _. one_line (s.boards c).place),
      )

pend_le : (p : Place) (l : ℕ) → pend p l ≤ 1
pend_le free l = omega arith
pend_le (posted k kd w) l = omega arith
pend_le (sent k kd w) l = cond_both (eqb l k) 1 0 (λ v. v ≤ 1) (λ _. omega arith) (λ _. omega arith)
pend_le (served k kd r w) l = omega arith

pub row_short : (n : ℕ) (s : Reading) (l : ℕ) → Good n s → length (s.lines l).row ≤ n
row_short n s l g = omega (arith, row_counted n s l g, total_one n (λ b. pend (s.boards b).place l) (λ b _. pend_le (s.boards b).place l))

-- with a holder that writes back
pub held_row : (n : ℕ) (s : Reading) (l h : ℕ) → Good n s → h < n → writes ((s.lines l).state h) ≡ 1 → length (s.lines l).row + 1 ≤ n
held_row n s l h g hn w =
    omega (
      arith,
      row_counted n s l g,
      total_idle n h (λ b. pend (s.boards b).place l) (λ b _. pend_le (s.boards b).place l) hn
          (sym (g.cells l h).pending ∙ (own_put ((s.lines l).state h) ((g.sound l).small h) w).calm),
    )

abbrev front : ℕ → List ℕ → List ℕ
front l [] = []
front l (c ∷ r) = cond (eqb l c) [] (c ∷ front l r)

front_place : (l : ℕ) (r : List ℕ) → place_of l r ≡ length (front l r) + 1
front_place l [] = refl
front_place l (c ∷ r) =
    elim (cases_eq l c) [
      | inl q ↦ rw (cond-true (eqb l c) 1 (suc (place_of l r)) (eq-eqb l c q), cond-true (eqb l c) [] (c ∷ front l r) (eq-eqb l c q)) refl
      | inr ne ↦ rw (cond-false (eqb l c) 1 (suc (place_of l r)) (ne_eqb l c ne), cond-false (eqb l c) [] (c ∷ front l r) (ne_eqb l c ne)) (omega (arith, front_place l r))
    ]

front_part : (k l : ℕ) (r : List ℕ) → occurs k (front l r) ≤ occurs k r
front_part k l [] = omega arith
front_part k l (c ∷ r) =
    elim (cases_eq l c) [
      | inl q ↦ rw (cond-true (eqb l c) [] (c ∷ front l r) (eq-eqb l c q)) (omega arith)
      | inr ne ↦ rw (cond-false (eqb l c) [] (c ∷ front l r) (ne_eqb l c ne)) (omega (arith, front_part k l r))
    ]

front_none : (l : ℕ) (r : List ℕ) → occurs l (front l r) ≡ 0
front_none l [] = refl
front_none l (c ∷ r) =
    elim (cases_eq l c) [
      | inl q ↦ rw (cond-true (eqb l c) [] (c ∷ front l r) (eq-eqb l c q)) refl
      | inr ne ↦ rw (cond-false (eqb l c) [] (c ∷ front l r) (ne_eqb l c ne)) (let z = cond-false {A = ℕ} (eqb l c) 1 0 (ne_eqb l c ne) in omega (arith, front_none l r))
    ]

pub held_short : (n : ℕ) (s : Reading) (l h : ℕ) → Good n s → place_of l (s.boards h).list + length (s.lines l).row ≤ n + 2
held_short n s l h g =
    omega (
      arith,
      front_place l (s.boards h).list,
      list_short n h l (front l (s.boards h).list) s g (λ k. front_part k l (s.boards h).list) (front_none l (s.boards h).list),
    )

over_none : (ls : List ℕ) (f : ℕ → ℕ) → All (λ k. f k ≡ 0) ls → over ls f ≡ 0
over_none [] f h = refl
over_none (k ∷ ls) f h = omega (arith, over_none ls f h.1, h.0)

-- a list is no longer than there are boards: b itself waits for no line of its list
module _ (n b : ℕ) (s : Reading) (g : Good n s) where
  whole : (k : ℕ) → occurs k (s.boards b).list ≤ occurs k (s.boards b).list
  whole k = omega arith

  needs : All (λ k. 1 ≤ marked (s.boards b).mark k + total n (λ c. pend (s.boards c).place k)) (s.boards b).list
  needs =
      all_met (λ k. 1 ≤ marked (s.boards b).mark k + total n (λ c. pend (s.boards c).place k)) (s.boards b).list
      (λ k h. omega (arith, row_counted n s k g, (g.cells k b).needed (omega (arith, (g.cells k b).listed, writes_le ((s.lines k).state b) ((g.sound k).small b)))))

  one_place : (p : Place) → over (s.boards b).list (pend p) ≤ 1
  one_place free = omega (arith, over_zero (s.boards b).list (pend free) (λ k. refl))
  one_place (posted k kd w) = omega (arith, over_zero (s.boards b).list (pend (posted k kd w)) (λ k. refl))
  one_place (sent k kd w) = let o : over (s.boards b).list (pend (sent k kd w)) ≡ 1 * occurs k (s.boards b).list = over_pick (s.boards b).list k 1 in omega (arith, once n s k b g)
  one_place (served k kd r w) = omega (arith, over_zero (s.boards b).list (pend (served k kd r w)) (λ k. refl))

  own_none : over (s.boards b).list (pend (s.boards b).place) ≡ 0
  own_none =
      over_none (s.boards b).list (pend (s.boards b).place)
      (all_met (λ k. pend (s.boards b).place k ≡ 0) (s.boards b).list
      (λ k h. sym (g.cells k b).pending ∙ (own_put ((s.lines k).state b) ((g.sound k).small b) (omega (arith, (g.cells k b).listed, writes_le ((s.lines k).state b) ((g.sound k).small b)))).calm))

  pub list_within : b < n → length (s.boards b).list ≤ n
  list_within bn =
      omega (
        arith,
        list_le n (s.boards b).list (marked (s.boards b).mark) (λ c. pend (s.boards c).place) needs,
        marks n b (s.boards b).list s g whole (s.boards b).mark,
        total_idle n b (λ c. over (s.boards b).list (pend (s.boards c).place)) (λ c _. one_place (s.boards c).place) bn own_none,
      )
