-- A rule of the table proved at all of its entries by one test that antt computes.
use Rattle.std.proofs.Common.{◌≡◌, ℕ, zero, suc, ◌+◌, ◌<◌, ◌≤◌, Bool, true, false, ◌&&◌, eqb, ltb, leb, sym, refl, subst, inl, inr, not-suc-le-zero, arith}
use Rattle.std.proofs.lemmas.Bool.{and_parts, and_from, cases_eq, eqb-true, leb-true, ltb-true, eq-eqb, false≢true}
use Rattle.coherence.proofs.Line.Sound.{imp, fits, before}
use Rattle.coherence.proofs.Line.Codes.{table, next, holds, copies, waits, writes, wants, gives}

-- the test passes at each number below n
abbrev pub every : ℕ → (ℕ → Bool) → Bool
every zero f = true
every (suc n) f = f n && every n f

pub below : (n : ℕ) (f : ℕ → Bool) → every n f ≡ true → (k : ℕ) → k < n → f k ≡ true
below zero f t k h = absurd (not-suc-le-zero h)
below (suc n) f t k h =
    let p = and_parts (f n) (every n f) t in
    elim (cases_eq k n) [
      | inl e ↦ subst (λ (m : ℕ). f m ≡ true) (sym e) p.0
      | inr ne ↦ below n f p.1 k (omega arith)
    ]

-- another board's GetS, GetM or Upg makes no copy and no holder
pub snooped_copies : (s e : ℕ) → s < 11 → e < 2 → copies (next s (e + 7)) ≤ copies s
unfolding table next holds copies
snooped_copies s e hs he =
    leb-true (copies (next s (e + 7))) (copies s)
    (below 2 (λ e. leb (copies (next s (e + 7))) (copies s))
    (below 11 (λ s. every 2 (λ e. leb (copies (next s (e + 7))) (copies s))) refl s hs) e he)

pub snooped_holds : (s e : ℕ) → s < 11 → e < 2 → holds (next s (e + 7)) ≡ holds s
unfolding table next holds copies
snooped_holds s e hs he =
    eqb-true (holds (next s (e + 7))) (holds s)
    (below 2 (λ e. eqb (holds (next s (e + 7))) (holds s))
    (below 11 (λ s. every 2 (λ e. eqb (holds (next s (e + 7))) (holds s))) refl s hs) e he)

-- a rule of two states
pub pairs : (p : ℕ → ℕ → Bool) → every 11 (λ s. every 11 (λ t. p s t)) ≡ true → (s t : ℕ) → s < 11 → t < 11 → p s t ≡ true
pairs p h s t hs ht = below 11 (p s) (below 11 (λ s. every 11 (p s)) h s hs) t ht

pub use_imp : (a b : Bool) → imp a b ≡ true → a ≡ true → b ≡ true
use_imp true b h e = h
use_imp false b h e = absurd (false≢true e)

-- whatever holds of two states beside one another holds after a third board's event
pub fits_after : (e : ℕ) → e < 2 → (s t : ℕ) → s < 11 → t < 11 → fits s t ≡ true → fits (next s (e + 7)) (next t (e + 7)) ≡ true
unfolding table next holds copies waits wants fits
fits_after e he s t hs ht h =
    use_imp (fits s t) (fits (next s (e + 7)) (next t (e + 7)))
    (pairs (λ s t. imp (fits s t) (fits (next s (e + 7)) (next t (e + 7))))
    (eqb_all e he) s t hs ht) h
  where
    eqb_all : (e : ℕ) → e < 2 → every 11 (λ s. every 11 (λ t. imp (fits s t) (fits (next s (e + 7)) (next t (e + 7))))) ≡ true
    eqb_all e he = below 2 (λ e. every 11 (λ s. every 11 (λ t. imp (fits s t) (fits (next s (e + 7)) (next t (e + 7)))))) refl e he

-- the sender of GetM beside the others
pub fits_sent : (s t : ℕ) → s < 11 → t < 11 → s ≡ 0 → fits s t ≡ true → fits (next s 2) (next t 8) ≡ true
unfolding table next holds copies waits wants fits
fits_sent s t hs ht e h =
    use_imp (eqb s 0 && fits s t) (fits (next s 2) (next t 8))
    (pairs (λ s t. imp (eqb s 0 && fits s t) (fits (next s 2) (next t 8))) refl s t hs ht)
    (and_from (eqb s 0) (fits s t) (eq-eqb s 0 e) h)

pub fits_sym : (s t : ℕ) → s < 11 → t < 11 → fits s t ≡ true → fits t s ≡ true
unfolding table next holds copies waits wants fits
fits_sym s t hs ht h = use_imp (fits s t) (fits t s) (pairs (λ s t. imp (fits s t) (fits t s)) refl s t hs ht) h

pub fits_single : (s t : ℕ) → s < 11 → t < 11 → fits s t ≡ true → holds s ≡ 1 → copies t ≡ 0
unfolding table next holds copies waits wants fits
fits_single s t hs ht h k =
    eqb-true (copies t) 0
    (use_imp (fits s t && eqb (holds s) 1) (eqb (copies t) 0)
    (pairs (λ s t. imp (fits s t && eqb (holds s) 1) (eqb (copies t) 0)) refl s t hs ht)
    (and_from (fits s t) (eqb (holds s) 1) h (eq-eqb (holds s) 1 k)))

pub waits_after : (e : ℕ) → e < 2 → (s : ℕ) → s < 11 → (waits (next s (e + 7)) ≡ waits s) × (next s (e + 7) < 11)
unfolding table next holds copies waits wants fits
waits_after e he s hs =
    let p = and_parts (eqb (waits (next s (e + 7))) (waits s)) (ltb (next s (e + 7)) 11)
    (below 11 (λ s. eqb (waits (next s (e + 7))) (waits s) && ltb (next s (e + 7)) 11)
    (below 2 (λ e. every 11 (λ s. eqb (waits (next s (e + 7))) (waits s) && ltb (next s (e + 7)) 11)) refl e he) s hs) in
    (eqb-true (waits (next s (e + 7))) (waits s) p.0, ltb-true (next s (e + 7)) 11 p.1)

pub before_after : (e : ℕ) → e < 2 → (s t : ℕ) → s < 11 → t < 11 → before s t ≡ true → before (next s (e + 7)) (next t (e + 7)) ≡ true
unfolding table next holds copies waits wants before
before_after e he s t hs ht h =
    use_imp (before s t) (before (next s (e + 7)) (next t (e + 7)))
    (pairs (λ s t. imp (before s t) (before (next s (e + 7)) (next t (e + 7))))
    (below 2 (λ e. every 11 (λ s. every 11 (λ t. imp (before s t) (before (next s (e + 7)) (next t (e + 7)))))) refl e he) s t hs ht) h

-- one that waits before the sender of GetM
pub before_sent : (s : ℕ) → s < 11 → waits s ≡ 1 → before (next s 8) (next 0 2) ≡ true
unfolding table next holds copies waits wants before
before_sent s hs h =
    use_imp (eqb (waits s) 1) (before (next s 8) (next 0 2))
    (below 11 (λ s. imp (eqb (waits s) 1) (before (next s 8) (next 0 2))) refl s hs) (eq-eqb (waits s) 1 h)

-- a flag is 0 or 1
pub waits_one : (s : ℕ) → s < 11 → 1 ≤ waits s → waits s ≡ 1
unfolding waits
waits_one s hs h = omega (arith, leb-true (waits s) 1 (below 11 (λ s. leb (waits s) 1) refl s hs))

-- b's own events beside a board in t
pub fits_put : (s t : ℕ) → s < 11 → t < 11 → writes s ≡ 1 → fits s t ≡ true → fits (next s 6) t ≡ true
unfolding table next holds copies waits wants writes fits
fits_put s t hs ht w h =
    use_imp (eqb (writes s) 1 && fits s t) (fits (next s 6) t)
    (pairs (λ s t. imp (eqb (writes s) 1 && fits s t) (fits (next s 6) t)) refl s t hs ht)
    (and_from (eqb (writes s) 1) (fits s t) (eq-eqb (writes s) 1 w) h)

pub fits_data : (s t : ℕ) → s < 11 → t < 11 → waits s ≡ 1 → holds t ≡ 0 → fits s t ≡ true → imp (eqb (waits t) 1) (before s t) ≡ true → fits (next s 4) t ≡ true
unfolding table next holds copies waits wants writes fits before
fits_data s t hs ht w n h o =
    use_imp (eqb (waits s) 1 && (eqb (holds t) 0 && (fits s t && imp (eqb (waits t) 1) (before s t)))) (fits (next s 4) t)
    (pairs (λ s t. imp (eqb (waits s) 1 && (eqb (holds t) 0 && (fits s t && imp (eqb (waits t) 1) (before s t)))) (fits (next s 4) t)) refl s t hs ht)
    (and_from (eqb (waits s) 1) _ (eq-eqb (waits s) 1 w)
    (and_from (eqb (holds t) 0) _ (eq-eqb (holds t) 0 n) (and_from (fits s t) _ h o)))

-- own states after own data
pub data_small : (s : ℕ) → s < 11 → waits s ≡ 1 → (next s 4 < 11) × (waits (next s 4) ≡ 0)
unfolding table next waits
data_small s hs w =
    let p = and_parts (ltb (next s 4) 11) (eqb (waits (next s 4)) 0)
    (use_imp (eqb (waits s) 1) (ltb (next s 4) 11 && eqb (waits (next s 4)) 0)
    (below 11 (λ s. imp (eqb (waits s) 1) (ltb (next s 4) 11 && eqb (waits (next s 4)) 0)) refl s hs) (eq-eqb (waits s) 1 w)) in
    (ltb-true (next s 4) 11 p.0, eqb-true (waits (next s 4)) 0 p.1)

-- an upgrade: the sender in SMw, and nobody waits
pub fits_upg : (t : ℕ) → t < 11 → fits 5 t ≡ true → waits t ≡ 0 → (fits 2 (next t 9) ≡ true) × (next t 9 ≡ 0)
unfolding table next holds copies waits wants writes fits
fits_upg t ht h w =
    let p = and_parts (fits 2 (next t 9)) (eqb (next t 9) 0)
    (use_imp (fits 5 t && eqb (waits t) 0) (fits 2 (next t 9) && eqb (next t 9) 0)
    (below 11 (λ t. imp (fits 5 t && eqb (waits t) 0) (fits 2 (next t 9) && eqb (next t 9) 0)) refl t ht)
    (and_from (fits 5 t) (eqb (waits t) 0) h (eq-eqb (waits t) 0 w))) in
    (p.0, eqb-true (next t 9) 0 p.1)

pub imp_from : (a b : Bool) → (a ≡ true → b ≡ true) → imp a b ≡ true
imp_from true b f = f refl
imp_from false b f = refl

pub gives_le : (s : ℕ) → s < 11 → gives s ≤ 1
unfolding gives
gives_le s hs = leb-true (gives s) 1 (below 11 (λ s. leb (gives s) 1) refl s hs)
