-- A send keeps a line sound.
use Rattle.std.proofs.Common.{◌≡◌, ℕ, ◌+◌, ◌<◌, ◌≤◌, Bool, true, false, cond, eqb, ◌≢◌, List, [], ◌∷◌, ◌++◌, sym, refl, ◌∙◌, subst, inl, inr, arith, lit<, length-append}
use Rattle.std.specs.List.{AllByRecursion as All}
use Rattle.coherence.proofs.Turns.Counts.{occurs}
use Rattle.std.proofs.lemmas.Bool.{cases_eq, cond-true, cond-false, eq-eqb, ne_eqb, true≢false, false≢true}
use Rattle.std.proofs.ByRecursion.{All-push}
use Rattle.coherence.proofs.Line.Codes.{table, next, waits, gives}
use Rattle.coherence.proofs.Line.Sound.{snoop, update, Sound, Ordered, fits, before, Single, SendKeeps}
use Rattle.coherence.proofs.Line.Tables.{fits_after, fits_sent, fits_sym, waits_after, before_after, before_sent, fits_single, waits_one, gives_le}

pub at_true : {A : Type 0} (t : Bool) (a b : A) → t ≡ true → elim t [ true ↦ a | false ↦ b ] ≡ a
at_true true a b e = refl
at_true false a b e = absurd (false≢true e)

pub at_false : {A : Type 0} (t : Bool) (a b : A) → t ≡ false → elim t [ true ↦ a | false ↦ b ] ≡ b
at_false true a b e = absurd (true≢false e)
at_false false a b e = refl

pub update_same : {A : Type 0} (f : ℕ → A) (i : ℕ) (a : A) → update f i a i ≡ a
update_same f i a = at_true (eqb i i) a (f i) (eq-eqb i i refl)

pub update_other : {A : Type 0} (f : ℕ → A) (i j : ℕ) (a : A) → j ≢ i → update f i a j ≡ f j
update_other f i j a ne = at_false (eqb j i) a (f j) (ne_eqb j i ne)

pub snoop_own : (x : ℕ → ℕ) (b own e : ℕ) → snoop x b own e b ≡ next (x b) own
snoop_own x b own e = at_true (eqb b b) (next (x b) own) (next (x b) e) (eq-eqb b b refl)

pub snoop_other : (x : ℕ → ℕ) (b own e c : ℕ) → c ≢ b → snoop x b own e c ≡ next (x c) e
snoop_other x b own e c ne = at_false (eqb c b) (next (x b) own) (next (x c) e) (ne_eqb c b ne)

pub occurs_push : (b c : ℕ) (row : List ℕ) → occurs b (row ++ c ∷ []) ≡ occurs b row + cond (eqb b c) 1 0
occurs_push b c [] = omega arith
occurs_push b c (d ∷ row) = omega (arith, occurs_push b c row)

-- what does not occur is not met
pub all_absent : (b : ℕ) (row : List ℕ) → occurs b row ≡ 0 → All (λ c. c ≢ b) row
all_absent b [] h = tt
all_absent b (c ∷ row) h =
    elim (cases_eq c b) [
      | inl e ↦ absurd (let k = cond-true {A = ℕ} (eqb b c) 1 0 (eq-eqb b c (sym e)) in omega arith)
      | inr ne ↦ (ne, all_absent b row (omega arith))
    ]

-- what holds of each that occurs holds of all
pub all_met : (P : ℕ → Type 0) (row : List ℕ) → ((c : ℕ) → 1 ≤ occurs c row → P c) → All P row
all_met P [] h = tt
all_met P (c ∷ row) h = (
  h c (let k = cond-true {A = ℕ} (eqb c c) 1 0 (eq-eqb c c refl) in omega arith),
  all_met P row (λ d k. h d (omega arith)),
)

pub all_occurs : (P : ℕ → Type 0) (row : List ℕ) → All P row → (c : ℕ) → 1 ≤ occurs c row → P c
all_occurs P [] a c h = absurd (let z : ◌≤◌ 1 0 = h in omega arith)
all_occurs P (d ∷ row) a c h =
    elim (cases_eq d c) [
      | inl q ↦ subst P q a.0
      | inr ne ↦ let k = cond-false {A = ℕ} (eqb c d) 1 0 (ne_eqb c d (λ q. ne (sym q))) in all_occurs P row a.1 c (omega arith)
    ]

module _ (x : ℕ → ℕ) (b own e : ℕ) (he : e < 2) (small : (c : ℕ) → x c < 11) where
  after : (c : ℕ) → c ≢ b → (waits (snoop x b own (e + 7) c) ≡ waits (x c)) × (snoop x b own (e + 7) c < 11)
  after c ne = rw (snoop_other x b own (e + 7) c) (waits_after e he (x c) (small c))

  alls : (s : ℕ) (r : List ℕ) → s < 11 → All (λ c. c ≢ b) r → All (λ c. before s (x c) ≡ true) r → All (λ c. before (next s (e + 7)) (snoop x b own (e + 7) c) ≡ true) r
  alls s [] hs n h = tt
  alls s (c ∷ r) hs n h =
      let ne = n.0 in
      (rw (snoop_other x b own (e + 7) c) (before_after e he s (x c) hs (small c) h.0), alls s r hs n.1 h.1)

  -- the row's order is kept, and the sender may stand behind it
  orders : (row : List ℕ) → All (λ c. c ≢ b) row → All (λ c. before (next (x c) (e + 7)) (next (x b) own) ≡ true) row → gives (next (x b) own) ≡ 0 → Ordered x row → Ordered (snoop x b own (e + 7)) (row ++ b ∷ [])
  orders [] n l g h = (tt, rw (snoop_own x b own (e + 7)) (omega arith), tt)
  orders (c ∷ row) n l g h =
      let ne = n.0 in (
        All-push (λ d. before (snoop x b own (e + 7) c) (snoop x b own (e + 7) d) ≡ true) row b
            (rw (snoop_other x b own (e + 7) c) (alls (x c) row (small c) n.1 h.0))
            (rw (snoop_other x b own (e + 7) c, snoop_own x b own (e + 7)) l.0),
        rw (length-append row (b ∷ []), snoop_other x b own (e + 7) c) (omega (arith, gives_le (next (x c) (e + 7)) (waits_after e he (x c) (small c)).1)),
        orders row n.1 l.1 g h.2,
      )

  -- a send that puts b into the row, by what it must be told of the table
  pub sends : (row : List ℕ) → Sound x row → waits (x b) ≡ 0 → waits (next (x b) own) ≡ 1 → next (x b) own < 11 → gives (next (x b) own) ≡ 0
      → ((c : ℕ) → c ≢ b → fits (next (x b) own) (next (x c) (e + 7)) ≡ true)
      → ((c : ℕ) → waits (x c) ≡ 1 → before (next (x c) (e + 7)) (next (x b) own) ≡ true)
      → Sound (snoop x b own (e + 7)) (row ++ b ∷ [])
  sends row s w0 w1 sm g0 ft bf = record { small = smalls; fit = fitting; waiting = waiting; ordered = orders row absent inorder g0 s.ordered }
    where
      smalls : (c : ℕ) → snoop x b own (e + 7) c < 11
      smalls c = elim (cases_eq c b) [ inl q ↦ rw (q, snoop_own x b own (e + 7)) sm | inr ne ↦ (after c ne).1 ]

      fitting : (c d : ℕ) → c ≢ d → fits (snoop x b own (e + 7) c) (snoop x b own (e + 7) d) ≡ true
      fitting c d ne =
          elim (cases_eq c b) [
            | inl q ↦ let nd : d ≢ b = λ h. ne (q ∙ sym h) in
                rw (q, snoop_own x b own (e + 7), snoop_other x b own (e + 7) d) (ft d nd)
            | inr nc ↦ elim (cases_eq d b) [
              | inl q ↦ rw (q, snoop_own x b own (e + 7), snoop_other x b own (e + 7) c)
                  (fits_sym (next (x b) own) (next (x c) (e + 7)) sm (waits_after e he (x c) (small c)).1 (ft c nc))
              | inr nd ↦ rw (snoop_other x b own (e + 7) c, snoop_other x b own (e + 7) d)
                  (fits_after e he (x c) (x d) (small c) (small d) (s.fit c d ne))
            ]
          ]

      waiting : (c : ℕ) → occurs c (row ++ b ∷ []) ≡ waits (snoop x b own (e + 7) c)
      waiting c =
          rw (occurs_push c b row)
          (elim (cases_eq c b) [
            | inl q ↦ rw (q, snoop_own x b own (e + 7), cond-true {A = ℕ} (eqb b b) 1 0 (eq-eqb b b refl)) (omega (arith, s.waiting b))
            | inr nc ↦ let k = cond-false {A = ℕ} (eqb c b) 1 0 (ne_eqb c b nc) in omega (arith, s.waiting c, (after c nc).0)
          ])

      absent : All (λ c. c ≢ b) row
      absent = all_absent b row (s.waiting b ∙ w0)

      inorder : All (λ c. before (next (x c) (e + 7)) (next (x b) own) ≡ true) row
      inorder = all_met (λ c. before (next (x c) (e + 7)) (next (x b) own) ≡ true) row
          (λ c h. bf c (waits_one (x c) (small c) (omega (arith, s.waiting c))))

pub send_keeps : SendKeeps
unfolding table next waits gives
send_keeps x row b z s =
    sends x b 2 1 (lit< tt) s.small row s (rw z refl) (rw z refl) (rw z (lit< tt)) (rw z refl)
    (λ c ne. fits_sent (x b) (x c) (s.small b) (s.small c) z (s.fit b c (λ q. ne (sym q))))
    (λ c h. rw z (before_sent (x c) (s.small c) h))

pub single : (x : ℕ → ℕ) (row : List ℕ) → Sound x row → Single x
single x row s b c ne = fits_single (x b) (x c) (s.small b) (s.small c) (s.fit b c ne)
