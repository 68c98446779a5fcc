-- What the table says, each by one computed test.
use Rattle.std.proofs.Common.{◌≡◌, ℕ, ◌+◌, ◌<◌, ◌≤◌, Bool, true, false, not, ◌&&◌, ◌||◌, eqb, leb, ◌⊎◌, List, [], ◌∷◌, ◌++◌, sym, refl, ap, inl, inr, lit<}
use Rattle.std.proofs.lemmas.Bool.{eq-eqb, eqb-true, leb-true, or_cases, and_from, and_parts, false≢true, true≢false, not-true}
use Rattle.coherence.proofs.Line.Codes.{table, next, holds, copies, waits, writes, wants, gives}
use Rattle.coherence.proofs.Line.Sound.{imp, fits, before, Sound, snoop}
use Rattle.coherence.proofs.Line.Tables.{every, below, pairs, use_imp}
use Rattle.coherence.proofs.Line.Sends
use Rattle.rules.specs.declared.kind.Kind.{Kind}
use Rattle.rules.specs.declared.kind.Kind.TheVariants.{Load, Store}
use Rattle.coherence.proofs.Runs.Good.{unsent_fits, sent_fits}

-- a rule of one state, under another board's GetS or GetM
snooped : (p q : ℕ → ℕ → Bool) → every 2 (λ e. every 11 (λ s. imp (p e s) (q e s))) ≡ true → (e s : ℕ) → e < 2 → s < 11 → p e s ≡ true → q e s ≡ true
snooped p q h e s he hs =
    use_imp (p e s) (q e s) (below 11 (λ s. imp (p e s) (q e s)) (below 2 (λ e. every 11 (λ s. imp (p e s) (q e s))) h e he) s hs)

pub snoop_not5 : (e : ℕ) → e < 2 → (s : ℕ) → s < 11 → not (eqb s 5) ≡ true → not (eqb (next s (e + 7)) 5) ≡ true
unfolding table next
snoop_not5 e he s hs = snooped (λ e s. not (eqb s 5)) (λ e s. not (eqb (next s (e + 7)) 5)) refl e s he hs

pub snoop_unsent : (kd : Kind) (e : ℕ) → e < 2 → (s : ℕ) → s < 11 → unsent_fits kd s ≡ true → unsent_fits kd (next s (e + 7)) ≡ true
unfolding table next unsent_fits
snoop_unsent Load e he s hs = snooped (λ e s. unsent_fits Load s) (λ e s. unsent_fits Load (next s (e + 7))) refl e s he hs
snoop_unsent (Store v) e he s hs = snooped (λ e s. unsent_fits (Store v) s) (λ e s. unsent_fits (Store v) (next s (e + 7))) refl e s he hs

pub snoop_sent : (kd : Kind) (e : ℕ) → e < 2 → (s : ℕ) → s < 11 → sent_fits kd s ≡ true → sent_fits kd (next s (e + 7)) ≡ true
unfolding table next sent_fits wants
snoop_sent Load e he s hs = snooped (λ e s. sent_fits Load s) (λ e s. sent_fits Load (next s (e + 7))) refl e s he hs
snoop_sent (Store v) e he s hs = snooped (λ e s. sent_fits (Store v) s) (λ e s. sent_fits (Store v) (next s (e + 7))) refl e s he hs

pub snoop_writes : (e : ℕ) → e < 2 → (s : ℕ) → s < 11 → eqb s 2 ≡ false → writes (next s (e + 7)) ≡ writes s
unfolding table next writes
snoop_writes e he s hs h =
    eqb-true (writes (next s (e + 7))) (writes s)
    (snooped (λ e s. not (eqb s 2)) (λ e s. eqb (writes (next s (e + 7))) (writes s)) refl e s he hs (ap not h))

pub snoop_writes_m : (e : ℕ) → e < 2 → (s : ℕ) → s < 11 → eqb s 2 ≡ true → (writes (next s (e + 7)) ≡ 1) × (writes s ≡ 0)
unfolding table next writes
snoop_writes_m e he s hs h =
    let p = and_parts (eqb (writes (next s (e + 7))) 1) (eqb (writes s) 0)
    (snooped (λ e s. eqb s 2) (λ e s. eqb (writes (next s (e + 7))) 1 && eqb (writes s) 0) refl e s he hs h) in
    (eqb-true _ 1 p.0, eqb-true _ 0 p.1)

-- the sender, by what it may be in
unfoldable pub act_of : Kind → ℕ
act_of Load = 1
act_of (Store v) = 2

by_five : (s : ℕ) → eqb s 0 || eqb s 5 ≡ true → (s ≡ 0) ⊎ (s ≡ 5)
by_five s h = elim (or_cases (eqb s 0) (eqb s 5) h) [ inl e ↦ inl (eqb-true s 0 e) | inr e ↦ inr (eqb-true s 5 e) ]

-- GetS from I, GetM from I or SMw: a send of act and e from the state z
sound_from : (z act e : ℕ) → e < 2
    → (waits z ≡ 0) × (waits (next z act) ≡ 1) × (next z act < 11) × (gives (next z act) ≡ 0)
    → every 11 (λ t. imp (fits z t) (fits (next z act) (next t (e + 7)))) ≡ true
    → every 11 (λ t. imp (eqb (waits t) 1) (before (next t (e + 7)) (next z act))) ≡ true
    → (x : ℕ → ℕ) (row : List ℕ) (b : ℕ) → x b ≡ z → Sound x row → Sound (snoop x b act (e + 7)) (row ++ b ∷ [])
sound_from z act e he p f o x row b q s =
    Sends.sends x b act e he s.small row s (rw q p.0) (rw q p.1) (rw q p.2) (rw q p.3)
    (λ c ne. rw q (use_imp (fits z (x c)) (fits (next z act) (next (x c) (e + 7)))
    (below 11 (λ t. imp (fits z t) (fits (next z act) (next t (e + 7)))) f (x c) (s.small c))
    (rw q at (s.fit b c (λ h. ne (sym h))))))
    (λ c h. rw q (use_imp (eqb (waits (x c)) 1) (before (next (x c) (e + 7)) (next z act))
    (below 11 (λ t. imp (eqb (waits t) 1) (before (next t (e + 7)) (next z act))) o (x c) (s.small c))
    (eq-eqb (waits (x c)) 1 h)))

pub sound_get_s : (x : ℕ → ℕ) (row : List ℕ) (b : ℕ) → unsent_fits Load (x b) ≡ true → Sound x row → Sound (snoop x b 1 7) (row ++ b ∷ [])
unfolding table next waits gives fits before holds copies wants unsent_fits
sound_get_s x row b u = sound_from 0 1 0 (lit< tt) (refl, refl, lit< tt, refl) refl refl x row b (eqb-true (x b) 0 u)

pub sound_get_m : (v : ℕ) (x : ℕ → ℕ) (row : List ℕ) (b : ℕ) → unsent_fits (Store v) (x b) ≡ true → Sound x row → Sound (snoop x b 2 8) (row ++ b ∷ [])
unfolding table next waits gives fits before holds copies wants unsent_fits
sound_get_m v x row b u s =
    elim (by_five (x b) u) [
      | inl q ↦ sound_from 0 2 1 (lit< tt) (refl, refl, lit< tt, refl) refl refl x row b q s
      | inr q ↦ sound_from 5 2 1 (lit< tt) (refl, refl, lit< tt, refl) refl refl x row b q s
    ]

pub record Sent (kd : Kind) (s t : ℕ) : Type 0 where
  pub silent : writes s ≡ 0
  pub still : writes t ≡ 0
  pub waited : waits t ≡ 1
  pub fitting : sent_fits kd t ≡ true

pub own_get_s : (s : ℕ) → unsent_fits Load s ≡ true → Sent Load s (next s 1)
unfolding table next waits writes wants unsent_fits sent_fits
own_get_s s u = let e = eqb-true s 0 u in rw e (record { silent = refl; still = refl; waited = refl; fitting = refl })

pub own_get_m : (v s : ℕ) → unsent_fits (Store v) s ≡ true → Sent (Store v) s (next s 2)
unfolding table next waits writes wants unsent_fits sent_fits
own_get_m v s u =
    elim (by_five s u) [
      | inl e ↦ rw e (record { silent = refl; still = refl; waited = refl; fitting = refl })
      | inr e ↦ rw e (record { silent = refl; still = refl; waited = refl; fitting = refl })
    ]

-- a rule of one state
pub rule : (p q : ℕ → Bool) → every 11 (λ s. imp (p s) (q s)) ≡ true → (s : ℕ) → s < 11 → p s ≡ true → q s ≡ true
rule p q h s hs = use_imp (p s) (q s) (below 11 (λ s. imp (p s) (q s)) h s hs)

-- own data
pub record Given (s t : ℕ) : Type 0 where
  pub silent : writes s ≡ 0
  pub over : waits t ≡ 0
  pub not5 : not (eqb t 5) ≡ true
  pub gives_up : writes t ≤ gives s
  pub flagged : writes t ≤ 1

pub own_data : (s : ℕ) → s < 11 → waits s ≡ 1 → Given s (next s 4)
unfolding table next waits writes gives
own_data s hs h =
    let w = eq-eqb (waits s) 1 h in
    record {
      silent = eqb-true (writes s) 0 (rule (λ s. eqb (waits s) 1) (λ s. eqb (writes s) 0) refl s hs w);
      over = eqb-true (waits (next s 4)) 0 (rule (λ s. eqb (waits s) 1) (λ s. eqb (waits (next s 4)) 0) refl s hs w);
      not5 = rule (λ s. eqb (waits s) 1) (λ s. not (eqb (next s 4) 5)) refl s hs w;
      gives_up = leb-true (writes (next s 4)) (gives s) (rule (λ s. eqb (waits s) 1) (λ s. leb (writes (next s 4)) (gives s)) refl s hs w);
      flagged = leb-true (writes (next s 4)) 1 (rule (λ s. eqb (waits s) 1) (λ s. leb (writes (next s 4)) 1) refl s hs w);
    }

pub writes_holds : (s : ℕ) → s < 11 → writes s ≤ holds s
unfolding writes holds
writes_holds s hs = leb-true (writes s) (holds s) (below 11 (λ s. leb (writes s) (holds s)) refl s hs)

-- own PutM
pub record Written (s t : ℕ) : Type 0 where
  pub small : t < 11
  pub calm : waits s ≡ 0
  pub over : waits t ≡ 0
  pub gone : writes t ≡ 0
  pub not5 : not (eqb t 5) ≡ true
  pub no_unsent : (kd : Kind) → unsent_fits kd s ≡ true → unsent_fits kd t ≡ true
  pub no_sent : (kd : Kind) → sent_fits kd s ≡ true → sent_fits kd t ≡ true

pub own_put : (s : ℕ) → s < 11 → writes s ≡ 1 → Written s (next s 6)
unfolding table next waits writes wants unsent_fits sent_fits
own_put s hs h = subst_writes s hs h
  where
    six : Written 6 (next 6 6)
    six = record {
      small = lit< tt;
      calm = refl;
      over = refl;
      gone = refl;
      not5 = refl;
      no_unsent = elim [ Load ↦ λ q. absurd (false≢true q) | Store v ↦ λ q. absurd (false≢true q) ];
      no_sent = elim [ Load ↦ λ q. absurd (false≢true q) | Store v ↦ λ q. absurd (false≢true q) ];
    }

    seven : Written 7 (next 7 6)
    seven = record {
      small = lit< tt;
      calm = refl;
      over = refl;
      gone = refl;
      not5 = refl;
      no_unsent = elim [ Load ↦ λ q. absurd (false≢true q) | Store v ↦ λ q. absurd (false≢true q) ];
      no_sent = elim [ Load ↦ λ q. absurd (false≢true q) | Store v ↦ λ q. absurd (false≢true q) ];
    }

    subst_writes : (s : ℕ) → s < 11 → writes s ≡ 1 → Written s (next s 6)
    subst_writes s hs h =
        elim (or_cases (eqb s 6) (eqb s 7) (rule (λ s. eqb (writes s) 1) (λ s. eqb s 6 || eqb s 7) refl s hs (eq-eqb (writes s) 1 h)))
        [ inl q ↦ rw (eqb-true s 6 q) six | inr q ↦ rw (eqb-true s 7 q) seven ]

-- beside an upgrade
pub record Dropped (t u : ℕ) : Type 0 where
  pub none : u ≡ 0
  pub silent : writes t ≡ 0

pub upg_beside : (t : ℕ) → t < 11 → fits 5 t ≡ true → waits t ≡ 0 → Dropped t (next t 9)
unfolding table next holds copies waits wants writes fits
upg_beside t ht h w =
    let p = rule (λ t. fits 5 t && eqb (waits t) 0) (λ t. eqb (next t 9) 0 && eqb (writes t) 0) refl t ht (and_from (fits 5 t) (eqb (waits t) 0) h (eq-eqb (waits t) 0 w)) in
    let q = and_parts (eqb (next t 9) 0) (eqb (writes t) 0) p in
    record { none = eqb-true (next t 9) 0 q.0; silent = eqb-true (writes t) 0 q.1 }

-- what does not wait fits no sent request, and I fits every unsent one
pub calm_sent : (kd : Kind) (s : ℕ) → s < 11 → waits s ≡ 0 → sent_fits kd s ≡ true → ⊥
unfolding sent_fits waits wants
calm_sent Load s hs w h =
    false≢true (rule (λ s. (eqb s 3 || eqb s 9) && eqb (waits s) 0) (λ s. false) refl s hs (and_from (eqb s 3 || eqb s 9) (eqb (waits s) 0) h (eq-eqb (waits s) 0 w)))
calm_sent (Store v) s hs w h =
    false≢true (rule (λ s. eqb (wants s) 1 && eqb (waits s) 0) (λ s. false) refl s hs (and_from (eqb (wants s) 1) (eqb (waits s) 0) h (eq-eqb (waits s) 0 w)))

pub open_unsent : (kd : Kind) → unsent_fits kd 0 ≡ true
unfolding unsent_fits
open_unsent Load = refl
open_unsent (Store v) = refl

pub holds_le : (s : ℕ) → s < 11 → holds s ≤ 1
unfolding holds
holds_le s hs = leb-true (holds s) 1 (below 11 (λ s. leb (holds s) 1) refl s hs)

pub writes_le : (s : ℕ) → s < 11 → writes s ≤ 1
unfolding writes
writes_le s hs = leb-true (writes s) 1 (below 11 (λ s. leb (writes s) 1) refl s hs)

-- another's GetS or GetM keeps the holder
pub snoop_holds : (e : ℕ) → e < 2 → (s : ℕ) → s < 11 → holds (next s (e + 7)) ≡ holds s
unfolding table next holds
snoop_holds e he s hs = eqb-true (holds (next s (e + 7))) (holds s) (snooped (λ e s. true) (λ e s. eqb (holds (next s (e + 7))) (holds s)) refl e s he hs refl)

-- beside one that waits there is no M
pub wait_no_m : (s t : ℕ) → s < 11 → t < 11 → fits s t ≡ true → waits s ≡ 1 → eqb t 2 ≡ false
unfolding fits holds copies wants waits
wait_no_m s t hs ht h w =
    not-true (eqb t 2) (use_imp (fits s t && eqb (waits s) 1) (not (eqb t 2)) (pairs (λ s t. imp (fits s t && eqb (waits s) 1) (not (eqb t 2))) refl s t hs ht)
    (and_from (fits s t) (eqb (waits s) 1) h (eq-eqb (waits s) 1 w)))

pub wait_not_m : (s : ℕ) → s < 11 → waits s ≡ 1 → eqb s 2 ≡ false
unfolding waits
wait_not_m s hs w = not-true (eqb s 2) (rule (λ s. eqb (waits s) 1) (λ s. not (eqb s 2)) refl s hs (eq-eqb (waits s) 1 w))

pub sender_holds : (kd : Kind) (s : ℕ) → unsent_fits kd s ≡ true → (holds s ≡ 0) × (holds (next s (act_of kd)) ≡ 0)
unfolding table next holds unsent_fits act_of
sender_holds Load s u = let e = eqb-true s 0 u in rw e (refl, refl)
sender_holds (Store v) s u = elim (by_five s u) [ inl e ↦ rw e (refl, refl) | inr e ↦ rw e (refl, refl) ]

-- a free board that does not hit may post
pub post_load : (s : ℕ) → s < 11 → waits s ≡ 0 → not (eqb s 5) ≡ true → (eqb (copies s) 1 && not (eqb s 5)) ≡ false → unsent_fits Load s ≡ true
unfolding waits copies unsent_fits
post_load s hs w n5 h =
    rule (λ s. (eqb (waits s) 0 && not (eqb s 5)) && not (eqb (copies s) 1 && not (eqb s 5))) (λ s. eqb s 0) refl s hs
    (and_from (eqb (waits s) 0 && not (eqb s 5)) _ (and_from (eqb (waits s) 0) (not (eqb s 5)) (eq-eqb (waits s) 0 w) n5) (ap not h))

pub record Posted (s t : ℕ) : Type 0 where
  pub small : t < 11
  pub calm : waits t ≡ 0
  pub silent : writes t ≡ writes s
  pub holding : holds t ≡ holds s
  pub fitting : eqb t 0 || eqb t 5 ≡ true

pub post_store : (s : ℕ) → s < 11 → waits s ≡ 0 → not (eqb s 5) ≡ true → eqb (holds s) 1 ≡ false → Posted s (next s 0)
unfolding table next waits writes holds
post_store s hs w n5 h =
    let pre = and_from (eqb (waits s) 0 && not (eqb s 5)) (not (eqb (holds s) 1)) (and_from (eqb (waits s) 0) (not (eqb s 5)) (eq-eqb (waits s) 0 w) n5) (ap not h) in
    elim (or_cases (eqb s 0) (eqb s 1) (rule (λ s. (eqb (waits s) 0 && not (eqb s 5)) && not (eqb (holds s) 1)) (λ s. eqb s 0 || eqb s 1) refl s hs pre)) [
      | inl q ↦ rw (eqb-true s 0 q) (record { small = lit< tt; calm = refl; silent = refl; holding = refl; fitting = refl })
      | inr q ↦ rw (eqb-true s 1 q) (record { small = lit< tt; calm = refl; silent = refl; holding = refl; fitting = refl })
    ]

pub fits_post : (s t : ℕ) → s < 11 → t < 11 → eqb (next s 0) 0 || eqb (next s 0) 5 ≡ true → fits s t ≡ true → fits (next s 0) t ≡ true
unfolding table next fits holds copies waits wants
fits_post s t hs ht h f =
    use_imp ((eqb (next s 0) 0 || eqb (next s 0) 5) && fits s t) (fits (next s 0) t)
    (pairs (λ s t. imp ((eqb (next s 0) 0 || eqb (next s 0) 5) && fits s t) (fits (next s 0) t)) refl s t hs ht)
    (and_from (eqb (next s 0) 0 || eqb (next s 0) 5) (fits s t) h f)

pub unsent_store : (v s : ℕ) → eqb s 0 || eqb s 5 ≡ true → unsent_fits (Store v) s ≡ true
unfolding unsent_fits
unsent_store v s h = h

-- a holder that is not in M writes back
pub holds_writes : (s : ℕ) → s < 11 → eqb s 2 ≡ false → writes s ≡ holds s
unfolding writes holds
holds_writes s hs h = eqb-true (writes s) (holds s) (rule (λ s. not (eqb s 2)) (λ s. eqb (writes s) (holds s)) refl s hs (ap not h))

-- copies
pub snoop_copies : (e : ℕ) → e < 2 → (s : ℕ) → s < 11 → copies (next s (e + 7)) ≡ 1 → copies s ≡ 1
unfolding table next copies
snoop_copies e he s hs h =
    eqb-true (copies s) 1 (snooped (λ e s. eqb (copies (next s (e + 7))) 1) (λ e s. eqb (copies s) 1) refl e s he hs (eq-eqb (copies (next s (e + 7))) 1 h))

pub sender_copies : (kd : Kind) (t : ℕ) → t < 11 → sent_fits kd t ≡ true → copies t ≡ 0
unfolding sent_fits copies wants
sender_copies Load t ht h = eqb-true (copies t) 0 (rule (λ t. eqb t 3 || eqb t 9) (λ t. eqb (copies t) 0) refl t ht h)
sender_copies (Store v) t ht h = eqb-true (copies t) 0 (rule (λ t. eqb (wants t) 1) (λ t. eqb (copies t) 0) refl t ht h)

-- beside one that waits to write, without a holder, there is no copy
pub want_alone : (v s t : ℕ) → s < 11 → t < 11 → sent_fits (Store v) s ≡ true → fits s t ≡ true → holds t ≡ 0 → copies t ≡ 0
unfolding sent_fits fits holds copies waits wants
want_alone v s t hs ht h f z =
    eqb-true (copies t) 0 (use_imp (eqb (wants s) 1 && (fits s t && eqb (holds t) 0)) (eqb (copies t) 0)
    (pairs (λ s t. imp (eqb (wants s) 1 && (fits s t && eqb (holds t) 0)) (eqb (copies t) 0)) refl s t hs ht)
    (and_from (eqb (wants s) 1) (fits s t && eqb (holds t) 0) h (and_from (fits s t) (eqb (holds t) 0) f (eq-eqb (holds t) 0 z))))

pub want_holds : (v s : ℕ) → s < 11 → sent_fits (Store v) s ≡ true → holds (next s 4) ≡ 1
unfolding table next sent_fits holds wants
want_holds v s hs h = eqb-true (holds (next s 4)) 1 (rule (λ s. eqb (wants s) 1) (λ s. eqb (holds (next s 4)) 1) refl s hs h)

pub holds_copies : (s : ℕ) → s < 11 → holds s ≡ 1 → copies s ≡ 1
unfolding holds copies
holds_copies s hs h = eqb-true (copies s) 1 (rule (λ s. eqb (holds s) 1) (λ s. eqb (copies s) 1) refl s hs (eq-eqb (holds s) 1 h))

pub load_holds : (s : ℕ) → s < 11 → sent_fits Load s ≡ true → holds (next s 4) ≡ 0
unfolding table next sent_fits holds
load_holds s hs h = eqb-true (holds (next s 4)) 0 (rule (λ s. eqb s 3 || eqb s 9) (λ s. eqb (holds (next s 4)) 0) refl s hs h)

pub post_copies : (s : ℕ) → s < 11 → copies (next s 0) ≡ 1 → copies s ≡ 1
unfolding table next copies
post_copies s hs h = eqb-true (copies s) 1 (rule (λ s. eqb (copies (next s 0)) 1) (λ s. eqb (copies s) 1) refl s hs (eq-eqb (copies (next s 0)) 1 h))

pub sender_small : (kd : Kind) (s : ℕ) → unsent_fits kd s ≡ true → next s (act_of kd) < 11
unfolding table next unsent_fits act_of
sender_small Load s u = let e = eqb-true s 0 u in rw e (lit< tt)
sender_small (Store v) s u = elim (by_five s u) [ inl e ↦ rw e (lit< tt) | inr e ↦ rw e (lit< tt) ]

-- replacement: from S, M or MSwb
pub record Replaced (s t : ℕ) : Type 0 where
  pub small : t < 11
  pub calm : waits t ≡ 0
  pub not5 : not (eqb t 5) ≡ true
  pub holding : holds t ≡ holds s
  pub copying : copies t ≡ 1 → copies s ≡ 1
  pub from_m : eqb s 2 ≡ true → (writes t ≡ 1) × (writes s ≡ 0)
  pub not_m : eqb s 2 ≡ false → writes t ≡ writes s
  pub beside : (c : ℕ) → c < 11 → fits s c ≡ true → fits t c ≡ true

pub own_replaced : (s : ℕ) → s < 11 → waits s ≡ 0 → not (eqb s 5) ≡ true → (eqb s 0 || eqb s 6) ≡ false → Replaced s (next s 3)
unfolding table next waits writes holds copies wants fits
own_replaced s hs w n5 h =
    let pre = and_from (eqb (waits s) 0 && not (eqb s 5)) (not (eqb s 0 || eqb s 6)) (and_from (eqb (waits s) 0) (not (eqb s 5)) (eq-eqb (waits s) 0 w) n5) (ap not h) in
    elim (or_cases (eqb s 1) (eqb s 2 || eqb s 7) (rule (λ s. (eqb (waits s) 0 && not (eqb s 5)) && not (eqb s 0 || eqb s 6)) (λ s. eqb s 1 || (eqb s 2 || eqb s 7)) refl s hs pre)) [
      | inl q ↦ rw (eqb-true s 1 q) one
      | inr r ↦ elim (or_cases (eqb s 2) (eqb s 7) r) [ inl q ↦ rw (eqb-true s 2 q) two | inr q ↦ rw (eqb-true s 7 q) seven ]
    ]
  where
    besides : (s t : ℕ) → every 11 (λ c. imp (fits s c) (fits t c)) ≡ true → (c : ℕ) → c < 11 → fits s c ≡ true → fits t c ≡ true
    besides s t h c hc = rule (fits s) (fits t) h c hc

    one : Replaced 1 (next 1 3)
    one = record { small = lit< tt; calm = refl; not5 = refl; holding = refl; copying = λ _. refl; from_m = λ q. absurd (false≢true q); not_m = λ _. refl; beside = besides 1 0 refl }

    two : Replaced 2 (next 2 3)
    two = record { small = lit< tt; calm = refl; not5 = refl; holding = refl; copying = λ _. refl; from_m = λ _. (refl, refl); not_m = λ q. absurd (true≢false q); beside = besides 2 6 refl }

    seven : Replaced 7 (next 7 3)
    seven = record { small = lit< tt; calm = refl; not5 = refl; holding = refl; copying = λ _. refl; from_m = λ q. absurd (false≢true q); not_m = λ _. refl; beside = besides 7 6 refl }
