-- Every copy has the word stored last.
use Rattle.std.proofs.Common.{◌≡◌, ℕ, ◌+◌, ◌<◌, true, eqb, List, [], sym, refl, ap, ◌∙◌, subst, inl, inr, arith}
use Rattle.std.proofs.lemmas.Bool.{cases_eq, cond-true, eq-eqb}
use Rattle.coherence.proofs.Line.Codes.{table, next, holds, copies}
use Rattle.coherence.proofs.Line.Sound.{update, snoop, Sound}
use Rattle.coherence.proofs.Line.Sends.{update_same, update_other, snoop_own, snoop_other, single}
use Rattle.rules.specs.declared.kind.Kind.{Kind}
use Rattle.rules.specs.declared.kind.Kind.TheVariants.{Load, Store}
use Rattle.rules.specs.Boards.{result_of}
use Rattle.coherence.proofs.Runs.Reading.{Line, keep, send_line, serve_line, put_line, upg_line}
use Rattle.coherence.proofs.Runs.Good.{sent_fits}
use Rattle.coherence.proofs.Runs.Facts.{snoop_copies, snoop_holds, want_alone, want_holds, upg_beside}

-- of one line: its copies' word, and the memory's if it has no holder
pub record Fresh (v : ℕ) (ln : Line) : Type 0 where
  pub copy : (c : ℕ) → copies (ln.state c) ≡ 1 → ln.word c ≡ v
  pub memory : ((c : ℕ) → holds (ln.state c) ≡ 0) → ln.mem ≡ v

keep_is : (s w : ℕ) → copies s ≡ 1 → keep s w ≡ w
keep_is s w h = cond-true (eqb (copies s) 1) w 0 (eq-eqb (copies s) 1 h)

pub fresh_sent : (v b act e : ℕ) → e < 2 → (ln : Line) → ((c : ℕ) → ln.state c < 11) → copies (next (ln.state b) act) ≡ 0 → holds (ln.state b) ≡ 0 → Fresh v ln → Fresh v (send_line b act (e + 7) ln)
unfolding send_line
fresh_sent v b act e he ln small c0 h0 f = record { copy = copy'; memory = λ y. f.memory (λ c. holding c (y c)) }
  where
    x : ℕ → ℕ
    x = ln.state

    copy' : (c : ℕ) → copies (snoop x b act (e + 7) c) ≡ 1 → keep (snoop x b act (e + 7) c) (ln.word c) ≡ v
    copy' c h = elim (cases_eq c b) [
      | inl q ↦ absurd (let h0 : copies (next (x b) act) ≡ 1 = rw (q, snoop_own x b act (e + 7)) at h in omega arith)
      | inr ne ↦ keep_is (snoop x b act (e + 7) c) (ln.word c) h ∙ f.copy c (snoop_copies e he (x c) (small c) (sym (ap copies (snoop_other x b act (e + 7) c ne)) ∙ h))
    ]

    holding : (c : ℕ) → holds (snoop x b act (e + 7) c) ≡ 0 → holds (x c) ≡ 0
    holding c h = elim (cases_eq c b) [
      | inl q ↦ rw q h0
      | inr ne ↦ sym (snoop_holds e he (x c) (small c)) ∙ sym (ap holds (snoop_other x b act (e + 7) c ne)) ∙ h
    ]

pub fresh_put : (v b : ℕ) (ln : Line) → copies (ln.state b) ≡ 1 → Fresh v ln → Fresh v (put_line b ln)
unfolding put_line
fresh_put v b ln h f =
    record {
      copy = λ c. elim (cases_eq c b) [
        | inl q ↦ rw (q, update_same ln.state b (next (ln.state b) 6), update_same ln.word b (keep (next (ln.state b) 6) (ln.word b))) (λ y. keep_is (next (ln.state b) 6) (ln.word b) y ∙ f.copy b h)
        | inr ne ↦ rw (update_other ln.state b c (next (ln.state b) 6), update_other ln.word b c (keep (next (ln.state b) 6) (ln.word b))) (f.copy c)
      ];
      memory = λ _. f.copy b h;
    }

-- served: the line's word is then the stored one, or as it was
pub fresh_served : (v b : ℕ) (kd : Kind) (ln : Line) (row : List ℕ) → Sound ln.state row → sent_fits kd (ln.state b) ≡ true → ((c : ℕ) → holds (ln.state c) ≡ 0) → Fresh v ln → Fresh (result_of kd v) (serve_line b kd ln)
unfolding serve_line
fresh_served v b Load ln row s h y f =
    record {
      copy = λ c. elim (cases_eq c b) [
        | inl q ↦ rw (q, update_same ln.state b (next (ln.state b) 4), update_same ln.word b (keep (next (ln.state b) 4) ln.mem)) (λ z. keep_is (next (ln.state b) 4) ln.mem z ∙ f.memory y)
        | inr ne ↦ rw (update_other ln.state b c (next (ln.state b) 4), update_other ln.word b c (keep (next (ln.state b) 4) ln.mem)) (f.copy c)
      ];
      memory = λ _. f.memory y;
    }
fresh_served v b (Store a) ln row s h y f =
    record {
      copy = λ c. elim (cases_eq c b) [
        | inl q ↦ rw (q, update_same ln.state b (next (ln.state b) 4), update_same ln.word b (keep (next (ln.state b) 4) a)) (λ z. keep_is (next (ln.state b) 4) a z)
        | inr ne ↦ rw (update_other ln.state b c (next (ln.state b) 4))
            (λ z. absurd (let n0 = want_alone a (ln.state b) (ln.state c) (s.small b) (s.small c) h (s.fit b c (λ q. ne (sym q))) (y c) in omega arith))
      ];
      memory = λ z. absurd (let h1 = want_holds a (ln.state b) (s.small b) h in
          let h0 : holds (next (ln.state b) 4) ≡ 0 = rw (update_same ln.state b (next (ln.state b) 4)) at (z b) in omega arith);
    }

pub fresh_upg : (v a b : ℕ) (ln : Line) → Sound ln.state [] → ln.state b ≡ 5 → Fresh v ln → Fresh a (upg_line b a ln)
unfolding upg_line table next copies holds
fresh_upg v a b ln s e f =
    record {
      copy = λ c. elim (cases_eq c b) [
        | inl q ↦ rw (q, update_same (λ c. keep (snoop ln.state b 5 9 c) (ln.word c)) b a) (λ z. refl)
        | inr ne ↦ λ z. absurd (let d = upg_beside (ln.state c) (s.small c) (subst (λ (q : ℕ). Rattle.coherence.proofs.Line.Sound.fits q (ln.state c) ≡ true) e (s.fit b c (λ q. ne (sym q)))) (sym (s.waiting c)) in
            let z0 : copies 0 ≡ 1 = sym (ap copies (snoop_other ln.state b 5 9 c ne ∙ d.none)) ∙ z in omega arith)
      ];
      memory = λ z. absurd (let z0 : holds 2 ≡ 0 = sym (ap holds (snoop_own ln.state b 5 9 ∙ ap (λ q. next q 5) e)) ∙ z b in omega arith);
    }

pub fresh_hit : (v a b : ℕ) (ln ln' : Line) (row : List ℕ) → Sound ln.state row → holds (ln.state b) ≡ 1 → ln'.state ≡ ln.state → ln'.word ≡ update ln.word b a → Fresh a ln'
fresh_hit v a b ln ln' row s h es ew =
    record {
      copy = λ c. rw (es, ew) (elim (cases_eq c b) [
        | inl q ↦ λ z. rw q (update_same ln.word b a)
        | inr ne ↦ λ z. absurd (let n0 = single ln.state row s b c (λ q. ne (sym q)) h in omega arith)
      ]);
      memory = λ z. absurd (let z0 : holds (ln.state b) ≡ 0 = rw es at (z b) in omega arith);
    }
