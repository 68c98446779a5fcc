-- Slots run one by one.
use Rattle.std.proofs.Common.{◌≡◌, ℕ, suc, ◌+◌, ◌-◌, ◌<◌, ◌≤◌, List, ◌++◌, sym, ap, ◌∙◌, append_assoc, append-nil, arith}
use Rattle.rules.specs.Calls.{says, slot}
use Rattle.listing.specs.Answers.{slot_text}
use Rattle.listing.specs.Listing.{Stand, passed, ran, slot_lines}

-- After i of c slots: what is printed and what the rest will print are the whole, and so with the stand.
pub record Along (c i : ℕ) (s s' : Stand) (t t' : List ℕ) : Type 0 where
  pub text : t' ++ slot_lines (c - i) s' ≡ t ++ slot_lines c s
  pub stand : ran (c - i) s' ≡ ran c s
  pub number : s'.slot ≡ s.slot + i

pub along_none : (c : ℕ) (s : Stand) (t : List ℕ) → Along c 0 s s t t
along_none c s t =
    let e : c - 0 ≡ c = omega arith in
    record { text = ap (λ n. t ++ slot_lines n s) e; stand = ap (λ n. ran n s) e; number = omega arith }

pub along_more : (c i : ℕ) (s s' s'' : Stand) (t t' t'' : List ℕ) → i < c → Along c i s s' t t' → s'' ≡ passed s' → t'' ≡ t' ++ slot_text s'.slot (says slot s'.world) → Along c (i + 1) s s'' t t''
along_more c i s s' s'' t t' t'' lt old es et =
    let e : c - i ≡ suc (c - (i + 1)) = omega arith in
    record {
      text = (λ j. et j ++ slot_lines (c - (i + 1)) (es j)) ∙ append_assoc t' (slot_text s'.slot (says slot s'.world)) _ ∙ sym (ap (λ n. t' ++ slot_lines n s') e) ∙ old.text;
      stand = ap (ran (c - (i + 1))) es ∙ sym (ap (λ n. ran n s') e) ∙ old.stand;
      number = ap (λ (x : Stand). x.slot) es ∙ omega (arith, old.number);
    }

pub along_text : (c i : ℕ) (s s' : Stand) (t t' : List ℕ) → c ≤ i → Along c i s s' t t' → t' ≡ t ++ slot_lines c s
along_text c i s s' t t' le old =
    let e : 0 ≡ c - i = omega arith in
    sym (append-nil t') ∙ ap (λ n. t' ++ slot_lines n s') e ∙ old.text

pub along_stand : (c i : ℕ) (s s' : Stand) (t t' : List ℕ) → c ≤ i → Along c i s s' t t' → s' ≡ ran c s
along_stand c i s s' t t' le old = let e : 0 ≡ c - i = omega arith in ap (λ n. ran n s') e ∙ old.stand
