-- The first lines of a trace, one cut at a time.
use Rattle.std.proofs.Common.{Bor, ◌≡◌, ℕ, ◌+◌, ◌≤◌, List, [], ◌∷◌, ◌++◌, length, drop, Some, None, Ok, Err, Option, Result, sym, ap, ◌∙◌, append_assoc, arith, length-append}
use Rattle.std.specs.Option.{option_map}
use Rattle.std.proofs.lemmas.List.{drop_at, drop-drop}
use Rattle.std.proofs.lemmas.Bool.{cond-false, le-ltb}
use Rattle.schedule.specs.Meanings.{Means, list_count, list_owners, list_span}
use Rattle.schedule.specs.Rows.{in_turn}
use Rattle.schedule.specs.declared.slot_list.SlotList.{SlotList}
use Rattle.trace.specs.Commands.{Setting, fabric_order, list_order}
use Rattle.trace.specs.Faults.{Told}
use Rattle.trace.specs.Pieces.{before, after, pieces}
use Rattle.trace.specs.declared.fault.LineFault.{LineFault}
use Rattle.trace.specs.declared.fault.TraceFault.{TraceFault}
use Rattle.trace.specs.declared.fault.TraceFault.TheVariants.{Line, OutOfMemory}
use Rattle.trace.proofs.Cuts.{pieces_cut, pieces_after}
use Rattle.listing.specs.Listing.{begun, first, from_first, from_second, list_settled, listed, listing, second, settled, unopened}
use Rattle.listing.specs.Beginnings.{FromSecond, Opened, standing}
use Rattle.listing.specs.Setups.{Relisted, setting_of}
use Rattle.listing.specs.Bus.{bus_count}
use Rattle.listing.specs.declared.setup.Setup.{Setup}
use Rattle.listing.specs.Sessions.{Stopped}

-- What follows a cut, where the value is known.
pub kept : {r v : Option (Bor (List ℕ))} {o : Option (List ℕ)} → option_map (λ x. x.now) r ≡ o → r ≡ v → o ≡ option_map (λ x. x.now) v
kept e q = sym e ∙ ap (option_map (λ x. x.now)) q

module _ (input : List ℕ) where
  pub cut_last : after 10 input ≡ None → pieces 10 input ≡ before 10 input ∷ []
  cut_last e = pieces_cut 10 input ∙ ap (λ o. before 10 input ∷ pieces_after 10 o) e

  pub cut_more : (more : List ℕ) → after 10 input ≡ Some more → pieces 10 input ≡ before 10 input ∷ before 10 more ∷ pieces_after 10 (after 10 more)
  cut_more more e = pieces_cut 10 input ∙ ap (λ o. before 10 input ∷ pieces_after 10 o) e ∙ ap (λ ps. before 10 input ∷ ps) (pieces_cut 10 more)

  pub second_last : (n l : ℕ) → after 10 input ≡ None → from_second n l (pieces 10 input) ≡ listed 2 (begun l n n (in_turn n)) (pieces 10 input)
  second_last n l e = ap (from_second n l) (cut_last e) ∙ sym (ap (listed 2 (begun l n n (in_turn n))) (cut_last e))

  pub second_more : (n l : ℕ) (more : List ℕ) → after 10 input ≡ Some more → from_second n l (pieces 10 input) ≡ second n l (list_settled n (list_order (before 10 input))) (pieces 10 input) (pieces 10 more)
  second_more n l more e =
      ap (from_second n l) (cut_more more e)
      ∙ (λ i. second n l (list_settled n (list_order (before 10 input))) (sym (cut_more more e) i) (sym (pieces_cut 10 more) i))

  pub first_last : after 10 input ≡ None → from_first (pieces 10 input) ≡ unopened (before 10 input)
  first_last e = ap from_first (cut_last e)

  pub first_more : (more : List ℕ) → after 10 input ≡ Some more → from_first (pieces 10 input) ≡ first (settled (fabric_order (before 10 input))) (pieces 10 more)
  first_more more e = ap from_first (cut_more more e) ∙ ap (first (settled (fabric_order (before 10 input)))) (sym (pieces_cut 10 more))

pub few_first : (s : List ℕ) → length s ≤ 32768 → listing s ≡ from_first (pieces 10 s)
few_first s h = cond-false _ _ _ (le-ltb 32768 (length s) h)

module _ (trace line : List ℕ) (few : length trace ≤ 32768) (is : line ≡ before 10 trace) where
  pub lists_last : after 10 trace ≡ None → listing trace ≡ unopened line
  lists_last none = few_first trace few ∙ first_last trace none ∙ ap unopened (sym is)

  module _ (rest : List ℕ) (some : after 10 trace ≡ Some rest) where
    pub lists_more : listing trace ≡ first (settled (fabric_order line)) (pieces 10 rest)
    lists_more = few_first trace few ∙ first_more trace rest some ∙ ap (λ p. first (settled (fabric_order p)) (pieces 10 rest)) (sym is)

    pub first_opened : (o : Setup) → settled (fabric_order line) ≡ Ok (setting_of o) → listing trace ≡ from_second (bus_count o.schedule) o.lines (pieces 10 rest)
    first_opened o told = lists_more ∙ ap (λ r. first r (pieces 10 rest)) told

-- A fault of the first line is all there is to list.
pub first_stopped : {A : Type 0} (f : A → Setting) (e : TraceFault) (r : Result Setting LineFault) (rest : List (List ℕ)) (t t' : List ℕ) → Told f (Err e) r → Stopped e 1 t t' → t' ≡ t ++ first r rest
first_stopped f (Line g) r rest t t' told w = w ∙ sym (ap (λ x. t ++ first x rest) told)
first_stopped f OutOfMemory r rest t t' told w = absurd w

-- What follows a cut, by bytes.
pub drop_after : (s line more : List ℕ) → s ≡ line ++ 10 ∷ more → drop (length line + 1) s ≡ more
drop_after s line more e =
    let long : length (line ++ 10 ∷ []) ≡ length line + 1 = length-append line (10 ∷ []) in
    ap (drop (length line + 1)) (e ∙ sym (append_assoc line (10 ∷ []) more)) ∙ drop_at (line ++ 10 ∷ []) more (length line + 1) long

pub length_after : (s line more : List ℕ) → s ≡ line ++ 10 ∷ more → length s ≡ length line + 1 + length more
length_after s line more e =
    let long : length (line ++ 10 ∷ more) ≡ length line + length (10 ∷ more) = length-append line (10 ∷ more) in
    ap length e ∙ omega arith

module _ (n l : ℕ) (rest line more : List ℕ) (is : line ≡ before 10 rest) (some : after 10 rest ≡ Some more) where
  second_at : (b : ℕ) → b ≡ n → (e : Result (Option (List ℕ)) LineFault) → list_settled b (list_order line) ≡ e → from_second n l (pieces 10 rest) ≡ second n l e (pieces 10 rest) (pieces 10 more)
  second_at b eb e h =
      second_more rest n l more some ∙ ap (λ p. second n l (list_settled n (list_order p)) (pieces 10 rest) (pieces 10 more)) (sym is)
      ∙ ap (λ x. second n l x (pieces 10 rest) (pieces 10 more)) (ap (λ m. list_settled m (list_order line)) (sym eb) ∙ h)

  pub second_unlisted : (b : ℕ) → b ≡ n → list_settled b (list_order line) ≡ Ok None → from_second n l (pieces 10 rest) ≡ listed 2 (begun l n n (in_turn n)) (pieces 10 rest)
  second_unlisted b eb h = second_at b eb (Ok None) h

  pub second_listed : (b : ℕ) → b ≡ n → (s : SlotList) (bs : List ℕ) → list_settled b (list_order line) ≡ Ok (Some bs) → Means s b bs
      → from_second n l (pieces 10 rest) ≡ listed 3 (begun l (list_count s) (list_span s) (list_owners s)) (pieces 10 more)
  second_listed b eb s bs h m =
      second_at b eb (Ok (Some bs)) h ∙ sym (λ i. listed 3 (begun l ((m.count ∙ eb) i) (m.span i) (m.owners i)) (pieces 10 more))

-- The setup of the first line alone.
pub stands : (o : Setup) (ps : List (List ℕ)) → Opened o → listed 2 (begun o.lines (bus_count o.schedule) (bus_count o.schedule) (in_turn (bus_count o.schedule))) ps ≡ listed o.line (standing o) ps
stands o ps h = (λ i. listed (sym h.1 i) (sym h.0 i) ps)

pub second_faulty : (o : Setup) (rest line more : List ℕ) → line ≡ before 10 rest → after 10 rest ≡ Some more → (b : ℕ) → b ≡ bus_count o.schedule → (f : TraceFault) → Relisted b (Err f) (list_settled b (list_order line)) → FromSecond (Err f) o rest
second_faulty o rest line more is some b eb (Line g) told = second_at (bus_count o.schedule) o.lines rest line more is some b eb (Err g) told
second_faulty o rest line more is some b eb OutOfMemory told = tt

-- A fault of the second line.
pub second_stopped : (f : TraceFault) (o : Setup) (rest t t' : List ℕ) → FromSecond (Err f) o rest → Stopped f 2 t t' → t' ≡ t ++ from_second (bus_count o.schedule) o.lines (pieces 10 rest)
second_stopped (Line g) o rest t t' told w = w ∙ sym (ap (λ x. t ++ x) told)
second_stopped OutOfMemory o rest t t' told w = absurd w

pub begun_from : (s o : Setup) (trace rest : List ℕ) → FromSecond (Ok s) o rest → listing trace ≡ from_second (bus_count o.schedule) o.lines (pieces 10 rest) → drop o.used trace ≡ rest → listing trace ≡ listed s.line (standing s) (pieces 10 (drop s.used trace))
begun_from s o trace rest h whole cut =
    let same : drop h.0 rest ≡ drop s.used trace = ap (drop h.0) (sym cut) ∙ drop-drop h.0 o.used trace ∙ ap (λ m. drop m trace) (sym h.1) in
    whole ∙ h.2 ∙ ap (λ x. listed s.line (standing s) (pieces 10 x)) same
