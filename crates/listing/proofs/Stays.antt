-- What whole lines have listed stays, whatever follows them.
use Rattle.std.proofs.Common.{◌≡◌, ℕ, ◌+◌, ◌≤◌, Bool, true, false, cond, eqb, List, [], ◌∷◌, ◌++◌, length, Some, None, Ok, Err, Option, Result, sym, refl, ap, ◌∙◌, append_assoc, append-nil, arith, length-append}
use Rattle.std.proofs.lemmas.Bool.{eq-eqb}
use Rattle.schedule.specs.Rows.{in_turn, repeated}
use Rattle.trace.specs.Commands.{Order, Setting, call_order, fabric_order, list_order}
use Rattle.trace.specs.Pieces.{after, before, on_first, pieces}
use Rattle.trace.specs.declared.fault.LineFault.{LineFault}
use Rattle.trace.proofs.Cuts.{pieces_cut, pieces_after}
use Rattle.listing.specs.Listing.{Stand, Stays, begun, first, from_first, from_second, line_print, list_settled, listed, listing, onward, second, settled}
use Rattle.listing.specs.Listing as stand
use Rattle.listing.proofs.Firsts.{few_first}

-- The text of b begins with that of a.
abbrev Extends : (a b : List ℕ) → Type 0
Extends a b = (rest : List ℕ) × (b ≡ a ++ rest)

same : (a : List ℕ) → Extends a a
same a = ([], sym (append-nil a))

pieces_join : (b : ℕ) (x y : List ℕ) → b ≡ b → pieces b (x ++ b ∷ y) ≡ pieces b x ++ pieces b y
pieces_join b [] y e = ap (λ t. cond t ([] ∷ pieces b y) (on_first b (pieces b y))) (eq-eqb b b e)
pieces_join b (c ∷ cs) y e = by (eqb c b) (pieces_join b cs y e) (pieces_cut b cs)
  where
    first_on : (xs : List (List ℕ)) (p : List ℕ) (ps : List (List ℕ)) → xs ≡ p ∷ ps → on_first c (xs ++ pieces b y) ≡ on_first c xs ++ pieces b y
    first_on xs p ps e = ap (λ l. on_first c (l ++ pieces b y)) e ∙ sym (ap (λ l. on_first c l ++ pieces b y) e)

    by : (t : Bool) → pieces b (cs ++ b ∷ y) ≡ pieces b cs ++ pieces b y → pieces b cs ≡ before b cs ∷ pieces_after b (after b cs)
        → cond t ([] ∷ pieces b (cs ++ b ∷ y)) (on_first c (pieces b (cs ++ b ∷ y))) ≡ cond t ([] ∷ pieces b cs) (on_first c (pieces b cs)) ++ pieces b y
    by true h cut = ap (λ l. [] ∷ l) h
    by false h cut = ap (on_first c) h ∙ first_on (pieces b cs) (before b cs) (pieces_after b (after b cs)) cut

-- A line goes on alike, and what follows it is longer.
onward_more : (n : ℕ) (s : Stand) (e : Result Order LineFault) (f g : Stand → List ℕ) → ((o : Order) → Extends (f (stand.after o s)) (g (stand.after o s))) → Extends (line_print n s e ++ onward s e f) (line_print n s e ++ onward s e g)
onward_more n s (Ok o) f g h = ((h o).0, ap (λ t. line_print n s (Ok o) ++ t) (h o).1 ∙ sym (append_assoc (line_print n s (Ok o)) (f (stand.after o s)) (h o).0))
onward_more n s (Err e) f g h = same _

listed_more : (n : ℕ) (s : Stand) (ps : List (List ℕ)) (q : List ℕ) (qs : List (List ℕ)) → Extends (listed n s (ps ++ [] ∷ [])) (listed n s (ps ++ q ∷ qs))
listed_more n s [] q qs = (listed n s (q ∷ qs), refl)
listed_more n s (p ∷ []) q qs = onward_more n s (call_order p) (λ t. listed (n + 1) t ([] ∷ [])) (λ t. listed (n + 1) t (q ∷ qs)) (λ o. listed_more (n + 1) (stand.after o s) [] q qs)
listed_more n s (p ∷ p' ∷ ps) q qs = onward_more n s (call_order p) (λ t. listed (n + 1) t ((p' ∷ ps) ++ [] ∷ [])) (λ t. listed (n + 1) t ((p' ∷ ps) ++ q ∷ qs)) (λ o. listed_more (n + 1) (stand.after o s) (p' ∷ ps) q qs)

-- The same past the second line, and past the first.
second_more : (n l : ℕ) (e : Result (Option (List ℕ)) LineFault) (p : List ℕ) (ps : List (List ℕ)) (q : List ℕ) (qs : List (List ℕ)) → Extends (second n l e ((p ∷ ps) ++ [] ∷ []) (ps ++ [] ∷ [])) (second n l e ((p ∷ ps) ++ q ∷ qs) (ps ++ q ∷ qs))
second_more n l (Ok None) p ps q qs = listed_more 2 (begun l n n (in_turn n)) (p ∷ ps) q qs
second_more n l (Ok (Some bs)) p ps q qs = listed_more 3 (begun l n (length bs) (repeated bs)) ps q qs
second_more n l (Err f) p ps q qs = same _

from_second_more : (n l : ℕ) (ps : List (List ℕ)) (q : List ℕ) (qs : List (List ℕ)) → Extends (from_second n l (ps ++ [] ∷ [])) (from_second n l (ps ++ q ∷ qs))
from_second_more n l [] q qs = (from_second n l (q ∷ qs), refl)
from_second_more n l (p ∷ []) q qs = second_more n l (list_settled n (list_order p)) p [] q qs
from_second_more n l (p ∷ p' ∷ ps) q qs = second_more n l (list_settled n (list_order p)) p (p' ∷ ps) q qs

first_more : (e : Result Setting LineFault) (ps : List (List ℕ)) (q : List ℕ) (qs : List (List ℕ)) → Extends (first e (ps ++ [] ∷ [])) (first e (ps ++ q ∷ qs))
first_more (Ok f) ps q qs = from_second_more f.boards f.lines ps q qs
first_more (Err f) ps q qs = same _

from_first_more : (p : List ℕ) (ps : List (List ℕ)) (q : List ℕ) (qs : List (List ℕ)) → Extends (from_first ((p ∷ ps) ++ [] ∷ [])) (from_first ((p ∷ ps) ++ q ∷ qs))
from_first_more p [] q qs = first_more (settled (fabric_order p)) [] q qs
from_first_more p (p' ∷ ps) q qs = first_more (settled (fabric_order p)) (p' ∷ ps) q qs

lines_stay : (lines more : List ℕ) → Extends (from_first (pieces 10 (lines ++ 10 ∷ []))) (from_first (pieces 10 (lines ++ 10 ∷ more)))
lines_stay lines more =
    let w = from_first_more (before 10 lines) (pieces_after 10 (after 10 lines)) (before 10 more) (pieces_after 10 (after 10 more)) in
    let short : pieces 10 (lines ++ 10 ∷ []) ≡ (before 10 lines ∷ pieces_after 10 (after 10 lines)) ++ [] ∷ [] = pieces_join 10 lines [] refl ∙ ap (λ l. l ++ [] ∷ []) (pieces_cut 10 lines) in
    let long : pieces 10 (lines ++ 10 ∷ more) ≡ (before 10 lines ∷ pieces_after 10 (after 10 lines)) ++ before 10 more ∷ pieces_after 10 (after 10 more) =
    pieces_join 10 lines more refl ∙ (λ i. pieces_cut 10 lines i ++ pieces_cut 10 more i) in
    (w.0, ap from_first long ∙ w.1 ∙ ap (λ l. from_first l ++ w.0) (sym short))

pub stays : (trace text : List ℕ) → text ≡ listing trace → Stays trace text
stays trace text e lines more is few =
    let w = lines_stay lines more in
    let joined : trace ++ more ≡ lines ++ 10 ∷ more = ap (λ t. t ++ more) is ∙ append_assoc lines (10 ∷ []) more in
    let small : length trace ≤ 32768 = omega (arith, length-append trace more) in (
      w.0,
      few_first (trace ++ more) few ∙ ap (λ t. from_first (pieces 10 t)) joined ∙ w.1
          ∙ ap (λ t. from_first (pieces 10 t) ++ w.0) (sym is) ∙ ap (λ t. t ++ w.0) (sym (few_first trace small)) ∙ ap (λ t. t ++ w.0) (sym e),
    )
