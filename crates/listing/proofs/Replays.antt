-- A line of the trace more.
use Rattle.std.proofs.Common.{Bor, ◌≡◌, ℕ, ◌+◌, List, [], ◌++◌, Some, None, Ok, Err, Option, Result, sym, ap, ◌∙◌, append-nil}
use Rattle.std.specs.Option.{option_map_or}
use Rattle.trace.specs.Commands.{Order, call_order}
use Rattle.trace.specs.Pieces.{before, after, pieces}
use Rattle.trace.specs.declared.fault.LineFault.{LineFault}
use Rattle.trace.specs.declared.fault.TraceFault.{TraceFault}
use Rattle.trace.specs.declared.fault.TraceFault.TheVariants.{Line, OutOfMemory}
use Rattle.trace.proofs.Cuts.{pieces_cut}
use Rattle.listing.specs.Lines.{fault_line}
use Rattle.listing.specs.Listing.{Stand, ending, line_print, listed, onward}
use Rattle.listing.specs.Replays.{first_print}
use Rattle.listing.specs.Sessions.{Obeyed, Stopped}
use Rattle.listing.proofs.Firsts.{cut_last, cut_more}

-- What an obeyed line has printed, and how the listing goes on.
pub obeyed_print : (n : ℕ) (e : Result Order LineFault) (s s' : Stand) (t t' : List ℕ) → Obeyed (Ok tt) e s s' t t' → t' ≡ t ++ line_print n s e
obeyed_print n (Ok o) s s' t t' h = h.0
obeyed_print n (Err f) s s' t t' h = absurd h

pub obeyed_onward : (rest : Stand → List ℕ) (e : Result Order LineFault) (s s' : Stand) (t t' : List ℕ) → Obeyed (Ok tt) e s s' t t' → onward s e rest ≡ rest s'
obeyed_onward rest (Ok o) s s' t t' h = ap rest (sym h.1)
obeyed_onward rest (Err f) s s' t t' h = absurd h

-- What a faulty line has printed, and that the listing ends.
pub stopped_print : (n : ℕ) (f : TraceFault) (e : Result Order LineFault) (s s' : Stand) (t t' t'' : List ℕ) → Obeyed (Err f) e s s' t t' → Stopped f n t' t'' → t'' ≡ t ++ line_print n s e
stopped_print n (Line f) e s s' t t' t'' h w = w ∙ ap (λ x. x ++ fault_line n f) h.1 ∙ ap (λ x. t ++ line_print n s x) (sym h.0)
stopped_print n OutOfMemory e s s' t t' t'' h w = absurd w

pub stopped_onward : (n : ℕ) (rest : Stand → List ℕ) (f : TraceFault) (e : Result Order LineFault) (s s' : Stand) (t t' t'' : List ℕ) → Obeyed (Err f) e s s' t t' → Stopped f n t' t'' → onward s e rest ≡ []
stopped_onward n rest (Line f) e s s' t t' t'' h w = ap (λ x. onward s x rest) h.0
stopped_onward n rest OutOfMemory e s s' t t' t'' h w = absurd w

module _ (n : ℕ) (s : Stand) (input line : List ℕ) (is : line ≡ before 10 input) where
  -- The last piece prints what follows the last line end.
  pub last_print : after 10 input ≡ None → (t t' : List ℕ) → t' ≡ t ++ ending n line → t' ≡ t ++ first_print n s (pieces 10 input)
  last_print none t t' w = w ∙ (λ i. t ++ ending n (is i)) ∙ sym (ap (λ ps. t ++ first_print n s ps) (cut_last input none))

  pub last_rest : after 10 input ≡ None → listed n s (pieces 10 input) ≡ first_print n s (pieces 10 input) ++ []
  last_rest none = ap (listed n s) (cut_last input none) ∙ sym (ap (first_print n s) (cut_last input none)) ∙ sym (append-nil _)

  -- A line.
  module _ (more : List ℕ) (some : after 10 input ≡ Some more) where
    next_print : line_print n s (call_order line) ≡ first_print n s (pieces 10 input)
    next_print = ap (λ p. line_print n s (call_order p)) is ∙ sym (ap (first_print n s) (cut_more input more some))

    next_rest : (left : List ℕ) → onward s (call_order line) (λ b. listed (n + 1) b (pieces 10 more)) ≡ left → listed n s (pieces 10 input) ≡ first_print n s (pieces 10 input) ++ left
    next_rest left w =
        ap (listed n s) (cut_more input more some)
        ∙ (λ i. line_print n s (call_order (sym is i)) ++ onward s (call_order (sym is i)) (λ b. listed (n + 1) b (sym (pieces_cut 10 more) i)))
        ∙ (λ i. next_print i ++ w i)

    -- What a line that is obeyed, and one that stops the replay, print and leave to print.
    pub obeyed : (s' : Stand) (t t' : List ℕ) → Obeyed (Ok tt) (call_order line) s s' t t' → (t' ≡ t ++ first_print n s (pieces 10 input)) × (listed n s (pieces 10 input) ≡ first_print n s (pieces 10 input) ++ listed (n + 1) s' (pieces 10 more))
    obeyed s' t t' h = (
      obeyed_print n (call_order line) s s' t t' h ∙ ap (λ x. t ++ x) next_print,
      next_rest _ (obeyed_onward (λ b. listed (n + 1) b (pieces 10 more)) (call_order line) s s' t t' h),
    )

    pub stopped : (f : TraceFault) (s' : Stand) (t t' t'' : List ℕ) → Obeyed (Err f) (call_order line) s s' t t' → Stopped f n t' t'' → (t'' ≡ t ++ first_print n s (pieces 10 input)) × (listed n s (pieces 10 input) ≡ first_print n s (pieces 10 input) ++ [])
    stopped f s' t t' t'' h w = (
      stopped_print n f (call_order line) s s' t t' t'' h w ∙ ap (λ x. t ++ x) next_print,
      next_rest _ (stopped_onward n (λ b. listed (n + 1) b (pieces 10 more)) f (call_order line) s s' t t' t'' h w),
    )

-- What is told of a replay that is being read, and of one that is over.
pub told : {A : Type 0} (o : Option A) (text : A → List ℕ) (a : A) → o ≡ Some a → option_map_or text o [] ≡ text a
told o text a e = ap (λ x. option_map_or text x []) e

pub silent : {A : Type 0} (o : Option A) (text : A → List ℕ) → o ≡ None → option_map_or text o [] ≡ []
silent o text e = ap (λ x. option_map_or text x []) e

module _ (o : Option (Bor (List ℕ))) (n : ℕ) (s : Stand) (input : Bor (List ℕ)) (line t t' : List ℕ) (reading : o ≡ Some input) (is : line ≡ before 10 input.now) where
  shown : option_map_or (λ r. first_print n s (pieces 10 r.now)) o [] ≡ first_print n s (pieces 10 input.now)
  shown = told o (λ r. first_print n s (pieces 10 r.now)) input reading

  pub end_text : after 10 input.now ≡ None → t' ≡ t ++ ending n line → t' ≡ t ++ option_map_or (λ r. first_print n s (pieces 10 r.now)) o []
  end_text none w = last_print n s input.now line is none t t' w ∙ sym (ap (λ x. t ++ x) shown)

  pub end_rest : after 10 input.now ≡ None → (left : List ℕ) → left ≡ [] → option_map_or (λ r. listed n s (pieces 10 r.now)) o [] ≡ option_map_or (λ r. first_print n s (pieces 10 r.now)) o [] ++ left
  end_rest none left e =
      told o (λ r. listed n s (pieces 10 r.now)) input reading ∙ last_rest n s input.now line is none ∙ (λ i. sym shown i ++ sym e i)

  module _ (more : List ℕ) (some : after 10 input.now ≡ Some more) where
    line_print_lem : first_print n s (pieces 10 input.now) ≡ line_print n s (call_order line)
    line_print_lem = sym (next_print n s input.now line is more some)

    pub line_text : t' ≡ t ++ line_print n s (call_order line) → t' ≡ t ++ option_map_or (λ r. first_print n s (pieces 10 r.now)) o []
    line_text w = w ∙ sym (ap (λ x. t ++ x) (shown ∙ line_print_lem))

    pub line_rest : (left : List ℕ) → onward s (call_order line) (λ b. listed (n + 1) b (pieces 10 more)) ≡ left
        → option_map_or (λ r. listed n s (pieces 10 r.now)) o [] ≡ option_map_or (λ r. first_print n s (pieces 10 r.now)) o [] ++ left
    line_rest left w =
        told o (λ r. listed n s (pieces 10 r.now)) input reading ∙ next_rest n s input.now line is more some left w ∙ (λ i. sym shown i ++ left)
