-- A fabric read line by line, with the states as codes: what it holds, and one slot.
use Rattle.std.proofs.Common.{ℕ, suc, ◌+◌, Bool, true, false, cond, not, ◌&&◌, eqb, ltb, List, [], ◌∷◌, ◌++◌, drop, Some, None, Option}
use Rattle.rules.specs.declared.kind.Kind.{Kind}
use Rattle.rules.specs.declared.kind.Kind.TheVariants.{Load, Store}
use Rattle.rules.specs.declared.deed.Deed.{Deed}
use Rattle.rules.specs.declared.deed.Deed.TheVariants.{Idle, GetS, GetM, GetSServed, GetMServed, Upg, Data, PutM}
use Rattle.rules.specs.Boards.{Place, free, posted, sent, served, result_of}
use Rattle.rules.specs.Cells.{is_empty}
use Rattle.coherence.proofs.Turns.Counts.{total}
use Rattle.coherence.proofs.Line.Codes.{next, holds, copies, writes}
use Rattle.coherence.proofs.Line.Sound.{update, snoop}

-- asked: its last deed was a request; mark: 1 more than the line that is marked as a replacement, or 0
pub record Board : Type 0 where
  pub place : Place
  pub list : List ℕ
  pub asked : Bool
  pub mark : ℕ

-- state and word by board
pub record Line : Type 0 where
  pub state : ℕ → ℕ
  pub word : ℕ → ℕ
  pub row : List ℕ
  pub mem : ℕ

pub record Reading : Type 0 where
  pub boards : ℕ → Board
  pub lines : ℕ → Line

-- the deed and its line
pub record Did : Type 0 where
  pub deed : Deed
  pub line : Option ℕ
  pub after : Reading

-- a word stays only with a copy
abbrev pub keep : ℕ → ℕ → ℕ
keep s w = cond (eqb (copies s) 1) w 0

abbrev pub is_first : ℕ → List ℕ → Bool
is_first b [] = false
is_first b (c ∷ r) = eqb b c

-- some board below n holds the line
abbrev pub held : ℕ → Line → Bool
held n ln = ltb 0 (total n (λ c. holds (ln.state c)))

-- one line
unfoldable pub send_line : ℕ → ℕ → ℕ → Line → Line
send_line b act e ln =
    record {
      state = snoop ln.state b act e;
      word = λ c. keep (snoop ln.state b act e c) (ln.word c);
      row = ln.row ++ b ∷ [];
      mem = ln.mem;
    }

unfoldable pub upg_line : ℕ → ℕ → Line → Line
upg_line b v ln =
    record {
      state = snoop ln.state b 5 9;
      word = update (λ c. keep (snoop ln.state b 5 9 c) (ln.word c)) b v;
      row = ln.row;
      mem = ln.mem;
    }

unfoldable pub serve_line : ℕ → Kind → Line → Line
serve_line b k ln =
    record {
      state = update ln.state b (next (ln.state b) 4);
      word = update ln.word b (keep (next (ln.state b) 4) (result_of k ln.mem));
      row = drop 1 ln.row;
      mem = ln.mem;
    }

unfoldable pub put_line : ℕ → Line → Line
put_line b ln =
    record {
      state = update ln.state b (next (ln.state b) 6);
      word = update ln.word b (keep (next (ln.state b) 6) (ln.word b));
      row = ln.row;
      mem = ln.word b;
    }

-- one board
abbrev pub older : Place → Place
older free = free
older (posted l k w) = posted l k (w + 1)
older (sent l k w) = sent l k (w + 1)
older (served l k r w) = served l k r w

unfoldable pub age_board : Board → Board
age_board b = record { place = older b.place; list = b.list; asked = b.asked; mark = b.mark }

unfoldable pub push_board : ℕ → Board → Board
push_board l b = record { place = b.place; list = b.list ++ l ∷ []; asked = b.asked; mark = b.mark }

unfoldable pub ask_board : Place → Board → Board
ask_board p b = record { place = p; list = b.list; asked = true; mark = b.mark }

unfoldable pub put_board : ℕ → Board → Board
put_board l b = record { place = b.place; list = drop 1 b.list; asked = false; mark = cond (eqb b.mark (suc l)) 0 b.mark }

abbrev pub with_list : Bool → ℕ → Board → Board
with_list true l b = push_board l b
with_list false l b = b

-- the fabric
unfoldable pub aged : Reading → Reading
aged s = record { boards = λ c. age_board (s.boards c); lines = s.lines }

-- a board that leaves M by another's GetS or GetM puts the line at its list's end
unfoldable pub sends : ℕ → ℕ → ℕ → ℕ → Place → Reading → Reading
sends b l act e p s =
    record {
      boards = update (λ c. with_list (eqb ((s.lines l).state c) 2) l (s.boards c)) b (ask_board p (s.boards b));
      lines = update s.lines l (send_line b act e (s.lines l));
    }

unfoldable pub upgrades : ℕ → ℕ → ℕ → ℕ → Reading → Reading
upgrades b l v w s =
    record {
      boards = update s.boards b (ask_board (served l (Store v) v w) (s.boards b));
      lines = update s.lines l (upg_line b v (s.lines l));
    }

unfoldable pub serves : ℕ → ℕ → Kind → ℕ → Reading → Reading
serves b l k w s =
    record {
      boards = update s.boards b (with_list (eqb (writes (next ((s.lines l).state b) 4)) 1) l
          (ask_board (served l k (result_of k (s.lines l).mem) w) (s.boards b)));
      lines = update s.lines l (serve_line b k (s.lines l));
    }

unfoldable pub puts : ℕ → ℕ → Reading → Reading
puts b l s =
    record {
      boards = update s.boards b (put_board l (s.boards b));
      lines = update s.lines l (put_line b (s.lines l));
    }

-- first in the row, and no holder
abbrev pub due : ℕ → ℕ → Line → Bool
due n b ln = is_first b ln.row && not (held n ln)

abbrev pub ready : ℕ → ℕ → Reading → Place → Bool
ready n b s free = false
ready n b s (posted l k w) = true
ready n b s (sent l k w) = due n b (s.lines l)
ready n b s (served l k r w) = false

-- served too, if due
abbrev pub sends_too : ℕ → ℕ → ℕ → Kind → ℕ → Deed → Deed → Reading → Did
sends_too n b l k w d dp s =
    elim (due n b (s.lines l)) [
      | true ↦ record { deed = dp; line = Some l; after = serves b l k w s }
      | false ↦ record { deed = d; line = Some l; after = s }
    ]

abbrev pub requests : ℕ → ℕ → Reading → Place → Did
requests n b s free = record { deed = Idle; line = None; after = s }
requests n b s (posted l Load w) = sends_too n b l Load w GetS GetSServed (sends b l 1 7 (sent l Load w) s)
requests n b s (posted l (Store v) w) =
    elim (eqb ((s.lines l).state b) 5 && is_empty (s.lines l).row) [
      | true ↦ record { deed = Upg; line = Some l; after = upgrades b l v w s }
      | false ↦ sends_too n b l (Store v) w GetM GetMServed (sends b l 2 8 (sent l (Store v) w) s)
    ]
requests n b s (sent l k w) = record { deed = Data; line = Some l; after = serves b l k w s }
requests n b s (served l k r w) = record { deed = Idle; line = None; after = s }

abbrev pub writes_back : ℕ → Reading → List ℕ → Did
writes_back b s [] = record { deed = Idle; line = None; after = s }
writes_back b s (l ∷ ls) = record { deed = PutM; line = Some l; after = puts b l s }

-- request ready, write-back ready, and whether its last deed was a request
abbrev pub acts : ℕ → ℕ → Reading → Bool → Bool → Bool → Did
acts n b s true true true = writes_back b s (s.boards b).list
acts n b s true true false = requests n b s (s.boards b).place
acts n b s true false a = requests n b s (s.boards b).place
acts n b s false true a = writes_back b s (s.boards b).list
acts n b s false false a = record { deed = Idle; line = None; after = s }

-- the slot of the owner b
unfoldable pub slot : ℕ → ℕ → Reading → Did
slot n b s0 =
    let s = aged s0 in
    acts n b s (ready n b s (s.boards b).place) (not (is_empty (s.boards b).list)) (s.boards b).asked
