-- The lines of a trace.
use Rattle.std.specs.Prelude.{ℕ, ◌-◌, ◌^◌, cond, ◌&&◌, List, [], ◌∷◌, map, length, drop, Some, None, Ok, Err, vec_items, Option, Result, ◌==◌, nat_le, nat_lt, slice_index, slice_index_or}
use Rattle.trace.specs.declared.fault.LineFault.{LineFault}
use Rattle.trace.specs.declared.fault.LineFault.TheVariants as fault
use Rattle.trace.specs.declared.command.Command.{Command}
use Rattle.trace.specs.declared.command.Command.TheVariants as command
use Rattle.trace.specs.declared.command.FabricLine.{FabricLine}
use Rattle.trace.specs.declared.command.Parts.{Parts}
use Rattle.trace.specs.declared.word.Field.{Field}
use Rattle.trace.specs.declared.word.MemoryKind.{MemoryKind}
use Rattle.trace.specs.declared.word.Word.{Word}
use Rattle.trace.specs.declared.word.Word.TheVariants.{Other, Number, Large, Kind}
use Rattle.trace.specs.Words.{word_of, words, all_numbers, in_field, fields_of, then}

-- What the first line asks for: boards, lines and a kind of memory.
pub record Setting : Type 0 where
  pub boards : ℕ
  pub lines : ℕ
  pub kind : MemoryKind

abbrev pub set_up : FabricLine → Setting
set_up f = record { boards = f.boards; lines = f.lines; kind = f.kind }

-- What a later line asks for: a load of board and line; a store of board, line, word and key; a replacement of board and line; a guard of line,
-- old key and new key; a collection of board; a number of slots.
pub data Order : Type 0 where
  load : (board line : ℕ) → Order
  store : (board line word key : ℕ) → Order
  replace : (board line : ℕ) → Order
  guard : (line old new : ℕ) → Order
  collect : (board : ℕ) → Order
  slots : (count : ℕ) → Order

abbrev pub meaning : Command → Order
meaning (command.Load b l) = load b l
meaning (command.Store b l w k) = store b l w k
meaning (command.Replace b l) = replace b l
meaning (command.Guard l o k) = guard l o k
meaning (command.Collect b) = collect b
meaning (command.Slots n) = slots n

abbrev pub board : Field
board = record { low = 0; high = 255 }

abbrev pub line_count : Field
line_count = record { low = 1; high = 64 }

abbrev pub line : Field
line = record { low = 0; high = 255 }

abbrev pub word : Field
word = record { low = 0; high = 2 ^ 64 - 1 }

abbrev pub key : Field
key = record { low = 0; high = 65535 }

abbrev pub slot_count : Field
slot_count = record { low = 1; high = 999 }

-- F: boards, lines, and the letter of a memory.
abbrev fabric_at : List Word → Word → Result Setting LineFault
fabric_at ws Other = Err fault.NotANumber
fabric_at ws (Number n) = Err fault.NotANumber
fabric_at ws Large = Err fault.NotANumber
fabric_at ws (Kind k) = then (fields_of (board ∷ line_count ∷ []) ws) (λ ns. Ok (record { boards = slice_index ns 0; lines = slice_index ns 1; kind = k }))

abbrev pub fabric_of : List Word → Result Setting LineFault
fabric_of ws = cond (length ws == 3) (fabric_at (slice_index_or ws 0 Other ∷ slice_index_or ws 1 Other ∷ []) (slice_index_or ws 2 Other)) (Err fault.WordCount)

-- O: any number of boards.
abbrev pub each_in : Field → List Word → Result (List ℕ) LineFault
each_in f [] = Ok []
each_in f (w ∷ ws) = then (in_field f w) (λ n. then (each_in f ws) (λ ns. Ok (n ∷ ns)))

abbrev pub boards_of : List Word → Result (List ℕ) LineFault
boards_of ws = cond (all_numbers ws) (each_in board ws) (Err fault.NotANumber)

-- L and R: board and line.
abbrev pub place_of : List Word → Result (ℕ × ℕ) LineFault
place_of ws = then (fields_of (board ∷ line ∷ []) ws) (λ ns. Ok (slice_index ns 0, slice_index ns 1))

abbrev pub load_of : List Word → Result Order LineFault
load_of ws = then (fields_of (board ∷ line ∷ []) ws) (λ ns. Ok (load (slice_index ns 0) (slice_index ns 1)))

abbrev pub replace_of : List Word → Result Order LineFault
replace_of ws = then (fields_of (board ∷ line ∷ []) ws) (λ ns. Ok (replace (slice_index ns 0) (slice_index ns 1)))

-- S: board, line, word and key.
abbrev pub store_of : List Word → Result Order LineFault
store_of ws = then (fields_of (board ∷ line ∷ word ∷ key ∷ []) ws) (λ ns. Ok (store (slice_index ns 0) (slice_index ns 1) (slice_index ns 2) (slice_index ns 3)))

-- K: line, old key and new key.
abbrev pub guard_of : List Word → Result Order LineFault
guard_of ws = then (fields_of (line ∷ key ∷ key ∷ []) ws) (λ ns. Ok (guard (slice_index ns 0) (slice_index ns 1) (slice_index ns 2)))

-- C: a board.
abbrev pub collect_of : List Word → Result Order LineFault
collect_of ws = then (fields_of (board ∷ []) ws) (λ ns. Ok (collect (slice_index ns 0)))

-- W: how many slots.
abbrev pub slots_of : List Word → Result Order LineFault
slots_of ws = then (fields_of (slot_count ∷ []) ws) (λ ns. Ok (slots (slice_index ns 0)))

-- L, S, R, K, C and W.
abbrev pub called : ℕ → List Word → Result Order LineFault
called c ws =
    cond (c == 76) (load_of ws)
    (cond (c == 83) (store_of ws)
    (cond (c == 82) (replace_of ws)
    (cond (c == 75) (guard_of ws)
    (cond (c == 67) (collect_of ws)
    (cond (c == 87) (slots_of ws) (Err fault.Letter))))))

-- A line of at most 200 bytes is a letter alone, or a letter, a space and words.
unfoldable pub apart : List ℕ → Result (ℕ × List Word) LineFault
apart s =
    cond (nat_le (length s) 200)
    (cond (length s == 1) (Ok (slice_index s 0, []))
    (cond (nat_lt 1 (length s) && slice_index s 1 == 32) (Ok (slice_index s 0, map word_of (words (drop 2 s)))) (Err fault.Letter)))
    (Err fault.NoLineEnd)

abbrev pub parts_of : Parts → ℕ × List Word
parts_of p = (p.letter, vec_items p.words)

-- F stands first, O second or nowhere, the others after them.
abbrev pub fabric_letter : ℕ → List Word → Result Setting LineFault
fabric_letter c ws = cond (c == 70) (fabric_of ws) (Err fault.Letter)

abbrev pub fabric_order : List ℕ → Result Setting LineFault
fabric_order s = then (apart s) (λ p. fabric_letter p.0 p.1)

abbrev pub list_order : List ℕ → Result (Option (List ℕ)) LineFault
list_order s = then (apart s) (λ p. cond (p.0 == 79) (then (boards_of p.1) (λ bs. Ok (Some bs))) (Ok None))

abbrev pub call_order : List ℕ → Result Order LineFault
call_order s = then (apart s) (λ p. called p.0 p.1)
