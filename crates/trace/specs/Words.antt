-- What a word is, and which field takes it.
use Rattle.std.specs.Prelude.{ℕ, ◌^◌, Bool, true, false, cond, ◌&&◌, List, [], ◌∷◌, length, Some, None, Ok, Err, Option, Result, ◌==◌, nat_le, nat_lt, slice_index}
use Rattle.std.specs.List.{list_all}
use Rattle.trace.specs.declared.fault.LineFault.{LineFault}
use Rattle.trace.specs.declared.fault.LineFault.TheVariants as fault
use Rattle.trace.specs.declared.word.MemoryKind.{MemoryKind}
use Rattle.trace.specs.declared.word.MemoryKind.TheVariants.{Flat, Window, Chained}
use Rattle.trace.specs.declared.word.UnknownKind.{UnknownKind}
use Rattle.trace.specs.declared.word.Field.{Field}
use Rattle.trace.specs.declared.word.Word.{Word}
use Rattle.trace.specs.declared.word.Word.TheVariants.{Number, Large, Kind, Other}
use Rattle.trace.specs.Numbers.{number}
use Rattle.trace.specs.Pieces.{pieces}

-- Words are split by one space.
abbrev pub words : List ℕ → List (List ℕ)
words = pieces 32

-- The memory of a letter.
abbrev pub kind_of : ℕ → Result MemoryKind UnknownKind
kind_of c = cond (c == 65) (Ok Flat) (cond (c == 66) (Ok Window) (cond (c == 67) (Ok Chained) (Err (record { 0 = c }))))

abbrev is_letter : ℕ → List ℕ → Bool
is_letter c w = length w == 1 && slice_index w 0 == c

abbrev number_word : Option ℕ → Word
number_word None = Other
number_word (Some n) = cond (nat_lt n (2 ^ 64)) (Number n) Large

-- A memory's letter A, B or C, a number, or neither.
abbrev pub word_of : List ℕ → Word
word_of w = cond (is_letter 65 w) (Kind Flat) (cond (is_letter 66 w) (Kind Window) (cond (is_letter 67 w) (Kind Chained) (number_word (number w))))

abbrev pub is_number : Word → Bool
is_number (Number n) = true
is_number Large = true
is_number (Kind k) = false
is_number Other = false

abbrev pub all_numbers : List Word → Bool
all_numbers = list_all is_number

-- The number of a word that lies in a field.
abbrev pub in_field : Field → Word → Result ℕ LineFault
in_field f (Number n) = cond (nat_le f.low n && nat_le n f.high) (Ok n) (Err fault.OutOfField)
in_field f Large = Err fault.OutOfField
in_field f (Kind k) = Err fault.NotANumber
in_field f Other = Err fault.NotANumber

abbrev pub then : {A B E : Type 0} → Result A E → (A → Result B E) → Result B E
then (Ok x) f = f x
then (Err e) f = Err e

-- Each word in its own field; the first that lies outside is the fault.
abbrev pub in_fields : List Field → List Word → Result (List ℕ) LineFault
in_fields [] ws = Ok []
in_fields (f ∷ fs) [] = Err fault.WordCount
in_fields (f ∷ fs) (w ∷ ws) = then (in_field f w) (λ n. then (in_fields fs ws) (λ ns. Ok (n ∷ ns)))

-- As many words as fields, then all numbers, then each in its field.
unfoldable pub fields_of : List Field → List Word → Result (List ℕ) LineFault
fields_of fs ws = cond (length ws == length fs) (cond (all_numbers ws) (in_fields fs ws) (Err fault.NotANumber)) (Err fault.WordCount)
