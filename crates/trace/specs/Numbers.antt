-- Numbers in decimal with no leading zero.
use Rattle.std.specs.Prelude.{◌≡◌, ℕ, ◌+◌, ◌-◌, ◌*◌, ◌^◌, ◌<◌, Bool, cond, ◌&&◌, List, [], ◌∷◌, Some, None, Ok, Err, decimal, Option, Result, ◌==◌, nat_le, nat_lt}
use Rattle.trace.specs.declared.number.NumberFault.{NumberFault}
use Rattle.trace.specs.declared.number.NumberFault.TheVariants.{NotANumber, TooLarge}

-- The law of numbers: a text is read as n, below 2 ^ 64, just where it is n in decimal.
pub record ReadsDecimal (s : List ℕ) (r : Option ℕ) : Type 0 where
  pub reads : (n : ℕ) → n < 2 ^ 64 → s ≡ decimal n → r ≡ Some n
  pub writes : (n : ℕ) → n < 2 ^ 64 → r ≡ Some n → s ≡ decimal n

abbrev pub is_digit : ℕ → Bool
is_digit c = nat_le 48 c && nat_le c 57

-- The digits of a text after n, if it has nothing else.
abbrev pub digits_on : ℕ → List ℕ → Option ℕ
digits_on n [] = Some n
digits_on n (c ∷ cs) = cond (is_digit c) (digits_on (n * 10 + (c - 48)) cs) None

abbrev pub after_zero : List ℕ → Option ℕ
after_zero [] = Some 0
after_zero (c ∷ cs) = None

-- The number that a text writes, if it writes one.
abbrev pub number : List ℕ → Option ℕ
number [] = None
number (c ∷ cs) = cond (c == 48) (after_zero cs) (digits_on 0 (c ∷ cs))

-- What the code keeps of a number: no field is as large as 2 ^ 64.
abbrev pub read_as : Option ℕ → Result ℕ NumberFault
read_as None = Err NotANumber
read_as (Some n) = cond (nat_lt n (2 ^ 64)) (Ok n) (Err TooLarge)
