-- What the tests of the table are made of.
use Rattle.std.specs.Prelude.{Bool, true, false, not, List}
use Rattle.std.specs.List.{list_all}

abbrev pub implies : Bool → Bool → Bool
implies true b = b
implies false b = true

abbrev pub same : Bool → Bool → Bool
same true b = b
same false b = not b

-- the test passes at each of the list
abbrev pub every : {X : Type 0} → (X → Bool) → List X → Bool
every = list_all
