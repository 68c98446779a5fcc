-- The copy states' table, by codes, and what a state is.
use Rattle.std.proofs.Common.{ℕ, List, [], ◌∷◌, get_or}

unfoldable pub table : List (List ℕ)
table =
    (0 ∷ 3 ∷ 4 ∷ 0 ∷ 0 ∷ 0 ∷ 0 ∷ 0 ∷ 0 ∷ 0 ∷ [])
    ∷ (5 ∷ 1 ∷ 1 ∷ 0 ∷ 1 ∷ 1 ∷ 1 ∷ 1 ∷ 0 ∷ 0 ∷ [])
    ∷ (2 ∷ 2 ∷ 2 ∷ 6 ∷ 2 ∷ 2 ∷ 2 ∷ 7 ∷ 6 ∷ 2 ∷ [])
    ∷ (3 ∷ 3 ∷ 3 ∷ 3 ∷ 1 ∷ 3 ∷ 3 ∷ 3 ∷ 9 ∷ 3 ∷ [])
    ∷ (4 ∷ 4 ∷ 4 ∷ 4 ∷ 2 ∷ 4 ∷ 4 ∷ 10 ∷ 8 ∷ 4 ∷ [])
    ∷ (5 ∷ 5 ∷ 4 ∷ 5 ∷ 5 ∷ 2 ∷ 5 ∷ 5 ∷ 0 ∷ 0 ∷ [])
    ∷ (6 ∷ 6 ∷ 6 ∷ 6 ∷ 6 ∷ 6 ∷ 0 ∷ 6 ∷ 6 ∷ 6 ∷ [])
    ∷ (7 ∷ 7 ∷ 7 ∷ 6 ∷ 7 ∷ 7 ∷ 1 ∷ 7 ∷ 6 ∷ 7 ∷ [])
    ∷ (8 ∷ 8 ∷ 8 ∷ 8 ∷ 6 ∷ 8 ∷ 8 ∷ 8 ∷ 8 ∷ 8 ∷ [])
    ∷ (9 ∷ 9 ∷ 9 ∷ 9 ∷ 0 ∷ 9 ∷ 9 ∷ 9 ∷ 9 ∷ 9 ∷ [])
    ∷ (10 ∷ 10 ∷ 10 ∷ 10 ∷ 7 ∷ 10 ∷ 10 ∷ 10 ∷ 8 ∷ 10 ∷ [])
    ∷ []

-- the state after the event
unfoldable pub next : ℕ → ℕ → ℕ
next s e = get_or (get_or table s []) e 11

-- what a state is: a row of flags by state code
abbrev pub flag : List ℕ → ℕ → ℕ
flag xs s = get_or xs s 0

-- one of M, MIwb, MSwb
unfoldable pub holds : ℕ → ℕ
holds s = flag (0 ∷ 0 ∷ 1 ∷ 0 ∷ 0 ∷ 0 ∷ 1 ∷ 1 ∷ []) s

-- one of S, SMw, M, MIwb, MSwb
unfoldable pub copies : ℕ → ℕ
copies s = flag (0 ∷ 1 ∷ 1 ∷ 0 ∷ 0 ∷ 1 ∷ 1 ∷ 1 ∷ []) s

-- one of ISd, IMd, IMdI, ISdI, IMdS
unfoldable pub waits : ℕ → ℕ
waits s = flag (0 ∷ 0 ∷ 0 ∷ 1 ∷ 1 ∷ 0 ∷ 0 ∷ 0 ∷ 1 ∷ 1 ∷ 1 ∷ []) s

-- one of MIwb, MSwb
unfoldable pub writes : ℕ → ℕ
writes s = flag (0 ∷ 0 ∷ 0 ∷ 0 ∷ 0 ∷ 0 ∷ 1 ∷ 1 ∷ []) s

-- waits for a copy to write: IMd, IMdI, IMdS
unfoldable pub wants : ℕ → ℕ
wants s = flag (0 ∷ 0 ∷ 0 ∷ 0 ∷ 1 ∷ 0 ∷ 0 ∷ 0 ∷ 1 ∷ 0 ∷ 1 ∷ []) s

-- will give up a copy to write for another that waits: IMdI, IMdS
unfoldable pub gives : ℕ → ℕ
gives s = flag (0 ∷ 0 ∷ 0 ∷ 0 ∷ 0 ∷ 0 ∷ 0 ∷ 0 ∷ 1 ∷ 0 ∷ 1 ∷ []) s
