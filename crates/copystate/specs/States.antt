-- The states' codes, and what a board may do in each state.
use Rattle.std.specs.Prelude.{ℕ, Bool, List, [], ◌∷◌, ◌==◌}
use Rattle.std.specs.List.{list_any}
use Rattle.copystate.specs.declared.states.State.{State}
use Rattle.copystate.specs.declared.states.State.TheVariants.{I, S, M, ISd, IMd, SMw, MIwb, MSwb, IMdI, ISdI, IMdS}

abbrev pub state_code : State → ℕ
state_code I = 0
state_code S = 1
state_code M = 2
state_code ISd = 3
state_code IMd = 4
state_code SMw = 5
state_code MIwb = 6
state_code MSwb = 7
state_code IMdI = 8
state_code ISdI = 9
state_code IMdS = 10

abbrev pub same_state : State → State → Bool
same_state s t = state_code s == state_code t

-- what a board can be in a state
pub data Role : Type 0 where
  copy : Role
  load : Role
  store : Role
  hold : Role
  wait : Role
  want : Role
  upgrade : Role
  write_back : Role

abbrev pub roles_of : State → List Role
roles_of I = []
roles_of S = copy ∷ load ∷ []
roles_of M = copy ∷ load ∷ store ∷ hold ∷ []
roles_of ISd = wait ∷ []
roles_of IMd = wait ∷ want ∷ []
roles_of SMw = copy ∷ upgrade ∷ []
roles_of MIwb = copy ∷ load ∷ store ∷ hold ∷ write_back ∷ []
roles_of MSwb = copy ∷ load ∷ store ∷ hold ∷ write_back ∷ []
roles_of IMdI = wait ∷ want ∷ []
roles_of ISdI = wait ∷ []
roles_of IMdS = wait ∷ want ∷ []

abbrev pub role_code : Role → ℕ
role_code copy = 0
role_code load = 1
role_code store = 2
role_code hold = 3
role_code wait = 4
role_code want = 5
role_code upgrade = 6
role_code write_back = 7

abbrev pub among : List Role → Role → Bool
among qs r = list_any (λ q. role_code q == role_code r) qs

-- the board has the line's word
abbrev pub copies : State → Bool
copies s = among (roles_of s) copy

-- a load is answered at once
abbrev pub loads : State → Bool
loads s = among (roles_of s) load

-- a store is carried out at once
abbrev pub stores : State → Bool
stores s = among (roles_of s) store

-- the board is the line's holder: its word counts before the memory's
abbrev pub holds : State → Bool
holds s = among (roles_of s) hold

-- the board has sent a request and waits for data
abbrev pub waits : State → Bool
waits s = among (roles_of s) wait

-- the board waits for data to write
abbrev pub wants : State → Bool
wants s = among (roles_of s) want

-- the board has a copy that it is to write, and no request sent yet
abbrev pub upgrades : State → Bool
upgrades s = among (roles_of s) upgrade

-- the board is to write its word back
abbrev pub writes_back : State → Bool
writes_back s = among (roles_of s) write_back

abbrev pub modified : State → Bool
modified s = same_state s M
