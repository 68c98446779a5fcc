-- What a replay is still to print, and its next piece.
use Rattle.std.specs.Prelude.{ℕ, List, [], ◌∷◌, length}
use Rattle.std.specs.Option.{option_map_or}
use Rattle.memory.specs.declared.interface.LineMemory as memory
use Rattle.schedule.specs.declared.Schedule as schedule
use Rattle.trace.specs.Commands.{call_order}
use Rattle.trace.specs.Pieces.{pieces}
use Rattle.listing.specs.declared.replay.Replay.{Replay}
use Rattle.listing.specs.Listing.{Stand, ending, line_print, listed}
use Rattle.listing.specs.Sessions.{stand_of}

abbrev pub first_print : ℕ → Stand → List (List ℕ) → List ℕ
first_print n s [] = []
first_print n s (p ∷ []) = ending n p
first_print n s (p ∷ q ∷ ps) = line_print n s (call_order p)

-- All that is still to print.
abbrev pub coming : {S M : Type 0} → schedule.Ghosts S → memory.Ghosts M → Replay S M → List ℕ
coming s m r = option_map_or (λ rest. listed r.line (stand_of s m r.session) (pieces 10 rest.now)) r.rest []

-- What the next line of the trace prints.
abbrev pub piece : {S M : Type 0} → schedule.Ghosts S → memory.Ghosts M → Replay S M → List ℕ
piece s m r = option_map_or (λ rest. first_print r.line (stand_of s m r.session) (pieces 10 rest.now)) r.rest []

-- How many bytes of the trace are still to read.
abbrev pub unread : {S M : Type 0} → Replay S M → ℕ
unread r = option_map_or (λ rest. length rest.now) r.rest 0
