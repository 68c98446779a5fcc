-- What a board's struct stands for.
use Rattle.std.specs.Prelude.{ℕ, List, [], map, get_or, Some, None, Option, slice_index_or}
use Rattle.std.specs.Option.{option_map}
use Rattle.copystate.specs.declared.states.State.{State}
use Rattle.copystate.specs.declared.states.State.TheVariants.{I}
use Rattle.rules.specs.Boards as rules
use Rattle.rules.specs.Boards.{Place, blank, free, posted, sent, served}
use Rattle.fabric.specs.declared.board.LineRecord.{LineRecord}
use Rattle.fabric.specs.declared.board.Request.{Request}
use Rattle.fabric.specs.declared.board.Stage.{Stage}
use Rattle.fabric.specs.declared.board.Stage.TheVariants.{Posted, Sent, Served}
use Rattle.fabric.specs.declared.board.Board.{Board}
use Rattle.fabric.specs.declared.fabric_core.Line.{Line}
use Rattle.fabric.specs.Queues.{row}

abbrev pub no_line : LineRecord
no_line = record { state = I; word = 0 }

unfoldable pub states_of : List LineRecord → ℕ → State
states_of rs l = (get_or rs l no_line).state

unfoldable pub words_of : List LineRecord → ℕ → ℕ
words_of rs l = (get_or rs l no_line).word

-- The place of a request by its stage.
abbrev pub place_at : Stage → Request → Place
place_at Posted q = posted q.line.at q.kind q.waited
place_at Sent q = sent q.line.at q.kind q.waited
place_at (Served r) q = served q.line.at q.kind r q.waited

abbrev pub place_of : Option Request → Place
place_of None = free
place_of (Some q) = place_at q.stage q

abbrev pub board_of : Board → rules.Board
board_of x = record { place = place_of x.request; list = row x.write_backs; last = x.last; mark = option_map (λ l. l.at) x.marked; state = states_of x.lines; word = words_of x.lines }

-- The boards of an array, and blank ones past its end.
unfoldable pub boards_of : List Board → ℕ → rules.Board
boards_of bs c = slice_index_or (map board_of bs) c blank

-- The rows and the keys of an array of lines.
unfoldable pub rows_of : List Line → ℕ → List ℕ
rows_of xs l = slice_index_or (map (λ (x : Line). row x.row) xs) l []

unfoldable pub keys_of : List Line → ℕ → ℕ
keys_of xs l = slice_index_or (map (λ (x : Line). x.key) xs) l 0
