-- What a fabric's tables and its memory stand for.
use Rattle.memory.specs.declared.interface.LineMemory as memory
use Rattle.rules.specs.Cells.{Cells}
use Rattle.fabric.specs.declared.fabric_core.Core.{Core}
use Rattle.fabric.specs.Boards.{boards_of, keys_of, rows_of}

unfoldable pub view : {M : Type 0} → memory.Ghosts M → Core M → Cells
view m f = record { boards = boards_of f.boards; rows = rows_of f.lines; words = m.words f.memory; keys = keys_of f.lines; size = m.size f.memory }
