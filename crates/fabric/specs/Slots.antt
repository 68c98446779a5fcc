-- What a slot's code says was done, with what the fabric holds after.
use Rattle.std.specs.Option.{option_map}
use Rattle.rules.specs.Cells.{Cells}
use Rattle.rules.specs.Slots as rules
use Rattle.fabric.specs.declared.fabric_core.slot.Did.{Did}

abbrev pub done : Did → Cells → rules.Did
done d s = record { deed = d.deed; line = option_map (λ l. l.at) d.line; after = s }
