-- The published numbers of the schedules' refusals.
use Rattle.std.specs.Prelude.{ℕ}
use Rattle.schedule.specs.declared.refusal.ScheduleRefusal.{ScheduleRefusal}
use Rattle.schedule.specs.declared.refusal.ScheduleRefusal.TheVariants.{BoardCount, ListLength, ForeignBoard, MissingBoard}

abbrev pub number : ScheduleRefusal → ℕ
number BoardCount = 1
number ListLength = 2
number ForeignBoard = 3
number MissingBoard = 4
