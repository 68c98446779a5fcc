-- The published numbers of the refusals, and the words of the deeds.
use Rattle.std.specs.Prelude.{ℕ, List, codes}
use Rattle.rules.specs.declared.deed.Deed.{Deed}
use Rattle.rules.specs.declared.deed.Deed.TheVariants.{Idle, GetS, GetM, GetSServed, GetMServed, Upg, Data, PutM}
use Rattle.rules.specs.declared.refusal.Refusal.{Refusal}
use Rattle.rules.specs.declared.refusal.Refusal.TheVariants.{NoBoard, NoLine, Busy, KeyTooLarge, KeyDiffers, NothingToReplace, ReplacementWaits, NoRequest, NotClaimed, NotServed}

abbrev pub number : Refusal → ℕ
number NoBoard = 5
number NoLine = 6
number Busy = 7
number KeyTooLarge = 8
number KeyDiffers = 9
number NothingToReplace = 10
number ReplacementWaits = 11
number NoRequest = 12
number NotClaimed = 13
number NotServed = 14

abbrev pub deed_word : Deed → List ℕ
deed_word Idle = codes "idle"
deed_word GetS = codes "GetS"
deed_word GetM = codes "GetM"
deed_word GetSServed = codes "GetS+"
deed_word GetMServed = codes "GetM+"
deed_word Upg = codes "Upg"
deed_word Data = codes "Data"
deed_word PutM = codes "PutM"
