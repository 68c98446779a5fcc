use Rattle.listing.specs.Replays.{unread}
use Rattle.replay.proofs.play.Given as goal

abbrev pub decreases-loop-text : goal.decreases-loop-text
decreases-loop-text l = unread l.replay
