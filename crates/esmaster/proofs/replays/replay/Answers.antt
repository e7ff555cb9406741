use Rattle.esmaster.proofs.Ends.{replays_of}
use Rattle.esmaster.proofs.replays.replay.Goals as goal

pub returns : goal.returns
returns g c = replays_of _ _ _ c.perform.ensures
