use Rattle.engine.proofs.Rehearsed.{waits_back}
use Rattle.engine.proofs.known.waits_come_back.Goals as goal

pub returns : goal.returns
returns c = waits_back
