use Rattle.rules.proofs.Numbers.{released_there}
use Rattle.rules.proofs.ledger.releases_grow_there.Goals as goal

pub returns : goal.returns
returns c = released_there
