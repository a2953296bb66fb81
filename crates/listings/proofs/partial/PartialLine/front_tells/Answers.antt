use Rattle.listings.proofs.Fronts.{front_tells}
use Rattle.listings.proofs.partial.PartialLine.front_tells.Goals as goal

pub returns : goal.returns
returns c = front_tells
