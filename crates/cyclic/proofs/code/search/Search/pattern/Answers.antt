use Rattle.cyclic.specs.Facts.{facts}
use Rattle.cyclic.specs.Sought.{searched, Sought}
use Rattle.cyclic.proofs.Reach.{either_way}
use Rattle.cyclic.proofs.Search.{none_weaker}
use Rattle.cyclic.proofs.code.search.Search.pattern.Goals as goal

pub returns : goal.returns
returns c =
    let self = c.args.self.now in
    none_weaker (Sought self) c.many_message_flips.result (either_way (searched self) (facts self.code.now.generator) c.in_default.ensures)
    c.many_message_flips.ensures
