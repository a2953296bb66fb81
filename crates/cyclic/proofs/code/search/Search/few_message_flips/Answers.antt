use lib.Count.{ones}
use Rattle.cyclic.specs.Facts.{facts}
use Rattle.cyclic.specs.Sought.{searched, Sought}
use Rattle.cyclic.proofs.Search.{parity_only, within, few_none, passed_heavy, none_weaker}
use Rattle.cyclic.proofs.code.search.Search.few_message_flips.Goals as goal

pub returns-then-self : goal.returns-then-self
returns-then-self c =
    let self = c.args.self.now in
    let f = facts self.code.now.generator in
    within (searched self) f (ones self.syndrome) self.syndrome self.syndrome (parity_only (searched self) f self.syndrome self.below) c.if-self.true

pub returns : goal.returns
returns c =
    let self = c.args.self.now in
    let f = facts self.code.now.generator in
    none_weaker (Sought self) c.two_message_flips.result
    (λ pairs. few_none (searched self) f self.syndrome c.if-self.false (passed_heavy (searched self) f self.syndrome c.in_default.ensures pairs))
    c.two_message_flips.ensures
