use Rattle.cyclic.specs.Generator.{numbers}
use Rattle.cyclic.specs.Facts.{facts}
use Rattle.cyclic.proofs.Reach.{rotates}
use Rattle.cyclic.proofs.code.Cyclic.rotate_back.Goals as goal

pub returns : goal.returns
returns c =
    let code = c.args.self.now.generator in
    rw c.parity_bits-parity.ensures (rotates (numbers code) (facts code) c.args.word c.requires)
