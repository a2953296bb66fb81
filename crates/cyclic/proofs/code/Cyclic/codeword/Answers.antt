use Rattle.cyclic.specs.Generator.{numbers}
use Rattle.cyclic.specs.Codewords.{encoded}
use Rattle.cyclic.specs.Facts.{facts}
use Rattle.cyclic.specs.Turns.{shifts, shifted_lt}
use Rattle.cyclic.proofs.code.Cyclic.codeword.Goals as goal

pub remainder-requires : goal.remainder-requires
remainder-requires c =
    let code = c.args.self.now.generator in
    let m = c.args.message in
    rw (c.parity_bits.ensures, shifts (numbers code) (facts code) m c.requires) (shifted_lt (numbers code) (facts code) m c.requires)

pub returns : goal.returns
returns c =
    let code = c.args.self.now.generator in
    let m = c.args.message in
    rw (c.remainder.ensures.value, c.parity_bits.ensures, shifts (numbers code) (facts code) m c.requires) (encoded (numbers code) (facts code) m c.requires)
