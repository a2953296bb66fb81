use Rattle.std.proofs.Common.{arith, pow_mono}
use Rattle.survey.proofs.patterns.is_within.Goals as goal

pub returns-then-length-ge-BITS : goal.returns-then-length-ge-BITS
returns-then-length-ge-BITS c =
    let wide = pow_mono c.if-length-ge-BITS.true in
    omega (arith, wide)
