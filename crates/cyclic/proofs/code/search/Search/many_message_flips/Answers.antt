use Rattle.std.proofs.Common.{◌≡◌, sym, subst, rules}
use Rattle.cyclic.specs.Polynomial.{rotate}
use Rattle.cyclic.specs.Generator.{parity_bits}
use Rattle.cyclic.specs.Search.{Pattern}
use Rattle.cyclic.specs.Facts.{facts}
use Rattle.cyclic.specs.Sought.{searched, Sought}
use Rattle.cyclic.specs.Turns.{shifts, shifted_lt}
use Rattle.cyclic.proofs.Reach.{as_message, back_from, none_from}
use Rattle.cyclic.proofs.Search.{mapped}
use Rattle.cyclic.proofs.code.search.Search.many_message_flips.Goals as goal

pub remainder-requires : goal.remainder-requires
remainder-requires c =
    let self = c.args.self.now in
    let f = facts self.code.now.generator in
    let h = as_message (searched self) f self.syndrome self.below in
    rw (c.parity_bits.ensures, shifts (searched self) f self.syndrome h) (shifted_lt (searched self) f self.syndrome h)

pub returns : goal.returns
returns c =
    let self = c.args.self.now in
    let f = facts self.code.now.generator in
    let is = rw c.parity_bits.ensures at c.remainder.ensures.value in
    mapped (Pattern (searched self) (searched self).t c.remainder.result) (Sought self) _ c.few_message_flips.result c.map.result
    (none_from (searched self) f self.syndrome c.remainder.result self.below is)
    (λ e x p made.
    let back : x ≡ rotate (searched self).k (parity_bits (searched self)) e = search rules in
    subst (Sought self) (sym back) (back_from (searched self) f self.syndrome e c.remainder.result self.below is p))
    c.few_message_flips.ensures c.map.ensures.cases
