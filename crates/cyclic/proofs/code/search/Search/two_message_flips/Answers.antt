use Rattle.std.proofs.Common.{◌+◌, arith}
use Rattle.cyclic.specs.Facts.{facts}
use Rattle.cyclic.specs.Sought.{searched}
use Rattle.cyclic.proofs.Search.{entry_after, two_flips}
use Rattle.cyclic.proofs.code.search.Search.two_message_flips.Goals as goal

pub returns-then-two-most : goal.returns-then-two-most
returns-then-two-most c =
    let self = c.args.self.now in
    let rows = c.message_rows-rows.result.now in
    let size = c.message_rows-rows.ensures.size in
    let next = c.pairs.i + 1 in
    two_flips (searched self) (facts self.code.now.generator) rows c.message_rows-rows.ensures self.syndrome c.pairs.i (next + c.loop-j.j)
    c.message_flip-then-two-most.result c.message_flip.result _ self.below (omega arith) (omega arith)
    c.message_flip-then-two-most.ensures c.message_flip.ensures (entry_after rows next _ c.loop-j.j c.loop-j-test.true)
    (omega (arith, c.if-two-most.true, c.in_ok-most.ensures))
