use Rattle.std.proofs.Common.{arith}
use Rattle.codes.proofs.InPlace.{replaced_more}
use Rattle.codes.proofs.slots.correct_list.Goals as goal

pub loop-slot-preserved : goal.loop-slot-preserved
loop-slot-preserved g c =
    let turn = c.loop-slot in
    replaced_more _ turn.slot-index c.args.slots.now turn.slots c.filled.result _ turn.invariant (omega arith) c.filled.ensures
