use Rattle.codes.specs.Slots.{Filled}
use Rattle.codes.proofs.InPlace.{Replaced}
use Rattle.codes.proofs.slots.correct_list.Given as goal

abbrev pub invariant-loop-slot : goal.invariant-loop-slot
invariant-loop-slot g l =
    let code = g.C.Code in
    Replaced (Filled (code.means l.code)) l.slot-index l.initial.slots l.slots
