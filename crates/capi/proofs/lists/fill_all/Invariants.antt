use Rattle.codes.proofs.InPlace.{Replaced}
use Rattle.listings.specs.Choice.{choice_means}
use Rattle.capi.specs.Lists.{FilledTo}
use Rattle.capi.proofs.lists.fill_all.Given as goal

abbrev pub invariant-loop-slot : goal.invariant-loop-slot
invariant-loop-slot l = Replaced (FilledTo (choice_means l.code)) l.slot-index l.initial.slots l.slots
