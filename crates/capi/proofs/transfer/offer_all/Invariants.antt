use Rattle.std.proofs.Common.{◌≡◌, List, drop, Result}
use Rattle.codes.specs.declared.fault.Fault.{Fault}
use Rattle.link.specs.declared.report.Place.{Place}
use Rattle.link.specs.Report.{places_of}
use Rattle.listings.specs.Choice.{choice_means}
use Rattle.capi.specs.Transfer.{HeardAll}
use Rattle.capi.proofs.transfer.offer_all.Given as goal

-- what comes of the words that are left is what comes of all
abbrev pub invariant-loop-word : goal.invariant-loop-word
invariant-loop-word l =
    (l.receiver.code ≡ l.initial.receiver.code)
    × ((r : Result (Unit {0}) Fault) (after : List Place)
    → HeardAll (choice_means l.initial.receiver.code) (places_of l.receiver.report) (drop l.word-index l.words) r after
    → HeardAll (choice_means l.initial.receiver.code) (places_of l.initial.receiver.report) l.words r after)
