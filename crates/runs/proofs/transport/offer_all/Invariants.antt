use Rattle.std.proofs.Common.{◌≡◌}
use Rattle.link.specs.Report.{places_of}
use Rattle.runs.specs.Steps.{Arriving}
use Rattle.runs.proofs.transport.offer_all.Given as goal

abbrev pub invariant-loop-i : goal.invariant-loop-i
invariant-loop-i g l =
    let code = g.C.Code in
    (l.receiver.code ≡ l.initial.receiver.code)
    × Arriving (code.means l.initial.receiver.code) l.words l.patterns l.i (places_of l.receiver.report)
