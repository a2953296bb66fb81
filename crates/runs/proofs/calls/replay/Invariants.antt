use Rattle.std.proofs.Common.{◌≡◌, take}
use Rattle.link.specs.Report.{places_of, flips_of}
use Rattle.runs.specs.Book.{book, Demanded}
use Rattle.runs.proofs.calls.replay.Given as goal

abbrev pub invariant-loop-call : goal.invariant-loop-call
invariant-loop-call g l =
    let code = g.C.Code in
    let m = code.means l.initial.receiver.code in
    (l.receiver.code ≡ l.initial.receiver.code)
    × Demanded m (book m (take l.call-index l.calls)) (places_of l.receiver.report) (flips_of l.receiver.report)
