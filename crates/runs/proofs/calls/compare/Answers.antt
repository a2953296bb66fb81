use Rattle.link.specs.Report.{places_of, flips_of}
use Rattle.runs.proofs.Comparing.{runs_from}
use Rattle.runs.proofs.calls.compare.Goals as goal

pub returns-clause-law : goal.returns-clause-law
returns-clause-law g c =
    let one = c.replay-first.result.report in
    let other = c.replay-second.result.report in
    runs_from (g.met.C.Code.lawful c.args.one) _ c.args.calls.now c.args.others.now (places_of one) (flips_of one) (places_of other)
    (flips_of other) c.replay-first.ensures.places c.replay-second.ensures.places
