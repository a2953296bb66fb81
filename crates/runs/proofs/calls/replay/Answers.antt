use Rattle.std.proofs.Common.{◌∙◌}
use Rattle.link.specs.Report.{places_of, flips_of}
use Rattle.runs.proofs.Following.{run_more}
use Rattle.runs.proofs.calls.replay.Goals as goal

pub loop-call-preserved : goal.loop-call-preserved
loop-call-preserved g c =
    let turn = c.loop-call in
    let after = c.make.new.receiver.report in (
      c.make.ensures.same ∙ turn.invariant.0,
      run_more g.C.Code.means turn.receiver.code c.new-receiver.result.code c.args.calls.now turn.call-index _ (places_of turn.receiver.report)
          (places_of after) (flips_of turn.receiver.report) (flips_of after) turn.invariant.0 c.loop-call-test.true turn.invariant.1
          c.make.ensures.follows,
    )
