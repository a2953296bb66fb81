use Rattle.std.proofs.Common.{map, sym, ap, ◌∙◌, arith}
use Rattle.link.specs.declared.report.Place.TheVariants.{Settled}
use Rattle.link.specs.Report.{heard_in}
use Rattle.link.proofs.Places.{gap_is_first, settled_more}
use Rattle.link.proofs.report.Report.messages.Goals as goal

pub returns-in_default : goal.returns-in_default
returns-in_default c =
    let turn = c.loop-at in
    let shown = c.heard-heard-items in
    let first =
    gap_is_first shown.result.now (heard_in c.args.self.now) turn.messages.items turn.at _ shown.ensures.heard c.loop-at-test.true
    turn.invariant.settled (sym c.place.ensures ∙ c.in_default.is) in
    (omega (arith, first.0, first.1), search (first.0, c.new.ensures, c.at.ensures))

pub loop-at-preserved : goal.loop-at-preserved
loop-at-preserved c =
    let turn = c.loop-at in
    let shown = c.heard-heard-items in
    record {
      read = omega arith;
      settled =
          settled_more shown.result.now (heard_in c.args.self.now) turn.messages.items turn.at _ shown.ensures.heard c.loop-at-test.true
          turn.invariant.settled c.in-Settled.message (sym c.place.ensures ∙ c.in-Settled.is)
          ∙ ap (map Settled) (sym c.push.ensures.items);
    }
