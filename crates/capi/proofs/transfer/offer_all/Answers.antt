use Rattle.std.proofs.Common.{Ok, Err, ◌∙◌, arith}
use Rattle.std.proofs.lemmas.Result.{err_from_is_err_and}
use Rattle.link.specs.Report.{places_of}
use Rattle.capi.proofs.Hearing.{heard_more, heard_stop, heard_end}
use Rattle.capi.proofs.transfer.offer_all.Goals as goal

pub loop-word-preserved : goal.loop-word-preserved
loop-word-preserved c =
    let turn = c.loop-word in
    let offered = rw turn.invariant.0 at c.in_ok-offer.ensures.answer in (
      c.offer.ensures.same ∙ turn.invariant.0,
      λ r after h.
          turn.invariant.1 r after
          (heard_more _ c.args.words.now turn.word-index (places_of turn.receiver.report) (omega arith) c.in_ok-offer.field-0 (places_of c.offer.new.self.report) offered r after h),
    )

pub returns-in_err-offer : goal.returns-in_err-offer
returns-in_err-offer c =
    let turn = c.loop-word in
    let after = places_of c.offer.new.self.report in
    let f = c.in_err-offer.field-0.0 in
    let p = err_from_is_err_and c.from_residual.result c.from_residual.ensures.1 in
    let refused = rw turn.invariant.0 at c.in_err-offer.ensures.answer in
    record {
      same = c.offer.ensures.same ∙ turn.invariant.0;
      heard = rw (p.1, p.2) (turn.invariant.1 (Err f) after (heard_stop _ c.args.words.now turn.word-index (places_of turn.receiver.report) (omega arith) f after refused));
    }

pub returns : goal.returns
returns c =
    let turn = c.loop-word in
    let ps = places_of turn.receiver.report in
    record { same = turn.invariant.0; heard = turn.invariant.1 (Ok tt) ps (heard_end _ c.args.words.now turn.word-index ps (omega arith)) }
