use Rattle.std.proofs.Common.{get_or, ap, ◌∙◌}
use lib.Bits.{bit_xor}
use Rattle.link.specs.Report.{places_of}
use Rattle.runs.proofs.Carrying.{arriving_next}
use Rattle.runs.proofs.transport.offer_all.Goals as goal

pub loop-i-preserved : goal.loop-i-preserved
loop-i-preserved g c =
    let code = g.C.Code in
    let turn = c.loop-i in
    let offered = c.in_ok-offer in (
      c.offer.ensures.same ∙ turn.invariant.0,
      arriving_next code.means turn.receiver.code c.args.receiver.now.code
          c.args.words.now c.args.patterns.now turn.i (places_of turn.receiver.report) (places_of c.offer.new.self.report) _
          offered.field-0 turn.invariant.0 (ap (bit_xor (get_or c.args.words.now turn.i 0)) c.pattern_at.ensures) turn.invariant.1 offered.ensures.answer,
    )
