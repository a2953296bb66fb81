use Rattle.std.proofs.Common.{sym, subst}
use Rattle.link.specs.Report.{places_of, flips_of}
use Rattle.runs.specs.declared.calls.Call.{Call}
use Rattle.runs.specs.Book.{noted, Demanded}
use Rattle.runs.proofs.Following.{offer_noted, repeat_noted}
use Rattle.runs.proofs.calls.make.Goals as goal

pub returns-in-Offer-clause-follows : goal.returns-in-Offer-clause-follows
returns-in-Offer-clause-follows g c ws kept =
    let m = g.C.Code.means c.args.receiver.now.code in
    let after = c.offer.new.self.report in
    subst (λ (x : Call). Demanded m (noted m ws x) (places_of after) (flips_of after)) (sym c.in-Offer.is)
    (offer_noted kept c.in-Offer.word (places_of after) (flips_of after) c.offer.result c.offer.ensures.answer c.offer.ensures.flips)

pub returns-in-Repeat-clause-follows : goal.returns-in-Repeat-clause-follows
returns-in-Repeat-clause-follows g c ws kept =
    let code = g.C.Code in
    let m = code.means c.args.receiver.now.code in
    let after = c.repeat.new.self.report in
    subst (λ (x : Call). Demanded m (noted m ws x) (places_of after) (flips_of after)) (sym c.in-Repeat.is)
    (repeat_noted (g.met.C.Code.lawful c.args.receiver.now.code) kept c.in-Repeat.place c.in-Repeat.word (places_of after) (flips_of after)
    c.repeat.result c.repeat.ensures.answer c.repeat.ensures.flips)
