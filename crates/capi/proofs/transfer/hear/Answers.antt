use Rattle.std.proofs.Common.{refl, ◌∙◌, inl, inr}
use Rattle.std.proofs.lemmas.Result.{err_from_is_err_and}
use Rattle.link.specs.Report.{places_of}
use Rattle.capi.proofs.transfer.hear.Goals as goal

pub returns-in_err-offer_all : goal.returns-in_err-offer_all
returns-in_err-offer_all c =
    let p = err_from_is_err_and c.from_residual.result c.from_residual.ensures.1 in
    let heard = rw (c.new-receiver.ensures.code, c.new-receiver.ensures.places) at c.in_err-offer_all.ensures.heard in
    rw (p.1, p.2) (inr (c.in_err-offer_all.field-0.0, places_of c.offer_all.new.receiver.report, heard, refl, refl))

pub returns : goal.returns
returns c =
    let heard = rw (c.new-receiver.ensures.code, c.new-receiver.ensures.places) at c.in_ok-offer_all.ensures.heard in
    let same = c.seal.ensures.code ∙ c.offer_all.ensures.same ∙ c.new-receiver.ensures.code in
    let spells = rw (same, c.seal.ensures.report) at c.spell.ensures.spells in
    inl (places_of c.offer_all.new.receiver.report, heard, spells)
