use Rattle.std.proofs.Common.{◌∙◌}
use Rattle.std.proofs.lemmas.Result.{err_from_is_err_and}
use Rattle.link.specs.Report.{places_of}
use Rattle.runs.proofs.Carrying.{stopped_over, spelled_over}
use Rattle.runs.proofs.transport.carry.Goals as goal

pub returns-in_err-offer_all : goal.returns-in_err-offer_all
returns-in_err-offer_all g c =
    let code = g.C.Code in
    let out = c.from_residual-in_err-offer_all in
    let p = err_from_is_err_and out.result out.ensures.1 in
    let both =
    stopped_over code.means c.args.code (g.met.C.Code.lawful c.args.code)
    c.args.table.now c.args.patterns.now c.args.buffer.now _ c.send.new.words c.in_ok-count.count
    c.in_ok-count.ensures.sent c.new-receiver.result.code c.new-receiver.ensures.code c.in_err-offer_all.field-0.0
    c.in_err-offer_all.ensures.heard in
    rw (p.1, p.2) (record { carried = both.0; arrives = both.1 })

pub returns : goal.returns
returns g c =
    let code = g.C.Code in
    let both =
    spelled_over code.means c.args.code (g.met.C.Code.lawful c.args.code)
    c.args.table.now c.args.patterns.now c.args.buffer.now _ c.send.new.words c.in_ok-count.count
    c.in_ok-count.ensures.sent c.new-receiver.result.code c.seal.result.code c.new-receiver.ensures.code
    (c.seal.ensures.code ∙ c.offer_all.ensures.same ∙ c.new-receiver.ensures.code) c.in_ok-count.ensures.bytes
    (places_of c.offer_all.new.receiver.report) c.in_ok-offer_all.ensures.heard c.spell.result c.spell.new.buffer
    (rw c.seal.ensures.report at c.spell.ensures.spells) in
    record { carried = both.0; arrives = both.1 }
