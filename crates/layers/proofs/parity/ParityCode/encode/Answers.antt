use Rattle.std.proofs.Common.{arith}
use Rattle.std.proofs.lemmas.Grind.{common_steps}
use Rattle.layers.specs.ParityLaws.{parity_appended, appended_message}
use Rattle.layers.proofs.ParityCalls.{parity_room}
use Rattle.layers.proofs.parity.ParityCode.encode.Goals as goal

pub append_parity-requires : goal.append_parity-requires
append_parity-requires g c =
    let below = c.in_ok-below in
    parity_room (g.met.C.Code.lawful c.args.self.now.below) below.below below.ensures.0.0 below.ensures.1.0

pub returns : goal.returns
returns g c =
    let law = g.met.C.Code.lawful c.args.self.now.below in
    let below = c.in_ok-below in
    let word = parity_appended law below.below below.ensures.1.0 in
    let message = appended_message law below.below in
    grind (arith, common_steps, word, message)
