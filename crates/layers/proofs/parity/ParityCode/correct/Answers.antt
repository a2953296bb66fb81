use Rattle.std.proofs.Common.{◌<◌, ◌≤◌, ap, arith}
use Rattle.std.proofs.lemmas.Grind.{common_steps}
use Rattle.std.specs.Prelude.{count_ones}
use Rattle.codes.specs.declared.interface.Correction.{Correction}
use Rattle.codes.specs.Meaning.{distance}
use Rattle.layers.specs.Parity.{append_parity}
use Rattle.layers.specs.ParityLaws.{parity_only, parity_appended, appended_message}
use Rattle.layers.proofs.parity.ParityCode.correct.Goals as goal

-- the codeword in reach below is beyond reach with its parity bit
pub returns-then-found-shape : goal.returns-then-found-shape
returns-then-found-shape g c =
    let m = g.C.Code.means c.args.self.now.below in
    let below = c.in_ok-below in
    let v = below.below.codeword in
    let far : m.t < distance c.args.word (append_parity v) =
    omega (arith, ap (λ (x : Correction). count_ones x.pattern) c.raised-found.ensures, c.in_ok-shape.ensures.1.reach) in
    let beyond = parity_only (g.met.C.Code.lawful c.args.self.now.below) c.args.word v below.ensures.1.within far in
    grind (arith, common_steps, beyond)

-- the codeword in reach below is in reach with its parity bit
pub returns : goal.returns
returns g c =
    let m = g.C.Code.means c.args.self.now.below in
    let law = g.met.C.Code.lawful c.args.self.now.below in
    let below = c.in_ok-below in
    let v = below.below.codeword in
    let near : distance c.args.word (append_parity v) ≤ m.t =
    omega (arith, ap (λ (x : Correction). count_ones x.pattern) c.raised-found.ensures, c.in_ok-shape.ensures.1.reach) in
    let word = parity_appended law v below.ensures.1.within.0 in
    let message = appended_message law v in
    grind (arith, common_steps, word, message)
