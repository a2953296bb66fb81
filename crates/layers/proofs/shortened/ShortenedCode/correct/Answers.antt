use Rattle.std.proofs.Common.{arith}
use Rattle.std.proofs.lemmas.Grind.{common_steps}
use Rattle.layers.specs.ShortenedLaws.{shorter_only}
use Rattle.layers.proofs.shortened.ShortenedCode.correct.Goals as goal

-- the codeword in reach is too long
pub returns-then-not-fits_in-2 : goal.returns-then-not-fits_in-2
returns-then-not-fits_in-2 g c =
    let self = c.args.self.now in
    let found = c.in_ok-found in
    let beyond = shorter_only (g.met.C.Code.lawful self.below) self.by c.args.word found.found.codeword found.ensures.1.within in
    grind (arith, common_steps, beyond)
