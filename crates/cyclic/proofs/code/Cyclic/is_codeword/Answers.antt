use Rattle.std.proofs.Common.{ℕ, ◌^◌, ◌<◌, Bool, ◌&&◌, eqb, sym, ap, ◌∙◌, arith}
use Rattle.std.proofs.lemmas.Bool.{lt-ltb}
use Rattle.cyclic.specs.Generator.{numbers, syndrome}
use Rattle.cyclic.specs.Codewords.{multiples}
use Rattle.cyclic.specs.Facts.{facts}
use Rattle.cyclic.proofs.code.Cyclic.is_codeword.Goals as goal

pub returns-then-fits_in : goal.returns-then-fits_in
returns-then-fits_in c =
    let code = c.args.self.now.generator in
    let w = c.args.word in
    let fits : w < 2 ^ code.n = omega (arith, c.if-fits_in.ensures) in
    ap (λ (x : ℕ). eqb x 0) c.remainder.ensures.value
    ∙ sym ((multiples (numbers code) (facts code)).computed w ∙ ap (λ (x : Bool). x && eqb (syndrome (numbers code) w) 0) (lt-ltb w (2 ^ code.n) fits))
