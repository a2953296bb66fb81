use Rattle.std.proofs.Common.{◌≡◌, ℕ, ◌-◌, ◌/◌, ◌^◌, ◌<◌, sym, ap, ◌∙◌, subst, div-one, arith}
use native.Mathlib.Nat.{div-eq_of_lt}
use Rattle.cyclic.specs.Polynomial.{remainder}
use Rattle.cyclic.specs.Generator.{numbers}
use Rattle.cyclic.specs.Facts.{facts}
use Rattle.cyclic.specs.Linear.{remainder_zero}
use Rattle.cyclic.specs.Turns.{syndrome_lt, shift_in}
use Rattle.cyclic.proofs.generator.Generator.remainder.Goals as goal

pub loop-i-init : goal.loop-i-init
loop-i-init c =
    let code = c.args.self.now in
    sym (ap (remainder (code.n - code.k) code.polynomial) (div-eq_of_lt c.requires) ∙ remainder_zero (code.n - code.k) code.polynomial)

pub times_x-requires : goal.times_x-requires
times_x-requires c =
    let code = c.args.self.now in
    subst (λ (x : ℕ). x < 2 ^ (code.n - code.k)) (sym c.loop-i.invariant) (syndrome_lt (numbers code) (facts code) _)

pub loop-i-preserved : goal.loop-i-preserved
loop-i-preserved c =
    let code = c.args.self.now in
    shift_in (code.n - code.k) code.polynomial c.args.word c.loop-i.i c.loop-i.remainder c.times_x.result c.loop-i-test.true
    c.loop-i.invariant c.times_x.ensures

pub returns : goal.returns
returns c =
    let code = c.args.self.now in
    let none : c.loop-i.i ≡ 0 = omega arith in
    record {
      value = c.loop-i.invariant ∙ ap (λ (i : ℕ). remainder (code.n - code.k) code.polynomial (c.args.word / 2 ^ i)) none
          ∙ ap (remainder (code.n - code.k) code.polynomial) (div-one c.args.word);
      below = subst (λ (x : ℕ). x < 2 ^ (code.n - code.k)) (sym c.loop-i.invariant) (syndrome_lt (numbers code) (facts code) _);
    }
