use Rattle.std.proofs.Common.{◌≡◌, ℕ, suc, ◌≤◌, ◌-◌, ◌*◌, ◌/◌, ◌^◌, ◌<◌, sym, ap, ◌∙◌, lt_of_le_of_lt, lt_of_lt_of_le, div-lt_iff_lt-mul, mul-div_cancel, mul_comm, pow_pos, pow_mono, pow-suc, arith}
use native.Mathlib.Nat.{div-div-eq-div-mul}
use Rattle.cyclic.specs.Generator.{Numbers, numbers, parity_bits}
use Rattle.cyclic.specs.Facts.{Holds, facts}
use Rattle.cyclic.specs.Turns.{doubles, times_x_carry, carried_le}
use Rattle.cyclic.proofs.generator.Generator.times_x.Goals as goal

-- a generator has one bit more than there are parity bits
fits : (c : Numbers) → Holds c → c.generator < 2 ^ 64
fits c f =
    let r = parity_bits c in
    let top : c.generator / 2 ^ r < 2 = omega (arith, f.degree) in
    let below : c.generator < 2 * 2 ^ r = (div-lt_iff_lt-mul (pow_pos r)).0 top in
    let more : c.generator < 2 ^ suc r = omega (arith, below, pow-suc 2 r) in
    let wide : suc r ≤ 64 = omega arith in
    lt_of_lt_of_le more (pow_mono wide)

-- the carry stands there before the shift already, one place lower
early : (r s : ℕ) → 1 ≤ r → s / 2 ^ (r - 1) ≡ s * 2 / 2 ^ r
early r s low =
    let up : suc (r - 1) ≡ r = omega arith in
    ap (λ (x : ℕ). x / 2 ^ (r - 1)) (sym (mul-div_cancel s (omega arith))) ∙ div-div-eq-div-mul (s * 2) 2 (2 ^ (r - 1))
    ∙ ap (λ (x : ℕ). s * 2 / x) (mul_comm 2 (2 ^ (r - 1)) ∙ sym (pow-suc 2 (r - 1)) ∙ ap (λ (x : ℕ). 2 ^ x) up)

pub overflow_sub-carry : goal.overflow_sub-carry
overflow_sub-carry c = omega (arith, c.parity_bits.ensures, (facts c.args.self.now).low)

pub overflow_mul-result : goal.overflow_mul-result
overflow_mul-result c =
    let code = c.args.self.now in
    let product : code.polynomial * (c.args.remainder / 2 ^ (c.parity_bits.result - 1)) < 2 ^ 64 =
    rw (c.parity_bits.ensures, early (parity_bits (numbers code)) c.args.remainder (facts code).low)
    (lt_of_le_of_lt (carried_le (parity_bits (numbers code)) code.polynomial c.args.remainder c.requires) (fits (numbers code) (facts code))) in
    record { fits = product }

pub returns : goal.returns
returns c =
    let code = c.args.self.now in
    let e = doubles (numbers code) (facts code) c.args.remainder c.requires in
    rw (e, c.parity_bits.ensures, early (parity_bits (numbers code)) c.args.remainder (facts code).low)
    (times_x_carry (parity_bits (numbers code)) code.polynomial c.args.remainder c.requires)
