-- One turn of each loop, and one step of the shifting rule.
use Rattle.std.specs.Prelude.{◌≡◌, ℕ, zero, suc, ◌+◌, ◌-◌, ◌*◌, ◌/◌, ◌%◌, ◌^◌, ◌<◌, ◌≤◌, bit_and, bit_xor, ◌≢◌}
use Rattle.std.proofs.Common.{sym, ap₂, ◌∙◌, subst, pow-suc, lt_of_lt_of_le, mul_comm, mul-lt-mul_of_pos_right, div-lt_iff_lt-mul, zero-lt-suc, add-one, pow_pos, pow_mono, shl_exact, shl_lt, shr-shr, lit<}
use Rattle.std.proofs.Math.Path.{ap}
use native.Mathlib.Omega.{arith}
use Rattle.std.proofs.Math.Pow.{split, high}
use Rattle.std.proofs.lemmas.Nat.{and_mask, xor_lt}
use Rattle.std.specs.Int.Bits.{xor_shifted, xor_self, xor_zero_r}
use Rattle.cyclic.specs.Polynomial.{scale, times_x, remainder}
use Rattle.cyclic.specs.Generator.{Numbers, parity_bits, syndrome, Codeword}
use Rattle.cyclic.specs.Linear.{remainder_step, remainder_lt, remainder_xor, remainder_small, remainder_double, remainder_multiple, multiple_remainder}
use Rattle.cyclic.specs.Distance.{parity_is}
use Rattle.cyclic.specs.Facts.{Holds}

module _ (r g s : ℕ) where
  pub times_x_keeps : s * 2 / 2 ^ r ≡ zero → times_x r g s ≡ s * 2
  unfolding times_x scale
  times_x_keeps e = ap (λ (q : ℕ). bit_xor (s * 2) (scale (q % 2) g)) e ∙ xor_zero_r (s * 2)

  pub times_x_takes : s < 2 ^ r → s * 2 / 2 ^ r ≢ zero → times_x r g s ≡ bit_xor (s * 2) g
  unfolding times_x scale
  times_x_takes h ne =
      let small : s * 2 / 2 ^ r < 2 =
      (div-lt_iff_lt-mul (pow_pos r)).1 (subst (λ (x : ℕ). s * 2 < x) (mul_comm (2 ^ r) 2) (mul-lt-mul_of_pos_right h (zero-lt-suc 1))) in
      let one : s * 2 / 2 ^ r ≡ 1 = omega arith in
      ap (λ (q : ℕ). bit_xor (s * 2) (scale (q % 2) g)) one

-- the bit that a remainder carries into x^r, and the generator times that bit
module _ (r g s : ℕ) (h : s < 2 ^ r) where
  pub carry_lt : s * 2 / 2 ^ r < 2
  carry_lt = (div-lt_iff_lt-mul (pow_pos r)).1 (subst (λ (x : ℕ). s * 2 < x) (mul_comm (2 ^ r) 2) (mul-lt-mul_of_pos_right h (zero-lt-suc 1)))

  scaled : (b : ℕ) → b < 2 → g * b ≡ scale (b % 2) g
  unfolding scale
  scaled zero l = omega arith
  scaled (suc zero) l = omega arith
  scaled (suc (suc b)) l = absurd (omega arith)

  pub times_x_carry : bit_xor (s * 2) (g * (s * 2 / 2 ^ r)) ≡ times_x r g s
  unfolding times_x
  times_x_carry = ap (bit_xor (s * 2)) (scaled (s * 2 / 2 ^ r) carry_lt)

  at_most : (b : ℕ) → b < 2 → g * b ≤ g
  at_most zero l = omega arith
  at_most (suc zero) l = omega arith
  at_most (suc (suc b)) l = absurd (omega arith)

  pub carried_le : g * (s * 2 / 2 ^ r) ≤ g
  carried_le = at_most (s * 2 / 2 ^ r) carry_lt

module _ (c : Numbers) (f : Holds c) where
  -- a remainder is doubled within 64 bits
  pub doubles : (s : ℕ) → s < 2 ^ parity_bits c → s * 2 % 2 ^ 64 ≡ s * 2
  doubles s h = shl_exact (parity_bits c) 1 64 h (omega arith)

  pub syndrome_lt : (w : ℕ) → syndrome c w < 2 ^ parity_bits c
  syndrome_lt = remainder_lt (parity_bits c) c.generator f.degree f.low

pub shift_in : (r g w i s x : ℕ) → zero < i → s ≡ remainder r g (w / 2 ^ i) → x ≡ times_x r g s
    → bit_xor x (bit_and (w / 2 ^ (i - 1)) 1) ≡ remainder r g (w / 2 ^ (i - 1))
shift_in r g w i s x h e d =
    let up : i - 1 + 1 ≡ i = omega arith in
    ap₂ bit_xor
    (d ∙ ap (times_x r g) (e ∙ ap (remainder r g) (ap (λ (x : ℕ). w / 2 ^ x) (sym up) ∙ sym (shr-shr w (i - 1) 1))))
    (and_mask (w / 2 ^ (i - 1)) 1)
    ∙ sym (remainder_step r g (w / 2 ^ (i - 1)))

module _ (c : Numbers) (f : Holds c) where
  -- the systematic codeword of a message: the message above its remainder
  abbrev pub systematic : ℕ → ℕ
  systematic m = bit_xor (m * 2 ^ parity_bits c) (syndrome c (m * 2 ^ parity_bits c))

  systematic_sum : (m : ℕ) → systematic m ≡ m * 2 ^ parity_bits c + syndrome c (m * 2 ^ parity_bits c)
  systematic_sum m = xor_shifted m (parity_bits c) (syndrome c (m * 2 ^ parity_bits c)) (syndrome_lt c f (m * 2 ^ parity_bits c))

  pub systematic_codeword : (m : ℕ) → m < 2 ^ c.k → Codeword c (systematic m)
  systematic_codeword m h =
      let r = parity_bits c in
      let g = c.generator in
      let p = m * 2 ^ r in
      let s = remainder r g p in
      let small : s < 2 ^ r = syndrome_lt c f p in
      let fits : p < 2 ^ c.n = subst (λ (x : ℕ). p < 2 ^ x) (sym f.parts) (shl_lt c.k r h) in (
        xor_lt c.n p s fits (lt_of_lt_of_le small (pow_mono (omega arith))),
        remainder_multiple r g (bit_xor p s) (remainder_xor r g p s ∙ ap (bit_xor s) (remainder_small r g s small) ∙ xor_self s),
      )

  pub systematic_message : (m : ℕ) → systematic m / 2 ^ parity_bits c ≡ m
  systematic_message m = ap (λ (x : ℕ). x / 2 ^ parity_bits c) (systematic_sum m) ∙ high m (parity_bits c) (syndrome_lt c f (m * 2 ^ parity_bits c))

  pub systematic_only : (m w : ℕ) → Codeword c w → w / 2 ^ parity_bits c ≡ m → w ≡ systematic m
  systematic_only m w k e =
      let r = parity_bits c in
      let g = c.generator in
      sym (split w r) ∙ ap₂ (λ (x y : ℕ). x * 2 ^ r + y) e (parity_is r g w (multiple_remainder r g f.factor k.1) ∙ ap (λ (x : ℕ). remainder r g (x * 2 ^ r)) e)
      ∙ sym (systematic_sum m)

  -- a message, shifted above the parity-bits bits, keeps within 64 bits
  pub shifts : (m : ℕ) → m < 2 ^ c.k → m * 2 ^ parity_bits c % 2 ^ 64 ≡ m * 2 ^ parity_bits c
  shifts m h = shl_exact c.k (parity_bits c) 64 h (omega arith)

  pub shifted_lt : (m : ℕ) → m < 2 ^ c.k → m * 2 ^ parity_bits c < 2 ^ c.n
  shifted_lt m h = subst (λ (x : ℕ). m * 2 ^ parity_bits c < 2 ^ x) (sym f.parts) (shl_lt c.k (parity_bits c) h)

-- the first row, and the next
pub first_row : (c : Numbers) → Holds c → syndrome c 1 ≡ 1
first_row c f = remainder_small (parity_bits c) c.generator 1 (lt_of_lt_of_le (lit< tt) (pow_mono f.low))

pub next_row : (r g i : ℕ) → times_x r g (remainder r g (2 ^ i)) ≡ remainder r g (2 ^ (i + 1))
next_row r g i = sym (ap (λ (x : ℕ). remainder r g (2 ^ x)) (add-one i) ∙ ap (remainder r g) (pow-suc 2 i) ∙ remainder_double r g (2 ^ i))
