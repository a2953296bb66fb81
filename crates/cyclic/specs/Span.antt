-- What the computed test of all sums of few rows shows.
use Rattle.std.specs.Prelude.{◌≡◌, ℕ, zero, suc, pred, ◌+◌, ◌*◌, ◌/◌, ◌%◌, ◌^◌, ◌<◌, ◌≤◌, Bool, true, false, ◌&&◌, T, ◌⊎◌, bit_xor, count_ones, nat_le, refl}
use Rattle.std.proofs.Math.Path.{sym, ap}
use Rattle.std.proofs.Common.{◌∙◌, subst, inl, inr, add_comm, mul_assoc, mul_comm, mod-lt, pow-suc, zero-lt-suc, one-mul, zero-mul, eq-zero-or-pos, div-add-mod', add-one, arith, shr_lt, leb→le}
use Rattle.std.proofs.Math.Arith.{bin_ind}
use Rattle.std.specs.Int.Bits.{xor_assoc, xor_zero_r}
use Rattle.std.proofs.lemmas.Nat.{xor_comm}
use Rattle.std.specs.Int.Count.{ones_step}
use Rattle.cyclic.specs.Polynomial.{horner_in, horner, times_x, remainder}
use Rattle.cyclic.specs.Sound.{weight, spans}
use Rattle.cyclic.specs.Linear.{horner_step, low_digit, xor_shl, remainder_xor, remainder_double, remainder_zero}
use Rattle.cyclic.specs.Weight.{ones_zero, ones_none}

pub weight_ones : (w : ℕ) → weight w ≡ count_ones w
unfolding weight horner horner_in
weight_ones =
    bin_ind (λ (w : ℕ). weight w ≡ count_ones w) (sym ones_zero)
    (λ w ih. horner_step (λ s b. s + b) refl w ∙ add_comm (weight (w / 2)) (w % 2) ∙ ap (λ (x : ℕ). w % 2 + x) ih ∙ sym (ones_step w))

pub both : (a b : Bool) → T (a && b) → T a × T b
both true b h = (tt, h)
both false b h = absurd h

module _ (r g : ℕ) where
  -- the lowest message bit apart from the others
  pub remainder_digits : (j m : ℕ) → remainder r g (m * 2 ^ j) ≡ bit_xor (remainder r g (m / 2 * 2 ^ suc j)) (remainder r g (m % 2 * 2 ^ j))
  remainder_digits j m =
      ap (λ (v : ℕ). remainder r g (v * 2 ^ j)) (sym (low_digit m)) ∙ ap (remainder r g) (xor_shl (m / 2 * 2) (m % 2) j)
      ∙ remainder_xor r g (m / 2 * 2 * 2 ^ j) (m % 2 * 2 ^ j)
      ∙ ap (λ (v : ℕ). bit_xor (remainder r g v) (remainder r g (m % 2 * 2 ^ j)))
      (mul_assoc (m / 2) 2 (2 ^ j) ∙ ap (λ (x : ℕ). m / 2 * x) (mul_comm 2 (2 ^ j) ∙ sym (pow-suc 2 j)))

  -- each sum of at least one and at most w of the d rows from x^j on, added to v, weighs `need` with the number of its rows
  abbrev pub Heavy : ℕ → ℕ → ℕ → ℕ → ℕ → Type 0
  Heavy d w need j v = (m : ℕ) → m < 2 ^ d → zero < m → count_ones m ≤ w → need ≤ count_ones m + count_ones (bit_xor v (remainder r g (m * 2 ^ j)))

  heavy_step : (d w need j v s : ℕ) → s ≡ remainder r g (2 ^ j) → need ≤ suc (count_ones (bit_xor v s))
      → Heavy d w (pred need) (suc j) (bit_xor v s) → Heavy d (suc w) need (suc j) v → Heavy (suc d) (suc w) need j v
  heavy_step d w need j v s e here with_it without m lt pos few = by_digit (m % 2) refl (mod-lt m (zero-lt-suc 1))
    where
      half : m / 2 < 2 ^ d
      half = shr_lt d 1 (subst (λ (x : ℕ). m < 2 ^ x) (sym (add-one d)) lt)

      above : ℕ
      above = remainder r g (m / 2 * 2 ^ suc j)

      odd : (m / 2 ≡ zero) ⊎ (zero < m / 2) → m % 2 ≡ 1 → need ≤ count_ones m + count_ones (bit_xor (bit_xor v s) above)
      odd (inl z) b =
          let a : above ≡ zero = ap (λ (x : ℕ). remainder r g (x * 2 ^ suc j)) z ∙ ap (remainder r g) (zero-mul (2 ^ suc j)) ∙ remainder_zero r g in
          let x : bit_xor (bit_xor v s) above ≡ bit_xor v s = ap (bit_xor (bit_xor v s)) a ∙ xor_zero_r (bit_xor v s) in
          omega (arith, ones_step m, ap count_ones x)
      odd (inr p) b = omega (arith, ones_step m, with_it (m / 2) half p (omega (arith, ones_step m)))

      by_digit : (b : ℕ) → m % 2 ≡ b → b < 2 → need ≤ count_ones m + count_ones (bit_xor v (remainder r g (m * 2 ^ j)))
      by_digit zero b h =
          let x : remainder r g (m * 2 ^ j) ≡ above =
          remainder_digits j m ∙ ap (bit_xor above) (ap (λ (c : ℕ). remainder r g (c * 2 ^ j)) b ∙ ap (remainder r g) (zero-mul (2 ^ j)) ∙ remainder_zero r g) ∙ xor_zero_r above in
          omega (arith, ones_step m, ap (λ (c : ℕ). count_ones (bit_xor v c)) x, without (m / 2) half (omega (arith, div-add-mod' m 2)) (omega (arith, ones_step m)))
      by_digit (suc zero) b h =
          let x : bit_xor v (remainder r g (m * 2 ^ j)) ≡ bit_xor (bit_xor v s) above =
          ap (bit_xor v) (remainder_digits j m ∙ ap (bit_xor above) (ap (λ (c : ℕ). remainder r g (c * 2 ^ j)) b ∙ ap (remainder r g) (one-mul (2 ^ j)) ∙ sym e) ∙ xor_comm above s)
          ∙ sym (xor_assoc v s above) in
          omega (arith, ap count_ones x, odd (eq-zero-or-pos (m / 2)) b)
      by_digit (suc (suc c)) b h = absurd (omega arith)

  pub spans_heavy : (d w need j v s : ℕ) → s ≡ remainder r g (2 ^ j) → T (spans r g d w need v s) → Heavy d w need j v
  unfolding spans
  spans_heavy zero w need j v s e h = λ m lt pos few. absurd (omega arith)
  spans_heavy (suc d) zero need j v s e h = λ m lt pos few. absurd (omega (arith, ones_none m (omega arith)))
  spans_heavy (suc d) (suc w) need j v s e h =
      let next : times_x r g s ≡ remainder r g (2 ^ suc j) = ap (times_x r g) e ∙ sym (ap (remainder r g) (pow-suc 2 j) ∙ remainder_double r g (2 ^ j)) in
      let a = both (nat_le need (suc (weight (bit_xor v s)))) _ h in
      let b = both (spans r g d w (pred need) (bit_xor v s) (times_x r g s)) _ a.1 in
      heavy_step d w need j v s e (subst (λ (x : ℕ). need ≤ suc x) (weight_ones (bit_xor v s)) (leb→le need (suc (weight (bit_xor v s))) a.0))
      (spans_heavy d w (pred need) (suc j) (bit_xor v s) (times_x r g s) next b.0)
      (spans_heavy d (suc w) need (suc j) v (times_x r g s) next b.1)
