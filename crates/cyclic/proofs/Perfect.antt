-- That a code is perfect, from one computed test: the syndromes of all patterns of at most t flips, as the ones of a number, are all that there are.
use Rattle.std.proofs.Common.{◌≡◌, ℕ, zero, suc, ◌+◌, ◌-◌, ◌*◌, ◌/◌, ◌%◌, ◌^◌, ◌<◌, ◌≤◌, ◌⊎◌, sym, ap, ◌∙◌, subst, ap₂, inl, inr, ⊎_elim, mod-lt, zero-lt-suc, one-mul, pow-suc, zero-mul, mul-one, add-one, arith, pow_pos, pow-add}
use native.Mathlib.Nat.{div-eq_of_lt, mul-mod_left}
use lib.Arith.{digits_div, digits_mod}
use lib.Bits.{bit_xor, bit_or, or_shr, or_mod, xor_zero_r, xor_assoc, xor_comm}
use lib.Count.{ones, ones_step}
use lib.Pow.{pow-lt, shl-shr, ones_split, ones_lt, high}
use Rattle.std.proofs.lemmas.Bool.{cases_eq, cases_order}
use Rattle.codes.specs.Meaning.{Meaning, Lawful, Within}
use Rattle.codes.proofs.Reach.{within_beyond}
use Rattle.cyclic.specs.Code.{Perfect}
use Rattle.cyclic.specs.Polynomial.{times_x, remainder}
use Rattle.cyclic.specs.Generator.{Numbers, code_of, parity_bits, syndrome}
use Rattle.cyclic.specs.Search.{Pattern}
use Rattle.cyclic.specs.Facts.{Holds}
use Rattle.cyclic.specs.Linear.{remainder_zero}
use Rattle.cyclic.proofs.Reach.{found}
use Rattle.cyclic.specs.Span.{remainder_digits}
use Rattle.cyclic.specs.Turns.{syndrome_lt, first_row, next_row}
use Rattle.cyclic.specs.Weight.{ones_zero}

-- bit y of a number
abbrev bit : ℕ → ℕ → ℕ
bit a y = a / 2 ^ y % 2

or_bit : (a b y : ℕ) → bit (bit_or a b) y ≡ 1 → (bit a y ≡ 1) ⊎ (bit b y ≡ 1)
or_bit a b y h =
    let x = a / 2 ^ y in
    let z = b / 2 ^ y in
    let e : bit_or (x % 2) (z % 2) ≡ 1 = sym (or_mod x z 1) ∙ ap (λ (q : ℕ). q % 2) (sym (or_shr a b y)) ∙ h in
    ⊎_elim inl
    (λ ne.
    let none : x % 2 ≡ 0 = omega (arith, mod-lt x (zero-lt-suc 1)) in
    inr (subst (λ (q : ℕ). bit_or q (z % 2) ≡ 1) none e))
    (cases_eq (x % 2) 1)

pow_bit : (v y : ℕ) → bit (2 ^ v) y ≡ 1 → v ≡ y
pow_bit v y h = ⊎_elim (λ e. e) (⊎_elim below above) (cases_order v y)
  where
    below : v < y → v ≡ y
    below l = absurd (omega (arith, ap (λ (x : ℕ). x % 2) (div-eq_of_lt (pow-lt l))))

    above : y < v → v ≡ y
    above l =
        let p = v - y - 1 in
        let whole : 2 ^ v ≡ 2 ^ suc p * 2 ^ y = ap (λ (x : ℕ). 2 ^ x) (omega arith) ∙ pow-add 2 (suc p) y in
        let even : bit (2 ^ v) y ≡ 0 =
        ap (λ (x : ℕ). x / 2 ^ y % 2) whole ∙ ap (λ (x : ℕ). x % 2) (shl-shr (2 ^ suc p) y ∙ pow-suc 2 p) ∙ mul-mod_left (2 ^ p) 2 in
        absurd (omega arith)

-- each bit of 2 ^ n - 1 is one
full_bit : (n y : ℕ) → y < n → bit (2 ^ n - 1) y ≡ 1
full_bit n y l =
    let p = n - y - 1 in
    let whole : 2 ^ n - 1 ≡ (2 ^ suc p - 1) * 2 ^ y + (2 ^ y - 1) = ap (λ (x : ℕ). 2 ^ x - 1) (omega arith) ∙ ones_split (suc p) y in
    let top : bit (2 ^ n - 1) y ≡ (2 ^ suc p - 1) % 2 = ap (λ (x : ℕ). x / 2 ^ y % 2) whole ∙ ap (λ (x : ℕ). x % 2) (high (2 ^ suc p - 1) y (ones_lt y)) in
    omega (arith, top, pow-suc 2 p, pow_pos p)

module _ (r g : ℕ) where
  -- the syndromes v + s_1 + .. of at most w of the d rows s, s x, s x^2, .., as the ones of a number
  unfoldable pub marks : ℕ → ℕ → ℕ → ℕ → ℕ
  marks zero w v s = 2 ^ v
  marks (suc d) zero v s = 2 ^ v
  marks (suc d) (suc w) v s = bit_or (marks d (suc w) v (times_x r g s)) (marks d w (bit_xor v s) (times_x r g s))

  -- a pattern of at most w flips from x^j on, whose syndrome leads from v to y
  record Marked (d w j v y : ℕ) : Type 0 where
    pub flips : ℕ
    pub below : flips < 2 ^ d
    pub light : ones flips ≤ w
    pub leads : y ≡ bit_xor v (remainder r g (flips * 2 ^ j))

  none_marked : (d w j v y : ℕ) → bit (2 ^ v) y ≡ 1 → Marked d w j v y
  none_marked d w j v y h = record {
    flips = zero;
    below = pow_pos d;
    light = omega (arith, ones_zero);
    leads = sym (pow_bit v y h) ∙ sym (ap (bit_xor v) (ap (remainder r g) (zero-mul (2 ^ j)) ∙ remainder_zero r g) ∙ xor_zero_r v);
  }

  -- one more digit below the flips
  more_marked : (d w u j v v' y b : ℕ) → b < 2 → b + w ≤ u → v' ≡ bit_xor v (remainder r g (b * 2 ^ j)) → Marked d w (suc j) v' y → Marked (suc d) u j v y
  more_marked d w u j v v' y b small few e so =
      let f = so.flips in
      let next = f * 2 + b in
      let half : next / 2 ≡ f = digits_div f small in
      let low : next % 2 ≡ b = digits_mod f small in
      let rest = remainder r g (f * 2 ^ suc j) in
      let here = remainder r g (b * 2 ^ j) in
      record {
        flips = next;
        below = omega (arith, so.below, pow-suc 2 d);
        light = omega (arith, so.light, ones_step next, ap ones half, low);
        leads =
            so.leads ∙ ap (λ (x : ℕ). bit_xor x rest) e ∙ xor_assoc v here rest
            ∙ ap (bit_xor v) (xor_comm here rest ∙ sym (remainder_digits r g j next
            ∙ ap₂ (λ (x z : ℕ). bit_xor (remainder r g (x * 2 ^ suc j)) (remainder r g (z * 2 ^ j))) half low));
      }

  marked : (d w j v s y : ℕ) → s ≡ remainder r g (2 ^ j) → bit (marks d w v s) y ≡ 1 → Marked d w j v y
  unfolding marks
  marked zero w j v s y e h = none_marked zero w j v y h
  marked (suc d) zero j v s y e h = none_marked (suc d) zero j v y h
  marked (suc d) (suc w) j v s y e h =
      let next : times_x r g s ≡ remainder r g (2 ^ suc j) = ap (times_x r g) e ∙ next_row r g j ∙ ap (λ (x : ℕ). remainder r g (2 ^ x)) (add-one j) in
      let zeros : v ≡ bit_xor v (remainder r g (0 * 2 ^ j)) = sym (ap (bit_xor v) (ap (remainder r g) (zero-mul (2 ^ j)) ∙ remainder_zero r g) ∙ xor_zero_r v) in
      let ones_here : bit_xor v s ≡ bit_xor v (remainder r g (1 * 2 ^ j)) = ap (bit_xor v) (e ∙ ap (remainder r g) (sym (one-mul (2 ^ j)))) in
      ⊎_elim
      (λ left. more_marked d (suc w) (suc w) j v v y 0 (zero-lt-suc 1) (omega arith) zeros (marked d (suc w) (suc j) v (times_x r g s) y next left))
      (λ right. more_marked d w (suc w) j v (bit_xor v s) y 1 (omega arith) (omega arith) ones_here (marked d w (suc j) (bit_xor v s) (times_x r g s) y next right))
      (or_bit (marks d (suc w) v (times_x r g s)) (marks d w (bit_xor v s) (times_x r g s)) y h)

-- where the marks are full, each syndrome has a pattern, and so each word a codeword within reach
pub all_reached : (c : Numbers) → Holds c → marks (parity_bits c) c.generator c.n c.t 0 1 ≡ 2 ^ 2 ^ parity_bits c - 1
    → (w : ℕ) → w < 2 ^ c.n → (v : ℕ) × Within (code_of c) w v
all_reached c f full w h =
    let r = parity_bits c in
    let g = c.generator in
    let y = syndrome c w in
    let so : Marked r g c.n c.t 0 0 y =
    marked r g c.n c.t 0 0 1 y (sym (first_row c f)) (ap (λ (x : ℕ). bit x y) full ∙ full_bit (2 ^ r) y (syndrome_lt c f w)) in
    let e = so.flips in
    let pattern : Pattern c c.t y e =
    record { below = so.below; remainder = sym (so.leads ∙ ap (remainder r g) (mul-one e)); light = so.light } in
    (bit_xor w e, (found c f w e h pattern).within)

pub perfect : {m : Meaning} → Lawful m → ((w : ℕ) → w < 2 ^ m.n → (v : ℕ) × Within m w v) → Perfect m
perfect law all = record {
  reached = all;
  never_4 = λ w f h refused four.
      ⊎_elim (λ a. omega (arith, a.1.0))
      (λ a. ⊎_elim (λ b. omega (arith, b.0)) (λ b. ⊎_elim (λ d. within_beyond law w (all w h).0 (all w h).1 d.0) (λ d. d.1) b.1) a.1) refused;
}
