-- The least distance of a cyclic code with one message bit more than parity-bits bits, from the test of its rows.
use Rattle.std.specs.Prelude.{◌≡◌, ℕ, zero, suc, ◌+◌, ◌*◌, ◌/◌, ◌%◌, ◌^◌, ◌<◌, ◌≤◌, ◌≢◌, ◌⊎◌, bit_xor, count_ones}
use Rattle.std.proofs.Common.{sym, ap, ap₂, ◌∙◌, subst, inl, inr, mod-lt, add_comm, zero-mul, zero-lt-suc, eq-zero-or-pos, one-add, arith, pow_pos, shr_lt}
use Rattle.std.proofs.Math.Pow.{split}
use Rattle.std.proofs.lemmas.Nat.{mod-pow-add, xor_lt, ones_cat, ones-le}
use Rattle.std.specs.Int.Bits.{xor_shifted, xor_zero_r}
use Rattle.std.proofs.lemmas.Bool.{cases_lt}
use Rattle.cyclic.specs.Polynomial.{remainder, rotate, Multiple}
use Rattle.cyclic.specs.Linear.{remainder_xor, remainder_zero, remainder_small, remainder_shift, multiple_remainder}
use Rattle.codes.specs.Sums.{xor_cancel}
use Rattle.cyclic.specs.Weight.{ones_zero, ones_none}
use Rattle.cyclic.specs.Rotation.{ones_parts, rotate_lt, rotate_ones, rotate_high, rotate_remainder}
use Rattle.cyclic.specs.Span.{Heavy}

pub xor_equal : (a b : ℕ) → bit_xor a b ≡ zero → a ≡ b
xor_equal a b e = sym (ap (bit_xor a) e ∙ xor_zero_r a) ∙ xor_cancel a b

module _ (r g : ℕ) where
  -- the remainder of a word, from its message part and its parity-bits part
  pub remainder_parts : (w : ℕ) → remainder r g w ≡ bit_xor (remainder r g (w / 2 ^ r * 2 ^ r)) (w % 2 ^ r)
  remainder_parts w =
      ap (remainder r g) (sym (xor_shifted (w / 2 ^ r) r (w % 2 ^ r) (mod-lt w (pow_pos r)) ∙ split w r))
      ∙ remainder_xor r g (w / 2 ^ r * 2 ^ r) (w % 2 ^ r) ∙ ap (bit_xor (remainder r g (w / 2 ^ r * 2 ^ r))) (remainder_small r g (w % 2 ^ r) (mod-lt w (pow_pos r)))

  -- the parity-bits part of a word without remainder is the remainder of its message part
  pub parity_is : (w : ℕ) → remainder r g w ≡ zero → w % 2 ^ r ≡ remainder r g (w / 2 ^ r * 2 ^ r)
  parity_is w z = sym (xor_equal (remainder r g (w / 2 ^ r * 2 ^ r)) (w % 2 ^ r) (sym (remainder_parts w) ∙ z))

  module _ (n k t : ℕ) (sum : n ≡ k + r) (one_more : k ≡ suc r) (cyclic : remainder r g (2 ^ n) ≡ 1) (heavy : Heavy r g k t (2 * t + 1) r zero) where
    few_far : (w : ℕ) → w < 2 ^ n → remainder r g w ≡ zero → zero < count_ones w → count_ones (w / 2 ^ r) ≤ t → 2 * t + 1 ≤ count_ones w
    few_far w h z p few = by_message (eq-zero-or-pos (w / 2 ^ r))
      where
        by_message : (w / 2 ^ r ≡ zero) ⊎ (zero < w / 2 ^ r) → 2 * t + 1 ≤ count_ones w
        by_message (inl e) =
            let none : w % 2 ^ r ≡ zero = parity_is w z ∙ ap (λ (x : ℕ). remainder r g (x * 2 ^ r)) e ∙ ap (remainder r g) (zero-mul (2 ^ r)) ∙ remainder_zero r g in
            let all : w ≡ zero = sym (split w r) ∙ ap₂ (λ (x y : ℕ). x * 2 ^ r + y) e none ∙ ap (λ (x : ℕ). x + zero) (zero-mul (2 ^ r)) in
            absurd (omega (arith, ap count_ones all, ones_zero))
        by_message (inr q) =
            let f = heavy (w / 2 ^ r) (shr_lt k r (subst (λ (x : ℕ). w < 2 ^ x) sum h)) q few in
            omega (arith, ones_parts w r, ap count_ones (parity_is w z), f)

    other_sum : n ≡ r + k
    other_sum = sum ∙ add_comm k r

    -- a rotated word has at most one message bit more than the word has parity-bits bits
    pub rotated_message : (w : ℕ) → w < 2 ^ n → count_ones (rotate r k w / 2 ^ r) ≤ 1 + count_ones (w % 2 ^ r)
    rotated_message w h =
        let bit = w / 2 ^ r % 2 in
        let e : rotate r k w / 2 ^ r ≡ bit * 2 ^ r + w % 2 ^ r =
        rotate_high n r k other_sum w h ∙ ap (λ (x : ℕ). w % 2 ^ x) (one_more ∙ sym (one-add r)) ∙ mod-pow-add w 1 r in
        omega (arith, ap count_ones e, ones_cat r bit (w % 2 ^ r) (mod-lt w (pow_pos r)), ones-le 1 bit (mod-lt (w / 2 ^ r) (zero-lt-suc 1)))

    pub far : (w : ℕ) → w < 2 ^ n → remainder r g w ≡ zero → zero < count_ones w → 2 * t + 1 ≤ count_ones w
    far w h z p = by_weight (cases_lt t (count_ones (w / 2 ^ r))) (cases_lt (count_ones w) (2 * t + 1))
      where
        by_weight : (t < count_ones (w / 2 ^ r)) ⊎ (count_ones (w / 2 ^ r) ≤ t) → (count_ones w < 2 * t + 1) ⊎ (2 * t + 1 ≤ count_ones w) → 2 * t + 1 ≤ count_ones w
        by_weight few (inr done) = done
        by_weight (inr few) (inl light) = few_far w h z p few
        by_weight (inl many) (inl light) =
            let same = rotate_ones n r k other_sum w h in
            let none : remainder r g (rotate r k w) ≡ zero =
            rotate_remainder n r k other_sum w h r g cyclic ∙ remainder_shift r g w zero r (z ∙ sym (remainder_zero r g)) ∙ ap (remainder r g) (zero-mul (2 ^ r)) ∙ remainder_zero r g in
            omega (arith, few_far (rotate r k w) (rotate_lt n r k other_sum w h) none (omega arith) (omega (arith, ones_parts w r, rotated_message w h)))

    -- two codewords that differ do so in more than 2 t bits
    pub apart : remainder r g g ≡ zero → (a b : ℕ) → (a < 2 ^ n) × Multiple g a → (b < 2 ^ n) × Multiple g b → a ≢ b → 2 * t + 1 ≤ count_ones (bit_xor a b)
    apart factor a b (ha, ma) (hb, mb) ne =
        far (bit_xor a b) (xor_lt n a b ha hb)
        (remainder_xor r g a b ∙ ap₂ bit_xor (multiple_remainder r g factor ma) (multiple_remainder r g factor mb))
        (pos_of_ne (eq-zero-or-pos (count_ones (bit_xor a b))))
      where
        pos_of_ne : (count_ones (bit_xor a b) ≡ zero) ⊎ (zero < count_ones (bit_xor a b)) → zero < count_ones (bit_xor a b)
        pos_of_ne (inl e) = absurd (ne (xor_equal a b (ones_none (bit_xor a b) e)))
        pos_of_ne (inr q) = q
