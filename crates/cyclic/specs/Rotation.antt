-- A rotated word: its weight and its remainder.
use Rattle.std.specs.Prelude.{◌≡◌, ℕ, ◌+◌, ◌*◌, ◌/◌, ◌%◌, ◌^◌, ◌<◌, bit_xor, count_ones}
use Rattle.std.proofs.Math.Path.{sym, ap, subst}
use Rattle.std.proofs.Common.{◌∙◌, mul_assoc, mod-lt, pow_pos, pow-add, shr_lt}
use Rattle.std.proofs.Math.Nat.{add_comm}
use Rattle.std.proofs.Math.Arith.{digits_lt, digits_div}
use Rattle.std.proofs.Math.Pow.{split}
use Rattle.std.specs.Int.Bits.{xor_comm, xor_shifted}
use Rattle.std.specs.Int.Count.{ones_cat}
use Rattle.cyclic.specs.Polynomial.{remainder, rotate}
use Rattle.cyclic.specs.Linear.{remainder_xor, remainder_cycle, xor_shl}

-- the weights of the two parts of a word
pub ones_parts : (w k : ℕ) → count_ones w ≡ count_ones (w / 2 ^ k) + count_ones (w % 2 ^ k)
ones_parts w k = ap count_ones (sym (split w k)) ∙ ones_cat k (w / 2 ^ k) (w % 2 ^ k) (mod-lt w (pow_pos k))

module _ (n a b : ℕ) (sum : n ≡ a + b) (w : ℕ) (h : w < 2 ^ n) where
  high_lt : w / 2 ^ b < 2 ^ a
  high_lt = shr_lt a b (subst (λ (x : ℕ). w < 2 ^ x) sum h)

  low_lt : w % 2 ^ b < 2 ^ b
  low_lt = mod-lt w (pow_pos b)

  pub rotate_lt : rotate a b w < 2 ^ n
  unfolding rotate
  rotate_lt =
      subst (λ (x : ℕ). rotate a b w < x) (sym (pow-add 2 b a) ∙ ap (λ (x : ℕ). 2 ^ x) (add_comm b a ∙ sym sum)) (digits_lt low_lt high_lt)

  pub rotate_ones : count_ones (rotate a b w) ≡ count_ones w
  unfolding rotate
  rotate_ones = ones_cat a (w % 2 ^ b) (w / 2 ^ b) high_lt ∙ add_comm (count_ones (w % 2 ^ b)) (count_ones (w / 2 ^ b)) ∙ sym (ones_parts w b)

  pub rotate_high : rotate a b w / 2 ^ a ≡ w % 2 ^ b
  unfolding rotate
  rotate_high = digits_div (w % 2 ^ b) high_lt

  pub rotate_remainder : (r g : ℕ) → remainder r g (2 ^ n) ≡ 1 → remainder r g (rotate a b w) ≡ remainder r g (w * 2 ^ a)
  unfolding rotate
  rotate_remainder r g cyclic =
      let hi = w / 2 ^ b in
      let lo = w % 2 ^ b in
      let whole : w * 2 ^ a ≡ bit_xor (hi * 2 ^ n) (lo * 2 ^ a) =
      ap (λ (x : ℕ). x * 2 ^ a) (sym (xor_shifted hi b lo low_lt ∙ split w b)) ∙ xor_shl (hi * 2 ^ b) lo a
      ∙ ap (λ (x : ℕ). bit_xor x (lo * 2 ^ a))
      (mul_assoc hi (2 ^ b) (2 ^ a) ∙ ap (λ (x : ℕ). hi * x) (sym (pow-add 2 b a) ∙ ap (λ (x : ℕ). 2 ^ x) (add_comm b a ∙ sym sum))) in
      ap (remainder r g) (sym (xor_shifted lo a hi high_lt)) ∙ remainder_xor r g (lo * 2 ^ a) hi ∙ xor_comm (remainder r g (lo * 2 ^ a)) (remainder r g hi)
      ∙ ap (λ (x : ℕ). bit_xor x (remainder r g (lo * 2 ^ a))) (sym (remainder_cycle r g n cyclic hi))
      ∙ sym (ap (remainder r g) whole ∙ remainder_xor r g (hi * 2 ^ n) (lo * 2 ^ a))
