-- Polynomials over bits, held as numbers: bit i is the coefficient of x^i, and the sum is `bit_xor`.
use Rattle.std.specs.Prelude.{◌≡◌, ℕ, zero, suc, ◌+◌, ◌*◌, ◌/◌, ◌%◌, ◌^◌, bit_xor}

-- Horner's rule over the binary digits of w, highest first. At most d digits are looked at.
unfoldable pub horner_in : (ℕ → ℕ → ℕ) → ℕ → ℕ → ℕ
horner_in f zero w = zero
horner_in f (suc d) zero = zero
horner_in f (suc d) (suc w) = f (horner_in f d (suc w / 2)) (suc w % 2)

unfoldable pub horner : (ℕ → ℕ → ℕ) → ℕ → ℕ
horner f w = horner_in f w w

-- the bit b times p
unfoldable pub scale : ℕ → ℕ → ℕ
scale zero p = zero
scale (suc b) p = p

-- q times g
unfoldable pub product : ℕ → ℕ → ℕ
product q g = horner (λ p b. bit_xor (p * 2) (scale b g)) q

-- w is a multiple of g
abbrev pub Multiple : ℕ → ℕ → Type 0
Multiple g w = (q : ℕ) × (w ≡ product q g)

-- x times s, less g where that has degree r
unfoldable pub times_x : ℕ → ℕ → ℕ → ℕ
times_x r g s = bit_xor (s * 2) (scale (s * 2 / 2 ^ r % 2) g)

-- The remainder of w by a generator g of degree r: the digits of w are shifted in, highest first.
unfoldable pub remainder : ℕ → ℕ → ℕ → ℕ
remainder r g w = horner (λ s b. bit_xor (times_x r g s) b) w

-- a word of a + b bits, rotated a places upwards
unfoldable pub rotate : ℕ → ℕ → ℕ → ℕ
rotate a b w = w % 2 ^ b * 2 ^ a + w / 2 ^ b
