-- The distance of words.
use Rattle.std.proofs.Common.{◌≡◌, ℕ, zero, suc, ◌+◌, ◌*◌, ◌/◌, ◌%◌, ◌≤◌, ap, ◌∙◌, arith}
use lib.Bits.{bit_xor, bit_and, xor_shr, and_shr, xor_mod, and_mod, xor_add_and, xor_assoc, xor_comm, xor_self, xor_zero_l}
use lib.Count.{ones, ones_step}
use Rattle.std.proofs.lemmas.Grind.{common_steps}
use Rattle.codes.specs.Meaning.{distance}

abbrev Counted : ℕ → ℕ → Type 0
Counted a b = ones (bit_xor a b) + 2 * ones (bit_and a b) ≡ ones a + ones b

counted : (d a b : ℕ) → a + b ≤ d → Counted a b
unfolding ones
counted zero a b h = grind (arith, common_steps)
counted (suc d) a b h =
    omega (
      arith,
      counted d (a / 2) (b / 2),
      ap ones (xor_shr a b 1),
      ap ones (and_shr a b 1),
      xor_mod a b 1,
      and_mod a b 1,
      xor_add_and (a % 2) (b % 2),
      ones_step,
    )

-- each bit that both have is counted on neither side of the sum
pub ones_xor : (a b : ℕ) → ones (bit_xor a b) + 2 * ones (bit_and a b) ≡ ones a + ones b
ones_xor a b = counted (a + b) a b (omega arith)

pub ones_xor_le : (a b : ℕ) → ones (bit_xor a b) ≤ ones a + ones b
ones_xor_le a b = omega (arith, ones_xor a b)

-- the sum by way of `b`
pub xor_through : (a b c : ℕ) → bit_xor (bit_xor a b) (bit_xor b c) ≡ bit_xor a c
xor_through a b c = simp (xor_assoc, ← xor_assoc b b c, xor_self, xor_zero_l)

pub triangle : (a b c : ℕ) → distance a c ≤ distance a b + distance b c
triangle a b c = omega (arith, ones_xor_le (bit_xor a b) (bit_xor b c), ap ones (xor_through a b c))

pub distance_comm : (a b : ℕ) → distance a b ≡ distance b a
distance_comm a b = ap ones (xor_comm a b)

-- the lowest bit, and the bits above it
pub distance_step : (a b : ℕ) → distance a b ≡ bit_xor a b % 2 + distance (a / 2) (b / 2)
distance_step a b = ones_step (bit_xor a b) ∙ ap (λ (x : ℕ). bit_xor a b % 2 + ones x) (xor_shr a b 1)
