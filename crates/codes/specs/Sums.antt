-- A lemma on sums of words, digit by digit: what is added twice is gone.
use Rattle.std.specs.Prelude.{◌≡◌, ℕ, bit_xor}
use Rattle.std.proofs.Math.Path.{sym, ap}
use Rattle.std.proofs.Common.{◌∙◌}
use Rattle.std.specs.Int.Bits.{xor_assoc, xor_self}

pub xor_cancel : (a b : ℕ) → bit_xor a (bit_xor a b) ≡ b
xor_cancel a b = sym (xor_assoc a a b) ∙ ap (λ (x : ℕ). bit_xor x b) (xor_self a)
