-- A code with a parity bit.
use Rattle.std.specs.Prelude.{ℕ, ◌+◌, ◌*◌, ◌/◌, ◌%◌, ◌&&◌, ◌==◌, bit_xor, count_ones, nat_le}
use Rattle.codes.specs.declared.interface.Correction.{Correction}
use Rattle.codes.specs.Meaning.{Meaning}
use Rattle.layers.specs.declared.parity.Parity.{Parity}

-- One bit more, lowest. Codewords are the words whose upper part is a codeword below and whose number of ones is even.
abbrev pub with_parity : Meaning → Meaning
with_parity m = record {
  n = m.n + 1;
  k = m.k;
  t = m.t;
  codeword = λ w. m.codeword (w / 2) && (count_ones w % 2 == 0);
  serves = m.serves && nat_le (m.n + 1) 42;
}

-- what the layer means, where `below` is what codes below it mean
abbrev pub parity_over : {C : Type 0} → (C → Meaning) → Parity C → Meaning
parity_over below p = with_parity (below p.below)

-- a word with the bit that makes its ones even
abbrev pub append_parity : ℕ → ℕ
append_parity v = v * 2 + count_ones v % 2

-- the correction of a word, from that of its upper part
abbrev pub raise : ℕ → Correction → Correction
raise w a = record { codeword = append_parity a.codeword; message = a.message; pattern = bit_xor w (append_parity a.codeword) }
