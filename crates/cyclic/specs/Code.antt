-- What the three codes owe beyond the laws of every code.
use Rattle.std.specs.Prelude.{◌≡◌, ℕ, ◌/◌, ◌^◌, ◌<◌, ◌≤◌, true, ◌≢◌, Err, bit_xor}
use Rattle.codes.specs.declared.fault.Fault.{Fault}
use Rattle.codes.specs.declared.interface.Correction.{Correction}
use Rattle.codes.specs.Fault.{number}
use Rattle.codes.specs.Interface.{Corrected}
use Rattle.codes.specs.Meaning.{Meaning, Within, distance}
use Rattle.cyclic.specs.Generator.{Numbers, numbers, code_of, parity_bits}
use Rattle.cyclic.specs.declared.code.Cyclic.{Cyclic}

-- the five parts of a cyclic code
abbrev pub meaning_of : Cyclic → Meaning
meaning_of c = code_of (numbers c.generator)

-- what correcting `w` answers, where `e` is the pattern
abbrev pub correction : Numbers → ℕ → ℕ → Correction
correction c w e = record { codeword = bit_xor w e; message = bit_xor w e / 2 ^ parity_bits c; pattern = e }

-- d is the least distance of two different codewords
pub record LeastDistance (m : Meaning) (d : ℕ) : Type 0 where
  pub apart : (v w : ℕ) → m.codeword v ≡ true → m.codeword w ≡ true → v ≢ w → d ≤ distance v w
  pub met : (v w : ℕ) × (m.codeword v ≡ true) × (m.codeword w ≡ true) × (v ≢ w) × (distance v w ≡ d)

-- every word has a codeword within reach, so that none below 2 ^ n is refused with 4
pub record Perfect (m : Meaning) : Type 0 where
  pub reached : (w : ℕ) → w < 2 ^ m.n → (v : ℕ) × Within m w v
  pub never_4 : (w : ℕ) (f : Fault) → w < 2 ^ m.n → Corrected m w (Err f) → number f.cause ≢ 4
