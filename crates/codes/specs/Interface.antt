-- What the calls of a code answer.
use Rattle.std.specs.Prelude.{◌≡◌, ℕ, ◌^◌, ◌<◌, ◌≤◌, true, false, [], ◌∷◌, Result, bit_xor}
use Rattle.codes.specs.declared.fault.Fault.{Fault}
use Rattle.codes.specs.declared.fault.Layer.TheVariants.{Word}
use Rattle.codes.specs.declared.interface.Shape.{Shape}
use Rattle.codes.specs.declared.interface.Correction.{Correction}
use Rattle.codes.specs.Fault.{Test, test, Outcome}
use Rattle.codes.specs.Meaning.{Meaning, Lawful, One, message, Carries, Within, Beyond}

-- 1: the code is in service
abbrev pub in_service : Meaning → ℕ → Test
in_service m place = test 1 Word place (m.serves ≡ true) (m.serves ≡ false)

-- 2: the word is below 2 ^ n
abbrev pub word_fits : Meaning → ℕ → ℕ → Test
word_fits m w place = test 2 Word place (w < 2 ^ m.n) (2 ^ m.n ≤ w)

-- 3: the message is below 2 ^ k
abbrev pub message_fits : Meaning → ℕ → Test
message_fits m a = test 3 Word 0 (a < 2 ^ m.k) (2 ^ m.k ≤ a)

-- 4: some codeword is within reach of the word
abbrev pub in_reach : Meaning → ℕ → Test
in_reach m w = test 4 Word 0 ((v : ℕ) × Within m w v) (Beyond m w)

-- the shape is n, k and t
pub record Shapes (m : Meaning) (s : Shape) : Type 0 where
  pub length : s.length ≡ m.n
  pub bits : s.message_bits ≡ m.k
  pub reach : s.reach ≡ m.t

-- the correction of `w` is the codeword within reach, its message, and the sum of word and codeword
pub record Corrects (m : Meaning) (w : ℕ) (a : Correction) : Type 0 where
  pub within : Within m w a.codeword
  pub carried : a.message ≡ message m a.codeword
  pub flips : a.pattern ≡ bit_xor w a.codeword

abbrev pub Shaped : Meaning → Result Shape Fault → Type 0
Shaped m = Outcome (in_service m 0 ∷ []) (Shapes m)

abbrev pub Encoded : Meaning → ℕ → Result ℕ Fault → Type 0
Encoded m a = Outcome (in_service m 0 ∷ message_fits m a ∷ []) (Carries m a)

abbrev pub Corrected : Meaning → ℕ → Result Correction Fault → Type 0
Corrected m w = Outcome (in_service m 0 ∷ word_fits m w 0 ∷ in_reach m w ∷ []) (Corrects m w)

-- a lawful meaning leaves exactly one answer to each call
pub record OneAnswer : Type 0 where
  pub shape : (m : Meaning) → Lawful m → One (Shaped m)
  pub encode : (m : Meaning) → Lawful m → (a : ℕ) → One (Encoded m a)
  pub correct : (m : Meaning) → Lawful m → (w : ℕ) → One (Corrected m w)
