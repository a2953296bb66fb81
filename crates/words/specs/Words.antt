-- Words whose codewords are known, as one table over the meanings of codes.
use Rattle.std.specs.Prelude.{◌≡◌, ℕ, List, [], ◌∷◌, length, Ok, Err, bit_xor}
use Rattle.codes.specs.declared.fault.Fault.{Fault}
use Rattle.codes.specs.Fault.{number}
use Rattle.codes.specs.Interface.{Encoded, Corrected}
use Rattle.codes.specs.Meaning.{Meaning}
use Rattle.cyclic.specs.Generator.{code_of, g23, q31, q41}
use Rattle.layers.specs.Parity.{with_parity}
use Rattle.layers.specs.Shortened.{shorten}
use Rattle.tables.specs.Sender.{Sent}

pub data Row : Type 0 where
  -- a message and its codeword
  encodes : Meaning → ℕ → ℕ → Row
  -- a word, the message that it is corrected to, and the pattern
  corrects : Meaning → ℕ → ℕ → ℕ → Row
  -- a word that correcting refuses, and the number of the refusal
  refuses : Meaning → ℕ → ℕ → Row
  -- a table, and the words that it is sent as
  sends : Meaning → List ℕ → List ℕ → Row

-- a row is an answer of its code
abbrev pub Stands : Row → Type 0
Stands (encodes m a v) = Encoded m a (Ok v)
Stands (corrects m w a e) = Corrected m w (Ok (record { codeword = bit_xor w e; message = a; pattern = e }))
Stands (refuses m w i) = (f : Fault) × (number f.cause ≡ i) × Corrected m w (Err f)
Stands (sends m table list) = (before : List ℕ) → length before ≡ length list → Sent m table before (Ok (length list)) list

abbrev pub Stand : List Row → Type 0
Stand [] = Unit {0}
Stand (row ∷ rows) = Stands row × Stand rows

abbrev pub words : List Row
words =
    encodes (code_of g23) 1 0xae3 ∷ encodes (code_of g23) 0xfff 0x7fffff ∷ corrects (code_of g23) 0xf 0x402 0x201200 ∷ refuses (code_of q31) 0xf 4
    ∷ corrects (code_of q31) 0x40006308 1 0x40008001 ∷ corrects (code_of q41) 0x1b4e54 1 0xf ∷ corrects (code_of q41) 0x700001 0 0x700001
    ∷ encodes (with_parity (code_of g23)) 1 0x15c7 ∷ refuses (with_parity (code_of g23)) 0x1e 4 ∷ corrects (with_parity (code_of g23)) 0x1f 0x402 0x402400
    ∷ corrects (shorten (code_of g23) 1) 0xf 0x402 0x201200 ∷ refuses (shorten (code_of g23) 2) 0xf 4
    ∷ sends (code_of g23) (5 ∷ []) (0xae3 ∷ 0x2868a ∷ []) ∷ []
