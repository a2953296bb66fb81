-- What passes bits on, and what is found of messages on the way. No contract that is seen outside cites any of this, so it need not be believed.
use Rattle.std.specs.Prelude.{◌≡◌, ℕ, ◌+◌, ◌*◌, ◌/◌, ◌%◌, ◌^◌, ◌<◌, List, [], ◌∷◌, length, map, All}
use Rattle.tables.specs.Speller.{TableOf}

-- symbols of `w` bits as one number, the first one lowest
abbrev pub joined : ℕ → List ℕ → ℕ
joined w [] = 0
joined w (s ∷ ss) = s % 2 ^ w + 2 ^ w * joined w ss

-- what is left to be drawn, as one number, and the width of the symbols that it comes in
pub record Supply : Type 0 where
  pub left : ℕ
  pub width : ℕ

-- bits in hand, and above them the symbols to come
abbrev pub left : {S : Type 0} → (S → ℕ) → ℕ → List S → ℕ → ℕ → ℕ
left number w symbols held bits = held + 2 ^ bits * joined w (map number symbols)

abbrev pub supply : ℕ → ℕ → Supply
supply left width = record { left = left; width = width }

-- the bits in hand are as many as they are said to be, and the symbols to come have at most `w` bits each
pub record InHand {S : Type 0} (number : S → ℕ) (w : ℕ) (symbols : List S) (held bits : ℕ) : Type 0 where
  pub some : 0 < w
  pub few : bits < 64
  pub below : held < 2 ^ bits
  pub fits : All (λ s. number s < 2 ^ w) symbols

-- each symbol has at most `w` bits
abbrev pub Below : ℕ → List ℕ → Type 0
Below w = All (λ s. s < 2 ^ w)

-- what the messages hold past the end of the stream of a table of `size` bytes
abbrev pub past_end : ℕ → List ℕ → ℕ → ℕ
past_end k messages size = joined k messages / 2 ^ (8 * (size + 2))

-- no table has these messages
abbrev pub NoTable : ℕ → List ℕ → Type 0
NoTable k messages = (T : List ℕ) → TableOf k messages T → ⊥

-- the messages are those of a table of `size` bytes, and of no table of another size
pub record Sized (k : ℕ) (messages : List ℕ) (size : ℕ) : Type 0 where
  pub below : Below k messages
  pub some : (T : List ℕ) × TableOf k messages T × (length T ≡ size)
  pub only : (T : List ℕ) → TableOf k messages T → length T ≡ size
