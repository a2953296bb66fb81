-- Numbers as digits.
use Rattle.std.specs.Prelude.{◌≡◌, ℕ, ◌+◌, ◌<◌, ◌≤◌, cond, List, [], ◌∷◌, map, length, ◌==◌, nat_lt, ◌≢◌}
use Rattle.std.specs.Int.Digits.{number_from_digits, digits_of, AllBelowBase}
use Rattle.lines.specs.declared.number.Base.{Base}
use Rattle.lines.specs.declared.number.Base.TheVariants.{Decimal, Hexadecimal}

abbrev pub base_number : Base → ℕ
base_number Decimal = 10
base_number Hexadecimal = 16

-- the byte of a digit: 0 to 9, then a to f
abbrev pub digit : ℕ → ℕ
digit d = cond (nat_lt d 10) (48 + d) (87 + d)

-- the byte is this digit of the base
abbrev pub IsDigit : ℕ → ℕ → ℕ → Type 0
IsDigit base byte d = (d < base) × (byte ≡ digit d)

-- the text writes the number x in this base, with 1 to `most` digits; leading zeros are allowed
pub record Writes (base most : ℕ) (text : List ℕ) (x : ℕ) : Type 0 where
  pub digits : List ℕ
  pub under : AllBelowBase base digits
  pub spelled : text ≡ map digit digits
  pub some : 0 < length digits
  pub few : length digits ≤ most
  pub value : x ≡ number_from_digits base digits

-- the text of a number: no leading zero, and 0 is `0`
abbrev pub text_of : ℕ → ℕ → List ℕ
text_of base x = cond (x == 0) (digit 0 ∷ []) (map digit (digits_of base x))

-- The text of a number writes that number. It is `0` for 0, and begins with `0` for no other.
pub record Plain : Type 0 where
  pub writes : (base x : ℕ) → 2 ≤ base → Writes base (length (text_of base x)) (text_of base x) x
  pub of_zero : (base : ℕ) → text_of base 0 ≡ digit 0 ∷ []
  pub no_zero : (base x : ℕ) (rest : List ℕ) → 2 ≤ base → 0 < x → text_of base x ≢ digit 0 ∷ rest
