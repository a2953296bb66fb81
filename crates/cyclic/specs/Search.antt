-- The patterns that correcting searches for, and what the search has passed over.
use Rattle.std.specs.Prelude.{◌≡◌, ℕ, ◌+◌, ◌^◌, ◌<◌, ◌≤◌, List, length, bit_xor, count_ones, slice_index}
use Rattle.cyclic.specs.Generator.{Numbers, parity_bits, syndrome}

-- e is a pattern of at most u flips with the syndrome s
pub record Pattern (c : Numbers) (u s e : ℕ) : Type 0 where
  pub below : e < 2 ^ c.n
  pub remainder : syndrome c e ≡ s
  pub light : count_ones e ≤ u

-- the syndrome of each power of x below x^n
pub record Table (c : Numbers) (xs : List ℕ) : Type 0 where
  pub size : c.n ≤ length xs
  pub at : (i : ℕ) → i < c.n → slice_index xs i ≡ syndrome c (2 ^ i)

-- the syndrome of each power of x that a message bit stands for
pub record MessageTable (c : Numbers) (xs : List ℕ) : Type 0 where
  pub size : length xs ≡ c.k
  pub at : (i : ℕ) → i < c.k → slice_index xs i ≡ syndrome c (2 ^ (parity_bits c + i))

-- the syndrome of one flip, at bit i
abbrev pub row_of : Numbers → ℕ → ℕ
row_of c i = syndrome c (2 ^ i)

-- with one flip at a message bit below hi, too many are left for the parity bits
abbrev pub Singles : Numbers → ℕ → ℕ → Type 0
Singles c s hi = (a : ℕ) → parity_bits c ≤ a → a < hi → c.t < count_ones (bit_xor s (row_of c a)) + 1

-- so it is with a second one, above lo and below hi, beside the flip that left the difference `one`
abbrev pub Seconds : Numbers → ℕ → ℕ → ℕ → Type 0
Seconds c one lo hi = (b : ℕ) → lo < b → b < hi → c.t < count_ones (bit_xor one (row_of c b)) + 2

-- so it is with each pair of message bits whose first is below hi
abbrev pub Pairs : Numbers → ℕ → ℕ → Type 0
Pairs c s hi = (a : ℕ) → parity_bits c ≤ a → a < hi → Seconds c (bit_xor s (row_of c a)) a c.n
