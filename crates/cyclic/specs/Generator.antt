-- The code of a generator, and the three generators.
use Rattle.std.specs.Prelude.{◌≡◌, ℕ, ◌-◌, ◌^◌, ◌<◌, Bool, true, ◌&&◌, ◌==◌, nat_eq, nat_lt}
use Rattle.codes.specs.Bounded.{any_below}
use Rattle.codes.specs.Meaning.{Meaning}
use Rattle.cyclic.specs.Polynomial.{product, remainder, Multiple}
use Rattle.cyclic.specs.declared.generator.Generator.{Generator}

-- the numbers of a code: its length, its message bits, its reach and its generator
pub record Numbers : Type 0 where
  pub n : ℕ
  pub k : ℕ
  pub t : ℕ
  pub generator : ℕ

-- the multiples of the generator of degree below n
abbrev pub multiple_below : ℕ → ℕ → ℕ → Bool
multiple_below n g w = nat_lt w (2 ^ n) && any_below (λ q. nat_eq w (product q g)) (2 ^ n)

-- the code of these numbers, in service
abbrev pub code_of : Numbers → Meaning
code_of c = record { n = c.n; k = c.k; t = c.t; codeword = multiple_below c.n c.generator; serves = true }

abbrev pub g23 : Numbers
g23 = record { n = 23; k = 12; t = 3; generator = 0xae3 }

abbrev pub q31 : Numbers
q31 = record { n = 31; k = 16; t = 3; generator = 0xe309 }

abbrev pub q41 : Numbers
q41 = record { n = 41; k = 21; t = 4; generator = 0x1b4e5b }

abbrev pub numbers : Generator → Numbers
numbers c = record { n = c.n; k = c.k; t = c.t; generator = c.polynomial }

-- the number of parity bits, which is the degree of the generator
abbrev pub parity_bits : Numbers → ℕ
parity_bits c = c.n - c.k

-- the syndrome of a word: its remainder by the generator
abbrev pub syndrome : Numbers → ℕ → ℕ
syndrome c w = remainder (parity_bits c) c.generator w

-- the multiples of the generator of degree below n, with no bound on the multiplier
abbrev pub Codeword : Numbers → ℕ → Type 0
Codeword c w = (w < 2 ^ c.n) × Multiple c.generator w

-- the codewords are the multiples of degree below n, and they are the words below 2 ^ n with remainder 0
pub record Multiples (c : Numbers) : Type 0 where
  pub only : (w : ℕ) → (code_of c).codeword w ≡ true → Codeword c w
  pub every : (w : ℕ) → Codeword c w → (code_of c).codeword w ≡ true
  pub computed : (w : ℕ) → (code_of c).codeword w ≡ (nat_lt w (2 ^ c.n) && syndrome c w == 0)
