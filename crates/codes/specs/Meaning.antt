-- What a code means, and the laws that it keeps.
use Rattle.std.specs.Prelude.{◌≡◌, ℕ, ◌+◌, ◌-◌, ◌*◌, ◌/◌, ◌^◌, ◌<◌, ◌≤◌, Bool, true, ◌≢◌, bit_xor, count_ones}

-- The five parts: n bits in a word, k of them the message, a reach of t flips, the set of codewords, and whether the code is in service.
pub record Meaning : Type 0 where
  pub n : ℕ
  pub k : ℕ
  pub t : ℕ
  pub codeword : ℕ → Bool
  pub serves : Bool

-- in how many bits two words differ; their sum is taken bit by bit, without carry
abbrev pub distance : ℕ → ℕ → ℕ
distance v w = count_ones (bit_xor v w)

-- the message of a codeword: the bits above the n - k lowest
abbrev pub message : Meaning → ℕ → ℕ
message m v = v / 2 ^ (m.n - m.k)

-- `v` is a codeword of the message `a`
abbrev pub Carries : Meaning → ℕ → ℕ → Type 0
Carries m a v = (m.codeword v ≡ true) × (message m v ≡ a)

-- `v` is a codeword within reach of the word `w`
abbrev pub Within : Meaning → ℕ → ℕ → Type 0
Within m w v = (m.codeword v ≡ true) × (distance w v ≤ m.t)

-- no codeword is within reach of the word `w`
abbrev pub Beyond : Meaning → ℕ → Type 0
Beyond m w = (v : ℕ) → m.codeword v ≡ true → m.t < distance w v

-- there is one that is such, and no other
abbrev pub One : {A : Type 0} → (A → Type 0) → Type 0
One {A} Such = (a : A) × Such a × ((b : A) → Such b → b ≡ a)

pub record Lawful (m : Meaning) : Type 0 where
  pub message_fits : m.k ≤ m.n
  pub reach_bound : m.t ≤ 20
  pub below : (v : ℕ) → m.codeword v ≡ true → v < 2 ^ m.n
  pub short : m.serves ≡ true → m.n ≤ 42
  pub encodes : (a : ℕ) → a < 2 ^ m.k → One (Carries m a)
  pub sums : (v w : ℕ) → m.codeword v ≡ true → m.codeword w ≡ true → m.codeword (bit_xor v w) ≡ true
  pub apart : (v w : ℕ) → m.codeword v ≡ true → m.codeword w ≡ true → v ≢ w → 2 * m.t + 1 ≤ distance v w
