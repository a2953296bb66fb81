-- A code whose highest message bits are left out.
use Rattle.std.specs.Prelude.{ℕ, ◌-◌, ◌^◌, min, ◌&&◌, nat_lt}
use Rattle.codes.specs.Meaning.{Meaning}
use Rattle.layers.specs.declared.shortened.Shortened.{Shortened}

-- how many message bits are left out: j of them, or all
abbrev pub cut : Meaning → ℕ → ℕ
cut m j = min j m.k

-- The codewords are those below 2 ^ n of the code underneath, for the n that is left.
abbrev pub shorten : Meaning → ℕ → Meaning
shorten m j = record {
  n = m.n - cut m j;
  k = m.k - cut m j;
  t = m.t;
  codeword = λ w. m.codeword w && nat_lt w (2 ^ (m.n - cut m j));
  serves = m.serves;
}

-- what the layer means, where `below` is what codes below it mean
abbrev pub shortened_over : {C : Type 0} → (C → Meaning) → Shortened C → Meaning
shortened_over below s = shorten (below s.below) s.by
