-- What the test of a code's numbers shows.
use Rattle.std.specs.Prelude.{◌≡◌, ℕ, zero, suc, ◌+◌, ◌*◌, ◌/◌, ◌^◌, ◌≤◌, true, T, ◌≢◌, ◌==◌, nat_le, refl}
use Rattle.std.proofs.Common.{sym, subst, leb→le, eqb→eq}
use Rattle.cyclic.specs.Polynomial.{remainder}
use Rattle.cyclic.specs.Sound.{sound_at, sound}
use Rattle.codes.specs.Meaning.{distance}
use Rattle.cyclic.specs.Generator.{Numbers, numbers, parity_bits, Codeword}
use Rattle.cyclic.specs.declared.generator.Generator.{Generator}
use Rattle.cyclic.specs.Span.{both, spans_heavy, Heavy}
use Rattle.cyclic.specs.Distance.{apart}

pub record Facts (n k t r g : ℕ) : Type 0 where
  pub parts : n ≡ k + r
  pub half : k ≡ suc r
  pub low : 1 ≤ r
  pub short : n ≤ 42
  pub reach : t ≤ 4
  pub degree : g / 2 ^ r ≡ 1
  pub factor : remainder r g g ≡ 0
  pub cyclic : remainder r g (2 ^ n) ≡ 1
  pub heavy : Heavy r g k t (2 * t + 1) r zero

facts_at : (n k t r g : ℕ) → T (sound_at n k t r g) → Facts n k t r g
unfolding sound_at
facts_at n k t r g h0 =
    let h1 = both (n == k + r) _ h0 in
    let h2 = both (k == suc r) _ h1.1 in
    let h3 = both (nat_le 1 r) _ h2.1 in
    let h4 = both (nat_le n 42) _ h3.1 in
    let h5 = both (nat_le t 4) _ h4.1 in
    let h6 = both (g / 2 ^ r == 1) _ h5.1 in
    let h7 = both (remainder r g g == 0) _ h6.1 in
    let h8 = both (remainder r g (2 ^ n) == 1) _ h7.1 in
    record {
      parts = eqb→eq n (k + r) h1.0;
      half = eqb→eq k (suc r) h2.0;
      low = leb→le 1 r h3.0;
      short = leb→le n 42 h4.0;
      reach = leb→le t 4 h5.0;
      degree = eqb→eq (g / 2 ^ r) 1 h6.0;
      factor = eqb→eq (remainder r g g) 0 h7.0;
      cyclic = eqb→eq (remainder r g (2 ^ n)) 1 h8.0;
      heavy = spans_heavy r g k t (2 * t + 1) r zero (remainder r g (2 ^ r)) refl h8.1;
    }

abbrev pub Holds : Numbers → Type 0
Holds c = Facts c.n c.k c.t (parity_bits c) c.generator

pub holds : (c : Numbers) → sound c.n c.k c.t c.generator ≡ true → Holds c
unfolding sound
holds c e = facts_at c.n c.k c.t (parity_bits c) c.generator (subst T (sym e) tt)

pub facts : (c : Generator) → Holds (numbers c)
facts c = holds (numbers c) c.tested

-- two different codewords differ in more than twice the reach
pub far_apart : (c : Numbers) → Holds c → (a b : ℕ) → Codeword c a → Codeword c b → a ≢ b → 2 * c.t + 1 ≤ distance a b
far_apart c f = apart (parity_bits c) c.generator c.n c.k c.t f.parts f.half f.cyclic f.heavy f.factor
