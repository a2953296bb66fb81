-- The set of codewords, by multiples and by the remainder, and the laws.
use Rattle.std.specs.Prelude.{◌≡◌, ℕ, ◌^◌, ◌<◌, Bool, true, false, ◌&&◌, ◌==◌, bit_xor, nat_eq, nat_lt, refl}
use Rattle.std.proofs.Common.{sym, ap₂, ◌∙◌, arith}
use Rattle.std.proofs.lemmas.Nat.{xor_lt}
use Rattle.std.proofs.lemmas.Bool.{and_parts, and_from, ltb-true, lt-ltb, eqb-true, eq-eqb}
use Rattle.codes.specs.Bounded.{any_below}
use Rattle.codes.specs.Meaning.{Lawful, Carries}
use Rattle.codes.proofs.Bounds.{below_some, below_any}
use Rattle.cyclic.specs.Polynomial.{product}
use Rattle.cyclic.specs.Generator.{Numbers, code_of, parity_bits, syndrome, Codeword, Multiples}
use Rattle.cyclic.specs.Linear.{remainder_xor, multiple_remainder, divide, exact}
use Rattle.cyclic.specs.Facts.{Holds, far_apart}
use Rattle.cyclic.specs.Turns.{systematic, systematic_codeword, systematic_message, systematic_only}

same_test : (a b : Bool) → (a ≡ true → b ≡ true) → (b ≡ true → a ≡ true) → a ≡ b
same_test true b f g = sym (f refl)
same_test false true f g = g refl
same_test false false f g = refl

module _ (c : Numbers) (f : Holds c) where
  by_multiplier : ℕ → Bool
  by_multiplier w = any_below (λ q. nat_eq w (product q c.generator)) (2 ^ c.n)

  pub codeword_only : (w : ℕ) → (code_of c).codeword w ≡ true → Codeword c w
  unfolding by_multiplier
  codeword_only w e =
      let h = and_parts (nat_lt w (2 ^ c.n)) (by_multiplier w) e in
      let q = below_some (λ q. nat_eq w (product q c.generator)) (2 ^ c.n) h.1 in
      (ltb-true w (2 ^ c.n) h.0, (q.0, eqb-true w (product q.0 c.generator) q.2))

  -- the syndrome of a codeword
  pub no_syndrome : (w : ℕ) → Codeword c w → syndrome c w ≡ 0
  no_syndrome w k = multiple_remainder (parity_bits c) c.generator f.factor k.1

  pub codeword_by_syndrome : (w : ℕ) → w < 2 ^ c.n → syndrome c w ≡ 0 → (code_of c).codeword w ≡ true
  unfolding by_multiplier
  codeword_by_syndrome w h z =
      let r = parity_bits c in
      let g = c.generator in
      and_from (nat_lt w (2 ^ c.n)) (by_multiplier w) (lt-ltb w (2 ^ c.n) h)
      (below_any (λ q. nat_eq w (product q g)) (2 ^ c.n) (divide r g w).quotient ((divide r g w).bound c.n h)
      (eq-eqb w (product (divide r g w).quotient g) (exact r g w z)))

  pub codeword_every : (w : ℕ) → Codeword c w → (code_of c).codeword w ≡ true
  codeword_every w k = codeword_by_syndrome w k.0 (no_syndrome w k)

  pub multiples : Multiples c
  multiples = record {
    only = codeword_only;
    every = codeword_every;
    computed = λ w.
        same_test ((code_of c).codeword w) (nat_lt w (2 ^ c.n) && syndrome c w == 0)
        (λ e. let k = codeword_only w e in and_from (nat_lt w (2 ^ c.n)) (syndrome c w == 0) (lt-ltb w (2 ^ c.n) k.0) (eq-eqb (syndrome c w) 0 (no_syndrome w k)))
        (λ e. let h = and_parts (nat_lt w (2 ^ c.n)) (syndrome c w == 0) e in codeword_by_syndrome w (ltb-true w (2 ^ c.n) h.0) (eqb-true (syndrome c w) 0 h.1));
  }

  pub encoded : (a : ℕ) → a < 2 ^ c.k → Carries (code_of c) a (systematic c f a)
  encoded a h = (codeword_every (systematic c f a) (systematic_codeword c f a h), systematic_message c f a)

  pub lawful : Lawful (code_of c)
  lawful = record {
    message_fits = omega (arith, f.parts);
    reach_bound = omega (arith, f.reach);
    below = λ v h. (codeword_only v h).0;
    short = λ _. f.short;
    encodes = λ a h. (systematic c f a, encoded a h, λ w p. systematic_only c f a w (codeword_only w p.0) p.1);
    sums = λ v w p q.
        codeword_by_syndrome (bit_xor v w) (xor_lt c.n v w (codeword_only v p).0 (codeword_only w q).0)
        (remainder_xor (parity_bits c) c.generator v w ∙ ap₂ bit_xor (no_syndrome v (codeword_only v p)) (no_syndrome w (codeword_only w q)));
    apart = λ v w p q. far_apart c f v w (codeword_only v p) (codeword_only w q);
  }
