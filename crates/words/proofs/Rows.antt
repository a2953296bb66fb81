-- Rows over the codes of generators, each from a computed test.
use Rattle.std.proofs.Common.{ℕ, suc, ◌*◌, ◌/◌, ◌^◌, ◌≤◌, Bool, ◌&&◌, T, eqb, ltb, leb, refl, inl, inr, eqb→eq, ltb→lt, leb→le}
use lib.Bits.{bit_xor}
use lib.Count.{ones}
use Rattle.codes.specs.declared.fault.Cause.TheVariants.{BeyondReach}
use Rattle.codes.specs.declared.fault.Layer.TheVariants.{Word}
use Rattle.codes.specs.Fault.{fault}
use Rattle.cyclic.specs.Sound.{weight, spans}
use Rattle.cyclic.specs.Generator.{Numbers, code_of, parity_bits, syndrome}
use Rattle.cyclic.specs.Search.{Pattern}
use Rattle.cyclic.specs.Codewords.{encoded}
use Rattle.cyclic.specs.Facts.{Holds}
use Rattle.cyclic.proofs.Reach.{found, none_found, none_either_way}
use Rattle.cyclic.proofs.Search.{few_none}
use Rattle.cyclic.specs.Span.{both, weight_ones, spans_heavy}
use Rattle.cyclic.specs.Turns.{systematic, syndrome_lt}
use Rattle.words.specs.Words.{encodes, corrects, refuses, Stands}

module _ (c : Numbers) (f : Holds c) where
  unfoldable pub encoding : ℕ → ℕ → Bool
  encoding a v = ltb a (2 ^ c.k) && eqb v (systematic c f a)

  pub encodes_row : (a v : ℕ) → T (encoding a v) → Stands (encodes (code_of c) a v)
  unfolding encoding
  encodes_row a v h =
      let parts = both (ltb a (2 ^ c.k)) _ h in
      let short = ltb→lt a (2 ^ c.k) parts.0 in
      rw (eqb→eq v (systematic c f a) parts.1) ((refl, (short, tt)), encoded c f a short)

  unfoldable pub correcting : ℕ → ℕ → ℕ → Bool
  correcting w a e =
      ltb w (2 ^ c.n) && (ltb e (2 ^ c.n) && (eqb (syndrome c e) (syndrome c w) && (leb (weight e) c.t && eqb a (bit_xor w e / 2 ^ parity_bits c))))

  pub corrects_row : (w a e : ℕ) → T (correcting w a e) → Stands (corrects (code_of c) w a e)
  unfolding correcting
  corrects_row w a e h0 =
      let h1 = both (ltb w (2 ^ c.n)) _ h0 in
      let h2 = both (ltb e (2 ^ c.n)) _ h1.1 in
      let h3 = both (eqb (syndrome c e) (syndrome c w)) _ h2.1 in
      let h4 = both (leb (weight e) c.t) _ h3.1 in
      let short = ltb→lt w (2 ^ c.n) h1.0 in
      let pattern : Pattern c c.t (syndrome c w) e =
      record {
        below = ltb→lt e (2 ^ c.n) h2.0;
        remainder = eqb→eq (syndrome c e) (syndrome c w) h3.0;
        light = rw (← weight_ones e) (leb→le (weight e) c.t h4.0);
      } in
      let answer = found c f w e short pattern in (
        (refl, (short, ((bit_xor w e, answer.within), tt))),
        rw (eqb→eq a (bit_xor w e / 2 ^ parity_bits c) h4.1) answer,
      )

  -- no pattern of this syndrome has at most two flips in message bits
  unfoldable pub alone : ℕ → Bool
  alone s = ltb c.t (weight s) && spans (parity_bits c) c.generator c.k 2 (suc c.t) s (syndrome c (2 ^ parity_bits c))

  alone_none : (s : ℕ) → T (alone s) → (e : ℕ) → Pattern c c.t s e → ones (e / 2 ^ parity_bits c) ≤ 2 → ⊥
  unfolding alone
  alone_none s h =
      let a = both (ltb c.t (weight s)) _ h in
      few_none c f s (rw (← weight_ones s) (ltb→lt c.t (weight s) a.0))
      (spans_heavy (parity_bits c) c.generator c.k 2 (suc c.t) (parity_bits c) s (syndrome c (2 ^ parity_bits c)) refl a.1)

  unfoldable pub refusing : ℕ → Bool
  refusing w = ltb w (2 ^ c.n) && (alone (syndrome c w) && alone (syndrome c (syndrome c w * 2 ^ parity_bits c)))

  pub refuses_row : (w : ℕ) → T (refusing w) → Stands (refuses (code_of c) w 4)
  unfolding refusing
  refuses_row w h0 =
      let h1 = both (ltb w (2 ^ c.n)) _ h0 in
      let h2 = both (alone (syndrome c w)) _ h1.1 in
      let short = ltb→lt w (2 ^ c.n) h1.0 in
      let beyond =
      none_found c f w short
      (none_either_way c f (syndrome c w) (syndrome_lt c f w) (alone_none (syndrome c w) h2.0) (alone_none (syndrome c (syndrome c w * 2 ^ parity_bits c)) h2.1)) in
      (fault BeyondReach Word 0, refl, inr (refl, inr (short, inl (beyond, (refl, refl, refl)))))
