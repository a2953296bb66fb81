-- The laws of a shortened code, from the laws of the code below.
use Rattle.std.specs.Prelude.{◌≡◌, ℕ, ◌+◌, ◌-◌, ◌*◌, ◌/◌, ◌^◌, ◌<◌, ◌≤◌, true, bit_xor}
use Rattle.std.proofs.Common.{ap, ◌∙◌, div-lt_iff_lt-mul, arith, pow-add, pow_mono, pow_pos}
use Rattle.std.proofs.lemmas.Nat.{xor_lt}
use Rattle.std.proofs.lemmas.Grind.{common_steps}
use Rattle.codes.specs.Meaning.{Meaning, Lawful, One, Carries, Within, Beyond, message}
use Rattle.codes.proofs.Reach.{one_within}
use Rattle.layers.specs.Shortened.{shorten}

module _ {m : Meaning} (law : Lawful m) (j : ℕ) where
  shorter_parts : (w : ℕ) → (shorten m j).codeword w ≡ true → (m.codeword w ≡ true) × (w < 2 ^ (shorten m j).n)
  shorter_parts w h = grind (arith, common_steps)

  pub shorter_from : (w : ℕ) → m.codeword w ≡ true → w < 2 ^ (shorten m j).n → (shorten m j).codeword w ≡ true
  shorter_from w h l = grind (arith, common_steps)

  -- as many parity bits as below
  pub shorter_message : (w : ℕ) → message (shorten m j) w ≡ message m w
  shorter_message w = ap (λ (x : ℕ). w / 2 ^ x) (omega (arith, law.message_fits))

  -- a codeword is short where its message is
  pub shorter_below : (w : ℕ) → message m w < 2 ^ (shorten m j).k → w < 2 ^ (shorten m j).n
  shorter_below w h =
      let p = m.n - m.k in
      let top : w < 2 ^ (shorten m j).k * 2 ^ p = (div-lt_iff_lt-mul (pow_pos p)).0 h in
      let sum : (shorten m j).k + p ≡ (shorten m j).n = omega (arith, law.message_fits) in
      rw (← sum, pow-add 2 (shorten m j).k p) top

  pub shorter_carries : (a v : ℕ) → a < 2 ^ (shorten m j).k → Carries m a v → Carries (shorten m j) a v
  shorter_carries a v h c = (shorter_from v c.0 (shorter_below v (omega (arith, c.1))), shorter_message v ∙ c.1)

  shorter_encodes : (a : ℕ) → a < 2 ^ (shorten m j).k → One (Carries (shorten m j) a)
  shorter_encodes a h =
      let wide : 2 ^ (shorten m j).k ≤ 2 ^ m.k = pow_mono (omega arith) in
      let one = law.encodes a (omega arith) in
      (one.0, shorter_carries a one.0 h one.1, λ w p. one.2 w (grind (arith, shorter_parts w p.0, shorter_message w)))

  pub shorter_lawful : Lawful (shorten m j)
  shorter_lawful = record {
    message_fits = omega (arith, law.message_fits);
    reach_bound = law.reach_bound;
    below = λ w h. (shorter_parts w h).1;
    short = λ h. omega (arith, law.short h);
    encodes = shorter_encodes;
    sums = λ v w p q.
        shorter_from (bit_xor v w) (law.sums v w (shorter_parts v p).0 (shorter_parts w q).0)
        (xor_lt (shorten m j).n v w (shorter_parts v p).1 (shorter_parts w q).1);
    apart = λ v w p q ne. law.apart v w (shorter_parts v p).0 (shorter_parts w q).0 ne;
  }

  pub shorter_beyond : (w : ℕ) → Beyond m w → Beyond (shorten m j) w
  shorter_beyond w far v h = far v (shorter_parts v h).0

  -- where the codeword in reach is too long, no shorter one is in reach
  pub shorter_only : (w v : ℕ) → Within m w v → 2 ^ (shorten m j).n ≤ v → Beyond (shorten m j) w
  shorter_only w v near long u h = grind (arith, shorter_parts u h, one_within law w u v)
