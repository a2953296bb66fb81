-- The laws of a code with a parity bit, from the laws of the code below.
use Rattle.std.specs.Prelude.{◌≡◌, ℕ, ◌+◌, ◌-◌, ◌/◌, ◌%◌, ◌^◌, ◌<◌, true, bit_xor, count_ones, nat_le}
use Rattle.std.proofs.Common.{sym, ap, ◌∙◌, arith, pow-add, shr-shr}
use Rattle.std.proofs.lemmas.Nat.{xor_shr}
use Rattle.std.specs.Int.Count.{ones_step}
use Rattle.std.proofs.lemmas.Bool.{leb-true, and_parts}
use Rattle.std.proofs.lemmas.Grind.{common_steps}
use Rattle.codes.specs.Meaning.{Meaning, Lawful, One, Carries, Within, Beyond, message, distance}
use Rattle.codes.proofs.Distance.{ones_xor, distance_step}
use Rattle.codes.proofs.Reach.{one_within}
use Rattle.layers.specs.Parity.{with_parity, append_parity}

pub append_high : (v : ℕ) → append_parity v / 2 ≡ v
append_high v = omega arith

append_even : (v : ℕ) → count_ones (append_parity v) % 2 ≡ 0
append_even v = omega (arith, ones_step (append_parity v), ap count_ones (append_high v))

module _ {m : Meaning} (law : Lawful m) where
  pub parity_parts : (w : ℕ) → (with_parity m).codeword w ≡ true → (m.codeword (w / 2) ≡ true) × (count_ones w % 2 ≡ 0)
  parity_parts w h = grind (arith, common_steps)

  parity_from : (w : ℕ) → m.codeword (w / 2) ≡ true → count_ones w % 2 ≡ 0 → (with_parity m).codeword w ≡ true
  parity_from w h e = grind (arith, common_steps)

  pub parity_appended : (v : ℕ) → m.codeword v ≡ true → (with_parity m).codeword (append_parity v) ≡ true
  parity_appended v h = parity_from (append_parity v) (rw (append_high v) h) (append_even v)

  -- the message is that of the upper part
  parity_message : (w : ℕ) → message (with_parity m) w ≡ message m (w / 2)
  parity_message w =
      let shift : m.n + 1 - m.k ≡ 1 + (m.n - m.k) = omega (arith, law.message_fits) in
      ap (λ (x : ℕ). w / 2 ^ x) shift ∙ sym (shr-shr w 1 (m.n - m.k))

  pub appended_message : (v : ℕ) → message (with_parity m) (append_parity v) ≡ message m v
  appended_message v = parity_message (append_parity v) ∙ ap (message m) (append_high v)

  -- two codewords over one word are one
  parity_same : (v w : ℕ) → (with_parity m).codeword v ≡ true → (with_parity m).codeword w ≡ true → v / 2 ≡ w / 2 → v ≡ w
  parity_same v w p q e = omega (arith, (parity_parts v p).1, (parity_parts w q).1, ones_step v, ones_step w, ap count_ones e, e)

  parity_encodes : (a : ℕ) → a < 2 ^ m.k → One (Carries (with_parity m) a)
  parity_encodes a h =
      let one = law.encodes a h in
      let v = one.0 in (
        append_parity v,
        (parity_appended v one.1.0, appended_message v ∙ one.1.1),
        λ w p.
            parity_same w (append_parity v) p.0 (parity_appended v one.1.0)
            (one.2 (w / 2) ((parity_parts w p.0).0, sym (parity_message w) ∙ p.1) ∙ sym (append_high v)),
      )

  pub parity_lawful : Lawful (with_parity m)
  parity_lawful = record {
    message_fits = omega (arith, law.message_fits);
    reach_bound = law.reach_bound;
    below = λ w h. omega (arith, law.below (w / 2) (parity_parts w h).0, pow-add 2 m.n 1);
    short = λ h. leb-true (m.n + 1) 42 (and_parts m.serves (nat_le (m.n + 1) 42) h).1;
    encodes = parity_encodes;
    sums = λ v w p q.
        parity_from (bit_xor v w)
        (rw (xor_shr v w 1) (law.sums (v / 2) (w / 2) (parity_parts v p).0 (parity_parts w q).0))
        (omega (arith, ones_xor v w, (parity_parts v p).1, (parity_parts w q).1));
    apart = λ v w p q ne. grind (arith, parity_same v w p q, distance_step v w, law.apart (v / 2) (w / 2) (parity_parts v p).0 (parity_parts w q).0);
  }

  -- where the code below has no codeword in reach, none is in reach here
  pub parity_beyond : (w : ℕ) → Beyond m (w / 2) → Beyond (with_parity m) w
  parity_beyond w far v h = omega (arith, far (v / 2) (parity_parts v h).0, distance_step w v)

  -- and where it has one, none but that with its parity bit is
  pub parity_only : (w v : ℕ) → Within m (w / 2) v → m.t < distance w (append_parity v) → Beyond (with_parity m) w
  parity_only w v near far u h =
      let same = parity_same u (append_parity v) h (parity_appended v near.0) in
      grind (arith, same, append_high v, parity_parts u h, one_within law (w / 2) (u / 2) v, distance_step w u)
