-- The search on the rotated syndrome, and what a pattern says of a word.
use Rattle.std.proofs.Common.{◌≡◌, ℕ, ◌+◌, ◌-◌, ◌*◌, ◌/◌, ◌%◌, ◌^◌, ◌<◌, ◌≤◌, sym, refl, ap, ◌∙◌, subst, ⊎_elim, lt_of_lt_of_le, mod-lt, mul_assoc, add_comm, arith, pow_pos, pow_mono, pow-add, shl_exact, shr_lt}
use lib.Bits.{bit_xor, bit_and, bit_or, and_mask, or_shifted, xor_lt, xor_self, xor_zero_r}
use lib.Count.{ones}
use Rattle.std.proofs.lemmas.Nat.{one_shl}
use Rattle.cyclic.specs.Polynomial.{remainder, rotate}
use Rattle.std.proofs.lemmas.Bool.{cases_lt}
use Rattle.codes.specs.Interface.{Corrects}
use Rattle.codes.specs.Meaning.{Beyond, distance}
use Rattle.cyclic.specs.Generator.{Numbers, code_of, parity_bits, syndrome, Codeword}
use Rattle.cyclic.specs.Code.{correction}
use Rattle.cyclic.specs.Search.{Pattern}
use Rattle.cyclic.specs.Linear.{remainder_small, remainder_xor, remainder_shift, remainder_cycle, remainder_multiple, multiple_remainder}
use Rattle.codes.specs.Sums.{xor_cancel}
use Rattle.cyclic.specs.Rotation.{ones_parts, rotate_lt, rotate_ones, rotate_remainder}
use Rattle.cyclic.specs.Distance.{rotated_message}
use Rattle.cyclic.specs.Codewords.{codeword_only, codeword_every}
use Rattle.cyclic.specs.Facts.{Holds}
use Rattle.cyclic.specs.Turns.{shifts}

module _ (c : Numbers) (f : Holds c) where
  -- a pattern of the rotated syndrome, rotated back
  back : (s e : ℕ) → s < 2 ^ parity_bits c → Pattern c c.t (syndrome c (s * 2 ^ parity_bits c)) e
      → Pattern c c.t s (rotate c.k (parity_bits c) e)
  back s e h p =
      let r = parity_bits c in
      let g = c.generator in
      let whole : s * 2 ^ r * 2 ^ c.k ≡ s * 2 ^ c.n =
      mul_assoc s (2 ^ r) (2 ^ c.k) ∙ ap (λ (x : ℕ). s * x) (sym (pow-add 2 r c.k) ∙ ap (λ (x : ℕ). 2 ^ x) (add_comm r c.k ∙ sym f.parts)) in
      record {
        below = rotate_lt c.n c.k r f.parts e p.below;
        remainder =
            rotate_remainder c.n c.k r f.parts e p.below r g f.cyclic
            ∙ remainder_shift r g e (s * 2 ^ r) c.k p.remainder ∙ ap (remainder r g) whole ∙ remainder_cycle r g c.n f.cyclic s ∙ remainder_small r g s h;
        light = subst (λ (x : ℕ). x ≤ c.t) (sym (rotate_ones c.n c.k r f.parts e p.below)) p.light;
      }

  -- a pattern, rotated with its syndrome
  onward : (s e : ℕ) → s < 2 ^ parity_bits c → Pattern c c.t s e
      → Pattern c c.t (syndrome c (s * 2 ^ parity_bits c)) (rotate (parity_bits c) c.k e)
  onward s e h p =
      let r = parity_bits c in
      let g = c.generator in
      let other : c.n ≡ r + c.k = f.parts ∙ add_comm c.k r in
      record {
        below = rotate_lt c.n r c.k other e p.below;
        remainder = rotate_remainder c.n r c.k other e p.below r g f.cyclic ∙ remainder_shift r g e s r (p.remainder ∙ sym (remainder_small r g s h));
        light = subst (λ (x : ℕ). x ≤ c.t) (sym (rotate_ones c.n r c.k other e p.below)) p.light;
      }

  -- a pattern has at most two flips in message bits, or more
  pub either_way : {s : ℕ} → ((e : ℕ) → Pattern c c.t s e → ones (e / 2 ^ parity_bits c) ≤ 2 → ⊥)
      → ((e : ℕ) → Pattern c c.t s e → 2 < ones (e / 2 ^ parity_bits c) → ⊥)
      → (e : ℕ) → Pattern c c.t s e → ⊥
  either_way few many e p = ⊎_elim (many e p) (few e p) (cases_lt 2 (ones (e / 2 ^ parity_bits c)))

  -- Of at most four flips at most two are in message bits, or they are once the word is rotated.
  none_many : (s : ℕ) → s < 2 ^ parity_bits c
      → ((e : ℕ) → Pattern c c.t (syndrome c (s * 2 ^ parity_bits c)) e → ones (e / 2 ^ parity_bits c) ≤ 2 → ⊥)
      → (e : ℕ) → Pattern c c.t s e → 2 < ones (e / 2 ^ parity_bits c) → ⊥
  none_many s h rotated e p many =
      rotated (rotate (parity_bits c) c.k e) (onward s e h p)
      (omega (
        arith,
        p.light,
        ones_parts e (parity_bits c),
        rotated_message (parity_bits c) c.generator c.n c.k c.t f.parts f.half f.cyclic f.heavy e p.below,
      ))

  pub none_either_way : (s : ℕ) → s < 2 ^ parity_bits c
      → ((e : ℕ) → Pattern c c.t s e → ones (e / 2 ^ parity_bits c) ≤ 2 → ⊥)
      → ((e : ℕ) → Pattern c c.t (syndrome c (s * 2 ^ parity_bits c)) e → ones (e / 2 ^ parity_bits c) ≤ 2 → ⊥)
      → (e : ℕ) → Pattern c c.t s e → ⊥
  none_either_way s h here rotated e p = either_way here (none_many s h rotated) e p

  -- the shifts and the mask of a rotation, within 64 bits
  pub rotates : (w : ℕ) → w < 2 ^ c.n
      → bit_or (bit_and w (1 * 2 ^ parity_bits c % 2 ^ 64 - 1) * 2 ^ c.k % 2 ^ 64) (w / 2 ^ parity_bits c) ≡ rotate c.k (parity_bits c) w
  unfolding rotate
  rotates w h =
      let r = parity_bits c in
      ap (λ (x : ℕ). bit_or (x * 2 ^ c.k % 2 ^ 64) (w / 2 ^ r)) (ap (λ (x : ℕ). bit_and w (x - 1)) (one_shl r 64 (omega arith)) ∙ and_mask w r)
      ∙ ap (λ (x : ℕ). bit_or x (w / 2 ^ r)) (shl_exact r c.k 64 (mod-lt w (pow_pos r)) (omega arith))
      ∙ or_shifted (w % 2 ^ r) c.k (w / 2 ^ r) (shr_lt c.k r (subst (λ (x : ℕ). w < 2 ^ x) f.parts h))

  -- a syndrome has fewer bits than a message
  pub as_message : (s : ℕ) → s < 2 ^ parity_bits c → s < 2 ^ c.k
  as_message s h = lt_of_lt_of_le h (pow_mono (omega arith))

  rotated_is : (s x : ℕ) → s < 2 ^ parity_bits c → x ≡ syndrome c (s * 2 ^ parity_bits c % 2 ^ 64)
      → x ≡ syndrome c (s * 2 ^ parity_bits c)
  rotated_is s x h e = e ∙ ap (syndrome c) (shifts c f s (as_message s h))

  -- the same of the syndrome that the search is run on
  pub back_from : (s e x : ℕ) → s < 2 ^ parity_bits c → x ≡ syndrome c (s * 2 ^ parity_bits c % 2 ^ 64) → Pattern c c.t x e
      → Pattern c c.t s (rotate c.k (parity_bits c) e)
  back_from s e x h is p = back s e h (subst (λ (y : ℕ). Pattern c c.t y e) (rotated_is s x h is) p)

  pub none_from : (s x : ℕ) → s < 2 ^ parity_bits c → x ≡ syndrome c (s * 2 ^ parity_bits c % 2 ^ 64)
      → ((e : ℕ) → Pattern c c.t x e → ones (e / 2 ^ parity_bits c) ≤ 2 → ⊥)
      → (e : ℕ) → Pattern c c.t s e → 2 < ones (e / 2 ^ parity_bits c) → ⊥
  none_from s x h is rotated =
      none_many s h (subst (λ (y : ℕ). (e : ℕ) → Pattern c c.t y e → ones (e / 2 ^ parity_bits c) ≤ 2 → ⊥) (rotated_is s x h is) rotated)

  -- ---- words

  pub found : (w e : ℕ) → w < 2 ^ c.n → Pattern c c.t (syndrome c w) e
      → Corrects (code_of c) w (correction c w e)
  found w e h p = record { within = (codeword_every c f (bit_xor w e) word, near); carried = refl; flips = sym (xor_cancel w e) }
    where
      word : Codeword c (bit_xor w e)
      word = (
        xor_lt c.n w e h p.below,
        remainder_multiple (parity_bits c) c.generator (bit_xor w e)
            (remainder_xor (parity_bits c) c.generator w e ∙ ap (bit_xor (syndrome c w)) p.remainder ∙ xor_self (syndrome c w)),
      )

      near : ones (bit_xor w (bit_xor w e)) ≤ c.t
      near = subst (λ (x : ℕ). ones x ≤ c.t) (sym (xor_cancel w e)) p.light

  pub none_found : (w : ℕ) → w < 2 ^ c.n → ((e : ℕ) → Pattern c c.t (syndrome c w) e → ⊥) → Beyond (code_of c) w
  none_found w h none d k = ⊎_elim (λ far. far) (λ near. absurd (none (bit_xor w d) (pattern (codeword_only c f d k) near))) (cases_lt c.t (distance w d))
    where
      pattern : Codeword c d → distance w d ≤ c.t → Pattern c c.t (syndrome c w) (bit_xor w d)
      pattern k near = record {
        below = xor_lt c.n w d h k.0;
        remainder =
            remainder_xor (parity_bits c) c.generator w d ∙ ap (bit_xor (syndrome c w)) (multiple_remainder (parity_bits c) c.generator f.factor k.1)
            ∙ xor_zero_r (syndrome c w);
        light = near;
      }
