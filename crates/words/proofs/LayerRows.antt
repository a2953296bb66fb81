-- Rows over layers, each from a row of the code below.
use Rattle.std.proofs.Common.{◌≡◌, ℕ, ◌+◌, ◌-◌, ◌*◌, ◌/◌, ◌%◌, ◌^◌, ◌<◌, ◌≤◌, true, sym, refl, ap, ◌∙◌, inl, inr, arith}
use lib.Bits.{bit_xor}
use lib.Count.{ones}
use Rattle.std.proofs.lemmas.Grind.{common_steps}
use Rattle.codes.specs.declared.fault.Cause.TheVariants.{BeyondReach}
use Rattle.codes.specs.declared.fault.Layer.TheVariants.{Word}
use Rattle.codes.specs.Fault.{fault}
use Rattle.codes.specs.Interface.{Corrects}
use Rattle.codes.specs.Meaning.{Meaning, Lawful, Beyond, distance}
use Rattle.codes.specs.Sums.{xor_cancel}
use Rattle.layers.specs.Parity.{with_parity, append_parity}
use Rattle.layers.specs.Shortened.{shorten}
use Rattle.layers.specs.ParityLaws.{parity_appended, appended_message, parity_only}
use Rattle.layers.specs.ShortenedLaws.{shorter_from, shorter_message, shorter_only}
use Rattle.words.specs.Words.{encodes, corrects, refuses, Stands}

-- a word beyond reach is refused with 4
refused : (m : Meaning) (w : ℕ) → m.serves ≡ true → w < 2 ^ m.n → Beyond m w → Stands (refuses m w 4)
refused m w serves short beyond = (fault BeyondReach Word 0, refl, inr (serves, inr (short, inl (beyond, (refl, refl, refl)))))

-- a codeword within reach is answered
answered : (m : Meaning) (w a e : ℕ) → m.serves ≡ true → w < 2 ^ m.n → Corrects m w (record { codeword = bit_xor w e; message = a; pattern = e }) → Stands (corrects m w a e)
answered m w a e serves short right = ((serves, (short, ((bit_xor w e, right.within), tt))), right)

module _ {m : Meaning} (law : Lawful m) (room : m.n + 1 ≤ 42) where
  serves : m.serves ≡ true → (with_parity m).serves ≡ true
  serves h = grind (arith, common_steps)

  with_bit : (v b : ℕ) → ones v % 2 ≡ b → append_parity v ≡ v * 2 + b
  with_bit v b e = ap (λ (x : ℕ). v * 2 + x) e

  pub parity_encodes : (a v b : ℕ) → Stands (encodes m a v) → ones v % 2 ≡ b → Stands (encodes (with_parity m) a (v * 2 + b))
  parity_encodes a v b row e =
      ((serves row.0.0, row.0.1), rw (← with_bit v b e) (parity_appended law v row.1.0, appended_message law v ∙ row.1.1))

  module _ (w a e b : ℕ) (row : Stands (corrects m (w / 2) a e)) (bit : ones (bit_xor (w / 2) e) % 2 ≡ b) (short : w < 2 ^ (m.n + 1)) where
    -- the codeword that the parity bit is appended to
    below : ℕ
    below = bit_xor (w / 2) e

    pub parity_refuses : m.t < distance w (bit_xor (w / 2) e * 2 + b) → Stands (refuses (with_parity m) w 4)
    unfolding below
    parity_refuses far =
        refused (with_parity m) w (serves row.0.0) short
        (parity_only law w below row.1.within (rw (with_bit below b bit) far))

    pub parity_corrects : (p : ℕ) → bit_xor w p ≡ bit_xor (w / 2) e * 2 + b → ones p ≤ m.t → Stands (corrects (with_parity m) w a p)
    unfolding below
    parity_corrects p is light =
        let same : bit_xor w p ≡ append_parity below = is ∙ sym (with_bit below b bit) in
        answered (with_parity m) w a p (serves row.0.0) short (record {
          within = (rw same (parity_appended law below row.1.within.0), rw (xor_cancel w p) light);
          carried = row.1.carried ∙ sym (ap (λ (x : ℕ). x / 2 ^ (m.n + 1 - m.k)) same ∙ appended_message law below);
          flips = sym (xor_cancel w p);
        })

module _ {m : Meaning} (law : Lawful m) (j w a e : ℕ) (row : Stands (corrects m w a e)) (short : w < 2 ^ (shorten m j).n) where
  pub shortened_corrects : bit_xor w e < 2 ^ (shorten m j).n → Stands (corrects (shorten m j) w a e)
  shortened_corrects low =
      answered (shorten m j) w a e row.0.0 short (record {
        within = (shorter_from law j (bit_xor w e) row.1.within.0 low, row.1.within.1);
        carried = row.1.carried ∙ sym (shorter_message law j (bit_xor w e));
        flips = row.1.flips;
      })

  pub shortened_refuses : 2 ^ (shorten m j).n ≤ bit_xor w e → Stands (refuses (shorten m j) w 4)
  shortened_refuses high = refused (shorten m j) w row.0.0 short (shorter_only law j w (bit_xor w e) row.1.within high)
