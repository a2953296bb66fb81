-- The refusals of a code, each from what its tests found, and that a lawful meaning leaves one answer.
use Rattle.std.proofs.Common.{◌≡◌, ℕ, ◌/◌, ◌^◌, ◌<◌, ◌≤◌, ◌≢◌, nat_eq, Bool, true, false, [], ◌∷◌, MatchBool, refl, arith, pow_mono, pow_pos}
use lib.Bits.{bit_xor}
use Rattle.std.proofs.lemmas.Bool.{both_ways, cases_Bool, cases_lt, eqb-true}
use Rattle.std.proofs.lemmas.Bool.Decides.{nat_tests}
use Rattle.codes.specs.declared.fault.Cause.TheVariants.{OutOfService, WordTooLong, MessageTooLong, BeyondReach}
use Rattle.codes.specs.declared.interface.Correction.{Correction}
use Rattle.codes.specs.declared.interface.Shape.{Shape}
use Rattle.codes.specs.Interface.{in_service, word_fits, message_fits, in_reach, Shapes, Corrects, OneAnswer}
use Rattle.codes.specs.Meaning.{Meaning, Lawful, One, Within, Carries, message}
use Rattle.codes.proofs.Faults.{Decided, one_outcome}
use Rattle.codes.proofs.Reach.{one_within, within_beyond, within_or_beyond}

pub when_from : (b : Bool) {P Q : Type 0} → (b ≡ true → P) → (b ≡ false → Q) → MatchBool b P Q
when_from true p q = p refl
when_from false p q = q refl

-- the test of a width by a shift
pub short_by_shift : (w n : ℕ) → w / 2 ^ n ≡ 0 → w < 2 ^ n
short_by_shift w n h = grind (arith, pow_pos n)

pub width_by_shift : (w n : ℕ) → MatchBool (nat_eq (w / 2 ^ n) 0) (w < 2 ^ n) (2 ^ n ≤ w)
width_by_shift w n =
    when_from (nat_eq (w / 2 ^ n) 0) (λ e. short_by_shift w n (eqb-true (w / 2 ^ n) 0 e))
    (λ e. let long : w / 2 ^ n ≢ 0 = grind (arith, nat_tests) in grind (arith, pow_pos n))

-- a width past the 64 bits of a number
pub widest : (n : ℕ) → 64 ≤ n → 2 ^ 64 ≤ 2 ^ n
widest n l = pow_mono l

-- ---- each test of a code is decided

module _ {m : Meaning} (law : Lawful m) where
  pub service_decided : (p : ℕ) → Decided (in_service m p)
  service_decided p = record { named = (OutOfService, refl); either = cases_Bool m.serves; not_both = λ a b. both_ways m.serves b a }

  pub word_decided : (w p : ℕ) → Decided (word_fits m w p)
  word_decided w p = record { named = (WordTooLong, refl); either = cases_lt w (2 ^ m.n); not_both = λ a b. omega arith }

  pub message_decided : (a : ℕ) → Decided (message_fits m a)
  message_decided a = record { named = (MessageTooLong, refl); either = cases_lt a (2 ^ m.k); not_both = λ p q. omega arith }

  pub reach_decided : (w : ℕ) → Decided (in_reach m w)
  reach_decided w = record { named = (BeyondReach, refl); either = within_or_beyond law w; not_both = λ a b. within_beyond law w a.0 a.1 b }

-- ---- one answer

abbrev shape_of : ℕ → ℕ → ℕ → Shape
shape_of n k t = record { length = n; message_bits = k; reach = t }

abbrev correction_of : ℕ → ℕ → ℕ → Correction
correction_of v a e = record { codeword = v; message = a; pattern = e }

one_shape : (m : Meaning) → One (Shapes m)
one_shape m = (
  shape_of m.n m.k m.t,
  record { length = refl; bits = refl; reach = refl },
  λ s p. rw (← p.length, ← p.bits, ← p.reach) refl,
)

one_correction : {m : Meaning} → Lawful m → (w v : ℕ) → Within m w v → One (Corrects m w)
one_correction {m} law w v near = (
  correction_of v (message m v) (bit_xor w v),
  record { within = near; carried = refl; flips = refl },
  λ a p. rw (← one_within law w a.codeword v p.within near, ← p.carried, ← p.flips) refl,
)

pub one_answer : OneAnswer
one_answer = record {
  shape = λ m law. one_outcome (Shapes m) (in_service m 0 ∷ []) (service_decided law 0, λ _. tt) (λ _. one_shape m);
  encode = λ m law a.
      one_outcome (Carries m a) (in_service m 0 ∷ message_fits m a ∷ []) (service_decided law 0, λ _. (message_decided law a, λ _. tt)) (λ p. law.encodes a p.1.0);
  correct = λ m law w.
      one_outcome (Corrects m w) (in_service m 0 ∷ word_fits m w 0 ∷ in_reach m w ∷ [])
      (service_decided law 0, λ _. (word_decided law w 0, λ _. (reach_decided law w, λ _. tt))) (λ p. one_correction law w p.1.1.0.0 p.1.1.0.1);
}
