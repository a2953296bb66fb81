-- The three codes: their numbers pass the test, and their least distances.
use Rattle.std.proofs.Common.{◌≡◌, ℕ, ◌+◌, ◌*◌, ◌^◌, ◌<◌, sym, refl, ◌∙◌, arith, lit<, pow_pos}
use Rattle.cyclic.specs.Polynomial.{horner_in, horner, scale, times_x, remainder}
use Rattle.cyclic.specs.Sound.{weight, spans, sound_at, sound}
use Rattle.cyclic.specs.Generator.{Numbers, code_of, parity_bits, syndrome, g23, q31, q41}
use Rattle.cyclic.specs.Code.{LeastDistance, Perfect}
use Rattle.cyclic.specs.Name.{numbers_named, distance_named}
use Rattle.cyclic.specs.declared.name.Name.{Name}
use Rattle.cyclic.specs.declared.name.Name.TheVariants.{G23, Q31, Q41}
use Rattle.cyclic.specs.Codewords.{lawful, codeword_by_syndrome}
use Rattle.cyclic.specs.Facts.{Holds, holds}
use Rattle.cyclic.specs.Linear.{remainder_zero}
use Rattle.cyclic.proofs.Perfect.{marks, all_reached, perfect}
use Rattle.cyclic.specs.Span.{weight_ones}

pub g23_holds : Holds g23
unfolding horner_in horner scale times_x remainder weight spans sound_at sound
g23_holds = holds g23 refl

pub q31_holds : Holds q31
unfolding horner_in horner scale times_x remainder weight spans sound_at sound
q31_holds = holds q31 refl

pub q41_holds : Holds q41
unfolding horner_in horner scale times_x remainder weight spans sound_at sound
q41_holds = holds q41 refl

-- a codeword of weight 2 t + 1 is that far from 0, and no two are nearer
least : (c : Numbers) → Holds c → (w : ℕ) → w < 2 ^ c.n → syndrome c w ≡ 0 → weight w ≡ 2 * c.t + 1 → 0 < w → LeastDistance (code_of c) (2 * c.t + 1)
least c f w h z heavy pos = record {
  apart = (lawful c f).apart;
  met = (
    0,
    w,
    codeword_by_syndrome c f 0 (pow_pos c.n) (remainder_zero (parity_bits c) c.generator),
    codeword_by_syndrome c f w h z,
    λ e. omega arith,
    sym (weight_ones w) ∙ heavy,
  );
}

pub g23_distance : LeastDistance (code_of g23) 7
unfolding horner_in horner scale times_x remainder weight
g23_distance = least g23 g23_holds 0xae3 (lit< tt) refl refl (lit< tt)

pub q31_distance : LeastDistance (code_of q31) 7
unfolding horner_in horner scale times_x remainder weight
q31_distance = least q31 q31_holds 0xe309 (lit< tt) refl refl (lit< tt)

pub q41_distance : LeastDistance (code_of q41) 9
unfolding horner_in horner scale times_x remainder weight
q41_distance = least q41 q41_holds 0x40eb81 (lit< tt) refl refl (lit< tt)

pub g23_perfect : Perfect (code_of g23)
unfolding marks scale times_x
g23_perfect = perfect (lawful g23 g23_holds) (all_reached g23 g23_holds refl)

pub named_holds : (name : Name) → Holds (numbers_named name)
named_holds G23 = g23_holds
named_holds Q31 = q31_holds
named_holds Q41 = q41_holds

pub named_distance : (name : Name) → LeastDistance (code_of (numbers_named name)) (distance_named name)
named_distance G23 = g23_distance
named_distance Q31 = q31_distance
named_distance Q41 = q41_distance
