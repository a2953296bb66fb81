use Rattle.std.proofs.Common.{refl, lit≤}
use Rattle.cyclic.specs.Polynomial.{horner_in, horner, scale, times_x, remainder}
use Rattle.cyclic.specs.Sound.{weight, spans, sound_at, sound}
use Rattle.cyclic.proofs.name.Name.generator.Goals.{in-G23, in-Q31, in-Q41}
use Rattle.cyclic.proofs.name.Name.generator.Goals as goal

-- the test of the numbers is computed
pub invariant_of-result : goal.invariant_of-result
unfolding horner_in horner scale times_x remainder weight spans sound_at sound
invariant_of-result c = elim c.match-self.branch [
  | in-G23 w ↦ rw w.result-is (record { split = lit≤ tt; short = lit≤ tt; near = lit≤ tt; tested = refl })
  | in-Q31 w ↦ rw w.result-is (record { split = lit≤ tt; short = lit≤ tt; near = lit≤ tt; tested = refl })
  | in-Q41 w ↦ rw w.result-is (record { split = lit≤ tt; short = lit≤ tt; near = lit≤ tt; tested = refl })
]
