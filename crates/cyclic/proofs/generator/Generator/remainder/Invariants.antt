use Rattle.std.proofs.Common.{◌≡◌, ◌-◌, ◌/◌, ◌^◌}
use Rattle.cyclic.specs.Polynomial.{remainder}
use Rattle.cyclic.proofs.generator.Generator.remainder.Given as goal

-- the remainder of the bits from i on
abbrev pub invariant-loop-i : goal.invariant-loop-i
invariant-loop-i l = l.remainder ≡ remainder (l.self.n - l.self.k) l.self.polynomial (l.word / 2 ^ l.i)
