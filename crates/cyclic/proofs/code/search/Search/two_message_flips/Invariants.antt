use Rattle.std.proofs.Common.{◌≡◌, ◌+◌, None}
use Rattle.cyclic.specs.Generator.{parity_bits}
use Rattle.cyclic.specs.Search.{Seconds, Pairs}
use Rattle.cyclic.specs.Sought.{searched}
use Rattle.cyclic.proofs.code.search.Search.two_message_flips.Given as goal

abbrev pub invariant-pairs : goal.invariant-pairs
invariant-pairs l = (l.found ≡ None) × Pairs (searched l.self) l.self.syndrome (parity_bits (searched l.self) + l.i)

abbrev pub invariant-loop-j : goal.invariant-loop-j
invariant-loop-j l =
    let r = parity_bits (searched l.self) in
    (l.found ≡ None) × Seconds (searched l.self) l.one (r + l.i) (r + (l.i + 1 + l.j))
