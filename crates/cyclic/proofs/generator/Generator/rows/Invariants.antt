use Rattle.std.proofs.Common.{◌≡◌, ℕ, ◌^◌, ◌<◌, get_or}
use Rattle.cyclic.specs.Generator.{numbers, syndrome}
use Rattle.cyclic.proofs.generator.Generator.rows.Given as goal

-- the entries so far stand, and `row` is the next
abbrev pub invariant-loop-entry : goal.invariant-loop-entry
invariant-loop-entry l =
    ((k : ℕ) → k < l.entry-index → get_or l.entry-items k 0 ≡ syndrome (numbers l.self) (2 ^ k))
    × (l.row ≡ syndrome (numbers l.self) (2 ^ l.entry-index))
