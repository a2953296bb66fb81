use Rattle.std.proofs.Common.{◌≡◌, ◌-◌}
use Rattle.std.specs.Slice.Iter.{iter_rest}
use Rattle.tables.specs.Feed.{InHand, left}
use Rattle.tables.proofs.feed.Feed.draw.Given as goal

abbrev pub invariant-loop-self : goal.invariant-loop-self
invariant-loop-self g l =
    let now = l.self-inside in
    let before = l.initial.self-inside in
    let number = g.S.Symbol.number in
    InHand number now.width (iter_rest now.symbols) now.held now.bits
    × (now.width ≡ before.width)
    × (left number now.width (iter_rest now.symbols) now.held now.bits ≡ left number before.width (iter_rest before.symbols) before.held before.bits)

abbrev pub decreases-loop-self : goal.decreases-loop-self
decreases-loop-self g l = l.width - l.self-inside.bits
