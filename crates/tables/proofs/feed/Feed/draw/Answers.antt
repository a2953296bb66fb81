use Rattle.std.proofs.Common.{◌+◌, ◌<◌, ap, ◌∙◌, arith}
use Rattle.tables.specs.Feed.{Supply}
use Rattle.tables.proofs.Feeding.{taken_fits, taken_in_hand, taken_left, drawn_in_hand, drawn_left, drawn_number}
use Rattle.tables.proofs.feed.Feed.draw.Goals as goal

pub overflow_add-self : goal.overflow_add-self
overflow_add-self g c =
    let now = c.loop-self in
    let next = c.next_number.ensures in
    let width = ap (λ (v : Supply). v.width) c.self.view_is in
    record { fits = taken_fits now.invariant.0 next.number next.rest (omega (arith, now.invariant.1)) }

pub loop-self-preserved : goal.loop-self-preserved
loop-self-preserved g c =
    let now = c.loop-self in
    let next = c.next_number.ensures in
    let width = ap (λ (v : Supply). v.width) c.self.view_is in
    let room : now.self-inside.bits + now.self-inside.width < 64 = omega (arith, now.invariant.1) in (
      taken_in_hand now.invariant.0 next.number next.rest room,
      now.invariant.1,
      taken_left now.invariant.0 next.number next.rest room ∙ now.invariant.2,
    )

pub invariant_of-self : goal.invariant_of-self
invariant_of-self g c = drawn_in_hand c.loop-self.invariant.0 c.loop-self-test.false

pub returns-clause-number : goal.returns-clause-number
returns-clause-number g c =
    let number = drawn_number c.loop-self.invariant.0 c.loop-self-test.false in
    cc (c.loop-self.invariant.2, ap (λ (v : Supply). v.left) c.self.view_is)

pub returns-clause-rest : goal.returns-clause-rest
returns-clause-rest g c =
    let rest = drawn_left c.loop-self.invariant.0 c.loop-self-test.false in
    let same = c.loop-self.invariant in
    cc (ap (λ (v : Supply). v.left) c.self.view_is, ap (λ (v : Supply). v.width) c.self.view_is)
