use Rattle.std.proofs.Common.{rules, ◌≤◌, length, arith}
use Rattle.std.proofs.lemmas.List.{length-take-le}
use Rattle.lines.proofs.Numbers.{begun_below, begun_product, begun_more, writes_digit}
use Rattle.lines.proofs.number.read_number.Goals as goal

pub overflow_mul-value : goal.overflow_mul-value
overflow_mul-value c =
    let many = c.radix.ensures in
    let most : length c.args.text.now ≤ c.args.most = search rules in
    let few = length-take-le c.loop-byte.byte-index c.args.text.now (omega arith) in
    rw many.value (omega (arith, begun_product c.loop-byte.invariant (omega (arith, many.value, many.range)) (omega (arith, many.value, many.range)) (omega arith)))

pub returns-in_err-value : goal.returns-in_err-value
returns-in_err-value c = rw c.from_residual.ensures (λ x w. c.in_err-value.ensures _ (writes_digit w c.loop-byte.byte-index (omega arith)))

pub overflow_add-value : goal.overflow_add-value
overflow_add-value c =
    let many = c.radix.ensures in
    let most : length c.args.text.now ≤ c.args.most = search rules in
    let few = length-take-le c.loop-byte.byte-index c.args.text.now (omega arith) in
    rw many.value (omega (arith, begun_below c.loop-byte.invariant _ _ c.in_ok-value.ensures (omega (arith, many.value, many.range)) (omega arith)))

pub loop-byte-preserved : goal.loop-byte-preserved
loop-byte-preserved c =
    rw c.radix.ensures.value (begun_more c.args.text.now c.loop-byte.byte-index c.loop-byte.invariant c.in_ok-value.field-0 c.loop-byte-test.true c.in_ok-value.ensures)
