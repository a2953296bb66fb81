use Rattle.lines.proofs.Commands.{repeat_not_cut, repeat_no_place, repeat_no_word}
use Rattle.lines.proofs.command.read_repeat.Goals as goal

pub returns-in-err-digits : goal.returns-in-err-digits
returns-in-err-digits c =
    rw c.from-residual-in-err-digits.ensures (repeat_not_cut c.args.tail.now c.in-ok-after-space.field-0.now c.in-ok-after-space.ensures c.in-err-digits.ensures)

pub returns-in-err-place : goal.returns-in-err-place
returns-in-err-place c =
    let rest = c.in-ok-after-space in
    let cut = c.in-ok-digits in
    rw c.from-residual-in-err-place.ensures
    (repeat_no_place c.args.tail.now rest.field-0.now rest.ensures cut.digits.now cut.rest.now cut.ensures.0 cut.ensures.1 c.in-err-place.ensures)

pub returns-in-err-word : goal.returns-in-err-word
returns-in-err-word c =
    let rest = c.in-ok-after-space in
    let cut = c.in-ok-digits in
    rw c.from-residual-in-err-word.ensures
    (repeat_no_word c.args.tail.now rest.field-0.now rest.ensures cut.digits.now cut.rest.now cut.ensures.0 cut.ensures.1 c.in-err-word.ensures)
