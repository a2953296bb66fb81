use Rattle.lines.proofs.Commands.{offer_no_word}
use Rattle.lines.proofs.command.read_offer.Goals as goal

pub returns-in_err-word : goal.returns-in_err-word
returns-in_err-word c =
    rw c.from_residual-in_err-word.ensures (offer_no_word c.args.tail.now c.in_ok-after_space.field-0.now c.in_ok-after_space.ensures c.in_err-word.ensures)
