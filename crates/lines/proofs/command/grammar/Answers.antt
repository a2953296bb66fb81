use Rattle.lines.proofs.Commands.{grammar}
use Rattle.lines.proofs.command.grammar.Goals as goal

pub returns : goal.returns
returns c = grammar
