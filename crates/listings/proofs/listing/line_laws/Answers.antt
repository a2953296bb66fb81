use Rattle.lines.proofs.Commands.{grammar}
use Rattle.listings.proofs.Conversations.{keeps_book}
use Rattle.listings.proofs.OneReply.{one_line}
use Rattle.listings.proofs.Refusals.{thirteen, refusals}
use Rattle.listings.proofs.listing.line_laws.Goals as goal

pub returns : goal.returns
returns c = record { grammar = grammar; one = one_line; thirteen = thirteen; refusals = refusals; book = keeps_book }
