use Rattle.lines.proofs.FirstLines.{headings}
use Rattle.lines.proofs.heading.headings.Goals as goal

pub returns : goal.returns
returns c = headings
