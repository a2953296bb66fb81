use Rattle.tables.proofs.OneSpelling.{one_spelling}
use Rattle.tables.proofs.speller.one_spelling.Goals as goal

pub returns : goal.returns
returns c = one_spelling
