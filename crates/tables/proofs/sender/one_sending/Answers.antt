use Rattle.tables.proofs.Sending.{one_sending}
use Rattle.tables.proofs.sender.one_sending.Goals as goal

pub returns : goal.returns
returns c = one_sending
