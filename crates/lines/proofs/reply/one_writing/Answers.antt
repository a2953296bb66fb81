use Rattle.lines.proofs.Replies.{one_writing, told}
use Rattle.lines.proofs.Tokens.{plain}
use Rattle.lines.proofs.reply.one_writing.Goals as goal

pub returns : goal.returns
returns c = record { one = one_writing; told = told; plain = plain }
