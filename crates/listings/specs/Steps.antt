-- What the steps of a listing answer. No contract that is seen outside cites any of this, so it need not be believed.
use Rattle.std.specs.Prelude.{Ok, Err, Result}
use Rattle.codes.specs.declared.fault.Fault.{Fault}
use Rattle.lines.specs.declared.reply.Reply.{Reply}
use Rattle.lines.specs.declared.reply.Reply.TheVariants.{Refused}

-- the reply to a command that was carried out or refused
abbrev pub reply_for : Result Reply Fault → Reply
reply_for (Ok reply) = reply
reply_for (Err f) = Refused f.cause
