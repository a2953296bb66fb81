-- What a step of the receiver answers. No public contract cites it, so it need not be believed.
use Rattle.std.specs.Prelude.{ℕ, [], ◌∷◌, Result}
use Rattle.codes.specs.declared.fault.Fault.{Fault}
use Rattle.codes.specs.Fault.{Outcome}
use Rattle.codes.specs.Interface.{in_service, word_fits}
use Rattle.codes.specs.Meaning.{Meaning}
use Rattle.link.specs.declared.receiver.Answer.{Answer}
use Rattle.link.specs.Receiver.{Answers}

-- what the word `w` comes to at place `p`, whatever the report holds: refused with 1 or 2, or answered
abbrev pub AnsweredAt : Meaning → ℕ → ℕ → Result Answer Fault → Type 0
AnsweredAt m w p = Outcome (in_service m p ∷ word_fits m w p ∷ []) (Answers m w p)
