-- What a listing answers to each line after the first.
use Rattle.std.specs.Prelude.{◌≡◌, ℕ, ◌<◌, ◌≤◌, ◌⊎◌, List, [], ◌∷◌, ◌++◌, length, drop, Ok, Err, Result, slice_set}
use Rattle.codes.specs.declared.fault.Cause.{Cause}
use Rattle.codes.specs.declared.fault.Fault.{Fault}
use Rattle.codes.specs.declared.fault.Layer.TheVariants.{Table}
use Rattle.codes.specs.Fault.{number, Test, test, Transition}
use Rattle.codes.specs.Meaning.{Meaning, Lawful, One}
use Rattle.link.specs.declared.receiver.Answer.{Answer}
use Rattle.link.specs.Receiver.{Offered, Repeated, Keeps, flips_by}
use Rattle.runs.specs.declared.calls.Call.{Call}
use Rattle.runs.specs.declared.calls.Call.TheVariants.{Offer, Repeat, Clear}
use Rattle.lines.specs.declared.heading.Heading.{Heading}
use Rattle.lines.specs.declared.reply.Reply.{Reply}
use Rattle.lines.specs.declared.reply.Reply.TheVariants.{Cleared, Refused}
use Rattle.lines.specs.Command.{Stands, StandsForNone}
use Rattle.lines.specs.Reply.{reply_to, reply_text}
use Rattle.listings.specs.Choice.{named}
use Rattle.listings.specs.Listing.{Held}

-- the reply to what the receiver answered
abbrev pub reply_of : Result Answer Fault → Reply
reply_of (Ok answer) = reply_to answer
reply_of (Err f) = Refused f.cause

-- a command is carried out: an offer or a repeat as the receiver answers it, and a clearing
abbrev pub Does : Meaning → Call → Held → Reply → Held → Type 0
Does m (Offer w) before reply after =
    (r : Result Answer Fault) × Offered m w before.places r after.places × Keeps r before.flips (λ a. before.flips ++ flips_by a ∷ []) after.flips × (reply ≡ reply_of r)
Does m (Repeat p w) before reply after =
    (r : Result Answer Fault) × Repeated m p w before.places r after.places × Keeps r before.flips (λ a. slice_set before.flips p (flips_by a)) after.flips × (reply ≡ reply_of r)
Does m Clear before reply after = (reply ≡ Cleared) × (after.places ≡ []) × (after.flips ≡ [])

-- the reply to a line that stands for no command is 13, and nothing changes
abbrev pub Passes : Held → Reply → Held → Type 0
Passes before reply after = ((c : Cause) × (number c ≡ 13) × (reply ≡ Refused c)) × (after ≡ before)

-- what a line comes to
abbrev pub Replied : Meaning → List ℕ → Held → Reply → Held → Type 0
Replied m line before reply after = ((c : Call) × Stands line c × Does m c before reply after) ⊎ (StandsForNone line × Passes before reply after)

-- 9: the buffer has room for any reply
abbrev pub line_fits : List ℕ → Test
line_fits buffer = test 9 Table 0 (32 ≤ length buffer) (length buffer < 32)

-- The reply to a line stands at the front of the buffer, and the rest is as before; where the buffer is too short, nothing changes.
abbrev pub Lined : Meaning → List ℕ → Held × List ℕ → Result ℕ Fault → Held × List ℕ → Type 0
Lined m line before =
    Transition (line_fits before.1 ∷ []) before
    (λ count after. (reply : Reply) × Replied m line before.0 reply after.0 × (count ≡ length (reply_text reply)) × (after.1 ≡ reply_text reply ++ drop (length (reply_text reply)) before.1))

-- a lawful meaning leaves a line one answer, one report and one buffer after it
abbrev pub OneLine : Type 0
OneLine = (m : Meaning) → Lawful m → (line : List ℕ) (before : Held × List ℕ) → One {A = Result ℕ Fault × (Held × List ℕ)} (λ x. Lined m line before x.0 x.1)

-- The reply to a line is the refusal 13 exactly where the line stands for no command.
pub record Thirteen : Type 0 where
  pub only_then : (m : Meaning) (line : List ℕ) (before after : Held) (c : Cause) → Replied m line before (Refused c) after → number c ≡ 13 → StandsForNone line
  pub always : (m : Meaning) (line : List ℕ) (before after : Held) (reply : Reply) → Replied m line before reply after → StandsForNone line → (c : Cause) × (number c ≡ 13) × (reply ≡ Refused c)

-- Over a code that a first line names, a line is refused with 2, 5, 6 or 13, and with no other number.
abbrev pub Refusals : Type 0
Refusals =
    (h : Heading) (line : List ℕ) (before after : Held) (c : Cause) → Replied (named h) line before (Refused c) after →
    (number c ≡ 2) ⊎ ((number c ≡ 5) ⊎ ((number c ≡ 6) ⊎ (number c ≡ 13)))
