-- The text of a reply, and writing it into a buffer.
use Rattle.std.specs.Prelude.{◌≡◌, ℕ, ◌<◌, ◌≤◌, List, [], ◌∷◌, ◌++◌, length, drop, codes, Result, ◌≢◌}
use Rattle.std.specs.List.{AllByRecursion}
use Rattle.codes.specs.declared.fault.Fault.{Fault}
use Rattle.codes.specs.declared.fault.Layer.TheVariants.{Table}
use Rattle.codes.specs.Fault.{number, Test, test, Transition}
use Rattle.codes.specs.Meaning.{One}
use Rattle.link.specs.declared.receiver.Answer.{Answer}
use Rattle.link.specs.declared.receiver.Answer.TheVariants.{Settled as settled_at, Gap as gap_at}
use Rattle.lines.specs.declared.reply.Reply.{Reply}
use Rattle.lines.specs.declared.reply.Reply.TheVariants.{Settled, Gap, Cleared, Refused}
use Rattle.lines.specs.Number.{text_of}
use Rattle.lines.specs.Token.{space}

-- the reply to what the receiver answered
abbrev pub reply_to : Answer → Reply
reply_to (settled_at p a e) = Settled p a e
reply_to (gap_at p) = Gap p

abbrev pub line_feed : ℕ
line_feed = 10

-- a number behind a space
abbrev pub field : ℕ → ℕ → List ℕ
field base x = space ∷ text_of base x

-- a reply without its line feed
abbrev pub reply_words : Reply → List ℕ
reply_words (Settled place message pattern) = codes "OK" ++ field 10 place ++ field 16 message ++ field 16 pattern
reply_words (Gap place) = codes "GAP" ++ field 10 place
reply_words Cleared = codes "CLEAR"
reply_words (Refused cause) = codes "NO" ++ field 10 (number cause)

abbrev pub reply_text : Reply → List ℕ
reply_text reply = reply_words reply ++ line_feed ∷ []

-- 9: the buffer has room for the text
abbrev pub text_fits : Reply → List ℕ → Test
text_fits reply buffer = test 9 Table 0 (length (reply_text reply) ≤ length buffer) (length buffer < length (reply_text reply))

-- the text is at the front of the buffer, and the rest is as before
abbrev pub Written : Reply → List ℕ → Result ℕ Fault → List ℕ → Type 0
Written reply before =
    Transition (text_fits reply before ∷ []) before
    (λ count after. (count ≡ length (reply_text reply)) × (after ≡ reply_text reply ++ drop (length (reply_text reply)) before))

-- a reply leaves a buffer one outcome
abbrev pub OneWriting : Type 0
OneWriting = (reply : Reply) (before : List ℕ) → One {A = Result ℕ Fault × List ℕ} (λ x. Written reply before x.0 x.1)

-- A reply is one line, and no other reply has the same.
pub record Told : Type 0 where
  pub one_line : (reply : Reply) → AllByRecursion (λ b. b ≢ line_feed) (reply_words reply)
  pub apart : (reply other : Reply) → reply_text reply ≡ reply_text other → reply ≡ other
