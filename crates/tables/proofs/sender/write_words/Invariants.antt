use Rattle.std.proofs.Common.{ℕ, ◌<◌, slice_index}
use Rattle.codes.specs.Meaning.{Carries}
use Rattle.tables.specs.Stream.{message_at}
use Rattle.tables.proofs.Sending.{Remaining}
use Rattle.tables.proofs.sender.write_words.Given as goal

abbrev pub invariant-loop-word : goal.invariant-loop-word
invariant-loop-word g l =
    let width = l.width.bits in
    Remaining width l.table l.word-index l.messages
    × ((i : ℕ) → i < l.word-index → Carries (g.C.Code.means l.code) (message_at width l.table i) (slice_index l.words i))
