-- Whole conversations: what a listing holds after any lines, good and bad.
use Rattle.std.specs.Prelude.{◌≡◌, ℕ, ◌⊎◌, List, [], ◌∷◌}
use Rattle.codes.specs.Meaning.{Meaning, Lawful}
use Rattle.runs.specs.declared.calls.Call.{Call}
use Rattle.runs.specs.Book.{book, Demanded}
use Rattle.lines.specs.declared.reply.Reply.{Reply}
use Rattle.lines.specs.Command.{Stands, StandsForNone}
use Rattle.listings.specs.Listing.{Held}
use Rattle.listings.specs.Line.{Replied}

-- line after line is answered
abbrev pub Answered : Meaning → Held → List (List ℕ) → List Reply → Held → Type 0
Answered m before [] [] after = after ≡ before
Answered m before [] (reply ∷ replies) after = ⊥
Answered m before (line ∷ lines) [] after = ⊥
Answered m before (line ∷ lines) (reply ∷ replies) after = (between : Held) × Replied m line before reply between × Answered m between lines replies after

-- the commands that lines stand for, in their order; a line that stands for none is passed over
abbrev pub Commands : List (List ℕ) → List Call → Type 0
Commands [] [] = Unit {0}
Commands [] (c ∷ cs) = ⊥
Commands (line ∷ lines) [] = StandsForNone line × Commands lines []
Commands (line ∷ lines) (c ∷ cs) = (Stands line c × Commands lines cs) ⊎ (StandsForNone line × Commands lines (c ∷ cs))

-- a new listing holds nothing
abbrev pub nothing : Held
nothing = record { places = []; flips = [] }

-- Over every lawful code, whatever lines a new listing is spoken to in, each place holds what the word behind it demands, by the book of the commands.
abbrev pub KeepsBook : Type 0
KeepsBook =
    (m : Meaning) → Lawful m → (lines : List (List ℕ)) (replies : List Reply) (after : Held) → Answered m nothing lines replies after →
    (cs : List Call) × Commands lines cs × Demanded m (book m cs) after.places after.flips
