-- A listing keeps to the book of its commands, line by line.
use Rattle.std.proofs.Common.{ℕ, List, [], ◌∷◌, sym, refl, subst, inl, inr}
use Rattle.codes.specs.Meaning.{Meaning, Lawful}
use Rattle.runs.specs.declared.calls.Call.{Call}
use Rattle.runs.specs.declared.calls.Call.TheVariants.{Offer, Repeat, Clear}
use Rattle.runs.specs.Book.{noted, book_from, Demanded}
use Rattle.runs.proofs.Following.{offer_noted, repeat_noted, demanded_none}
use Rattle.lines.specs.declared.reply.Reply.{Reply}
use Rattle.lines.specs.Command.{Stands, StandsForNone}
use Rattle.listings.specs.Listing.{Held}
use Rattle.listings.specs.Line.{Does}
use Rattle.listings.specs.Conversation.{Answered, Commands, nothing, KeepsBook}

-- the report holds what the book demands
abbrev Kept : Meaning → List ℕ → Held → Type 0
Kept m ws held = Demanded m ws held.places held.flips

-- one more command before those of the lines that follow; one more line that stands for none
with_command : (line : List ℕ) (lines : List (List ℕ)) (c : Call) (cs : List Call) → Stands line c → Commands lines cs → Commands (line ∷ lines) (c ∷ cs)
with_command line lines c cs stands rest = inl (stands, rest)

with_none : (line : List ℕ) (lines : List (List ℕ)) (cs : List Call) → StandsForNone line → Commands lines cs → Commands (line ∷ lines) cs
with_none line lines [] none rest = (none, rest)
with_none line lines (c ∷ cs) none rest = inr (none, rest)

module _ (m : Meaning) (law : Lawful m) where
  command_kept : (ws : List ℕ) (before after : Held) (reply : Reply) (c : Call) → Kept m ws before → Does m c before reply after → Kept m (noted m ws c) after
  command_kept ws before after reply (Offer w) kept (r, offered, keeps, e) = offer_noted kept w after.places after.flips r offered keeps
  command_kept ws before after reply (Repeat p w) kept (r, repeated, keeps, e) = repeat_noted law kept p w after.places after.flips r repeated keeps
  command_kept ws before after reply Clear kept (e, places, flips) = demanded_none m after.places after.flips places flips

  lines_kept : (lines : List (List ℕ)) (replies : List Reply) (ws : List ℕ) (before after : Held) → Kept m ws before → Answered m before lines replies after
      → (cs : List Call) × Commands lines cs × Kept m (book_from m ws cs) after
  lines_kept [] [] ws before after kept same = ([], tt, subst (Kept m ws) (sym same) kept)
  lines_kept [] (reply ∷ replies) ws before after kept h = absurd h
  lines_kept (line ∷ lines) [] ws before after kept h = absurd h
  lines_kept (line ∷ lines) (reply ∷ replies) ws before after kept (between, inl (c, stands, done), rest) =
      let next = lines_kept lines replies (noted m ws c) between after (command_kept ws before between reply c kept done) rest in
      (c ∷ next.0, with_command line lines c next.0 stands next.1, next.2)
  lines_kept (line ∷ lines) (reply ∷ replies) ws before after kept (between, inr (none, passes), rest) =
      let next = lines_kept lines replies ws between after (subst (Kept m ws) (sym passes.1) kept) rest in
      (next.0, with_none line lines next.0 none next.1, next.2)

pub keeps_book : KeepsBook
keeps_book m law lines replies after h = lines_kept m law lines replies [] nothing after (demanded_none m [] [] refl refl) h
