-- The front of a line, which is all that is kept of it while it is read.
use Rattle.std.specs.Prelude.{◌≡◌, ℕ, List, [], ◌∷◌, ◌++◌, take}
use Rattle.runs.specs.declared.calls.Call.{Call}
use Rattle.lines.specs.declared.heading.Heading.{Heading}
use Rattle.lines.specs.Command.{Stands}
use Rattle.lines.specs.Heading.{heading_text}
use Rattle.listings.specs.declared.partial.PartialLine.{PartialLine}

-- what is kept
abbrev pub kept_in : PartialLine → List ℕ
kept_in p = take p.count p.bytes

-- the first 18 bytes of a line
abbrev pub front : List ℕ → List ℕ
front line = take 18 line

-- Keeping the front byte by byte keeps the front of the whole line, which is read as the line is: as the same command, the same heading, or neither.
pub record FrontTells : Type 0 where
  pub more : (line : List ℕ) (byte : ℕ) → front (front line ++ byte ∷ []) ≡ front (line ++ byte ∷ [])
  pub commands : (line : List ℕ) (c : Call) → Stands line c → Stands (front line) c
  pub no_others : (line : List ℕ) (c : Call) → Stands (front line) c → Stands line c
  pub headings : (line : List ℕ) (h : Heading) → line ≡ heading_text h → front line ≡ heading_text h
  pub no_more : (line : List ℕ) (h : Heading) → front line ≡ heading_text h → line ≡ heading_text h
