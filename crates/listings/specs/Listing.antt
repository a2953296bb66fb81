-- What a listing holds, and what it answers to its first line.
use Rattle.std.specs.Prelude.{◌≡◌, ℕ, List, [], ◌∷◌, Result}
use Rattle.codes.specs.declared.fault.Fault.{Fault}
use Rattle.codes.specs.Fault.{Outcome}
use Rattle.codes.specs.Meaning.{Meaning}
use Rattle.link.specs.declared.report.Place.{Place}
use Rattle.link.specs.Report.{places_of, flips_of}
use Rattle.lines.specs.declared.heading.Heading.{Heading}
use Rattle.lines.specs.Heading.{heading_text, is_heading}
use Rattle.listings.specs.declared.listing.Listing.{Listing}
use Rattle.listings.specs.Choice.{choice_means, named}

-- a listing is what its code means, the places of its report, and the flips behind them
abbrev pub meaning_in : Listing → Meaning
meaning_in l = choice_means l.receiver.code

abbrev pub places_in : Listing → List Place
places_in l = places_of l.receiver.report

abbrev pub flips_in : Listing → List ℕ
flips_in l = flips_of l.receiver.report

-- what a listing holds that a line may change: its places, and the flips behind them
pub record Held : Type 0 where
  pub places : List Place
  pub flips : List ℕ

abbrev pub held_in : Listing → Held
held_in l = record { places = places_in l; flips = flips_in l }

-- a new listing over the code that the line names
pub record Opened (line : List ℕ) (l : Listing) : Type 0 where
  pub heading : Heading
  pub text : line ≡ heading_text heading
  pub code : meaning_in l ≡ named heading
  pub places : places_in l ≡ []
  pub flips : flips_in l ≡ []

-- the first line is refused with 13 where it names no code
abbrev pub Opens : List ℕ → Result Listing Fault → Type 0
Opens line = Outcome (is_heading line ∷ []) (Opened line)
