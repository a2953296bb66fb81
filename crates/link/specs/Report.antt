-- What a report holds: its places, and the flips behind each.
use Rattle.std.specs.Prelude.{ℕ, Bool, true, false, List, map, take, count_by}
use Rattle.link.specs.declared.report.Place.{Place}
use Rattle.link.specs.declared.report.Place.TheVariants.{Settled, Gap}
use Rattle.link.specs.declared.report.Heard.{Heard}
use Rattle.link.specs.declared.report.Heard.TheVariants.{Settled as settled_over, Gap as no_word}
use Rattle.link.specs.declared.report.Report.{Report}

-- what was heard, in order; past the count nothing is
abbrev pub heard_in : Report → List Heard
heard_in r = take r.count r.cells

-- the place that is kept of a word, and the flips that it was settled over; 0 for a gap
abbrev pub place_in : Heard → Place
place_in (settled_over e a) = Settled a
place_in no_word = Gap

abbrev pub flips_in : Heard → ℕ
flips_in (settled_over e a) = e
flips_in no_word = 0

-- the places, in order
abbrev pub places_of : Report → List Place
places_of r = map place_in (heard_in r)

-- how many flips each place was settled over
abbrev pub flips_of : Report → List ℕ
flips_of r = map flips_in (heard_in r)

-- whether a word settled the place
abbrev pub is_settled : Place → Bool
is_settled (Settled a) = true
is_settled Gap = false

-- how many places are settled
abbrev pub settled_in : List Place → ℕ
settled_in ps = count_by is_settled ps
