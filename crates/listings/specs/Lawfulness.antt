-- A code that was picked keeps the laws, and a report has at most 256 places.
use Rattle.std.specs.Prelude.{◌≤◌, length}
use Rattle.std.proofs.Common.{arith}
use Rattle.std.proofs.lemmas.List.{length-map, length-take}
use Rattle.codes.specs.Meaning.{Lawful}
use Rattle.cyclic.specs.Generator.{numbers}
use Rattle.cyclic.specs.Codewords.{lawful}
use Rattle.cyclic.specs.Facts.{facts}
use Rattle.layers.specs.ParityLaws.{parity_lawful}
use Rattle.link.specs.declared.report.Report.{Report}
use Rattle.link.specs.Report.{heard_in, place_in, places_of}
use Rattle.listings.specs.declared.choice.Choice.{Choice}
use Rattle.listings.specs.declared.choice.Choice.TheVariants.{Plain, WithParity}
use Rattle.listings.specs.Choice.{choice_means}

pub choice_lawful : (c : Choice) → Lawful (choice_means c)
choice_lawful (Plain c) = lawful (numbers c.generator) (facts c.generator)
choice_lawful (WithParity p) = parity_lawful (lawful (numbers p.below.generator) (facts p.below.generator))

pub few_places : (r : Report) → length (places_of r) ≤ 256
few_places r = omega (arith, length-map (heard_in r) place_in, length-take r.count r.cells, r.few)
