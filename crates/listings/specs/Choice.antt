-- What the code that a heading names means.
use Rattle.std.specs.Prelude.{cond}
use Rattle.codes.specs.Meaning.{Meaning}
use Rattle.cyclic.specs.Generator.{code_of}
use Rattle.cyclic.specs.Code.{meaning_of}
use Rattle.layers.specs.Parity.{with_parity, parity_over}
use Rattle.lines.specs.declared.heading.Heading.{Heading}
use Rattle.cyclic.specs.declared.name.Name.{Name}
use Rattle.cyclic.specs.Name.{numbers_named}
use Rattle.listings.specs.declared.choice.Choice.{Choice}
use Rattle.listings.specs.declared.choice.Choice.TheVariants.{Plain, WithParity}

-- the code of a name, without a layer
abbrev pub plain_named : Name → Meaning
plain_named name = code_of (numbers_named name)

-- the code that a heading names
abbrev pub named : Heading → Meaning
named h = cond h.parity (with_parity (plain_named h.name)) (plain_named h.name)

-- the five parts of a code that was picked
abbrev pub choice_means : Choice → Meaning
choice_means (Plain c) = meaning_of c
choice_means (WithParity p) = parity_over meaning_of p
