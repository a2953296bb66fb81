use Rattle.std.proofs.Common.{rules}
use Rattle.listings.specs.Listing.{held_in}
use Rattle.listings.proofs.Short.{short_line}
use Rattle.listings.proofs.listing.Listing.answer.Goals as goal

pub returns-clause-short : goal.returns-clause-short
returns-clause-short c = short_line c.args.self.now c.args.line.now c.unwrap_or_else.result (held_in c.carry_out.new.self) (search rules)
