use Rattle.cyclic.specs.Codewords.{multiples}
use Rattle.cyclic.specs.Name.{numbers_named}
use Rattle.cyclic.proofs.Three.{named_holds, named_distance, g23_perfect}
use Rattle.cyclic.proofs.code.makers.three_codes.Goals as goal

pub returns : goal.returns
returns c = record { multiples = multiples (numbers_named c.args.name) (named_holds c.args.name); distance = named_distance c.args.name; perfect = g23_perfect }
