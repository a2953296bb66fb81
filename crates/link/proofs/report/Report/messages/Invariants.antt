use Rattle.std.proofs.Common.{◌≡◌, map, length, take}
use Rattle.link.specs.declared.report.Place.TheVariants.{Settled}
use Rattle.link.specs.Report.{places_of}
use Rattle.link.proofs.report.Report.messages.Given as goal

-- the messages so far are those of the first places
abbrev pub invariant-loop-at : goal.invariant-loop-at
invariant-loop-at l = record {
  read : length l.messages.items ≡ l.at;
  settled : take l.at (places_of l.self) ≡ map Settled l.messages.items;
}
