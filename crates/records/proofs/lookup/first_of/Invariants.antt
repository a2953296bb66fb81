use Rattle.std.proofs.Common.{◌≡◌, ◌-◌, length}
use Rattle.records.proofs.Walking.{PassedOver}
use Rattle.records.proofs.lookup.first_of.Given as goal

abbrev pub invariant-loop-record : goal.invariant-loop-record
invariant-loop-record l = (l.reader.bytes.now ≡ l.bytes) × PassedOver l.bytes l.kind l.reader.at

abbrev pub decreases-loop-record : goal.decreases-loop-record
decreases-loop-record l = length l.bytes - l.reader.at
