use Rattle.std.proofs.Common.{take}
use Rattle.lines.specs.Number.{base_number}
use Rattle.lines.proofs.Numbers.{Begun}
use Rattle.lines.proofs.number.read_number.Given as goal

abbrev pub invariant-loop-byte : goal.invariant-loop-byte
invariant-loop-byte l = Begun (base_number l.base) (take l.byte-index l.text) l.value
