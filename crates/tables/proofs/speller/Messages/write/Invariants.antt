use Rattle.std.proofs.Common.{◌≡◌, ℕ, ◌+◌, ◌*◌, ◌/◌, ◌%◌, ◌^◌, ◌<◌, slice_index}
use Rattle.tables.specs.Feed.{supply, joined}
use Rattle.tables.proofs.speller.Messages.write.Given as goal

abbrev pub invariant-loop-byte : goal.invariant-loop-byte
invariant-loop-byte l =
    let width = l.self.width.bits in
    let stream = joined width l.self.list.now in
    (l.bytes ≡ supply (stream / 2 ^ (8 * (l.byte-index + 2))) width)
    × ((i : ℕ) → i < l.byte-index → slice_index l.table i ≡ stream / 2 ^ (8 * (i + 2)) % 256)
