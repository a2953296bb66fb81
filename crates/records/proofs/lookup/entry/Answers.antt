use Rattle.std.proofs.Common.{◌/◌, length, get_or, refl, ap, ◌∙◌, arith}
use Rattle.records.proofs.Entries.{entry_inside}
use Rattle.records.proofs.lookup.entry.Goals as goal

pub returns : goal.returns
returns c =
    let entry = c.in_ok-entry.entry.now in
    let found = c.in_ok-entry.ensures.lookup in
    entry_inside c.args.payload.now entry (length c.args.payload.now / 2) c.args.floor c.from_le_bytes.result refl (omega (arith, found.3.0))
    (found.1 ∙ ap (λ l. get_or l c.args.floor entry) c.as_chunks.ensures.front) c.from_le_bytes.ensures
