use Rattle.std.proofs.Common.{◌<◌, ◌≤◌, length, MatchOption, rules, arith, tests, zero-le}
use Rattle.std.specs.List.{AllWithin, HoldsAt}
use Rattle.std.proofs.lemmas.Iterator.{IsFirst-from_position, YieldsList-from_slice}
use Rattle.std.proofs.lemmas.Option.{MatchOption-at_some, MatchOption-at_none}
use lib.Bits.{bit_xor}
use lib.Count.{ones}
use Rattle.cyclic.specs.Facts.{facts}
use Rattle.cyclic.specs.Sought.{searched}
use Rattle.cyclic.proofs.Search.{one_flip, all_heavy}
use Rattle.cyclic.proofs.code.search.Search.one_message_flip.Goals as goal
use Rattle.cyclic.proofs.code.search.Search.one_message_flip.Goals.{After-position}

-- the first row that leaves few enough
first : (c : After-position) →
    let self = c.args.self.now in
    let rows = c.message_rows-rows.result.now in
    let t = self.code.now.generator.t in
    MatchOption c.position.result (AllWithin (λ row. t ≤ ones (bit_xor self.syndrome row)) rows 0 (length rows))
    (λ i. (i < length rows) × HoldsAt (λ row. ones (bit_xor self.syndrome row) < t) rows i × AllWithin (λ row. t ≤ ones (bit_xor self.syndrome row)) rows 0 i)
first c =
    let self = c.args.self.now in
    let rows = c.message_rows-rows.result.now in
    let t = self.code.now.generator.t in
    IsFirst-from_position _ _ c.position.result (λ row. ones (bit_xor self.syndrome row) < t) (λ row. t ≤ ones (bit_xor self.syndrome row))
    c.position.ensures.ran (YieldsList-from_slice rows (cc)) (λ x q k. search (rules, tests)) (λ x q k. (search rules, search (rules, tests)))

pub returns : goal.returns
returns c =
    let self = c.args.self.now in
    let table = c.message_rows-rows.ensures in
    let found = MatchOption-at_some _ _ c.in_ok-i.i c.in_ok-i.was (first (goal.at.returns c).After-position) in
    one_flip (searched self) (facts self.code.now.generator) c.message_rows-rows.result.now table self.syndrome c.in_ok-i.i c.message_flip.result
    self.below (omega (arith, found.0, table.size)) c.message_flip.ensures (found.1 0)

pub returns-in_err-i : goal.returns-in_err-i
returns-in_err-i c =
    let self = c.args.self.now in
    let table = c.message_rows-rows.ensures in
    let heavy = MatchOption-at_none _ _ c.in_err-i.was (first (goal.at.returns-in_err-i c).After-position) in
    rw c.from_residual.ensures
    (all_heavy (searched self) (facts self.code.now.generator) c.message_rows-rows.result.now table self.syndrome
    (λ i h. heavy i 0 zero-le (omega (arith, h, table.size))))
