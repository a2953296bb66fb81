use Rattle.std.proofs.Common.{arith}
use Rattle.std.proofs.lemmas.Grind.{common_steps}
use Rattle.tables.proofs.Sending.{next_message, remaining_less}
use Rattle.tables.proofs.sender.write_words.Goals as goal

pub loop-word-preserved : goal.loop-word-preserved
loop-word-preserved g c =
    let turn = c.loop-word in
    let k = c.args.width.bits in
    let table = c.args.table.now in
    let drawn = c.draw.ensures in (
      remaining_less k table turn.word-index turn.messages turn.invariant.0 c.draw.new.self drawn.rest,
      (let message = next_message k table turn.word-index turn.messages turn.invariant.0 c.draw.result drawn.number in
          let carries = c.codeword.ensures in λ i l. grind (arith, common_steps, turn.invariant.1 i)),
    )
