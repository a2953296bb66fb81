use Rattle.std.proofs.Common.{ℕ, ◌/◌, ◌%◌, ap, ◌∙◌, arith}
use Rattle.std.proofs.lemmas.Grind.{common_steps}
use Rattle.tables.specs.Feed.{Supply, supply, joined}
use Rattle.tables.proofs.Spelling.{bytes_left, spelt_table}
use Rattle.tables.proofs.speller.Messages.write.Goals as goal

pub loop-byte-preserved : goal.loop-byte-preserved
loop-byte-preserved c =
    let turn = c.loop-byte in
    let messages = c.args.self.now in
    let stream = joined messages.width.bits messages.list.now in (
      c.draw.ensures.rest
          ∙ ap (λ (s : Supply). supply (s.left / 256) s.width) turn.invariant.0
          ∙ ap (λ (x : ℕ). supply x messages.width.bits) (bytes_left stream turn.byte-index),
      (let drawn = c.draw.ensures.number ∙ ap (λ (s : Supply). s.left % 256) turn.invariant.0 in grind (arith, common_steps)),
    )

pub returns : goal.returns
returns c =
    spelt_table c.args.self.now.width.some c.requires c.loop-byte.auto.table (λ i l. c.loop-byte.invariant.1 i (omega arith))
