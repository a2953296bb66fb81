use Rattle.std.proofs.Common.{Some, Ok, sym, ap, ◌∙◌}
use Rattle.std.proofs.lemmas.Result.{err_from_is_err_and}
use Rattle.records.specs.Reader.{ReadOn}
use Rattle.records.proofs.Walking.{none_left, faulty_next, met, passed_over, goes_on}
use Rattle.records.proofs.lookup.first_of.Goals as goal
use Rattle.records.proofs.lookup.first_of.Goals.{In-Some}

-- what the reader answered, of the bytes that were handed over
read : (c : In-Some) → ReadOn c.args.bytes.now c.loop-record.reader.at (Ok (Some c.in-Some.record)) c.next.new.self.at
read c = rw (c.in-Some.is, c.loop-record.invariant.0) at c.in_ok-record.ensures.read

pub returns-in_err-record : goal.returns-in_err-record
returns-in_err-record c =
    let p = err_from_is_err_and c.from_residual.result c.from_residual.ensures.1 in
    rw (p.1, p.2)
    (faulty_next c.args.bytes.now c.args.kind c.loop-record.reader.at c.loop-record.invariant.1 c.next.new.self.at c.in_err-record.field-0.0
    (rw (← c.loop-record.invariant.0) c.in_err-record.ensures.read))

pub returns-then-from : goal.returns-then-from
returns-then-from c =
    met c.args.bytes.now c.args.kind c.loop-record.reader.at c.loop-record.invariant.1 c.next.new.self.at c.in-Some.record
    (sym c.from.ensures ∙ c.if-from.true ∙ c.from-in-Some.ensures) (read (goal.at.returns-then-from c).In-Some)

pub loop-record-smaller : goal.loop-record-smaller
loop-record-smaller c =
    goes_on c.args.bytes.now c.args.kind c.loop-record.reader.at c.loop-record.invariant.1 c.next.new.self.at c.in-Some.record
    (read (goal.at.loop-record-smaller c).In-Some)

pub loop-record-preserved : goal.loop-record-preserved
loop-record-preserved c = (
  ap (λ b. b.now) c.next.ensures.same ∙ c.loop-record.invariant.0,
  passed_over c.args.bytes.now c.args.kind c.loop-record.reader.at c.loop-record.invariant.1 c.next.new.self.at c.in-Some.record
      (λ e. c.if-from.false (c.from.ensures ∙ e ∙ sym c.from-in-Some.ensures)) (read (goal.at.loop-record-preserved c).In-Some),
)

pub returns : goal.returns
returns c =
    none_left c.args.bytes.now c.args.kind c.loop-record.reader.at c.loop-record.invariant.1 c.next.new.self.at
    (rw (c.in_default.is, c.loop-record.invariant.0) at c.in_ok-record.ensures.read)
