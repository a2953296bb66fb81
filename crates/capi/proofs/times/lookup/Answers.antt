use Rattle.std.proofs.Common.{◌≡◌, ℕ, true, List, Some, None, Ok, Err, Option, Result, refl, ap, ◌∙◌, subst, inl}
use Rattle.std.specs.Option.{ok_or}
use Rattle.std.proofs.lemmas.Result.{err_from_is_err_and}
use Rattle.records.specs.declared.layout.Kind.{Kind}
use Rattle.records.specs.Layout.{kind_of, holds_times}
use Rattle.records.specs.Lookup.{LookedUp}
use Rattle.capi.specs.declared.boundary.Refusal.{Refusal}
use Rattle.capi.specs.declared.boundary.Refusal.TheVariants.{Absent}
use Rattle.capi.specs.Steps.{time_passed, LooksUp}
use Rattle.capi.proofs.times.lookup.Goals as goal

-- a time that is not there is absent
or_absent : (time : Option ℕ) → ok_or time Absent ≡ time_passed (Ok time)
or_absent (Some t) = refl
or_absent None = refl

looked_up : (table : List ℕ) (number floor : ℕ) (kind : Kind) (time : Option ℕ) (out : Result ℕ Refusal)
    → (holds_times number ≡ true) × (kind ≡ kind_of number) → LookedUp kind table floor (Ok time) → out ≡ ok_or time Absent → LooksUp table number floor out
looked_up table number floor kind time out known looked e =
    inl (known.0, (Ok time, subst (λ k. LookedUp k table floor (Ok time)) known.1 looked, e ∙ or_absent time))

pub returns-in_err-tenths : goal.returns-in_err-tenths
returns-in_err-tenths c =
    let p = err_from_is_err_and c.from_residual-in_err-tenths.result c.from_residual-in_err-tenths.ensures.1 in
    looked_up c.args.table.now c.args.kind c.args.floor c.in_ok-kind_of_times.field-0 c.in_ok-time_of.field-0 c.from_residual-in_err-tenths.result
    c.in_ok-kind_of_times.ensures c.in_ok-time_of.ensures.time (p.1 ∙ ap Err p.2 ∙ c.in_err-tenths.ensures.value)

pub returns : goal.returns
returns c =
    looked_up c.args.table.now c.args.kind c.args.floor c.in_ok-kind_of_times.field-0 c.in_ok-time_of.field-0 (Ok c.from.result)
    c.in_ok-kind_of_times.ensures c.in_ok-time_of.ensures.time (ap Ok c.from.ensures ∙ c.in_ok-tenths.ensures.value)
