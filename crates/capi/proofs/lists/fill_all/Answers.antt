use Rattle.std.proofs.Common.{◌≡◌, ℕ, Ok, Err, Result, get_or, refl, ap, ◌∙◌, subst, arith}
use Rattle.codes.specs.declared.fault.Fault.{Fault}
use Rattle.codes.specs.declared.interface.Correction.{Correction}
use Rattle.codes.specs.declared.slots.Slot.{Slot}
use Rattle.codes.specs.Interface.{Corrected}
use Rattle.codes.specs.Meaning.{Meaning}
use Rattle.codes.specs.Slots.{Filled}
use Rattle.codes.specs.Slots.{answered as answered_slot}
use Rattle.codes.proofs.InPlace.{replaced_more}
use Rattle.capi.specs.declared.lists.WzSlot.{WzSlot}
use Rattle.capi.specs.Lists.{slot, answered, FilledTo}
use Rattle.capi.specs.Steps.{slot_as_c}
use Rattle.capi.proofs.lists.fill_all.Goals as goal

as_c_answered : (w : ℕ) (r : Result Correction Fault) → slot_as_c (answered_slot w r) ≡ answered w r
as_c_answered w (Ok a) = refl
as_c_answered w (Err f) = refl

-- a new slot that is filled, with C's layout
filled_to : (m : Meaning) (fresh filled : Slot) (before after : WzSlot) → fresh.word ≡ before.word → Filled m fresh filled → after ≡ slot_as_c filled → FilledTo m before after
filled_to m fresh filled before after word (r, corrected, e) as_c =
    (r, subst (λ w. Corrected m w r) word corrected, as_c ∙ ap slot_as_c e ∙ as_c_answered fresh.word r ∙ ap (λ w. answered w r) word)

abbrev blank : WzSlot
blank = slot 0 0 0 0

pub loop-slot-preserved : goal.loop-slot-preserved
loop-slot-preserved c =
    let turn = c.loop-slot in
    let before : WzSlot = get_or turn.slots turn.slot-index blank in
    let filled = filled_to _ c.new.result c.filled.result before c.into.result (ap (λ s. s.word) c.new.ensures) c.filled.ensures c.into.ensures in
    replaced_more _ turn.slot-index c.args.slots.now turn.slots c.into.result blank turn.invariant (omega arith) filled
