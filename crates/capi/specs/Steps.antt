-- What the steps of a call come to before C is told. No contract that C sees cites any of this, so it need not be believed.
use Rattle.std.specs.Prelude.{◌≡◌, ℕ, true, false, ◌⊎◌, List, Some, None, Ok, Err, Option, Result}
use Rattle.codes.specs.declared.fault.Fault.{Fault}
use Rattle.codes.specs.declared.slots.Slot.{Slot}
use Rattle.codes.specs.Fault.{number}
use Rattle.codes.specs.Meaning.{Meaning}
use Rattle.codes.specs.Slots.{verdict_number}
use Rattle.records.specs.Layout.{kind_of, holds_times}
use Rattle.records.specs.Lookup.{LookedUp}
use Rattle.capi.specs.declared.boundary.Refusal.{Refusal}
use Rattle.capi.specs.declared.boundary.Refusal.TheVariants.{UnknownCode, Absent, Faulty}
use Rattle.capi.specs.declared.lists.WzSlot.{WzSlot}
use Rattle.capi.specs.Boundary.{Numbers, NumbersNone}
use Rattle.capi.specs.Lists.{slot}

-- the number of a refusal
abbrev pub refusal_number : Refusal → ℕ
refusal_number UnknownCode = 254
refusal_number Absent = 255
refusal_number (Faulty f) = number f.cause

-- what C is told: 0, or the number of the refusal
abbrev pub told : {A : Type 0} → Result A Refusal → ℕ
told (Ok a) = 0
told (Err r) = refusal_number r

-- what a pointer holds afterwards: what the call came to, or what it held before a refusal
abbrev pub kept : {A : Type 0} → A → Result A Refusal → A
kept before (Ok a) = a
kept before (Err r) = before

-- an answer of the library, as a call passes it on
abbrev pub passed : {A B : Type 0} → (A → B) → Result A Fault → Result B Refusal
passed show (Ok a) = Ok (show a)
passed show (Err f) = Err (Faulty f)

-- A call over a numbered code: it passes on an answer of what that code means, or no code has the number.
abbrev pub Over : {A B : Type 0} → (A → B) → ℕ → (Meaning → Result A Fault → Type 0) → Result B Refusal → Type 0
Over {A} show code P out =
    ((m : Meaning) × Numbers code m × ((r : Result A Fault) × P m r × (out ≡ passed show r)))
    ⊎ (NumbersNone code × (out ≡ Err UnknownCode))

-- a slot with C's layout
abbrev pub slot_as_c : Slot → WzSlot
slot_as_c s = slot s.word (verdict_number s.verdict) s.message s.pattern

-- a time that is there, or that it is absent
abbrev pub time_passed : Result (Option ℕ) Fault → Result ℕ Refusal
time_passed (Ok (Some time)) = Ok time
time_passed (Ok None) = Err Absent
time_passed (Err f) = Err (Faulty f)

-- a kind that holds times is looked up, and any other is absent
abbrev pub LooksUp : List ℕ → ℕ → ℕ → Result ℕ Refusal → Type 0
LooksUp table kind floor out =
    ((holds_times kind ≡ true) × ((r : Result (Option ℕ) Fault) × LookedUp (kind_of kind) table floor r × (out ≡ time_passed r)))
    ⊎ ((holds_times kind ≡ false) × (out ≡ Err Absent))
