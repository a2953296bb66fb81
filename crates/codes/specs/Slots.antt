-- Correcting a list of slots.
use Rattle.std.specs.Prelude.{◌≡◌, ℕ, ◌<◌, List, length, Some, None, Ok, Err, Option, Result, slice_index_or}
use Rattle.codes.specs.declared.fault.Cause.{Cause}
use Rattle.codes.specs.declared.fault.Fault.{Fault}
use Rattle.codes.specs.declared.interface.Correction.{Correction}
use Rattle.codes.specs.declared.slots.Slot.{Slot}
use Rattle.codes.specs.Fault.{number}
use Rattle.codes.specs.Interface.{Corrected}
use Rattle.codes.specs.Meaning.{Meaning, Lawful, One}

-- the number of a verdict: 0, or that of the refusal
abbrev pub verdict_number : Option Cause → ℕ
verdict_number None = 0
verdict_number (Some c) = number c

abbrev pub slot : ℕ → Option Cause → ℕ → ℕ → Slot
slot w v a e = record { word = w; verdict = v; message = a; pattern = e }

-- what a slot holds once its word was answered so
abbrev pub answered : ℕ → Result Correction Fault → Slot
answered w (Ok a) = slot w None a.message a.pattern
answered w (Err f) = slot w (Some f.cause) 0 0

-- the slot `s` holds `s'` once its word is corrected
abbrev pub Filled : Meaning → Slot → Slot → Type 0
Filled m s s' = (r : Result Correction Fault) × Corrected m s.word r × (s' ≡ answered s.word r)

-- each slot is filled, at its own place, and there are as many as before
pub record Listed (m : Meaning) (before after : List Slot) : Type 0 where
  pub count : length after ≡ length before
  pub each : (p : ℕ) (d : Slot) → p < length before → Filled m (slice_index_or before p d) (slice_index_or after p d)

-- a lawful meaning leaves one list that a list of slots can become
abbrev pub OneList : Type 0
OneList = (m : Meaning) → Lawful m → (before : List Slot) → One (Listed m before)
