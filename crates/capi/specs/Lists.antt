-- Correcting a list, as C sees it.
use Rattle.std.specs.Prelude.{◌≡◌, ℕ, ◌<◌, List, length, Ok, Err, Result, slice_index_or}
use Rattle.codes.specs.declared.fault.Fault.{Fault}
use Rattle.codes.specs.declared.interface.Correction.{Correction}
use Rattle.codes.specs.Fault.{number}
use Rattle.codes.specs.Interface.{Corrected}
use Rattle.codes.specs.Meaning.{Meaning}
use Rattle.capi.specs.declared.lists.WzSlot.{WzSlot}

abbrev pub slot : ℕ → ℕ → ℕ → ℕ → WzSlot
slot w v a e = record { word = w; verdict = v; message = a; pattern = e }

-- what a slot holds once its word was answered so
abbrev pub answered : ℕ → Result Correction Fault → WzSlot
answered w (Ok a) = slot w 0 a.message a.pattern
answered w (Err f) = slot w (number f.cause) 0 0

abbrev pub FilledTo : Meaning → WzSlot → WzSlot → Type 0
FilledTo m s s' = (r : Result Correction Fault) × Corrected m s.word r × (s' ≡ answered s.word r)

-- each slot is filled, at its own place
pub record ListedTo (m : Meaning) (before after : List WzSlot) : Type 0 where
  pub count : length after ≡ length before
  pub each : (p : ℕ) (d : WzSlot) → p < length before → FilledTo m (slice_index_or before p d) (slice_index_or after p d)
