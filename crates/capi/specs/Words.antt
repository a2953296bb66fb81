-- Encoding and correcting, as C sees them.
use Rattle.std.specs.Prelude.{◌≡◌, ℕ, Result}
use Rattle.codes.specs.declared.fault.Fault.{Fault}
use Rattle.codes.specs.declared.interface.Correction.{Correction}
use Rattle.codes.specs.Interface.{Encoded, Corrected}
use Rattle.codes.specs.Meaning.{Meaning}
use Rattle.capi.specs.declared.words.WzCorrection.{WzCorrection}
use Rattle.capi.specs.Boundary.{status, written}

-- a correction with C's layout
abbrev pub as_c : Correction → WzCorrection
as_c a = record { codeword = a.codeword; message = a.message; pattern = a.pattern }

-- what encoding answers, and what the pointer holds after it
abbrev pub EncodedTo : Meaning → ℕ → ℕ → ℕ → ℕ → Type 0
EncodedTo m message before answer after = (r : Result ℕ Fault) × Encoded m message r × (answer ≡ status r) × (after ≡ written (λ v. v) before r)

-- what correcting answers, and what the pointer holds after it
abbrev pub CorrectedTo : Meaning → ℕ → WzCorrection → ℕ → WzCorrection → Type 0
CorrectedTo m word before answer after = (r : Result Correction Fault) × Corrected m word r × (answer ≡ status r) × (after ≡ written as_c before r)
