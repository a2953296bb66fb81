-- What the loop that offers words keeps. No contract that is seen outside cites any of this, so it need not be believed.
use Rattle.std.specs.Prelude.{◌≡◌, ℕ, ◌^◌, ◌<◌, List, length, Err, bit_xor, slice_index, slice_index_or}
use Rattle.codes.specs.declared.fault.Fault.{Fault}
use Rattle.codes.specs.Meaning.{Meaning}
use Rattle.link.specs.declared.report.Place.{Place}
use Rattle.link.specs.declared.report.Place.TheVariants.{Gap}
use Rattle.link.specs.Receiver.{Offered}
use Rattle.runs.specs.Book.{Demands}
use Rattle.runs.specs.Transport.{turned}

-- the first i words were heard, each with its bits turned over
pub record Arriving (m : Meaning) (words patterns : List ℕ) (i : ℕ) (ps : List Place) : Type 0 where
  pub count : length ps ≡ i
  pub fits : (j : ℕ) → j < i → bit_xor (slice_index words j) (turned patterns j) < 2 ^ m.n
  pub each : (j : ℕ) → j < i → (f : ℕ) × Demands m (bit_xor (slice_index words j) (turned patterns j)) (slice_index_or ps j Gap) f

-- the word after them was refused
pub record Stopped (m : Meaning) (words patterns : List ℕ) (f : Fault) : Type 0 where
  pub at : ℕ
  pub within : at < length words
  pub fits : (j : ℕ) → j < at → bit_xor (slice_index words j) (turned patterns j) < 2 ^ m.n
  pub places : List Place
  pub count : length places ≡ at
  pub refused : Offered m (bit_xor (slice_index words at) (turned patterns at)) places (Err f) places
