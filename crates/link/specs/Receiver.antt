-- What a receiver answers, and how its report changes.
use Rattle.std.specs.Prelude.{◌≡◌, ℕ, ◌<◌, ◌≤◌, List, [], ◌∷◌, ◌++◌, length, Some, Ok, Err, Result, ◌≢◌, bit_xor, count_ones, slice_set}
use Rattle.std.specs.List.{slice_get}
use Rattle.codes.specs.declared.fault.Fault.{Fault}
use Rattle.codes.specs.declared.fault.Layer.TheVariants.{Report}
use Rattle.codes.specs.Fault.{Test, test, Transition}
use Rattle.codes.specs.Interface.{in_service, word_fits}
use Rattle.codes.specs.Meaning.{Meaning, Lawful, One, message, Within, Beyond}
use Rattle.link.specs.declared.receiver.Answer.{Answer}
use Rattle.link.specs.declared.receiver.Answer.TheVariants.{Settled as settled_at, Gap as gap_at}
use Rattle.link.specs.declared.report.Place.{Place}
use Rattle.link.specs.declared.report.Place.TheVariants.{Settled, Gap}

-- 5: the report has room
abbrev pub has_room : List Place → Test
has_room ps = test 5 Report (length ps) (length ps < 256) (256 ≤ length ps)

-- 6: the place is a gap
abbrev pub is_gap : List Place → ℕ → Test
is_gap ps p = test 6 Report p (slice_get ps p ≡ Some Gap) (slice_get ps p ≢ Some Gap)

-- the answer to the word `w` at place `p`: settled by the codeword within reach, or a gap where there is none
abbrev pub Answers : Meaning → ℕ → ℕ → Answer → Type 0
Answers m w p (settled_at q a e) = (q ≡ p) × ((v : ℕ) × Within m w v × (a ≡ message m v) × (e ≡ bit_xor w v))
Answers m w p (gap_at q) = (q ≡ p) × Beyond m w

-- what the report keeps of an answer: the place, and the flips behind it
abbrev pub place_by : Answer → Place
place_by (settled_at q a e) = Settled a
place_by (gap_at q) = Gap

abbrev pub flips_by : Answer → ℕ
flips_by (settled_at q a e) = count_ones e
flips_by (gap_at q) = 0

-- an offer adds a place
abbrev pub Offered : Meaning → ℕ → List Place → Result Answer Fault → List Place → Type 0
Offered m w ps =
    Transition (in_service m (length ps) ∷ word_fits m w (length ps) ∷ has_room ps ∷ []) ps (λ a after. Answers m w (length ps) a × (after ≡ ps ++ place_by a ∷ []))

-- a repeat replaces a gap
abbrev pub Repeated : Meaning → ℕ → ℕ → List Place → Result Answer Fault → List Place → Type 0
Repeated m p w ps =
    Transition (in_service m p ∷ word_fits m w p ∷ is_gap ps p ∷ []) ps (λ a after. Answers m w p a × (after ≡ slice_set ps p (place_by a)))

-- the flips behind the places after a call that was answered so
abbrev pub Keeps : Result Answer Fault → List ℕ → (Answer → List ℕ) → List ℕ → Type 0
Keeps (Ok a) before change after = after ≡ change a
Keeps (Err f) before change after = after ≡ before

-- a lawful meaning leaves an offer one answer and one list of places after it, whatever places there are
abbrev pub OneOffer : Type 0
OneOffer = (m : Meaning) → Lawful m → (w : ℕ) (ps : List Place) → One {A = Result Answer Fault × List Place} (λ x. Offered m w ps x.0 x.1)

-- and so of a repeat, whatever place it names
abbrev pub OneRepeat : Type 0
OneRepeat = (m : Meaning) → Lawful m → (p w : ℕ) (ps : List Place) → One {A = Result Answer Fault × List Place} (λ x. Repeated m p w ps x.0 x.1)
