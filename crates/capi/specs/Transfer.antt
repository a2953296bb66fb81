-- Sending and receiving a table, as C sees them.
use Rattle.std.specs.Prelude.{◌≡◌, ℕ, ◌⊎◌, List, [], ◌∷◌, Ok, Err, Result}
use Rattle.codes.specs.declared.fault.Fault.{Fault}
use Rattle.codes.specs.Meaning.{Meaning}
use Rattle.tables.specs.Sender.{Sent}
use Rattle.link.specs.declared.receiver.Answer.{Answer}
use Rattle.link.specs.declared.report.Place.{Place}
use Rattle.link.specs.Receiver.{Offered}
use Rattle.link.specs.Sealed.{Spells}
use Rattle.capi.specs.Boundary.{status, written, OverCode}

-- what sending answers, and what the list and the count hold after it
abbrev pub SentTo : Meaning → List ℕ → List ℕ × ℕ → ℕ → List ℕ × ℕ → Type 0
SentTo m table before answer after =
    (r : Result ℕ Fault) × Sent m table before.0 r after.0 × (answer ≡ status r) × (after.1 ≡ written (λ v. v) before.1 r)

-- words are offered in order until one is refused
abbrev pub HeardAll : Meaning → List Place → List ℕ → Result (Unit {0}) Fault → List Place → Type 0
HeardAll m ps [] (Ok u) after = after ≡ ps
HeardAll m ps [] (Err f) after = ⊥
HeardAll m ps (w ∷ ws) r after =
    ((a : Answer) × (between : List Place) × Offered m w ps (Ok a) between × HeardAll m between ws r after)
    ⊎ ((f : Fault) × (r ≡ Err f) × Offered m w ps (Err f) after)

-- a new receiver hears the words, and its report is spelled unless one of them was refused
abbrev pub Received : Meaning → List ℕ → List ℕ → Result ℕ Fault → List ℕ → Type 0
Received m words buffer r after =
    ((ps : List Place) × HeardAll m [] words (Ok tt) ps × Spells m ps buffer r after)
    ⊎ ((f : Fault) × (ps : List Place) × HeardAll m [] words (Err f) ps × (r ≡ Err f) × (after ≡ buffer))

-- what receiving answers, and what the buffer and the length hold after it
abbrev pub ReceivedTo : Meaning → List ℕ → List ℕ × ℕ → ℕ → List ℕ × ℕ → Type 0
ReceivedTo m words before answer after =
    (r : Result ℕ Fault) × Received m words before.0 r after.0 × (answer ≡ status r) × (after.1 ≡ written (λ v. v) before.1 r)

-- both over a numbered code
abbrev pub SendsOver : ℕ → List ℕ → List ℕ × ℕ → ℕ → List ℕ × ℕ → Type 0
SendsOver code table before answer after = OverCode {S = List ℕ × ℕ} code (λ m. SentTo m table before answer after) before answer after

abbrev pub ReceivesOver : ℕ → List ℕ → List ℕ × ℕ → ℕ → List ℕ × ℕ → Type 0
ReceivesOver code words before answer after = OverCode {S = List ℕ × ℕ} code (λ m. ReceivedTo m words before answer after) before answer after
