-- The book of a receiver: the word behind each place, from the calls and their arguments alone, and what it demands of the report.
use Rattle.std.specs.Prelude.{◌≡◌, ℕ, ◌+◌, ◌^◌, ◌<◌, Bool, cond, not, ◌&&◌, ◌⊎◌, List, [], ◌∷◌, ◌++◌, length, nat_le, nat_lt, slice_index, slice_index_or, slice_set}
use Rattle.codes.specs.Bounded.{any_below}
use Rattle.codes.specs.Meaning.{Meaning, message, distance, Within, Beyond}
use Rattle.link.specs.declared.report.Place.{Place}
use Rattle.link.specs.declared.report.Place.TheVariants.{Settled, Gap}
use Rattle.runs.specs.declared.calls.Call.{Call}
use Rattle.runs.specs.declared.calls.Call.TheVariants.{Offer, Repeat, Clear}

-- whether some codeword is within reach of the word `w`
abbrev pub reached : Meaning → ℕ → Bool
reached m w = any_below (λ v. m.codeword v && nat_le (distance w v) m.t) (2 ^ m.n)

-- whether a word can be heard at all: the code is in service, and the word below 2 ^ n
abbrev pub hearable : Meaning → ℕ → Bool
hearable m w = m.serves && nat_lt w (2 ^ m.n)

-- The book after a call. An offer that is heard adds its word; a repeat that is heard replaces a word that has no codeword within reach.
abbrev pub noted : Meaning → List ℕ → Call → List ℕ
noted m ws (Offer w) = cond (hearable m w && nat_lt (length ws) 256) (ws ++ w ∷ []) ws
noted m ws (Repeat p w) = cond (hearable m w && (nat_lt p (length ws) && not (reached m (slice_index ws p)))) (slice_set ws p w) ws
noted m ws Clear = []

abbrev pub book_from : Meaning → List ℕ → List Call → List ℕ
book_from m ws [] = ws
book_from m ws (c ∷ cs) = book_from m (noted m ws c) cs

-- the book of a new receiver after these calls
abbrev pub book : Meaning → List Call → List ℕ
book m cs = book_from m [] cs

-- how many offers were heard since the last clearing, where `h` were before this call
abbrev pub counted : Meaning → ℕ → Call → ℕ
counted m h (Offer w) = cond (hearable m w && nat_lt h 256) (h + 1) h
counted m h (Repeat p w) = h
counted m h Clear = 0

abbrev pub heard_from : Meaning → ℕ → List Call → ℕ
heard_from m h [] = h
heard_from m h (c ∷ cs) = heard_from m (counted m h c) cs

abbrev pub heard : Meaning → List Call → ℕ
heard m cs = heard_from m 0 cs

-- what the word behind a place demands: the message of the codeword within reach, over as many flips as that is away, or a gap
abbrev pub Demands : Meaning → ℕ → Place → ℕ → Type 0
Demands m w (Settled a) f = (v : ℕ) × Within m w v × (a ≡ message m v) × (f ≡ distance w v)
Demands m w Gap f = Beyond m w × (f ≡ 0)

-- each place of a report, and the flips behind it, are what the word behind it demands
pub record Demanded (m : Meaning) (ws : List ℕ) (ps : List Place) (fs : List ℕ) : Type 0 where
  pub count : length ps ≡ length ws
  pub counts : length fs ≡ length ws
  pub each : (p : ℕ) → p < length ws → Demands m (slice_index ws p) (slice_index_or ps p Gap) (slice_index fs p)

-- of these words, `s` have a codeword within reach, and are `f` flips away from it all together
abbrev pub Tally : Meaning → List ℕ → ℕ → ℕ → Type 0
Tally m [] s f = (s ≡ 0) × (f ≡ 0)
Tally m (w ∷ ws) s f =
    ((v : ℕ) × Within m w v × ((s' f' : ℕ) × Tally m ws s' f' × (s ≡ 1 + s') × (f ≡ distance w v + f')))
    ⊎ (Beyond m w × Tally m ws s f)
