-- Carrying a table: it is sent, bits of its words are turned over on the way, and what is heard is spelled.
use Rattle.std.specs.Prelude.{◌≡◌, ℕ, suc, ◌^◌, ◌<◌, ◌≤◌, true, cond, ◌⊎◌, List, [], ◌∷◌, ◌++◌, length, drop, Ok, Err, Result, bit_xor, count_ones, nat_lt, slice_index, slice_index_or}
use Rattle.codes.specs.declared.fault.Fault.{Fault}
use Rattle.codes.specs.declared.fault.Layer.TheVariants.{Word}
use Rattle.codes.specs.Fault.{Test, test, Passed, Refused}
use Rattle.codes.specs.Interface.{in_service}
use Rattle.codes.specs.Meaning.{Meaning, Carries}
use Rattle.tables.specs.Sender.{has_bits, table_fits, words_for}
use Rattle.tables.specs.Stream.{message_at}
use Rattle.link.specs.declared.report.Place.{Place}
use Rattle.link.specs.declared.report.Place.TheVariants.{Gap}
use Rattle.link.specs.Sealed.{Spells}
use Rattle.runs.specs.Book.{Demands}

-- the bits that are turned over in word i; none where the list of patterns is too short
abbrev pub turned : List ℕ → ℕ → ℕ
turned patterns i = slice_index patterns i

-- the first pattern that is not below the bound
abbrev pub first_long : ℕ → List ℕ → ℕ
first_long bound [] = 0
first_long bound (e ∷ es) = cond (nat_lt e bound) (suc (first_long bound es)) 0

-- 2: each word is still below 2 ^ n with its bits turned over
abbrev pub patterns_fit : Meaning → List ℕ → List ℕ → Test
patterns_fit m table patterns =
    test 2 Word (first_long (2 ^ m.n) patterns) ((i : ℕ) → i < words_for m table → turned patterns i < 2 ^ m.n)
    ((first_long (2 ^ m.n) patterns < words_for m table) × (2 ^ m.n ≤ turned patterns (first_long (2 ^ m.n) patterns)))

-- place i is what the codeword of message i demands, with its bits turned over
pub record Arrived (m : Meaning) (table patterns : List ℕ) (ps : List Place) : Type 0 where
  pub count : length ps ≡ words_for m table
  pub each : (i : ℕ) → i < length ps → (v f : ℕ) × Carries m (message_at m.k table i) v × Demands m (bit_xor v (turned patterns i)) (slice_index_or ps i Gap) f

abbrev pub carrying : Meaning → List ℕ → List ℕ → List Test
carrying m table patterns = in_service m 0 ∷ has_bits m ∷ table_fits m table ∷ patterns_fit m table patterns ∷ []

-- it is refused as sending or offering is, or every word arrives and the report is spelled
abbrev pub Carried : Meaning → List ℕ → List ℕ → List ℕ → Result ℕ Fault → List ℕ → Type 0
Carried m table patterns buffer r after =
    ((f : Fault) × (r ≡ Err f) × Refused (carrying m table patterns) f × (after ≡ buffer))
    ⊎ (Passed (carrying m table patterns) × ((ps : List Place) × Arrived m table patterns ps × Spells m ps buffer r after))

-- sending does not refuse the table, whatever the room
pub record Sendable (m : Meaning) (table : List ℕ) : Type 0 where
  pub serves : m.serves ≡ true
  pub bits : 0 < m.k
  pub words : words_for m table ≤ 256

-- t or fewer of the n bits of each word are turned over
abbrev pub Light : Meaning → List ℕ → List ℕ → Type 0
Light m table patterns = (i : ℕ) → i < words_for m table → (turned patterns i < 2 ^ m.n) × (count_ones (turned patterns i) ≤ m.t)

-- the table is spelled as it was sent, at the front of the buffer
abbrev pub Whole : List ℕ → List ℕ → Result ℕ Fault → List ℕ → Type 0
Whole table buffer r after = (r ≡ Ok (length table)) × (after ≡ table ++ drop (length table) buffer)

-- With at most t bits of each word turned over, and buffer enough, a table that sending does not refuse is spelled whole.
abbrev pub Arrives : Meaning → List ℕ → List ℕ → List ℕ → Result ℕ Fault → List ℕ → Type 0
Arrives m table patterns buffer r after = Sendable m table → Light m table patterns → length table ≤ length buffer → Whole table buffer r after
