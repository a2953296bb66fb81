-- Looking up a floor's time in the records of a table.
use Rattle.std.specs.Prelude.{◌≡◌, ℕ, ◌+◌, ◌*◌, ◌<◌, cond, ◌⊎◌, List, [], ◌∷◌, ◌++◌, length, Some, None, Ok, Err, Option, Result, ◌==◌}
use Rattle.std.specs.List.{slice_get, AllByRecursion}
use Rattle.codes.specs.declared.fault.Fault.{Fault}
use Rattle.codes.specs.declared.fault.Layer.TheVariants.{Table}
use Rattle.codes.specs.Fault.{Test, test, Outcome, Reports}
use Rattle.codes.specs.Meaning.{One}
use Rattle.tables.specs.Stream.{Bytes}
use Rattle.records.specs.declared.layout.Kind.{Kind}
use Rattle.records.specs.Layout.{Content, kind_number, two_bytes, bytes_of, laid, Sound, Faulty, Means}

-- the entries of a payload, two bytes each, the lower one first
abbrev pub entries : List ℕ → List ℕ
entries [] = []
entries (low ∷ []) = []
entries (low ∷ high ∷ bytes) = (low + 256 * high) ∷ entries bytes

-- the first record of a kind
abbrev pub first_of : Kind → List Content → Option Content
first_of k [] = None
first_of k (x ∷ rs) = cond (x.kind == kind_number k) (Some x) (first_of k rs)

-- the time of a floor: the entry of that number
abbrev pub time_at : ℕ → Option Content → Option ℕ
time_at floor None = None
time_at floor (Some x) = slice_get (entries x.payload) floor

-- 12: a record of the kind comes before a faulty one, or there is no faulty one
abbrev pub met_sound : Kind → List Content → List ℕ → Test
met_sound k rs rest =
    test 12 Table (length (laid rs)) (((x : Content) × (first_of k rs ≡ Some x)) ⊎ (length rest ≡ 0)) ((first_of k rs ≡ None) × (0 < length rest))

-- what looking up a floor in bytes answers, by what the bytes mean
abbrev pub LookedUp : Kind → List ℕ → ℕ → Result (Option ℕ) Fault → Type 0
LookedUp k bytes floor r =
    (rs : List Content) × (rest : List ℕ) × Means bytes rs rest × Outcome (met_sound k rs rest ∷ []) (λ o. o ≡ time_at floor (first_of k rs)) r

-- the payload that holds these times
abbrev pub payload_of : List ℕ → List ℕ
payload_of [] = []
payload_of (time ∷ times) = two_bytes time ++ payload_of times

-- the record of a kind that holds these times
abbrev pub times_record : Kind → List ℕ → Content
times_record k times = record { kind = kind_number k; payload = payload_of times }

-- Looking up a floor by a record of this kind, whatever stands before the first one, if it is sound, and whatever stands behind.
pub record Entry (k : Kind) : Type 0 where
  -- bytes leave one answer
  pub one : (bytes : List ℕ) → Bytes bytes → (floor : ℕ) → One (LookedUp k bytes floor)
  -- the floor's time is its entry in the first record of the kind, whatever bytes follow
  pub found : (before : List Content) (times more : List ℕ) (floor : ℕ) (r : Result (Option ℕ) Fault) →
      AllByRecursion Sound before → first_of k before ≡ None → Sound (times_record k times) →
      LookedUp k (laid before ++ (bytes_of (times_record k times) ++ more)) floor r → r ≡ Ok (slice_get times floor)
  -- it is absent where no record is of the kind
  pub absent : (rs : List Content) (floor : ℕ) (r : Result (Option ℕ) Fault) → AllByRecursion Sound rs → first_of k rs ≡ None → LookedUp k (laid rs) floor r → r ≡ Ok None
  -- a faulty record before that is refused with 12, at its first byte
  pub refused : (before : List Content) (rest : List ℕ) (floor : ℕ) (r : Result (Option ℕ) Fault) → AllByRecursion Sound before → first_of k before ≡ None → Faulty rest →
      LookedUp k (laid before ++ rest) floor r → (f : Fault) × (r ≡ Err f) × Reports (met_sound k before rest) f
