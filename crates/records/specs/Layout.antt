-- How records are laid out in the bytes of a table, and what bytes mean: the records up to where they break, if they do.
use Rattle.std.specs.Prelude.{◌≡◌, ℕ, ◌+◌, ◌*◌, ◌/◌, ◌%◌, ◌<◌, Bool, true, cond, ◌||◌, ◌⊎◌, List, [], ◌∷◌, ◌++◌, length, drop, ◌==◌, slice_index}
use Rattle.std.specs.List.{AllByRecursion}
use Rattle.codes.specs.Meaning.{One}
use Rattle.tables.specs.Stream.{Bytes}
use Rattle.records.specs.declared.layout.Kind.{Kind}
use Rattle.records.specs.declared.layout.Kind.TheVariants.{Travel, Door, Other}

-- the number of a kind
abbrev pub kind_number : Kind → ℕ
kind_number Travel = 1
kind_number Door = 2
kind_number (Other x) = x

-- the kind of a number
abbrev pub kind_of : ℕ → Kind
kind_of x = cond (x == kind_number Travel) Travel (cond (x == kind_number Door) Door (Other x))

-- whether a record of this kind holds times, of two bytes each
abbrev pub holds_times : ℕ → Bool
holds_times x = x == kind_number Travel || x == kind_number Door

-- what a record says: its kind, by number, and its payload
pub record Content : Type 0 where
  pub kind : ℕ
  pub payload : List ℕ

-- a number in two bytes, the lower one first
abbrev pub two_bytes : ℕ → List ℕ
two_bytes x = x % 256 ∷ x / 256 ∷ []

-- the bytes of a record: how long its payload is, its kind, and the payload
abbrev pub bytes_of : Content → List ℕ
bytes_of r = two_bytes (length r.payload) ++ (two_bytes r.kind ++ r.payload)

-- records laid end to end
abbrev pub laid : List Content → List ℕ
laid [] = []
laid (r ∷ rs) = bytes_of r ++ laid rs

-- a record that fits its layout, with whole entries where it holds times
pub record Sound (r : Content) : Type 0 where
  pub size : length r.payload < 65536
  pub number : r.kind < 65536
  pub bytes : Bytes r.payload
  pub entries : holds_times r.kind ≡ true → length r.payload % 2 ≡ 0

-- the number in the two bytes at a place, the lower one first
abbrev pub two_at : List ℕ → ℕ → ℕ
two_at bytes i = slice_index bytes i + 256 * slice_index bytes (i + 1)

-- The record that these bytes begin with is cut short: they end before its payload does. Fewer than four bytes always are.
abbrev pub CutShort : List ℕ → Type 0
CutShort bytes = length bytes < 4 + two_at bytes 0

-- it holds times, and half an entry at the end
abbrev pub HalfEntry : List ℕ → Type 0
HalfEntry bytes = (holds_times (two_at bytes 2) ≡ true) × (two_at bytes 0 % 2 ≡ 1)

-- there are bytes, and the record that they begin with is faulty
abbrev pub Faulty : List ℕ → Type 0
Faulty bytes = (0 < length bytes) × (CutShort bytes ⊎ HalfEntry bytes)

-- What bytes mean: the records `rs`, laid end to end, and then `rest`, which is nothing or begins with a faulty record.
pub record Means (bytes : List ℕ) (rs : List Content) (rest : List ℕ) : Type 0 where
  pub parts : bytes ≡ laid rs ++ rest
  pub sound : AllByRecursion Sound rs
  pub ends : (rest ≡ []) ⊎ Faulty rest

-- All bytes mean something, and nothing else. Records laid end to end mean those records, and behind the first of them stand the others.
pub record ReadBack : Type 0 where
  pub one : (bytes : List ℕ) → Bytes bytes → One {A = List Content × List ℕ} (λ x. Means bytes x.0 x.1)
  pub same : (rs : List Content) → AllByRecursion Sound rs → Means (laid rs) rs []
  pub only : (rs : List Content) → AllByRecursion Sound rs → (read : List Content) (rest : List ℕ) → Means (laid rs) read rest → (read ≡ rs) × (rest ≡ [])
  pub behind : (bytes : List ℕ) (at : ℕ) (x : Content) (rs : List Content) (rest : List ℕ) → Means (drop at bytes) (x ∷ rs) rest → Means (drop (at + length (bytes_of x)) bytes) rs rest
