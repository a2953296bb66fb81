-- What a reader hands out, and how it moves along.
use Rattle.std.specs.Prelude.{◌≡◌, ℕ, ◌+◌, ◌<◌, ◌⊎◌, List, [], ◌∷◌, length, take, drop, Some, None, Ok, Err, Option, Result}
use Rattle.std.specs.List.{AllByRecursion}
use Rattle.codes.specs.declared.fault.Fault.{Fault}
use Rattle.codes.specs.declared.fault.Layer.TheVariants.{Table}
use Rattle.codes.specs.Fault.{Test, test, Transition}
use Rattle.records.specs.declared.layout.Record.{Record}
use Rattle.records.specs.Layout.{Content, bytes_of, laid, kind_of, Sound, Means}

-- The record `x` at a place, as it is handed out: its payload is the part of the bytes behind the first four of the record.
pub record HandedOut (bytes : List ℕ) (at : ℕ) (x : Content) (found : Record) : Type 0 where
  pub kind : found.kind ≡ kind_of x.kind
  pub place : found.place ≡ at
  pub payload : found.payload.now ≡ x.payload
  pub part : found.payload.now ≡ take (length x.payload) (drop (at + 4) bytes)

-- 12: the next record, if there is one, is not faulty
abbrev pub next_sound : ℕ → List Content → List ℕ → Test
next_sound at rs rest = test 12 Table at ((0 < length rs) ⊎ (length rest ≡ 0)) ((length rs ≡ 0) × (0 < length rest))

-- the first of the records is handed out, and the reader moves behind it; or there is none, and it stays
abbrev pub Next : List ℕ → ℕ → List Content → Option Record → ℕ → Type 0
Next bytes at [] None after = after ≡ at
Next bytes at [] (Some found) after = ⊥
Next bytes at (x ∷ rs) None after = ⊥
Next bytes at (x ∷ rs) (Some found) after = HandedOut bytes at x found × (after ≡ at + length (bytes_of x))

-- what a reader at a place answers, by what the bytes from there on mean, and where it is after that
abbrev pub ReadOn : List ℕ → ℕ → Result (Option Record) Fault → ℕ → Type 0
ReadOn bytes at r after =
    (rs : List Content) × (rest : List ℕ) × Means (drop at bytes) rs rest × Transition (next_sound at rs rest ∷ []) at (Next bytes at rs) r after

-- what a reader at a place answers, call after call, each from where the one before left it, and where it is after them
abbrev pub ReadInTurn : List ℕ → ℕ → List (Result (Option Record) Fault) → ℕ → Type 0
ReadInTurn bytes at [] after = after ≡ at
ReadInTurn bytes at (r ∷ rs) after = (between : ℕ) × ReadOn bytes at r between × ReadInTurn bytes between rs after

-- Such answers are these records, in this order, the first at a place and each of the others behind the one before it, and then none each time.
abbrev pub HandedOutInTurn : List ℕ → ℕ → List Content → List (Result (Option Record) Fault) → Type 0
HandedOutInTurn bytes at xs [] = Unit {0}
HandedOutInTurn bytes at [] (Ok None ∷ rs) = HandedOutInTurn bytes at [] rs
HandedOutInTurn bytes at (x ∷ xs) (Ok (Some found) ∷ rs) = HandedOut bytes at x found × HandedOutInTurn bytes (at + length (bytes_of x)) xs rs
HandedOutInTurn bytes at xs (r ∷ rs) = ⊥

-- Records that are laid end to end are read back, call after call, as those records, each with its place, and then none, however often it is asked. A reader that was refused is refused alike, and stands where it was.
pub record Reading : Type 0 where
  pub back : (xs : List Content) → AllByRecursion Sound xs → (rs : List (Result (Option Record) Fault)) (after : ℕ) → ReadInTurn (laid xs) 0 rs after → HandedOutInTurn (laid xs) 0 xs rs
  pub alike : (bytes : List ℕ) (at : ℕ) (f : Fault) (after : ℕ) → ReadOn bytes at (Err f) after → (r : Result (Option Record) Fault) (later : ℕ) → ReadOn bytes after r later → (r ≡ Err f) × (later ≡ at)
