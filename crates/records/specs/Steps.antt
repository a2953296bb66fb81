-- What the steps of the reader and of a lookup find. No contract that is seen outside cites any of this, so it need not be believed.
use Rattle.std.specs.Prelude.{◌≡◌, ℕ, Bool, true, false, List, [], ◌∷◌, ◌++◌, Some, None, Option, Result}
use Rattle.codes.specs.declared.fault.Fault.{Fault}
use Rattle.codes.specs.Fault.{Outcome}
use Rattle.tables.specs.Stream.{Bytes}
use Rattle.records.specs.declared.layout.Kind.{Kind}
use Rattle.records.specs.declared.layout.Kind.TheVariants.{Travel, Door, Other}
use Rattle.records.specs.declared.layout.Record.{Record}
use Rattle.records.specs.Layout.{Content, kind_of, bytes_of, Sound, Means}
use Rattle.records.specs.Lookup.{first_of, met_sound}

-- the bytes, of which the first stands at the place, begin with a sound record, and it is handed out
pub record Begins (bytes : List ℕ) (at : ℕ) (found : Record) : Type 0 where
  pub below : Bytes bytes
  pub content : Content
  pub more : List ℕ
  pub sound : Sound content
  pub parts : bytes ≡ bytes_of content ++ more
  pub kind : found.kind ≡ kind_of content.kind
  pub place : found.place ≡ at
  pub payload : found.payload.now ≡ content.payload

-- whether records of this kind hold times
abbrev pub of_times : Kind → Bool
of_times Travel = true
of_times Door = true
of_times (Other x) = false

-- a record is found where there is one, with its payload
abbrev pub Found : Option Content → Option Record → Type 0
Found None None = Unit {0}
Found None (Some found) = ⊥
Found (Some x) None = ⊥
Found (Some x) (Some found) = found.payload.now ≡ x.payload

-- the first record of the kind is found, unless a faulty one comes before it
abbrev pub FirstOf : List ℕ → Kind → Result (Option Record) Fault → Type 0
FirstOf bytes k r = (rs : List Content) × (rest : List ℕ) × Means bytes rs rest × Outcome (met_sound k rs rest ∷ []) (Found (first_of k rs)) r
