-- Spelling out the table that a list of messages holds.
use Rattle.std.specs.Prelude.{◌≡◌, ℕ, ◌<◌, ◌≤◌, List, [], ◌∷◌, ◌++◌, length, drop, Result}
use Rattle.codes.specs.declared.fault.Fault.{Fault}
use Rattle.codes.specs.declared.fault.Layer.TheVariants.{Report}
use Rattle.codes.specs.Fault.{Test, test, Transition}
use Rattle.codes.specs.Interface.{in_service}
use Rattle.codes.specs.Meaning.{Meaning, Lawful, One}
use Rattle.tables.specs.Sender.{has_bits}
use Rattle.tables.specs.Stream.{Bytes, Messages}

-- The table has these messages. It has fewer than 65536 bytes, since two bytes tell how many.
pub record TableOf (k : ℕ) (messages table : List ℕ) : Type 0 where
  pub short : length table < 65536
  pub bytes : Bytes table
  pub held : Messages k table messages

-- 11: some table has these messages
abbrev pub is_table : ℕ → List ℕ → Test
is_table k messages = test 11 Report 0 ((T : List ℕ) × TableOf k messages T) ((T : List ℕ) → TableOf k messages T → ⊥)

-- 9: the buffer has room for the table
abbrev pub buffer_fits : ℕ → List ℕ → List ℕ → Test
buffer_fits k messages buffer =
    test 9 Report 0 ((T : List ℕ) → TableOf k messages T → length T ≤ length buffer) ((T : List ℕ) × TableOf k messages T × (length buffer < length T))

-- the buffer after spelling: the table, and then what it held before
abbrev pub Spelled : Meaning → List ℕ → List ℕ → Result ℕ Fault → List ℕ → Type 0
Spelled m messages buffer =
    Transition (in_service m 0 ∷ has_bits m ∷ is_table m.k messages ∷ buffer_fits m.k messages buffer ∷ []) buffer
    (λ c after. (T : List ℕ) × TableOf m.k messages T × (c ≡ length T) × (after ≡ T ++ drop (length T) buffer))

-- a lawful meaning leaves one answer and one buffer
abbrev pub OneSpelling : Type 0
OneSpelling = (m : Meaning) → Lawful m → (messages buffer : List ℕ) → One {A = Result ℕ Fault × List ℕ} (λ x. Spelled m messages buffer x.0 x.1)
