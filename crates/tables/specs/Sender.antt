-- Sending a table: one codeword for each of its messages.
use Rattle.std.specs.Prelude.{◌≡◌, ℕ, ◌<◌, ◌≤◌, List, [], ◌∷◌, length, Result, slice_index}
use Rattle.codes.specs.declared.fault.Fault.{Fault}
use Rattle.codes.specs.declared.fault.Layer.TheVariants.{Report}
use Rattle.codes.specs.Fault.{Test, test, Transition}
use Rattle.codes.specs.Interface.{in_service}
use Rattle.codes.specs.Meaning.{Meaning, Lawful, One, Carries}
use Rattle.tables.specs.Stream.{message_at, messages_for}

-- 7: a message has bits
abbrev pub has_bits : Meaning → Test
has_bits m = test 7 Report 0 (0 < m.k) (m.k ≡ 0)

-- how many words a table takes
abbrev pub words_for : Meaning → List ℕ → ℕ
words_for m table = messages_for m.k (length table)

-- 8: 256 words hold the table
abbrev pub table_fits : Meaning → List ℕ → Test
table_fits m table = test 8 Report 0 (words_for m table ≤ 256) (256 < words_for m table)

-- 9: the list has room for each word
abbrev pub list_fits : Meaning → List ℕ → List ℕ → Test
list_fits m table list = test 9 Report 0 (words_for m table ≤ length list) (length list < words_for m table)

-- The list after sending: the codeword of each message, in order, and then what it held before.
pub record Words (m : Meaning) (table before after : List ℕ) : Type 0 where
  pub count : length after ≡ length before
  pub each : (i : ℕ) → i < words_for m table → Carries m (message_at m.k table i) (slice_index after i)
  pub rest : (i : ℕ) → words_for m table ≤ i → slice_index after i ≡ slice_index before i

abbrev pub Sent : Meaning → List ℕ → List ℕ → Result ℕ Fault → List ℕ → Type 0
Sent m table before =
    Transition (in_service m 0 ∷ has_bits m ∷ table_fits m table ∷ list_fits m table before ∷ []) before (λ c after. (c ≡ words_for m table) × Words m table before after)

-- a lawful meaning leaves one answer and one list
abbrev pub OneSending : Type 0
OneSending = (m : Meaning) → Lawful m → (table before : List ℕ) → One {A = Result ℕ Fault × List ℕ} (λ x. Sent m table before x.0 x.1)
