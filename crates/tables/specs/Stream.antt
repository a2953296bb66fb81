-- How a table is laid out in messages, bit by bit.
use Rattle.std.specs.Prelude.{◌≡◌, ℕ, zero, suc, ◌+◌, ◌-◌, ◌*◌, ◌/◌, ◌%◌, ◌^◌, ◌<◌, List, ◌∷◌, length, slice_index}

-- bit i of a number
abbrev pub bit : ℕ → ℕ → ℕ
bit a i = a / 2 ^ i % 2

-- a table is a run of bytes
abbrev pub Bytes : List ℕ → Type 0
Bytes table = (i : ℕ) → i < length table → slice_index table i < 256

-- the stream of a table: its byte count in two bytes, the lower one first, and then the table
abbrev pub stream : List ℕ → List ℕ
stream table = length table % 256 ∷ length table / 256 ∷ table

-- Bit b of the stream: the bytes come one after the other, the lowest bit of each first. Past the end it is 0.
abbrev pub stream_bit : List ℕ → ℕ → ℕ
stream_bit table b = bit (slice_index (stream table) (b / 8)) (b % 8)

-- the number of k bits whose bit j is `digit j`
unfoldable pub number_of : ℕ → (ℕ → ℕ) → ℕ
number_of zero digit = 0
number_of (suc k) digit = digit 0 + 2 * number_of k (λ j. digit (suc j))

-- message i of k bits: its bit j is stream bit i k + j
abbrev pub message_at : ℕ → List ℕ → ℕ → ℕ
message_at k table i = number_of k (λ j. stream_bit table (i * k + j))

-- how many messages of k bits hold the stream of a table of `size` bytes
abbrev pub messages_for : ℕ → ℕ → ℕ
messages_for k size = (8 * (size + 2) + (k - 1)) / k

-- the messages of a table, in order
pub record Messages (k : ℕ) (table messages : List ℕ) : Type 0 where
  pub count : length messages ≡ messages_for k (length table)
  pub each : (i : ℕ) → i < length messages → slice_index messages i ≡ message_at k table i
