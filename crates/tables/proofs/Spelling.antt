-- Tables and their messages, each from the other.
use Rattle.std.proofs.Common.{◌≡◌, ℕ, zero, suc, ◌+◌, ◌-◌, ◌*◌, ◌/◌, ◌%◌, ◌^◌, ◌<◌, ◌≤◌, Bool, true, false, List, [], ◌∷◌, map, length, get_or, drop, MatchBool, MatchOption, sym, refl, ap, ◌∙◌, subst, mod-eq_of_lt, mul-zero, arith, pow_pos, pow_mono, shr-shr}
use native.Mathlib.Nat.{div-eq_of_lt, mod-mod}
use Rattle.std.specs.Bool.{then_some}
use Rattle.std.specs.List.{range_with_len}
use Rattle.std.proofs.lemmas.Nat.{mod_below, le-div}
use Rattle.std.proofs.lemmas.List.FromFn.{length-map-range_with_len, get_or-map-range_with_len, fill_by_all}
use Rattle.std.proofs.lemmas.List.Elements.{All-from_get_or}
use Rattle.std.proofs.lemmas.List.{drop_more, drop_all}
use Rattle.codes.proofs.Answering.{short_by_shift}
use Rattle.tables.specs.Feed.{joined, past_end, Below, NoTable, Sized}
use Rattle.tables.specs.Speller.{TableOf}
use Rattle.tables.specs.Stream.{stream, message_at, messages_for, Messages}
use Rattle.tables.proofs.Counts.{messages_cover, last_is, last_bits}
use Rattle.tables.proofs.Joined.{joined_drop, joined_digit, joined_digits, joined_below, message_is, message_below}

-- the bytes of a number, from the third on, so many of them
abbrev pub spelt : ℕ → ℕ → List ℕ
spelt v size = map (λ (i : ℕ). v / 2 ^ (8 * (i + 2)) % 256) (range_with_len 0 size)

-- what there is to test in messages of `k` bits: whether they are those of a table of `size` bytes
pub record Spellable (k : ℕ) (messages : List ℕ) (size : ℕ) : Type 0 where
  pub below : Below k messages
  pub told : size ≡ joined k messages % 65536
  pub count : length messages ≡ messages_for k size
  pub filling : past_end k messages size ≡ 0

-- ---- from a table to its messages

-- the stream ends where the bytes do
stream_below : (table : List ℕ) → joined 8 (stream table) < 2 ^ (8 * (length table + 2))
stream_below table =
    let e : length (stream table) * 8 ≡ 8 * (length table + 2) = omega arith in
    subst (λ (x : ℕ). joined 8 (stream table) < 2 ^ x) e (joined_below 8 (stream table))

module _ {k : ℕ} {messages table : List ℕ} (some : 0 < k) (so : TableOf k messages table) where
  -- the messages and the stream are the same bits
  pub joined_is : joined k messages ≡ joined 8 (stream table)
  joined_is =
      let v = joined 8 (stream table) in
      let room : 8 * (length table + 2) ≤ length messages * k =
      subst (λ (x : ℕ). 8 * (length table + 2) ≤ x * k) (sym so.held.count) (messages_cover k (length table) some) in
      let wide : 2 ^ (8 * (length table + 2)) ≤ 2 ^ (length messages * k) = pow_mono room in
      let small : v < 2 ^ (length messages * k) = omega (arith, stream_below table) in
      joined_digits k messages v
      (λ i l. ap (λ (x : ℕ). x % 2 ^ k) (so.held.each i l ∙ message_is k table i) ∙ mod-mod (v / 2 ^ (i * k)) (2 ^ k))
      ∙ mod-eq_of_lt small

  size_told : length table ≡ joined k messages % 65536
  size_told = omega (arith, joined_is, so.short)

  pub table_spellable : Spellable k messages (length table)
  table_spellable = record {
    below = All-from_get_or (λ s. s < 2 ^ k) messages 0 (λ i l. subst (λ (x : ℕ). x < 2 ^ k) (sym (so.held.each i l)) (message_below k table i));
    told = size_told;
    count = so.held.count;
    filling = ap (λ (x : ℕ). x / 2 ^ (8 * (length table + 2))) joined_is ∙ div-eq_of_lt (stream_below table);
  }

  -- the table is what the messages spell
  pub table_is : table ≡ spelt (joined k messages) (length table)
  table_is =
      fill_by_all (λ (i : ℕ). joined k messages / 2 ^ (8 * (i + 2)) % 256) table (length table) 0 refl
      (λ i l.
      let e : suc (suc i) * 8 ≡ 8 * (i + 2) = omega arith in
      sym (mod-eq_of_lt (so.bytes i l)) ∙ sym (joined_digit 8 (stream table) (suc (suc i)))
      ∙ ap (λ (x : ℕ). joined 8 (stream table) / 2 ^ x % 256) e ∙ ap (λ (x : ℕ). x / 2 ^ (8 * (i + 2)) % 256) (sym joined_is))

-- a table is determined by its messages
pub one_table : {k : ℕ} {messages T U : List ℕ} → 0 < k → TableOf k messages T → TableOf k messages U → T ≡ U
one_table {k} {messages} {T} {U} some p q =
    table_is some p ∙ ap (spelt (joined k messages)) ((table_spellable some p).told ∙ sym (table_spellable some q).told) ∙ sym (table_is some q)

-- a table has messages, each below 2 ^ k
pub has_messages : (k : ℕ) (table : List ℕ) → (messages : List ℕ) × Messages k table messages × Below k messages
has_messages k table =
    let c = messages_for k (length table) in
    let ms = map (message_at k table) (range_with_len 0 c) in
    let size : length ms ≡ c = length-map-range_with_len (message_at k table) 0 c in
    let each : (i : ℕ) → i < length ms → get_or ms i 0 ≡ message_at k table i =
    λ i l. get_or-map-range_with_len (message_at k table) 0 c i i 0 (omega (arith, size)) (omega arith) in
    (ms, record { count = size; each = each }, All-from_get_or (λ s. s < 2 ^ k) ms 0 (λ i l. subst (λ (x : ℕ). x < 2 ^ k) (sym (each i l)) (message_below k table i)))

-- ---- from messages to the table

module _ {k : ℕ} {messages : List ℕ} {size : ℕ} (so : Spellable k messages size) where
  abbrev table : List ℕ
  table = spelt (joined k messages) size

  table_size : length table ≡ size
  table_size = length-map-range_with_len (λ (i : ℕ). joined k messages / 2 ^ (8 * (i + 2)) % 256) 0 size

  table_byte : (i : ℕ) → i < length table → get_or table i 0 ≡ joined k messages / 2 ^ (8 * (i + 2)) % 256
  table_byte i l =
      get_or-map-range_with_len (λ (i : ℕ). joined k messages / 2 ^ (8 * (i + 2)) % 256) 0 size i i 0 (omega (arith, table_size)) (omega arith)

  stream_byte : (i : ℕ) → i < length (stream table) → get_or (stream table) i 0 % 2 ^ 8 ≡ joined k messages / 2 ^ (i * 8) % 2 ^ 8
  stream_byte zero l = omega (arith, table_size, so.told)
  stream_byte (suc zero) l = omega (arith, table_size, so.told)
  stream_byte (suc (suc i)) l =
      let v = joined k messages in
      let e : 8 * (i + 2) ≡ suc (suc i) * 8 = omega arith in
      ap (λ (x : ℕ). x % 256) (table_byte i (omega arith)) ∙ mod-mod (v / 2 ^ (8 * (i + 2))) 256 ∙ ap (λ (x : ℕ). v / 2 ^ x % 256) e

  stream_is : joined 8 (stream table) ≡ joined k messages
  stream_is =
      let v = joined k messages in
      let e : length (stream table) * 8 ≡ 8 * (size + 2) = omega (arith, table_size) in
      joined_digits 8 (stream table) v stream_byte ∙ ap (λ (x : ℕ). v % 2 ^ x) e ∙ mod-eq_of_lt (short_by_shift v (8 * (size + 2)) so.filling)

  -- the messages are those of the table that they spell
  pub spellable_table : TableOf k messages (spelt (joined k messages) size)
  spellable_table = record {
    short = omega (arith, table_size, so.told);
    bytes = λ i l. subst (λ (x : ℕ). x < 256) (sym (table_byte i l)) (mod_below (joined k messages / 2 ^ (8 * (i + 2))) 256 (omega arith));
    held = record {
      count = so.count ∙ ap (messages_for k) (sym table_size);
      each = λ i l.
          sym (mod-eq_of_lt (so.below i 0 l)) ∙ sym (joined_digit k messages i) ∙ ap (λ (x : ℕ). x / 2 ^ (i * k) % 2 ^ k) (sym stream_is)
          ∙ sym (message_is k table i);
    };
  }

-- ---- what is tested

module _ {k : ℕ} (some : 0 < k) (messages : List ℕ) where
  -- messages that fail a test are those of no table
  pub no_table : {size : ℕ} → size ≡ joined k messages % 65536 → (Spellable k messages size → ⊥) → NoTable k messages
  no_table told fails T so =
      let found = table_spellable some so in
      fails (subst (Spellable k messages) (found.told ∙ sym told) found)

  pub too_wide : ¬ (Below k messages) → NoTable k messages
  too_wide wide T so = wide (table_spellable some so).below

  -- the filling is in the last message
  pub last_filling : (size : ℕ) → Below k messages → length messages ≡ messages_for k size → past_end k messages size ≡ get_or messages (length messages - 1) 0 / 2 ^ ((8 * (size + 2) - 1) % k + 1)
  last_filling size below count =
      let v = joined k messages in
      let i = length messages - 1 in
      let used = (8 * (size + 2) - 1) % k + 1 in
      let within : i < length messages = omega (arith, count, last_is k size some) in
      let whole : 8 * (size + 2) ≡ i * k + used = sym (ap (λ (x : ℕ). (x - 1) * k + used) count ∙ last_bits k size some) in
      let rest : drop i messages ≡ get_or messages i 0 ∷ [] =
      drop_more messages i 0 within ∙ ap (λ (xs : List ℕ). get_or messages i 0 ∷ xs) (drop_all (i + 1) messages (omega arith)) in
      let last : v / 2 ^ (i * k) ≡ get_or messages i 0 =
      joined_drop k messages i ∙ ap (joined k) rest ∙ omega (arith, mod-eq_of_lt (below i 0 within), mul-zero (2 ^ k)) in
      ap (λ (x : ℕ). v / 2 ^ x) whole ∙ sym (shr-shr v (i * k) used) ∙ ap (λ (x : ℕ). x / 2 ^ used) last

-- a number has nothing above so many bits exactly if it fits in them
pub when_nothing_above : (b : Bool) (v a n : ℕ) → v ≡ a / 2 ^ n → MatchBool b (a < 2 ^ n) (2 ^ n ≤ a) → MatchBool b (v ≡ 0) (0 < v)
when_nothing_above true v a n e h = e ∙ div-eq_of_lt h
when_nothing_above false v a n e h = omega (arith, e, le-div 1 a (2 ^ n) (pow_pos n) (omega arith))

pub spellable_sized : {k : ℕ} {messages : List ℕ} {size : ℕ} → 0 < k → Spellable k messages size → Sized k messages size
spellable_sized {k} {messages} {size} some so = record {
  below = so.below;
  some = (spelt (joined k messages) size, spellable_table so, table_size so);
  only = λ T p. (table_spellable some p).told ∙ sym so.told;
}

-- a size is that of the table, if the messages pass the last test, and else no table has them
pub sized_if_filled : {k : ℕ} (messages : List ℕ) (size : ℕ) → 0 < k → Below k messages → size ≡ joined k messages % 65536 → length messages ≡ messages_for k size → (filled : Bool) → MatchBool filled (past_end k messages size ≡ 0) (0 < past_end k messages size) → MatchOption (then_some filled size) (NoTable k messages) (Sized k messages)
sized_if_filled messages size some below told count true filling =
    spellable_sized some (record { below = below; told = told; count = count; filling = filling })
sized_if_filled messages size some below told count false over =
    no_table some messages told (λ so. omega (arith, so.filling))

-- ---- the bytes written

-- the bytes that the messages spell are those of their table
pub spelt_table : {k : ℕ} {messages table : List ℕ} {size : ℕ} → 0 < k → Sized k messages size → length table ≡ size → ((i : ℕ) → i < size → get_or table i 0 ≡ joined k messages / 2 ^ (8 * (i + 2)) % 256) → TableOf k messages table
spelt_table {k} {messages} {table} {size} some so long bytes =
    let v = joined k messages in
    let spells : table ≡ spelt v size = fill_by_all (λ (i : ℕ). v / 2 ^ (8 * (i + 2)) % 256) table size 0 long bytes in
    let same : so.some.0 ≡ table = table_is some so.some.1 ∙ ap (spelt v) so.some.2 ∙ sym spells in
    subst (TableOf k messages) same so.some.1

-- what is left once i bytes are drawn, behind the two of the size
pub bytes_left : (v i : ℕ) → v / 2 ^ (8 * (i + 2)) / 2 ^ 8 ≡ v / 2 ^ (8 * (i + 1 + 2))
bytes_left v i =
    let e : 8 * (i + 2) + 8 ≡ 8 * (i + 1 + 2) = omega arith in
    shr-shr v (8 * (i + 2)) 8 ∙ ap (λ (x : ℕ). v / 2 ^ x) e
