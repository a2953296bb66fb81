-- One record at the front of bytes: it is told apart from what follows it, and from a faulty one.
use Rattle.std.proofs.Common.{◌≡◌, ℕ, suc, ◌+◌, ◌-◌, ◌*◌, ◌/◌, ◌%◌, ◌<◌, ◌≤◌, Bool, true, false, cond, ◌||◌, eqb, ◌⊎◌, List, [], ◌∷◌, ◌++◌, length, slice_range, take, drop, sym, refl, ap, ◌∙◌, inl, inr, ⊎_elim, arith, length-append, length-take-le, get_or-drop, get_or-take}
use Rattle.std.proofs.lemmas.List.{take_at, take_all, drop_at, take-append-drop, length-drop}
use Rattle.std.proofs.lemmas.Bool.{false≢true, cases_lt, cases_Bool}
use Rattle.tables.specs.Stream.{Bytes}
use Rattle.records.specs.declared.layout.Kind.TheVariants.{Travel, Door, Other}
use Rattle.records.specs.declared.layout.Record.{Record}
use Rattle.records.specs.Layout.{Content, bytes_of, Sound, two_at, holds_times, kind_of, Faulty}
use Rattle.records.specs.Steps.{Begins, of_times}

abbrev content : ℕ → List ℕ → Content
content k p = record { kind = k; payload = p }

-- lists that begin with parts of equal length have equal parts
pub same_parts : (p q m n : List ℕ) → length p ≡ length q → p ++ m ≡ q ++ n → (p ≡ q) × (m ≡ n)
same_parts p q m n len e = (
  sym (take_at p m (length p) refl) ∙ ap (take (length p)) e ∙ take_at q n (length p) (sym len),
  sym (drop_at p m (length p) refl) ∙ ap (drop (length p)) e ∙ drop_at q n (length p) (sym len),
)

-- the four numbers of a record's first bytes
size_is : (x : Content) (m : List ℕ) → two_at (bytes_of x ++ m) 0 ≡ length x.payload
size_is x m = omega arith

kind_is : (x : Content) (m : List ℕ) → two_at (bytes_of x ++ m) 2 ≡ x.kind
kind_is x m = omega arith

pub same_record : (x y : Content) (m n : List ℕ) → bytes_of x ++ m ≡ bytes_of y ++ n → (x ≡ y) × (m ≡ n)
same_record x y m n e =
    let len : length x.payload ≡ length y.payload = sym (size_is x m) ∙ ap (λ l. two_at l 0) e ∙ size_is y n in
    let kind : x.kind ≡ y.kind = sym (kind_is x m) ∙ ap (λ l. two_at l 2) e ∙ kind_is y n in
    let parts = same_parts x.payload y.payload m n len (ap (drop 4) e) in
    (ap (λ k. content k x.payload) kind ∙ ap (content y.kind) parts.0, parts.1)

pub sound_not_faulty : (x : Content) (m : List ℕ) → Sound x → Faulty (bytes_of x ++ m) → ⊥
sound_not_faulty x m s f =
    ⊎_elim
    (λ short. omega (arith, short, size_is x m, length-append x.payload m))
    (λ half.
    let even = s.entries (sym (ap holds_times (kind_is x m)) ∙ half.0) in
    omega (arith, even, half.1, size_is x m))
    f.1

-- the record that bytes begin with, whether it is sound or not
abbrev pub content_at : List ℕ → Content
content_at bs = content (two_at bs 2) (take (two_at bs 0) (drop 4 bs))

pub bytes_drop : (bs : List ℕ) (p : ℕ) → Bytes bs → Bytes (drop p bs)
bytes_drop bs p b i h =
    let len : length (drop p bs) ≡ length bs - p = length-drop p bs in
    rw get_or-drop (b (p + i) (omega (arith, len)))

-- bytes that are not faulty begin with a sound record
module _ (a b c d : ℕ) (ds : List ℕ) (bytes : Bytes (a ∷ b ∷ c ∷ d ∷ ds)) (room : a + 256 * b ≤ length ds) where
  whole_size : length (take (a + 256 * b) ds) ≡ a + 256 * b
  whole_size = length-take-le (a + 256 * b) ds room

  whole_bytes : Bytes (take (a + 256 * b) ds)
  whole_bytes i h =
      let below : i < a + 256 * b = omega (arith, whole_size) in
      rw get_or-take (bytes (suc (suc (suc (suc i)))) (omega arith))

  whole_parts : a ∷ b ∷ c ∷ d ∷ ds ≡ bytes_of (content (c + 256 * d) (take (a + 256 * b) ds)) ++ drop (a + 256 * b) ds
  whole_parts =
      let n = whole_size in
      let a_low = bytes 0 (omega arith) in
      let c_low = bytes 2 (omega arith) in
      let e_a : length (take (a + 256 * b) ds) % 256 ≡ a = omega (arith, n, a_low) in
      let e_b : length (take (a + 256 * b) ds) / 256 ≡ b = omega (arith, n, a_low) in
      let e_c : (c + 256 * d) % 256 ≡ c = omega (arith, c_low) in
      let e_d : (c + 256 * d) / 256 ≡ d = omega (arith, c_low) in
      let rest = take-append-drop (a + 256 * b) ds in
      cc

  whole_sound : (holds_times (c + 256 * d) ≡ true → (a + 256 * b) % 2 ≡ 0) → Sound (content (c + 256 * d) (take (a + 256 * b) ds))
  whole_sound even =
      record {
        size = omega (arith, whole_size, bytes 0 (omega arith), bytes 1 (omega arith));
        number = omega (arith, bytes 2 (omega arith), bytes 3 (omega arith));
        bytes = whole_bytes;
        entries = λ h. omega (arith, even h, whole_size);
      }

-- a sound record, and what follows it
pub record Starts (bs : List ℕ) : Type 0 where
  pub sound : Sound (content_at bs)
  pub parts : bs ≡ bytes_of (content_at bs) ++ drop (two_at bs 0) (drop 4 bs)

pub starts : (bs : List ℕ) → Bytes bs → 4 + two_at bs 0 ≤ length bs → (holds_times (two_at bs 2) ≡ true → two_at bs 0 % 2 ≡ 0) → Starts bs
starts [] b h e = absurd (omega arith)
starts (w ∷ []) b h e = absurd (omega arith)
starts (w ∷ x ∷ []) b h e = absurd (omega arith)
starts (w ∷ x ∷ y ∷ []) b h e = absurd (omega arith)
starts (w ∷ x ∷ y ∷ z ∷ ds) b h e =
    record { sound = whole_sound w x y z ds b (omega arith) e; parts = whole_parts w x y z ds b (omega arith) }

-- bytes are faulty, or begin with a sound record
pub judged : (bs : List ℕ) → Bytes bs → 0 < length bs → Faulty bs ⊎ Starts bs
judged bs b some =
    ⊎_elim
    (λ short. inl (some, inl short))
    (λ room.
    ⊎_elim
    (λ times. ⊎_elim (λ even. inr (starts bs b room (λ t. omega (arith, even)))) (λ odd. inl (some, inr (times, omega (arith, odd)))) (cases_lt (two_at bs 0 % 2) 1))
    (λ other. inr (starts bs b room (λ t. absurd (false≢true (sym other ∙ t)))))
    (cases_Bool (holds_times (two_at bs 2))))
    (cases_lt (length bs) (4 + two_at bs 0))

-- whether records of a number's kind hold times
times_by : (b c : Bool) (x : ℕ) → of_times (cond b Travel (cond c Door (Other x))) ≡ b || c
times_by true c x = refl
times_by false true x = refl
times_by false false x = refl

pub times_of : (x : ℕ) → of_times (kind_of x) ≡ holds_times x
times_of x = times_by (eqb x 1) (eqb x 2) x

-- what is left behind a place
pub left_at : (bs : List ℕ) (at : ℕ) → slice_range bs at (length bs) ≡ drop at bs
left_at bs at = take_all (length bs - at) (drop at bs) (omega (arith, length-drop at bs))

-- a record that fits in the bytes, and has whole entries if it holds times, is what they begin with
pub begins : (bs : List ℕ) (place size : ℕ) → Bytes bs → 4 ≤ length bs → size ≡ two_at bs 0 → size ≤ length (slice_range bs 4 (length bs))
    → (holds_times (two_at bs 2) ≡ true → size % 2 ≡ 0)
    → (found : Record) → found.kind ≡ kind_of (two_at bs 2) → found.place ≡ place → found.payload.now ≡ slice_range (slice_range bs 4 (length bs)) 0 size → Begins bs place found
begins bs place size bytes head is room even found kind at payload =
    let behind = left_at bs 4 in
    let fits : size ≤ length (drop 4 bs) = rw (← behind) room in
    let whole : take (size - 0) (drop 4 bs) ≡ take (two_at bs 0) (drop 4 bs) = ap (λ n. take n (drop 4 bs)) (omega (arith, is)) in
    let from = starts bs bytes (omega (arith, length-drop 4 bs)) (λ t. omega (arith, even t)) in
    record {
      below = bytes;
      content = content_at bs;
      more = drop (two_at bs 0) (drop 4 bs);
      sound = from.sound;
      parts = from.parts;
      kind = kind;
      place = at;
      payload = payload ∙ ap (take (size - 0)) behind ∙ whole;
    }
