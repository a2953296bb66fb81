-- A reader that is asked again and again hands out what the bytes mean, and is refused alike.
use Rattle.std.proofs.Common.{◌≡◌, ℕ, ◌+◌, ◌<◌, List, [], ◌∷◌, length, drop, Some, None, Ok, Err, Option, Result, ap, subst, ⊎_elim, arith}
use Rattle.codes.specs.declared.fault.Fault.{Fault}
use Rattle.codes.specs.Fault.{Reports, Transition}
use Rattle.codes.proofs.Faults.{same_fault}
use Rattle.records.specs.declared.layout.Record.{Record}
use Rattle.records.specs.Layout.{Content, bytes_of, laid, Means}
use Rattle.records.specs.Reader.{next_sound, Next, ReadOn, ReadInTurn, HandedOutInTurn, Reading}
use Rattle.records.proofs.Meanings.{same_meaning, laid_means, others_behind}

-- what a reader at a place answers, where the bytes from there on mean these records and this rest
abbrev Answered : List ℕ → ℕ → List Content → List ℕ → Result (Option Record) Fault → ℕ → Type 0
Answered bytes at xs rest r after = Transition (next_sound at xs rest ∷ []) at (Next bytes at xs) r after

-- it is the answer to whatever these bytes are known to mean
answered : (bytes : List ℕ) (at : ℕ) (xs : List Content) (rest : List ℕ) → Means (drop at bytes) xs rest → (r : Result (Option Record) Fault) (after : ℕ) → ReadOn bytes at r after
    → Answered bytes at xs rest r after
answered bytes at xs rest m r after (rs, left, n, t) =
    let same = same_meaning (drop at bytes) xs rs rest left m n in
    subst (λ x. Answered bytes at xs x r after) same.1 (subst (λ x. Answered bytes at x left r after) same.0 t)

handed_out : (bytes : List ℕ) (at : ℕ) (xs : List Content) → Means (drop at bytes) xs [] → (rs : List (Result (Option Record) Fault)) (after : ℕ) → ReadInTurn bytes at rs after
    → HandedOutInTurn bytes at xs rs
handed_out bytes at xs m [] after c = tt
handed_out bytes at [] m (Ok None ∷ rs) after (between, read, more) =
    let t = answered bytes at [] [] m (Ok None) between read in
    handed_out bytes at [] m rs after (subst (λ n. ReadInTurn bytes n rs after) t.1 more)
handed_out bytes at [] m (Ok (Some found) ∷ rs) after (between, read, more) = absurd (answered bytes at [] [] m (Ok (Some found)) between read).1
handed_out bytes at [] m (Err f ∷ rs) after (between, read, more) =
    let t = answered bytes at [] [] m (Err f) between read in
    absurd (⊎_elim (λ a. omega (arith, a.0.1)) (λ a. a.1) t.0)
handed_out bytes at (x ∷ xs) m (Ok None ∷ rs) after (between, read, more) = absurd (answered bytes at (x ∷ xs) [] m (Ok None) between read).1
handed_out bytes at (x ∷ xs) m (Ok (Some found) ∷ rs) after (between, read, more) =
    let t = answered bytes at (x ∷ xs) [] m (Ok (Some found)) between read in
    let behind = others_behind bytes at x xs [] m in
    (t.1.0, handed_out bytes (at + length (bytes_of x)) xs behind rs after (subst (λ n. ReadInTurn bytes n rs after) t.1.1 more))
handed_out bytes at (x ∷ xs) m (Err f ∷ rs) after (between, read, more) =
    let t = answered bytes at (x ∷ xs) [] m (Err f) between read in
    absurd (⊎_elim (λ a. omega (arith, a.0.0)) (λ a. a.1) t.0)

-- a refusal, asked for once more
refused_alike : (bytes : List ℕ) (at : ℕ) (f : Fault) (xs : List Content) (rest : List ℕ) → (length xs ≡ 0) × (0 < length rest) → Reports (next_sound at xs rest) f
    → (r : Result (Option Record) Fault) (later : ℕ) → Answered bytes at xs rest r later → (r ≡ Err f) × (later ≡ at)
refused_alike bytes at f xs rest faulty told (Ok o) later t = absurd (⊎_elim (λ some. omega (arith, faulty.0, some)) (λ none. omega (arith, faulty.1, none)) t.0.0)
refused_alike bytes at f xs rest faulty told (Err g) later t =
    (⊎_elim (λ a. ap Err (same_fault (next_sound at xs rest) g f a.1 told)) (λ a. absurd a.1) t.0, t.1)

alike : (bytes : List ℕ) (at : ℕ) (f : Fault) (after : ℕ) → ReadOn bytes at (Err f) after → (r : Result (Option Record) Fault) (later : ℕ) → ReadOn bytes after r later → (r ≡ Err f) × (later ≡ at)
alike bytes at f after (xs, rest, m, (refused, stays)) r later read =
    let t = answered bytes at xs rest m r later (subst (λ n. ReadOn bytes n r later) stays read) in
    ⊎_elim (λ a. refused_alike bytes at f xs rest a.0 a.1 r later t) (λ a. absurd a.1) refused

pub reading : Reading
reading = record { back = λ xs s rs after. handed_out (laid xs) 0 xs (laid_means xs s) rs after; alike = alike }
