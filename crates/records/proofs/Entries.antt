-- The entries of a payload, and the time of a floor.
use Rattle.std.proofs.Common.{◌≡◌, ℕ, zero, suc, ◌+◌, ◌*◌, ◌/◌, ◌%◌, ◌<◌, ◌≤◌, List, [], ◌∷◌, length, get_or, Some, None, refl, ap, arith}
use Rattle.std.specs.List.{slice_get}
use Rattle.std.specs.Simd.{first_chunks}
use Rattle.records.specs.Lookup.{entries, payload_of}

-- an entry is two bytes of the payload, the lower one first
pub entry_inside : (payload entry : List ℕ) (n i time : ℕ) → n ≡ length payload / 2 → i < n → entry ≡ get_or (first_chunks 2 n payload) i entry
    → time ≡ get_or entry 0 0 + get_or entry 1 0 * 256 → Some time ≡ slice_get (entries payload) i
entry_inside [] entry n i time e h at is = absurd (omega arith)
entry_inside (x ∷ []) entry n i time e h at is = absurd (omega arith)
entry_inside (x ∷ y ∷ ps) entry zero i time e h at is = absurd (omega arith)
entry_inside (x ∷ y ∷ ps) entry (suc n) zero time e h at is =
    let low : get_or entry 0 0 ≡ x = ap (λ l. get_or l 0 0) at in
    let high : get_or entry 1 0 ≡ y = ap (λ l. get_or l 1 0) at in
    ap Some (omega (arith, low, high, is))
entry_inside (x ∷ y ∷ ps) entry (suc n) (suc i) time e h at is = entry_inside ps entry n i time (omega arith) (omega arith) at is

pub entry_past : (payload : List ℕ) (i : ℕ) → length payload / 2 ≤ i → None ≡ slice_get (entries payload) i
entry_past [] i h = refl
entry_past (x ∷ []) i h = refl
entry_past (x ∷ y ∷ ps) zero h = absurd (omega arith)
entry_past (x ∷ y ∷ ps) (suc i) h = entry_past ps i (omega arith)

-- what the entries of a payload of times are
pub entries_back : (times : List ℕ) → entries (payload_of times) ≡ times
entries_back [] = refl
entries_back (time ∷ times) =
    let whole : time % 256 + 256 * (time / 256) ≡ time = omega arith in
    λ i. whole i ∷ entries_back times i
