-- Bits in hand and symbols to come.
use Rattle.std.proofs.Common.{◌≡◌, ℕ, suc, ◌+◌, ◌-◌, ◌*◌, ◌/◌, ◌%◌, ◌^◌, ◌<◌, ◌≤◌, List, [], ◌∷◌, All, map, length, get_or, drop, zero-lt-suc, suc-le-suc, sym, ap, ◌∙◌, subst, le_of_lt, mod-eq_of_lt, mul_assoc, mul_comm, add-mul, one-mul, mul-add, mul-zero, arith, pow_pos, pow_mono, pow-add, shr_lt}
use native.Mathlib.Nat.{mod-add-div', add-mul-div_right}
use Rattle.std.proofs.lemmas.Nat.{mul-le}
use Rattle.tables.specs.Feed.{InHand, joined, left}

module _ {S : Type 0} {number : S → ℕ} {w held bits : ℕ} where
  first_below : (symbols : List S) → InHand number w symbols held bits → get_or (map number symbols) 0 0 < 2 ^ w
  first_below [] so = pow_pos w
  first_below (s ∷ ss) so = so.fits 0 s (zero-lt-suc (length ss))

  others_fit : (symbols : List S) → InHand number w symbols held bits → All (λ s. number s < 2 ^ w) (drop 1 symbols)
  others_fit [] so = so.fits
  others_fit (s ∷ ss) so = λ k d l. so.fits (suc k) d (suc-le-suc l)

  first_joined : (symbols : List S) → InHand number w symbols held bits → joined w (map number symbols) ≡ get_or (map number symbols) 0 0 + 2 ^ w * joined w (map number (drop 1 symbols))
  first_joined [] so = omega (arith, mul-zero (2 ^ w))
  first_joined (s ∷ ss) so =
      ap (λ (x : ℕ). x + 2 ^ w * joined w (map number ss)) (mod-eq_of_lt (first_below (s ∷ ss) so))

  -- one symbol more in hand
  module _ {symbols rest : List S} {symbol : ℕ} (so : InHand number w symbols held bits) (is : symbol ≡ get_or (map number symbols) 0 0) (others : rest ≡ drop 1 symbols) (room : bits + w < 64) where
    taken_below : held + symbol * 2 ^ bits < 2 ^ (bits + w)
    taken_below =
        let small : symbol < 2 ^ w = omega (arith, first_below symbols so) in
        omega (arith, so.below, small, pow-add 2 bits w, mul-le (symbol + 1) (2 ^ bits) (2 ^ w) (2 ^ bits) (omega arith) (omega arith), add-mul symbol 1 (2 ^ bits), one-mul (2 ^ bits), mul_comm (2 ^ bits) (2 ^ w))

    -- the shift drops no bit
    shifted : symbol * 2 ^ bits % 2 ^ 64 ≡ symbol * 2 ^ bits
    shifted =
        let wide : 2 ^ (bits + w) ≤ 2 ^ 64 = pow_mono (le_of_lt room) in
        mod-eq_of_lt (omega (arith, taken_below))

    pub taken_fits : held + symbol * 2 ^ bits % 2 ^ 64 < 2 ^ 64
    taken_fits =
        let wide : 2 ^ (bits + w) ≤ 2 ^ 64 = pow_mono (le_of_lt room) in
        omega (arith, taken_below, shifted)

    pub taken_in_hand : InHand number w rest (held + symbol * 2 ^ bits % 2 ^ 64) (bits + w)
    taken_in_hand = record {
      some = so.some;
      few = room;
      below = omega (arith, taken_below, shifted);
      fits = subst (λ (ss : List S). All (λ s. number s < 2 ^ w) ss) (sym others) (others_fit symbols so);
    }

    pub taken_left : left number w rest (held + symbol * 2 ^ bits % 2 ^ 64) (bits + w) ≡ left number w symbols held bits
    taken_left =
        let b = 2 ^ bits in
        let later = joined w (map number (drop 1 symbols)) in
        let split : b * joined w (map number symbols) ≡ b * symbol + b * (2 ^ w * later) =
        ap (λ (x : ℕ). b * x) (first_joined symbols so ∙ ap (λ (x : ℕ). x + 2 ^ w * later) (sym is)) ∙ mul-add b symbol (2 ^ w * later) in
        ap (λ (ss : List S). left number w ss (held + symbol * 2 ^ bits % 2 ^ 64) (bits + w)) others
        ∙ omega (arith, split, shifted, ap (λ (x : ℕ). x * later) (pow-add 2 bits w), mul_assoc b (2 ^ w) later, mul_comm b symbol)

  -- the lowest k bits drawn
  module _ {symbols : List S} (so : InHand number w symbols held bits) {k : ℕ} (enough : k ≤ bits) where
    whole : bits ≡ bits - k + k
    whole = omega arith

    pub drawn_in_hand : InHand number w symbols (held / 2 ^ k) (bits - k)
    drawn_in_hand = record {
      some = so.some;
      few = omega (arith, so.few);
      below = shr_lt (bits - k) k (subst (λ (x : ℕ). held < 2 ^ x) whole so.below);
      fits = so.fits;
    }

    -- what is to come starts above the bits drawn
    abbrev above : ℕ
    above = 2 ^ (bits - k) * joined w (map number symbols)

    split_left : left number w symbols held bits ≡ held + above * 2 ^ k
    split_left =
        let later = joined w (map number symbols) in
        let b = bits - k in
        ap (λ (x : ℕ). held + 2 ^ x * later) whole
        ∙ omega (arith, ap (λ (x : ℕ). x * later) (pow-add 2 b k), mul_assoc (2 ^ b) (2 ^ k) later, ap (λ (x : ℕ). 2 ^ b * x) (mul_comm (2 ^ k) later), mul_assoc (2 ^ b) later (2 ^ k))

    pub drawn_left : left number w symbols (held / 2 ^ k) (bits - k) ≡ left number w symbols held bits / 2 ^ k
    drawn_left = sym (ap (λ (x : ℕ). x / 2 ^ k) split_left ∙ add-mul-div_right held above (pow_pos k))

    pub drawn_number : held % 2 ^ k ≡ left number w symbols held bits % 2 ^ k
    drawn_number =
        omega (arith, split_left, mod-add-div' held (2 ^ k), mod-add-div' (left number w symbols held bits) (2 ^ k), ap (λ (x : ℕ). x * 2 ^ k) drawn_left, add-mul (held / 2 ^ k) above (2 ^ k))
