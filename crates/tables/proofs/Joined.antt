-- Symbols of one width, and the number that they are joined to.
use Rattle.std.proofs.Common.{◌≡◌, ℕ, zero, suc, ◌+◌, ◌-◌, ◌*◌, ◌/◌, ◌%◌, ◌^◌, ◌<◌, List, [], ◌∷◌, length, get_or, drop, sym, refl, ap, ◌∙◌, subst, suc-le-suc, mod-eq_of_lt, zero-lt-suc, suc-mul, mul_comm, add_comm, div-add-mod', zero-mul, div-one, add-one, arith, pow_pos, shr-shr}
use native.Mathlib.Nat.{zero-div, mod-one, div-eq_of_lt, add-mul-div_left, add-mul-mod_self_left}
use lib.Pow.{mod-pow-add, mod-mod-pow, field}
use Rattle.std.proofs.lemmas.Nat.{mod_below}
use Rattle.tables.specs.Feed.{joined}
use Rattle.tables.specs.Stream.{bit, number_of, stream, stream_bit, message_at}

-- ---- the symbols are the digits of the number

module _ (w : ℕ) where
  joined_low : (s : ℕ) (ss : List ℕ) → joined w (s ∷ ss) % 2 ^ w ≡ s % 2 ^ w
  joined_low s ss =
      add-mul-mod_self_left (s % 2 ^ w) (2 ^ w) (joined w ss) ∙ mod-eq_of_lt (mod_below s (2 ^ w) (pow_pos w))

  joined_high : (s : ℕ) (ss : List ℕ) → joined w (s ∷ ss) / 2 ^ w ≡ joined w ss
  joined_high s ss =
      add-mul-div_left (s % 2 ^ w) (joined w ss) (pow_pos w)
      ∙ omega (arith, div-eq_of_lt (mod_below s (2 ^ w) (pow_pos w)))

  -- what is above the first i digits
  above : (v i : ℕ) → v / 2 ^ w / 2 ^ (i * w) ≡ v / 2 ^ (suc i * w)
  above v i = shr-shr v w (i * w) ∙ ap (λ (x : ℕ). v / 2 ^ x) (add_comm w (i * w) ∙ sym (suc-mul i w))

  above_none : (v : ℕ) → v / 2 ^ (0 * w) ≡ v
  above_none v = ap (λ (x : ℕ). v / 2 ^ x) (zero-mul w) ∙ div-one v

  pub joined_drop : (ss : List ℕ) (i : ℕ) → joined w ss / 2 ^ (i * w) ≡ joined w (drop i ss)
  joined_drop [] zero = zero-div (2 ^ (0 * w))
  joined_drop [] (suc i) = zero-div (2 ^ (suc i * w))
  joined_drop (s ∷ ss) zero = above_none (joined w (s ∷ ss))
  joined_drop (s ∷ ss) (suc i) =
      sym (above (joined w (s ∷ ss)) i) ∙ ap (λ (x : ℕ). x / 2 ^ (i * w)) (joined_high s ss) ∙ joined_drop ss i

  -- digit i is symbol i
  pub joined_digit : (ss : List ℕ) (i : ℕ) → joined w ss / 2 ^ (i * w) % 2 ^ w ≡ get_or ss i 0 % 2 ^ w
  joined_digit [] i = ap (λ (x : ℕ). x % 2 ^ w) (zero-div (2 ^ (i * w)))
  joined_digit (s ∷ ss) zero = ap (λ (x : ℕ). x % 2 ^ w) (above_none (joined w (s ∷ ss))) ∙ joined_low s ss
  joined_digit (s ∷ ss) (suc i) =
      ap (λ (x : ℕ). x % 2 ^ w) (sym (above (joined w (s ∷ ss)) i) ∙ ap (λ (x : ℕ). x / 2 ^ (i * w)) (joined_high s ss)) ∙ joined_digit ss i

  -- symbols that are the digits of `v` are joined to its lowest bits
  pub joined_digits : (ss : List ℕ) (v : ℕ) → ((i : ℕ) → i < length ss → get_or ss i 0 % 2 ^ w ≡ v / 2 ^ (i * w) % 2 ^ w) → joined w ss ≡ v % 2 ^ (length ss * w)
  joined_digits [] v e = sym (ap (λ (x : ℕ). v % 2 ^ x) (zero-mul w) ∙ mod-one v)
  joined_digits (s ∷ ss) v e =
      let first : s % 2 ^ w ≡ v % 2 ^ w = e 0 (zero-lt-suc (length ss)) ∙ ap (λ (x : ℕ). x % 2 ^ w) (above_none v) in
      let rest : joined w ss ≡ v / 2 ^ w % 2 ^ (length ss * w) =
      joined_digits ss (v / 2 ^ w) (λ i l. e (suc i) (suc-le-suc l) ∙ ap (λ (x : ℕ). x % 2 ^ w) (sym (above v i))) in
      omega (arith, first, ap (λ (x : ℕ). 2 ^ w * x) rest, mul_comm (2 ^ w) (v / 2 ^ w % 2 ^ (length ss * w)), mod-pow-add v (length ss * w) w, ap (λ (x : ℕ). v % 2 ^ x) (suc-mul (length ss) w))

  pub joined_below : (ss : List ℕ) → joined w ss < 2 ^ (length ss * w)
  joined_below ss =
      let e : joined w ss ≡ joined w ss % 2 ^ (length ss * w) = joined_digits ss (joined w ss) (λ i l. sym (joined_digit ss i)) in
      subst (λ (x : ℕ). x < 2 ^ (length ss * w)) (sym e) (mod_below (joined w ss) (2 ^ (length ss * w)) (pow_pos (length ss * w)))

-- ---- bits

-- a bit below `w` is a bit of the lowest `w`
bit_low : (w n b : ℕ) → b < w → bit n b ≡ bit (n % 2 ^ w) b
bit_low w n b l =
    let more : w ≡ (w - (1 + b)) + (1 + b) = omega arith in
    let same : n % 2 ^ w % 2 ^ (1 + b) ≡ n % 2 ^ (1 + b) =
    ap (λ (x : ℕ). n % 2 ^ x % 2 ^ (1 + b)) more ∙ mod-mod-pow n (w - (1 + b)) (1 + b) in
    sym (field n 1 b) ∙ ap (λ (x : ℕ). x / 2 ^ b) (sym same) ∙ field (n % 2 ^ w) 1 b

-- bit b of the number is bit b mod w of symbol b div w
pub bit_joined : (w : ℕ) → 0 < w → (ss : List ℕ) (b : ℕ) → bit (joined w ss) b ≡ bit (get_or ss (b / w) 0) (b % w)
bit_joined w wide ss b =
    let digit = b / w in
    let whole : b ≡ digit * w + b % w = omega (arith, div-add-mod' b w) in
    ap (λ (x : ℕ). joined w ss / 2 ^ x % 2) whole
    ∙ ap (λ (x : ℕ). x % 2) (sym (shr-shr (joined w ss) (digit * w) (b % w)))
    ∙ bit_low w (joined w ss / 2 ^ (digit * w)) (b % w) (mod_below b w wide)
    ∙ ap (λ (x : ℕ). bit x (b % w)) (joined_digit w ss digit)
    ∙ sym (bit_low w (get_or ss digit 0) (b % w) (mod_below b w wide))

-- a number depends on its bits
pub number_same : (k : ℕ) (f g : ℕ → ℕ) → ((j : ℕ) → f j ≡ g j) → number_of k f ≡ number_of k g
unfolding number_of
number_same zero f g e = refl
number_same (suc k) f g e = omega (arith, e 0, number_same k (λ j. f (suc j)) (λ j. g (suc j)) (λ j. e (suc j)))

-- the number of k bits of `v` from bit o on
pub number_bits : (v k o : ℕ) → number_of k (λ j. bit v (o + j)) ≡ v / 2 ^ o % 2 ^ k
unfolding number_of
number_bits v zero o = sym (mod-one (v / 2 ^ o))
number_bits v (suc k) o =
    let rest : number_of k (λ j. bit v (o + suc j)) ≡ v / 2 ^ (o + 1) % 2 ^ k =
    number_same k (λ j. bit v (o + suc j)) (λ j. bit v (o + 1 + j)) (λ j. let e : o + suc j ≡ o + 1 + j = omega arith in ap (bit v) e)
    ∙ number_bits v k (o + 1) in
    let first : bit v (o + 0) ≡ v / 2 ^ o % 2 = let e : o + 0 ≡ o = omega arith in ap (bit v) e in
    let whole : v / 2 ^ o % 2 ^ (k + 1) ≡ (v / 2 ^ o / 2 ^ 1 % 2 ^ k) * 2 ^ 1 + v / 2 ^ o % 2 ^ 1 = mod-pow-add (v / 2 ^ o) k 1 in
    rw (← add-one k)
    (omega (arith, first, rest, whole, ap (λ (x : ℕ). x % 2 ^ k) (shr-shr v o 1)))

-- ---- messages

-- message i as a part of the joined stream
pub message_is : (k : ℕ) (table : List ℕ) (i : ℕ) → message_at k table i ≡ joined 8 (stream table) / 2 ^ (i * k) % 2 ^ k
message_is k table i =
    number_same k (λ j. stream_bit table (i * k + j)) (λ j. bit (joined 8 (stream table)) (i * k + j))
    (λ j. sym (bit_joined 8 (omega arith) (stream table) (i * k + j)))
    ∙ number_bits (joined 8 (stream table)) k (i * k)

pub message_below : (k : ℕ) (table : List ℕ) (i : ℕ) → message_at k table i < 2 ^ k
message_below k table i =
    subst (λ (x : ℕ). x < 2 ^ k) (sym (message_is k table i)) (mod_below (joined 8 (stream table) / 2 ^ (i * k)) (2 ^ k) (pow_pos k))
