-- The remainder is linear, and it is 0 exactly at the multiples of the generator.
use Rattle.std.specs.Prelude.{◌≡◌, ℕ, zero, suc, ◌+◌, ◌*◌, ◌/◌, ◌%◌, ◌^◌, ◌<◌, ◌≤◌, bit_xor}
use Rattle.std.proofs.Math.Path.{refl, sym, ap, ap₂, subst}
use Rattle.std.proofs.Common.{◌∙◌, le_refl, not-suc-le-zero, le_of_suc-le-suc, add-zero, mul-div_cancel, div-add-mod', div-le_self, mul-one, div-lt_iff_lt-mul, div-mul-le_self, mul-lt-mul_of_pos_right, lt_of_le_of_lt, lt_of_lt_of_le, mul_assoc, mul_comm, one-mul, zero-mul, pow-suc, zero-lt-suc, add-one, arith, pow_mono, shr_lt}
use Rattle.std.proofs.Math.Nat.{mul-mod_left, mod-lt, div-eq_of_lt, zero-div}
use Rattle.std.proofs.Math.Decide.{le_ind}
use Rattle.std.proofs.Math.Arith.{half_le, bin_ind, digits_div, digits_mod, lt-one}
use Rattle.std.proofs.Math.Pow.{pow_pos}
use Rattle.std.specs.Int.Bits.{xor_shr, xor_assoc, xor_self, xor_zero_r, xor_shifted}
use Rattle.std.proofs.lemmas.Nat.{xor_mod, xor_comm, xor_block, xor_lt}
use Rattle.codes.specs.Sums.{xor_cancel}
use Rattle.cyclic.specs.Polynomial.{horner_in, horner, scale, product, times_x, remainder, Multiple}

two_pos : zero < 2
two_pos = zero-lt-suc 1

-- ---- Horner's rule, one digit at a time

module _ (f : ℕ → ℕ → ℕ) where
  more : (d w : ℕ) → w ≤ d → horner_in f (suc d) w ≡ horner_in f d w
  unfolding horner_in
  more zero zero h = refl
  more zero (suc w) h = absurd (not-suc-le-zero h)
  more (suc d) zero h = refl
  more (suc d) (suc w) h = ap (λ (s : ℕ). f s (suc w % 2)) (more d (suc w / 2) (half_le h))

  pub horner_step : f zero zero ≡ zero → (w : ℕ) → horner f w ≡ f (horner f (w / 2)) (w % 2)
  unfolding horner_in horner
  horner_step h zero = sym h
  horner_step h (suc w) =
      ap (λ (s : ℕ). f s (suc w % 2))
      (le_ind (λ (m : ℕ). horner_in f m (suc w / 2) ≡ horner_in f (suc w / 2) (suc w / 2)) refl (λ m k e. more m (suc w / 2) k ∙ e) w (half_le (le_refl (suc w))))

-- ---- sums

pub xor_swap : (a b c d : ℕ) → bit_xor (bit_xor a b) (bit_xor c d) ≡ bit_xor (bit_xor a c) (bit_xor b d)
xor_swap a b c d =
    xor_assoc a b (bit_xor c d) ∙ ap (bit_xor a) (sym (xor_assoc b c d) ∙ ap (λ (x : ℕ). bit_xor x d) (xor_comm b c) ∙ xor_assoc c b d)
    ∙ sym (xor_assoc a c (bit_xor b d))

pub xor_shl : (a b k : ℕ) → bit_xor a b * 2 ^ k ≡ bit_xor (a * 2 ^ k) (b * 2 ^ k)
xor_shl a b k =
    sym (add-zero (bit_xor a b * 2 ^ k)) ∙ sym (xor_block k a b zero zero (pow_pos k) (pow_pos k))
    ∙ ap₂ bit_xor (add-zero (a * 2 ^ k)) (add-zero (b * 2 ^ k))

scale_zero : (b : ℕ) → scale b zero ≡ zero
unfolding scale
scale_zero zero = refl
scale_zero (suc b) = refl

digits_xor : (x y p : ℕ) → x < 2 → y < 2 → scale (bit_xor x y) p ≡ bit_xor (scale x p) (scale y p)
unfolding scale
digits_xor zero y p hx hy = refl
digits_xor (suc zero) zero p hx hy = sym (xor_zero_r p)
digits_xor (suc zero) (suc zero) p hx hy = sym (xor_self p)
digits_xor (suc zero) (suc (suc y)) p hx hy = absurd (not-suc-le-zero (le_of_suc-le-suc (le_of_suc-le-suc hy)))
digits_xor (suc (suc x)) y p hx hy = absurd (not-suc-le-zero (le_of_suc-le-suc (le_of_suc-le-suc hx)))

scale_xor : (x y p : ℕ) → scale (bit_xor x y % 2) p ≡ bit_xor (scale (x % 2) p) (scale (y % 2) p)
scale_xor x y p = ap (λ (b : ℕ). scale b p) (xor_mod x y 1) ∙ digits_xor (x % 2) (y % 2) p (mod-lt x two_pos) (mod-lt y two_pos)

-- a term that stands on both sides cancels
regroup : (p s c b : ℕ) → bit_xor (bit_xor p s) (bit_xor (bit_xor c s) b) ≡ bit_xor (bit_xor p c) b
regroup p s c b =
    xor_assoc p s (bit_xor (bit_xor c s) b)
    ∙ ap (bit_xor p) (ap (bit_xor s) (ap (λ (x : ℕ). bit_xor x b) (xor_comm c s) ∙ xor_assoc s c b) ∙ xor_cancel s (bit_xor c b))
    ∙ sym (xor_assoc p c b)

pub low_digit : (w : ℕ) → bit_xor (w / 2 * 2) (w % 2) ≡ w
low_digit w = xor_shifted (w / 2) 1 (w % 2) (mod-lt w two_pos) ∙ div-add-mod' w 2

module _ (r g : ℕ) where
  pub times_x_xor : (a b : ℕ) → times_x r g (bit_xor a b) ≡ bit_xor (times_x r g a) (times_x r g b)
  unfolding times_x
  times_x_xor a b =
      ap (λ (s : ℕ). bit_xor s (scale (s / 2 ^ r % 2) g)) (xor_shl a b 1)
      ∙ ap (bit_xor (bit_xor (a * 2) (b * 2))) (ap (λ (s : ℕ). scale (s % 2) g) (xor_shr (a * 2) (b * 2) r) ∙ scale_xor (a * 2 / 2 ^ r) (b * 2 / 2 ^ r) g)
      ∙ xor_swap (a * 2) (b * 2) (scale (a * 2 / 2 ^ r % 2) g) (scale (b * 2 / 2 ^ r % 2) g)

  times_x_zero : times_x r g zero ≡ zero
  unfolding times_x scale
  times_x_zero = ap (λ (q : ℕ). scale (q % 2) g) (zero-div (2 ^ r))

  pub remainder_zero : remainder r g zero ≡ zero
  unfolding remainder horner horner_in
  remainder_zero = refl

  pub remainder_step : (w : ℕ) → remainder r g w ≡ bit_xor (times_x r g (remainder r g (w / 2))) (w % 2)
  unfolding remainder
  remainder_step = horner_step (λ s b. bit_xor (times_x r g s) b) (ap (λ (s : ℕ). bit_xor s zero) times_x_zero)

  pub remainder_xor : (a b : ℕ) → remainder r g (bit_xor a b) ≡ bit_xor (remainder r g a) (remainder r g b)
  remainder_xor =
      bin_ind (λ (a : ℕ). (b : ℕ) → remainder r g (bit_xor a b) ≡ bit_xor (remainder r g a) (remainder r g b))
      (λ b. ap (λ (s : ℕ). bit_xor s (remainder r g b)) (sym remainder_zero))
      (λ a ih b. remainder_step (bit_xor a b)
      ∙ ap₂ (λ (s c : ℕ). bit_xor (times_x r g (remainder r g s)) c) (xor_shr a b 1) (xor_mod a b 1)
      ∙ ap (λ (s : ℕ). bit_xor s (bit_xor (a % 2) (b % 2))) (ap (times_x r g) (ih (b / 2)) ∙ times_x_xor (remainder r g (a / 2)) (remainder r g (b / 2)))
      ∙ xor_swap (times_x r g (remainder r g (a / 2))) (times_x r g (remainder r g (b / 2))) (a % 2) (b % 2)
      ∙ sym (ap₂ bit_xor (remainder_step a) (remainder_step b)))

  pub remainder_double : (w : ℕ) → remainder r g (w * 2) ≡ times_x r g (remainder r g w)
  remainder_double w =
      remainder_step (w * 2) ∙ ap₂ (λ (v b : ℕ). bit_xor (times_x r g (remainder r g v)) b) (mul-div_cancel w two_pos) (mul-mod_left w 2)
      ∙ xor_zero_r (times_x r g (remainder r g w))

  -- words with one remainder keep one remainder when they are shifted
  pub remainder_shift : (a b i : ℕ) → remainder r g a ≡ remainder r g b → remainder r g (a * 2 ^ i) ≡ remainder r g (b * 2 ^ i)
  remainder_shift a b zero e = ap (remainder r g) (mul-one a) ∙ e ∙ sym (ap (remainder r g) (mul-one b))
  remainder_shift a b (suc i) e = up a ∙ ap (times_x r g) (remainder_shift a b i e) ∙ sym (up b)
    where
      up : (w : ℕ) → remainder r g (w * 2 ^ suc i) ≡ times_x r g (remainder r g (w * 2 ^ i))
      up w = ap (remainder r g) (ap (λ (p : ℕ). w * p) (pow-suc 2 i) ∙ sym (mul_assoc w (2 ^ i) 2)) ∙ remainder_double (w * 2 ^ i)

  -- ---- multiples of the generator have remainder 0

  pub product_step : (q : ℕ) → product q g ≡ bit_xor (product (q / 2) g * 2) (scale (q % 2) g)
  unfolding product scale
  product_step = horner_step (λ p b. bit_xor (p * 2) (scale b g)) refl

  remainder_scale : remainder r g g ≡ zero → (b : ℕ) → remainder r g (scale b g) ≡ zero
  unfolding scale
  remainder_scale e zero = remainder_zero
  remainder_scale e (suc b) = e

  pub remainder_product : remainder r g g ≡ zero → (q : ℕ) → remainder r g (product q g) ≡ zero
  unfolding product horner horner_in
  remainder_product e =
      bin_ind (λ (q : ℕ). remainder r g (product q g) ≡ zero) remainder_zero
      (λ q ih. ap (remainder r g) (product_step q) ∙ remainder_xor (product (q / 2) g * 2) (scale (q % 2) g)
      ∙ ap₂ bit_xor (remainder_double (product (q / 2) g) ∙ ap (times_x r g) ih ∙ times_x_zero) (remainder_scale e (q % 2)))

  -- A word is the sum of a multiple of the generator and its remainder, and the multiplier has no more digits than the word.
  pub record Divided (w : ℕ) : Type 0 where
    pub quotient : ℕ
    pub whole : w ≡ bit_xor (product quotient g) (remainder r g w)
    pub bound : (d : ℕ) → w < 2 ^ d → quotient < 2 ^ d

  divide_bound : (w q : ℕ) → ((d : ℕ) → w / 2 < 2 ^ d → q < 2 ^ d) → (d : ℕ) → w < 2 ^ d → q * 2 + remainder r g (w / 2) * 2 / 2 ^ r % 2 < 2 ^ d
  divide_bound w q half zero h =
      let none : w / 2 ≡ zero = ap (λ (x : ℕ). x / 2) (lt-one h) in
      let top : remainder r g (w / 2) * 2 / 2 ^ r % 2 ≡ zero =
      ap (λ (x : ℕ). x * 2 / 2 ^ r % 2) (ap (remainder r g) none ∙ remainder_zero) ∙ ap (λ (x : ℕ). x % 2) (zero-div (2 ^ r)) in
      omega (arith, top, half zero (subst (λ (x : ℕ). x < 1) (sym none) (zero-lt-suc zero)))
  divide_bound w q half (suc d) h =
      omega (arith, pow-suc 2 d, half d (shr_lt d 1 (subst (λ (x : ℕ). w < 2 ^ x) (sym (add-one d)) h)), mod-lt (remainder r g (w / 2) * 2 / 2 ^ r) two_pos)

  divide_step : (w : ℕ) → Divided (w / 2) → Divided w
  unfolding times_x
  divide_step w half =
      let q = half.quotient in
      let c = remainder r g (w / 2) in
      let top = c * 2 / 2 ^ r % 2 in
      let small : top < 2 = mod-lt (c * 2 / 2 ^ r) two_pos in
      record {
        quotient = q * 2 + top;
        whole =
            sym (low_digit w) ∙ ap (λ (v : ℕ). bit_xor (v * 2) (w % 2)) half.whole ∙ ap (λ (v : ℕ). bit_xor v (w % 2)) (xor_shl (product q g) c 1)
            ∙ sym (regroup (product q g * 2) (scale top g) (c * 2) (w % 2))
            ∙ ap₂ bit_xor
            (sym (product_step (q * 2 + top) ∙ ap₂ (λ (x y : ℕ). bit_xor (product x g * 2) (scale y g)) (digits_div q small) (digits_mod q small)))
            (sym (remainder_step w));
        bound = divide_bound w q half.bound;
      }

  pub divide : (w : ℕ) → Divided w
  unfolding product horner horner_in
  divide = bin_ind Divided (record { quotient = zero; whole = sym remainder_zero; bound = λ d h. pow_pos d }) divide_step

  -- the multiples of the generator are the words with remainder 0
  pub multiple_remainder : remainder r g g ≡ zero → {w : ℕ} → Multiple g w → remainder r g w ≡ zero
  multiple_remainder e (q, m) = ap (remainder r g) m ∙ remainder_product e q

  pub exact : (w : ℕ) → remainder r g w ≡ zero → w ≡ product (divide w).quotient g
  exact w z = (divide w).whole ∙ ap (bit_xor (product (divide w).quotient g)) z ∙ xor_zero_r (product (divide w).quotient g)

  pub remainder_multiple : (w : ℕ) → remainder r g w ≡ zero → Multiple g w
  remainder_multiple w z = ((divide w).quotient, exact w z)

  -- ---- a generator of degree r

  module _ (degree : g / 2 ^ r ≡ 1) where
    cancels : (q : ℕ) → q < 2 → bit_xor q (scale (q % 2) g / 2 ^ r) ≡ zero
    unfolding scale
    cancels zero h = zero-div (2 ^ r)
    cancels (suc zero) h = ap (bit_xor 1) degree
    cancels (suc (suc q)) h = absurd (not-suc-le-zero (le_of_suc-le-suc (le_of_suc-le-suc h)))

    pub times_x_lt : (s : ℕ) → s < 2 ^ r → times_x r g s < 2 ^ r
    unfolding times_x
    times_x_lt s h =
        let q : s * 2 / 2 ^ r < 2 = (div-lt_iff_lt-mul (pow_pos r)).1 (subst (λ (x : ℕ). s * 2 < x) (mul_comm (2 ^ r) 2) (mul-lt-mul_of_pos_right h two_pos)) in
        let e = xor_shr (s * 2) (scale (s * 2 / 2 ^ r % 2) g) r ∙ cancels (s * 2 / 2 ^ r) q in
        subst (λ (x : ℕ). times_x r g s < x) (one-mul (2 ^ r)) ((div-lt_iff_lt-mul (pow_pos r)).0 (subst (λ (x : ℕ). x < 1) (sym e) (zero-lt-suc zero)))

    pub remainder_lt : 0 < r → (w : ℕ) → remainder r g w < 2 ^ r
    remainder_lt p =
        bin_ind (λ (w : ℕ). remainder r g w < 2 ^ r) (subst (λ (x : ℕ). x < 2 ^ r) (sym remainder_zero) (pow_pos r))
        (λ w ih. subst (λ (x : ℕ). x < 2 ^ r) (sym (remainder_step w))
        (xor_lt r (times_x r g (remainder r g (w / 2))) (w % 2) (times_x_lt (remainder r g (w / 2)) ih) (lt_of_lt_of_le (mod-lt w two_pos) (pow_mono p))))

  times_x_small : (s : ℕ) → s * 2 < 2 ^ r → times_x r g s ≡ s * 2
  unfolding times_x scale
  times_x_small s h = ap (λ (q : ℕ). bit_xor (s * 2) (scale (q % 2) g)) (div-eq_of_lt h) ∙ xor_zero_r (s * 2)

  pub remainder_small : (w : ℕ) → w < 2 ^ r → remainder r g w ≡ w
  remainder_small =
      bin_ind (λ (w : ℕ). w < 2 ^ r → remainder r g w ≡ w) (λ h. remainder_zero)
      (λ w ih h. remainder_step w
      ∙ ap (λ (s : ℕ). bit_xor (times_x r g s) (w % 2)) (ih (lt_of_le_of_lt (div-le_self w 2) h))
      ∙ ap (λ (s : ℕ). bit_xor s (w % 2)) (times_x_small (w / 2) (lt_of_le_of_lt (div-mul-le_self w 2) h)) ∙ low_digit w)

  -- ---- x^n leaves 1

  module _ (n : ℕ) (cyclic : remainder r g (2 ^ n) ≡ 1) where
    remainder_digit : (b : ℕ) → b < 2 → remainder r g (b * 2 ^ n) ≡ b
    remainder_digit zero h = ap (remainder r g) (zero-mul (2 ^ n)) ∙ remainder_zero
    remainder_digit (suc zero) h = ap (remainder r g) (one-mul (2 ^ n)) ∙ cyclic
    remainder_digit (suc (suc b)) h = absurd (not-suc-le-zero (le_of_suc-le-suc (le_of_suc-le-suc h)))

    pub remainder_cycle : (w : ℕ) → remainder r g (w * 2 ^ n) ≡ remainder r g w
    remainder_cycle =
        bin_ind (λ (w : ℕ). remainder r g (w * 2 ^ n) ≡ remainder r g w) (ap (remainder r g) (zero-mul (2 ^ n)))
        (λ w ih. ap (λ (v : ℕ). remainder r g (v * 2 ^ n)) (sym (low_digit w))
        ∙ ap (remainder r g) (xor_shl (w / 2 * 2) (w % 2) n) ∙ remainder_xor (w / 2 * 2 * 2 ^ n) (w % 2 * 2 ^ n)
        ∙ ap₂ bit_xor
        (ap (remainder r g) (mul_assoc (w / 2) 2 (2 ^ n) ∙ ap (λ (x : ℕ). w / 2 * x) (mul_comm 2 (2 ^ n)) ∙ sym (mul_assoc (w / 2) (2 ^ n) 2))
        ∙ remainder_double (w / 2 * 2 ^ n) ∙ ap (times_x r g) ih)
        (remainder_digit (w % 2) (mod-lt w two_pos))
        ∙ sym (remainder_step w))
