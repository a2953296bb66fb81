-- What the search has passed over, and that nothing else is left.
use Rattle.std.proofs.Common.{◌≡◌, ℕ, zero, suc, ◌+◌, ◌-◌, ◌*◌, ◌/◌, ◌%◌, ◌^◌, ◌<◌, ◌≤◌, ◌⊎◌, List, get_or, Some, None, Option, sym, refl, ap, ◌∙◌, subst, ap₂, inl, inr, le_trans, le_refl, lt_of_lt_of_le, eq-zero-or-pos, zero-mul, arith, pow_mono, pow-add, shr_lt, MatchOption, IsSomeAnd, length, take, drop}
use Rattle.std.proofs.lemmas.List.{length-take, get_or-take, get_or-drop}
use lib.Pow.{pow-lt}
use lib.Bits.{bit_xor, xor_lt, xor_assoc, xor_self, xor_comm, xor_zero_r}
use lib.Count.{ones}
use Rattle.cyclic.specs.Generator.{Numbers, parity_bits, syndrome}
use Rattle.cyclic.specs.Search.{Pattern, MessageTable, row_of, Singles, Pairs}
use Rattle.cyclic.specs.Linear.{remainder_zero, remainder_small, remainder_xor, xor_shl}
use Rattle.codes.specs.Sums.{xor_cancel}
use Rattle.codes.proofs.Distance.{ones_xor_le}
use Rattle.cyclic.specs.Weight.{ones_pow, ones_none, one_bit, two_bits}
use Rattle.cyclic.specs.Rotation.{ones_parts}
use Rattle.cyclic.specs.Span.{Heavy}
use Rattle.cyclic.specs.Distance.{remainder_parts}
use Rattle.cyclic.specs.Facts.{Holds}
use Rattle.cyclic.specs.Turns.{syndrome_lt}

module _ (c : Numbers) (f : Holds c) where
  -- ---- what is found

  -- a syndrome is a pattern of parity-bits bits
  pub parity_only : (s : ℕ) → s < 2 ^ parity_bits c → Pattern c (ones s) s s
  parity_only s h =
      record { below = lt_of_lt_of_le h (pow_mono (omega arith)); remainder = remainder_small (parity_bits c) c.generator s h; light = le_refl (ones s) }

  -- one flip more
  pub flip : (u s e i : ℕ) → i < c.n → Pattern c u (bit_xor s (row_of c i)) e → Pattern c (u + 1) s (bit_xor e (2 ^ i))
  flip u s e i h p = record {
    below = xor_lt c.n e (2 ^ i) p.below (pow-lt h);
    remainder =
        remainder_xor (parity_bits c) c.generator e (2 ^ i) ∙ ap (λ (x : ℕ). bit_xor x (row_of c i)) p.remainder
        ∙ xor_assoc s (row_of c i) (row_of c i) ∙ ap (bit_xor s) (xor_self (row_of c i)) ∙ xor_zero_r s;
    light = omega (arith, ones_xor_le e (2 ^ i), ones_pow i, p.light);
  }

  pub within : (u s e : ℕ) → Pattern c u s e → u ≤ c.t → Pattern c c.t s e
  within u s e p h = record { below = p.below; remainder = p.remainder; light = le_trans p.light h }

  -- ---- what is passed over

  -- A syndrome that is too heavy, and stays so with one or two message bits, has no pattern with at most two flips in message bits.
  pub few_none : (s : ℕ) → c.t < ones s → Heavy (parity_bits c) c.generator c.k 2 (suc c.t) (parity_bits c) s
      → (e : ℕ) → Pattern c c.t s e → ones (e / 2 ^ parity_bits c) ≤ 2 → ⊥
  few_none s none heavy e p few = by_message (eq-zero-or-pos message)
    where
      r : ℕ
      r = parity_bits c

      message : ℕ
      message = e / 2 ^ r

      part : ℕ
      part = syndrome c (message * 2 ^ r)

      -- the parity-bits part of the pattern is what is left of the syndrome
      left_over : e % 2 ^ r ≡ bit_xor s part
      left_over =
          sym (xor_cancel part (e % 2 ^ r)) ∙ ap (bit_xor part) (sym (remainder_parts r c.generator e) ∙ p.remainder) ∙ xor_comm part s

      light : ones message + ones (bit_xor s part) ≤ c.t
      light = omega (arith, p.light, ones_parts e r, ap ones left_over)

      by_message : (message ≡ zero) ⊎ (zero < message) → ⊥
      by_message (inl z) =
          let none_part : part ≡ zero = ap (λ (x : ℕ). syndrome c (x * 2 ^ r)) z ∙ ap (syndrome c) (zero-mul (2 ^ r)) ∙ remainder_zero r c.generator in
          omega (arith, light, ap ones (ap (bit_xor s) none_part ∙ xor_zero_r s))
      by_message (inr q) = omega (arith, light, heavy message (shr_lt c.k r (subst (λ (x : ℕ). e < 2 ^ x) f.parts p.below)) q few)

  pub passed_heavy : (s : ℕ) → Singles c s c.n → Pairs c s c.n → Heavy (parity_bits c) c.generator c.k 2 (suc c.t) (parity_bits c) s
  passed_heavy s singles pairs m short pos few = by_count (ones m) refl few
    where
      r : ℕ
      r = parity_bits c

      moved : (a : ℕ) → 2 ^ a * 2 ^ r ≡ 2 ^ (a + r)
      moved a = sym (pow-add 2 a r)

      by_count : (v : ℕ) → ones m ≡ v → v ≤ 2 → suc c.t ≤ ones m + ones (bit_xor s (syndrome c (m * 2 ^ r)))
      by_count zero v h = absurd (omega (arith, ones_none m v))
      by_count (suc zero) v h =
          let b = one_bit c.k m short v in
          let is : syndrome c (m * 2 ^ r) ≡ row_of c (b.0 + r) = ap (syndrome c) (ap (λ (x : ℕ). x * 2 ^ r) b.2 ∙ moved b.0) in
          omega (arith, ap (λ (x : ℕ). ones (bit_xor s x)) is, singles (b.0 + r) (omega arith) (omega arith))
      by_count (suc (suc zero)) v h =
          let b = two_bits c.k m short v in
          let is : bit_xor s (syndrome c (m * 2 ^ r)) ≡ bit_xor (bit_xor s (row_of c (b.0 + r))) (row_of c (b.1 + r)) =
          ap (bit_xor s)
          (ap (syndrome c) (ap (λ (x : ℕ). x * 2 ^ r) b.4 ∙ xor_shl (2 ^ b.0) (2 ^ b.1) r ∙ ap₂ bit_xor (moved b.0) (moved b.1))
          ∙ remainder_xor r c.generator (2 ^ (b.0 + r)) (2 ^ (b.1 + r)))
          ∙ sym (xor_assoc s (row_of c (b.0 + r)) (row_of c (b.1 + r))) in
          omega (arith, ap ones is, pairs (b.0 + r) (omega arith) (omega arith) (b.1 + r) (omega arith) (omega arith))
      by_count (suc (suc (suc w))) v h = absurd (omega arith)

-- ---- answers of a search

-- where nothing is found, more may be known of that
pub none_weaker : {A B : Type 0} (P : ℕ → Type 0) (r : Option ℕ) → (A → B) → MatchOption r A P → MatchOption r B P
none_weaker P None none a = none a
none_weaker P (Some e) none p = p

-- what is found is made into something else
pub mapped : {X A B : Type 0} (P : ℕ → Type 0) (Q : X → Type 0) (R : ℕ → X → Type 0) (o : Option ℕ) (r : Option X)
    → (A → B) → ((e : ℕ) (x : X) → P e → R e x → Q x) → MatchOption o A P → MatchOption o (r ≡ None) (λ e. IsSomeAnd r (R e)) → MatchOption r B Q
mapped {X} {A} {B} P Q R None r none some a is = subst (λ (q : Option X). MatchOption q B Q) (sym is) (none a)
mapped P Q R (Some e) (Some x) none some p made = some e x p made
mapped P Q R (Some e) None none some p made = absurd made

-- ---- the same over the rows of the message bits

abbrev pub entry : List ℕ → ℕ → ℕ
entry xs i = get_or xs i 0

-- a row of the slice from m on
pub entry_after : (xs : List ℕ) (m n j : ℕ) → j < length (take n (drop m xs)) → entry (take n (drop m xs)) j ≡ entry xs (m + j)
entry_after xs m n j h =
    let below : j < n = omega (arith, length-take n (drop m xs)) in
    get_or-take n (drop m xs) j 0 below ∙ get_or-drop m xs j 0

module _ (c : Numbers) (f : Holds c) (xs : List ℕ) (table : MessageTable c xs) where
  pub difference_lt : (s i : ℕ) → s < 2 ^ parity_bits c → i < c.k → bit_xor s (entry xs i) < 2 ^ parity_bits c
  difference_lt s i hs h =
      subst (λ (x : ℕ). bit_xor s x < 2 ^ parity_bits c) (sym (table.at i h))
      (xor_lt (parity_bits c) s (row_of c (parity_bits c + i)) hs (syndrome_lt c f (2 ^ (parity_bits c + i))))

  pub flip_entry : (u s e i x : ℕ) → i < c.k → x ≡ 2 ^ (parity_bits c + i) → Pattern c u (bit_xor s (entry xs i)) e
      → Pattern c (u + 1) s (bit_xor e x)
  flip_entry u s e i x h is p =
      subst (λ (y : ℕ). Pattern c (u + 1) s (bit_xor e y)) (sym is)
      (flip c f u s e (parity_bits c + i) (omega (arith, f.parts)) (subst (λ (y : ℕ). Pattern c u (bit_xor s y) e) (table.at i h) p))

  pub one_flip : (s i x : ℕ) → s < 2 ^ parity_bits c → i < c.k → x ≡ 2 ^ (parity_bits c + i) → ones (bit_xor s (entry xs i)) < c.t
      → Pattern c c.t s (bit_xor (bit_xor s (entry xs i)) x)
  one_flip s i x hs h is lt =
      let d = bit_xor s (entry xs i) in
      within c f (ones d + 1) s (bit_xor d x) (flip_entry (ones d) s d i x h is (parity_only c f d (difference_lt s i hs h))) (omega arith)

  pub two_flips : (s i j x y z : ℕ) → s < 2 ^ parity_bits c → i < c.k → j < c.k → x ≡ 2 ^ (parity_bits c + i) → y ≡ 2 ^ (parity_bits c + j) → z ≡ entry xs j
      → ones (bit_xor (bit_xor s (entry xs i)) z) + 2 ≤ c.t
      → Pattern c c.t s (bit_xor (bit_xor (bit_xor (bit_xor s (entry xs i)) z) y) x)
  two_flips s i j x y z hs hi hj isx isy isz le =
      let one = bit_xor s (entry xs i) in
      let two = bit_xor one z in
      let e = bit_xor two y in
      let small : two < 2 ^ parity_bits c = subst (λ (w : ℕ). bit_xor one w < 2 ^ parity_bits c) (sym isz) (difference_lt one j (difference_lt s i hs hi) hj) in
      let parity : Pattern c (ones two) (bit_xor one (entry xs j)) two =
      subst (λ (w : ℕ). Pattern c (ones two) (bit_xor one w) two) isz (parity_only c f two small) in
      within c f (ones two + 1 + 1) s (bit_xor e x)
      (flip_entry (ones two + 1) s e i x hi isx (flip_entry (ones two) one two j y hj isy parity))
      (omega arith)

  -- where each row leaves too many, no single message bit will do
  pub all_heavy : (s : ℕ) → ((i : ℕ) → i < c.k → c.t ≤ ones (bit_xor s (entry xs i))) → Singles c s c.n
  all_heavy s heavy a from to =
      let i = a - parity_bits c in
      let within : i < c.k = omega (arith, f.parts) in
      let is : parity_bits c + i ≡ a = omega arith in
      subst (λ (x : ℕ). c.t < ones (bit_xor s (row_of c x)) + 1) is (omega (arith, heavy i within, ap (λ (x : ℕ). ones (bit_xor s x)) (table.at i within)))
