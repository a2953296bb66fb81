-- What digits write, and the digits of a number.
use Rattle.std.proofs.Common.{◌≡◌, ℕ, ◌+◌, ◌*◌, ◌/◌, ◌%◌, ◌^◌, ◌<◌, ◌≤◌, eqb, List, [], ◌∷◌, ◌++◌, map, length, get_or, take, sym, refl, ap, ◌∙◌, subst, ⊎_elim, mod-eq_of_lt, arith}
use native.Mathlib.Nat.{pow-le-pow_left, pow-le-pow_right, div-eq_of_lt, div-lt_self}
use Rattle.std.specs.Int.Digits.{number_from_digits, digits_of, AllBelowBase}
use Rattle.std.proofs.lemmas.Int.Digits.{number_digits_of, all_below_base_digits_of, number_push, number_lt, digits_of_step, length-digits_of-le}
use Rattle.std.proofs.lemmas.Nat.{le-div}
use Rattle.std.proofs.ByRecursion.{All-get_or, All-push}
use Rattle.std.proofs.lemmas.List.{append_assoc, length-append, length-map, map_push, get_or-map, take_more}
use Rattle.std.proofs.lemmas.Bool.Decides.{nat_tests}
use Rattle.std.proofs.lemmas.Bool.{cases_eq, cond-true, cond-false, eq-eqb, ne_eqb}
use Rattle.lines.specs.Number.{digit, IsDigit, Writes, text_of}
use Rattle.lines.specs.Reply.{field}

-- ---- reading

-- the digits of the front of a text, and their number
pub record Begun (base : ℕ) (front : List ℕ) (x : ℕ) : Type 0 where
  pub digits : List ℕ
  pub under : AllBelowBase base digits
  pub spelled : front ≡ map digit digits
  pub value : x ≡ number_from_digits base digits

module _ {base : ℕ} {front : List ℕ} {x : ℕ} (so : Begun base front x) where
  begun_count : length so.digits ≡ length front
  begun_count = sym (ap length so.spelled ∙ length-map so.digits digit)

  begun_push : (byte d : ℕ) → IsDigit base byte d → Begun base (front ++ byte ∷ []) (x * base + d)
  begun_push byte d is = record {
    digits = so.digits ++ d ∷ [];
    under = All-push (λ e. e < base) so.digits d so.under is.0;
    spelled = ap (λ (l : List ℕ). l ++ byte ∷ []) so.spelled ∙ ap (λ (b : ℕ). map digit so.digits ++ b ∷ []) is.1 ∙ sym (map_push digit so.digits d);
    value = ap (λ (n : ℕ). n * base + d) so.value ∙ sym (number_push base so.digits d);
  }

  -- eleven digits of at most four bits
  pub begun_below : (byte d : ℕ) → IsDigit base byte d → base ≤ 16 → length front < 11 → x * base + d < 2 ^ 44
  unfolding begun_push
  begun_below byte d is small few =
      let more = begun_push byte d is in
      let k = length more.digits in
      let long : k ≡ length front + 1 = length-append so.digits (d ∷ []) ∙ ap (λ (n : ℕ). n + 1) begun_count in
      let le : k ≤ 11 = omega arith in
      let pos : 0 < 16 = omega arith in
      omega (arith, more.value, number_lt base more.digits more.under, pow-le-pow_left small k, pow-le-pow_right pos le)

  pub begun_product : 0 < base → base ≤ 16 → length front < 11 → x * base < 2 ^ 44
  begun_product some small few = omega (arith, begun_below (digit 0) 0 (some, refl) small few)

pub begun_more : {base : ℕ} {x : ℕ} (text : List ℕ) (i : ℕ) → Begun base (take i text) x → (d : ℕ) → i < length text → IsDigit base (get_or text i 0) d → Begun base (take (i + 1) text) (x * base + d)
begun_more {base} {x} text i so d l is = subst (λ (f : List ℕ). Begun base f (x * base + d)) (sym (take_more text i 0 l)) (begun_push so (get_or text i 0) d is)

module _ {base most : ℕ} {text : List ℕ} {x : ℕ} (w : Writes base most text x) where
  pub writes_count : length text ≡ length w.digits
  writes_count = ap length w.spelled ∙ length-map w.digits digit

  pub writes_digit : (i : ℕ) → i < length text → IsDigit base (get_or text i 0) (get_or w.digits i 0)
  writes_digit i l =
      let l' : i < length w.digits = omega (arith, writes_count) in (
        All-get_or (λ e. e < base) w.digits i 0 l' w.under,
        ap (λ (t : List ℕ). get_or t i 0) w.spelled ∙ get_or-map digit w.digits i 0 0 l',
      )

-- ---- writing

pub text_some : (b x : ℕ) → 0 < x → text_of b x ≡ map digit (digits_of b x)
text_some b x h = cond-false (eqb x 0) _ _ (ne_eqb x 0 (λ e. omega arith))

-- the text of a number writes it
pub text_writes : (b most x : ℕ) → 2 ≤ b → length (text_of b x) ≤ most → Writes b most (text_of b x) x
text_writes b most x two few =
    ⊎_elim
    (λ e.
    let zero_text : text_of b x ≡ digit 0 ∷ [] = cond-true (eqb x 0) _ _ (eq-eqb x 0 e) in
    record { digits = 0 ∷ []; under = (omega arith, tt); spelled = zero_text; some = omega arith; few = omega (arith, ap length zero_text); value = omega arith })
    (λ ne.
    let h : 0 < x = omega arith in
    let spelled = text_some b x h in
    let count : length (text_of b x) ≡ length (digits_of b x) = ap length spelled ∙ length-map (digits_of b x) digit in
    let first = ap length (digits_of_step b x two h) ∙ length-append (digits_of b (x / b)) (x % b ∷ []) in
    record { digits = digits_of b x; under = all_below_base_digits_of b x two; spelled = spelled; some = omega (arith, first); few = omega arith; value = sym (number_digits_of b x two) })
    (cases_eq x 0)

-- a number with one digit
pub text_one : (b x : ℕ) → 2 ≤ b → x < b → text_of b x ≡ digit (x % b) ∷ []
text_one b x two low =
    let same : x % b ≡ x = mod-eq_of_lt low in
    ⊎_elim
    (λ e. cond-true (eqb x 0) _ _ (eq-eqb x 0 e) ∙ ap (λ (d : ℕ). digit d ∷ []) (sym (same ∙ e)))
    (λ ne.
    let h : 0 < x = omega arith in
    text_some b x h ∙ ap (map digit) (digits_of_step b x two h ∙ ap (λ (n : ℕ). digits_of b n ++ x % b ∷ []) (div-eq_of_lt low)))
    (cases_eq x 0)

-- a number with more: the digits above the last, and then that
pub text_more : (b x : ℕ) → 2 ≤ b → b ≤ x → text_of b x ≡ text_of b (x / b) ++ digit (x % b) ∷ []
text_more b x two high =
    let h : 0 < x = omega arith in
    let above : 0 < x / b = le-div 1 x b (omega arith) (omega arith) in
    text_some b x h ∙ ap (map digit) (digits_of_step b x two h) ∙ map_push digit (digits_of b (x / b)) (x % b)
    ∙ ap (λ (t : List ℕ). t ++ digit (x % b) ∷ []) (sym (text_some b (x / b) above))

pub count_more : (b x : ℕ) → 2 ≤ b → b ≤ x → length (text_of b x) ≡ length (text_of b (x / b)) + 1
count_more b x two high = ap length (text_more b x two high) ∙ length-append (text_of b (x / b)) (digit (x % b) ∷ [])

-- a number below b ^ k has at most k digits
pub count_most : (b k x : ℕ) → 2 ≤ b → 0 < k → x < b ^ k → length (text_of b x) ≤ k
count_most b k x two some low =
    ⊎_elim (λ e. omega (arith, ap length (cond-true (eqb x 0) (digit 0 ∷ []) (map digit (digits_of b x)) (eq-eqb x 0 e))))
    (λ ne. omega (arith, ap length (text_some b x (omega arith)), length-map (digits_of b x) digit, length-digits_of-le b k x two low)) (cases_eq x 0)

pub above_less : (b x : ℕ) → 2 ≤ b → b ≤ x → x / b < x
above_less b x two high = div-lt_self (omega arith) (omega arith)

-- a line with a number behind a space is longer by 20 or 16 digits at most, and the space
pub behind_decimal : (line : List ℕ) (x : ℕ) → x < 2 ^ 64 → length (line ++ field 10 x) ≤ length line + 21
behind_decimal line x low = omega (arith, length-append line (field 10 x), count_most 10 20 x (omega arith) (omega arith) (omega arith))

pub behind_hexadecimal : (line : List ℕ) (x : ℕ) → x < 2 ^ 64 → length (line ++ field 16 x) ≤ length line + 17
behind_hexadecimal line x low = omega (arith, length-append line (field 16 x), count_most 16 16 x (omega arith) (omega arith) (omega arith))

pub digit_ascii : (d : ℕ) → d < 16 → digit d < 128
digit_ascii d low = grind (arith, nat_tests)

-- a text ends in the digits of a number once its last one is behind those above, or behind none
module _ (b x : ℕ) (two : 2 ≤ b) (front before : List ℕ) where
  pub last_behind : b ≤ x → before ≡ front ++ text_of b (x / b) → before ++ digit (x % b) ∷ [] ≡ front ++ text_of b x
  last_behind high e =
      ap (λ (t : List ℕ). t ++ digit (x % b) ∷ []) e ∙ append_assoc front (text_of b (x / b)) (digit (x % b) ∷ []) ∙ ap (λ (t : List ℕ). front ++ t) (sym (text_more b x two high))

  pub last_alone : x < b → before ≡ front → before ++ digit (x % b) ∷ [] ≡ front ++ text_of b x
  last_alone low e = ap (λ (t : List ℕ). t ++ digit (x % b) ∷ []) e ∙ ap (λ (t : List ℕ). front ++ t) (sym (text_one b x two low))
