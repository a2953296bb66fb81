-- Where a text is cut, and that it is cut there only.
use Rattle.std.proofs.Common.{◌≡◌, ℕ, zero, suc, ◌+◌, ◌≤◌, ltb, ◌⊎◌, List, [], ◌∷◌, ◌++◌, map, length, get_or, drop, sym, refl, ap, ◌∙◌, subst, inl, inr, ⊎_elim, ◌<◌, arith}
use Rattle.std.specs.Int.Digits.{AllBelowBase, number_from_digits, digits_of}
use Rattle.std.specs.List.{AllByRecursion}
use Rattle.std.proofs.ByRecursion.{All-map, All-weaker}
use Rattle.std.proofs.lemmas.Int.Digits.{first_digits_of, length-digits_of_step}
use Rattle.std.proofs.lemmas.List.{length-map, get_or-map}
use Rattle.std.proofs.lemmas.Bool.{cases_eq, cases_lt, cond_both}
use Rattle.std.proofs.lemmas.Bool.Decides.{nat_tests}
use Rattle.lines.specs.Number.{digit, IsDigit, Writes, text_of, Plain}
use Rattle.lines.specs.Token.{space, NoSpace}
use Rattle.lines.proofs.Numbers.{writes_count, text_some, text_writes}

-- ---- the first space

-- a text with no space is not cut
pub not_cut : (text place word : List ℕ) → NoSpace text → text ≡ place ++ space ∷ word → ⊥
not_cut [] [] word none e = let z : ◌≡◌ {A = ℕ} 0 1 = cc in omega arith
not_cut [] (b ∷ place) word none e = let z : ◌≡◌ {A = ℕ} 0 1 = cc in omega arith
not_cut (a ∷ text) [] word none e = none.0 (cc)
not_cut (a ∷ text) (b ∷ place) word none e = not_cut text place word none.1 (cc)

-- two cuts at the first space are one
pub same_cut : (a b x y : List ℕ) → NoSpace a → NoSpace b → a ++ space ∷ x ≡ b ++ space ∷ y → (a ≡ b) × (x ≡ y)
same_cut [] [] x y p q e = (refl, cc)
same_cut [] (d ∷ b) x y p q e = absurd (q.0 (cc))
same_cut (c ∷ a) [] x y p q e = absurd (p.0 (cc))
same_cut (c ∷ a) (d ∷ b) x y p q e =
    let tails : a ++ space ∷ x ≡ b ++ space ∷ y = cc in
    let heads : c ≡ d = cc in
    let rest = same_cut a b x y p.1 q.1 tails in
    let fronts : a ≡ b = rest.0 in
    (cc, rest.1)

-- a cut of a text, or that there is none
pub decide_cut : (text : List ℕ) → ((place : List ℕ) × (word : List ℕ) × (text ≡ place ++ space ∷ word) × NoSpace place) ⊎ NoSpace text
decide_cut [] = inr tt
decide_cut (b ∷ text) =
    ⊎_elim (λ e. inl ([], text, ap (λ (c : ℕ). c ∷ text) e, tt))
    (λ ne. ⊎_elim (λ s. inl (b ∷ s.0, s.1, ap (λ (t : List ℕ). b ∷ t) s.2, (ne, s.3))) (λ none. inr (ne, none)) (decide_cut text)) (cases_eq b space)

-- ---- digits

digit_high : (d : ℕ) → 48 ≤ digit d
digit_high d = cond_both (ltb d 10) (48 + d) (87 + d) (λ x. 48 ≤ x) (λ _. omega arith) (λ _. omega arith)

digit_injective : (d e : ℕ) → digit d ≡ digit e → d ≡ e
digit_injective d e = grind (arith, nat_tests)

-- a digit's byte is above the space, and above every control byte
pub writes_high : {base most : ℕ} {text : List ℕ} {x : ℕ} → Writes base most text x → AllByRecursion (λ b. 48 ≤ b) text
writes_high w = subst (AllByRecursion (λ b. 48 ≤ b)) (sym w.spelled) (All-map (λ b. 48 ≤ b) digit w.digits (each w.digits))
  where
    each : (ds : List ℕ) → AllByRecursion (λ d. 48 ≤ digit d) ds
    each [] = tt
    each (d ∷ ds) = (digit_high d, each ds)

pub writes_no_space : {base most : ℕ} {text : List ℕ} {x : ℕ} → Writes base most text x → NoSpace text
writes_no_space {base} {most} {text} w = All-weaker (λ b. 48 ≤ b) (λ b. b ≡ space → ⊥) (λ b high e. omega arith) text (writes_high w)

same_digits : (ds es : List ℕ) → map digit ds ≡ map digit es → ds ≡ es
same_digits [] [] h = refl
same_digits [] (e ∷ es) h = let z : ◌≡◌ {A = ℕ} 0 1 = cc in absurd (omega arith)
same_digits (d ∷ ds) [] h = let z : ◌≡◌ {A = ℕ} 0 1 = cc in absurd (omega arith)
same_digits (d ∷ ds) (e ∷ es) h =
    let heads : digit d ≡ digit e = ap (λ (l : List ℕ). get_or l 0 0) h in
    let tails : map digit ds ≡ map digit es = ap (drop 1) h in
    ap (λ (x : ℕ). x ∷ ds) (digit_injective d e heads) ∙ ap (λ (l : List ℕ). e ∷ l) (same_digits ds es tails)

-- a text writes one number, and the text of a number that number
pub same_number : {base most : ℕ} {text : List ℕ} {x y : ℕ} → Writes base most text x → Writes base most text y → x ≡ y
same_number {base} v w = v.value ∙ ap (number_from_digits base) (same_digits v.digits w.digits (sym v.spelled ∙ w.spelled)) ∙ sym w.value

pub same_text_of : (base x y : ℕ) → 2 ≤ base → text_of base x ≡ text_of base y → x ≡ y
same_text_of base x y two e =
    let n = length (text_of base x) in
    same_number (text_writes base n x two (omega arith))
    (subst (λ (t : List ℕ). Writes base n t y) (sym e) (text_writes base n y two (omega (arith, ap length e))))

-- no number but 0 is written with `0` in front
no_zero : (base x : ℕ) (rest : List ℕ) → 2 ≤ base → 0 < x → text_of base x ≡ digit 0 ∷ rest → ⊥
no_zero base x rest two some e =
    let first : 0 < get_or (digits_of base x) 0 0 = first_digits_of base x two some in
    let inside : 0 < length (digits_of base x) = omega (arith, length-digits_of_step base x two some) in
    let text : map digit (digits_of base x) ≡ digit 0 ∷ rest = sym (text_some base x some) ∙ e in
    let heads : digit (get_or (digits_of base x) 0 0) ≡ digit 0 = sym (get_or-map digit (digits_of base x) 0 0 0 inside) ∙ ap (λ (t : List ℕ). get_or t 0 0) text in
    omega (arith, first, digit_injective (get_or (digits_of base x) 0 0) 0 heads)

pub plain : Plain
plain = record {
  writes = λ base x two. text_writes base (length (text_of base x)) x two (omega arith);
  of_zero = λ base. refl;
  no_zero = no_zero;
}

decide_digit : (base byte : ℕ) → ((d : ℕ) × IsDigit base byte d) ⊎ ((d : ℕ) → IsDigit base byte d → ⊥)
decide_digit zero byte = inr (λ d is. omega (arith, is.0))
decide_digit (suc base) byte =
    ⊎_elim (λ e. inl (base, (omega arith, e)))
    (λ ne.
    ⊎_elim (λ s. inl (s.0, (omega (arith, s.1.0), s.1.1)))
    (λ none. inr (λ d is. ⊎_elim (λ e. ne (is.1 ∙ ap digit e)) (λ other. none d (omega (arith, is.0), is.1)) (cases_eq d base))) (decide_digit base byte))
    (cases_eq byte (digit base))

abbrev Spelled : ℕ → List ℕ → List ℕ → Type 0
Spelled base text ds = AllBelowBase base ds × (text ≡ map digit ds)

decide_digits : (base : ℕ) (text : List ℕ) → ((ds : List ℕ) × Spelled base text ds) ⊎ ((ds : List ℕ) → Spelled base text ds → ⊥)
decide_digits base [] = inl ([], (tt, refl))
decide_digits base (b ∷ text) =
    ⊎_elim
    (λ first.
    ⊎_elim
    (λ more.
    let heads : b ≡ digit first.0 = first.1.1 in
    let tails : text ≡ map digit more.0 = more.1.1 in
    inl (first.0 ∷ more.0, ((first.1.0, more.1.0), cc)))
    (λ none. inr (λ ds so. elim ds as (λ l. Spelled base (b ∷ text) l → ⊥) [ [] ↦ (λ so. let e = so.1 in let z : ◌≡◌ {A = ℕ} 0 1 = cc in omega arith) | e ∷ es ↦ (λ so. none es (so.0.1, ap (drop 1) so.1)) ] so)) (decide_digits base text))
    (λ none. inr (λ ds so. elim ds as (λ l. Spelled base (b ∷ text) l → ⊥) [ [] ↦ (λ so. let e = so.1 in let z : ◌≡◌ {A = ℕ} 0 1 = cc in omega arith) | e ∷ es ↦ (λ so. none e (so.0.0, ap (λ (l : List ℕ). get_or l 0 0) so.1)) ] so))
    (decide_digit base b)

-- a text writes a number, or none
pub decide_writes : (base most : ℕ) (text : List ℕ) → ((x : ℕ) × Writes base most text x) ⊎ ((x : ℕ) → Writes base most text x → ⊥)
decide_writes base most text =
    ⊎_elim
    (λ s.
    let count : length text ≡ length s.0 = ap length s.1.1 ∙ length-map s.0 digit in
    ⊎_elim
    (λ some.
    ⊎_elim (λ long. inr (λ x w. omega (arith, writes_count w, w.few)))
    (λ few.
    inl (number_from_digits base s.0, record { digits = s.0; under = s.1.0; spelled = s.1.1; some = omega arith; few = omega arith; value = refl }))
    (cases_lt most (length text)))
    (λ empty. inr (λ x w. omega (arith, writes_count w, w.some))) (cases_lt 0 (length text)))
    (λ none. inr (λ x w. none w.digits (w.under, w.spelled))) (decide_digits base text)
