-- What each letter leaves, that no line stands for two commands, and that each line has one reading.
use Rattle.std.proofs.Common.{◌≡◌, ℕ, ◌≤◌, ◌⊎◌, List, [], ◌∷◌, ◌++◌, length, get_or, drop, sym, refl, ap, ◌∙◌, subst, inl, inr, ⊎_elim, arith}
use Rattle.std.proofs.lemmas.List.{length-append}
use Rattle.std.proofs.lemmas.Bool.{cases_eq}
use Rattle.runs.specs.declared.calls.Call.{Call}
use Rattle.runs.specs.declared.calls.Call.TheVariants.{Offer, Repeat, Clear}
use Rattle.lines.specs.Command.{command_letter, Stands, StandsForNone, Grammar}
use Rattle.lines.specs.Number.{Writes}
use Rattle.lines.specs.Token.{space, NoSpace}
use Rattle.lines.proofs.Numbers.{writes_count}
use Rattle.lines.proofs.Readings.{refusal, refused, read, one_reading}
use Rattle.lines.proofs.Tokens.{not_cut, same_cut, decide_cut, writes_no_space, same_number, decide_writes}

-- ---- the first letter

abbrev pub first : List ℕ → ℕ
first line = get_or line 0 0

-- a line that stands for a command begins with its letter
stands_letter : (line : List ℕ) (c : Call) → Stands line c → first line ≡ command_letter c
stands_letter line (Offer w) s = ap first s.1
stands_letter line (Repeat p w) s = ap first s.2
stands_letter line Clear s = ap first s

-- what is left for a tail, by the letter before it
pub offer_none : (tail : List ℕ) → ((word : List ℕ) (w : ℕ) → tail ≡ space ∷ word → Writes 16 11 word w → ⊥) → StandsForNone (87 ∷ tail)
offer_none tail none (Offer w) s = none s.0 w (ap (drop 1) s.1) s.2
offer_none tail none (Repeat p w) s = omega (arith, stands_letter (87 ∷ tail) (Repeat p w) s)
offer_none tail none Clear s = omega (arith, stands_letter (87 ∷ tail) Clear s)

pub repeat_none : (tail : List ℕ) → ((place word : List ℕ) (p w : ℕ) → tail ≡ space ∷ (place ++ space ∷ word) → Writes 10 3 place p → Writes 16 11 word w → ⊥) → StandsForNone (82 ∷ tail)
repeat_none tail none (Offer w) s = omega (arith, stands_letter (82 ∷ tail) (Offer w) s)
repeat_none tail none (Repeat p w) s = none s.0 s.1 p w (ap (drop 1) s.2) s.3 s.4
repeat_none tail none Clear s = omega (arith, stands_letter (82 ∷ tail) Clear s)

pub clear_none : (tail : List ℕ) → (tail ≡ [] → ⊥) → StandsForNone (67 ∷ tail)
clear_none tail none (Offer w) s = omega (arith, stands_letter (67 ∷ tail) (Offer w) s)
clear_none tail none (Repeat p w) s = omega (arith, stands_letter (67 ∷ tail) (Repeat p w) s)
clear_none tail none Clear s = none (ap (drop 1) s)

pub letter_none : (line : List ℕ) → (first line ≡ 87 → ⊥) → (first line ≡ 82 → ⊥) → (first line ≡ 67 → ⊥) → StandsForNone line
letter_none line w r c (Offer x) s = w (stands_letter line (Offer x) s)
letter_none line w r c (Repeat p x) s = r (stands_letter line (Repeat p x) s)
letter_none line w r c Clear s = c (stands_letter line Clear s)

-- ---- the refusals of a tail

pub offer_no_space : (tail : List ℕ) → ((rest : List ℕ) → tail ≡ space ∷ rest → ⊥) → StandsForNone (87 ∷ tail)
offer_no_space tail none = offer_none tail (λ word w e _. none word e)

pub offer_no_word : (tail rest : List ℕ) → tail ≡ space ∷ rest → ((x : ℕ) → Writes 16 11 rest x → ⊥) → StandsForNone (87 ∷ tail)
offer_no_word tail rest e none = offer_none tail (λ word w is so. none w (subst (λ (t : List ℕ). Writes 16 11 t w) (ap (drop 1) (sym is ∙ e)) so))

pub repeat_no_space : (tail : List ℕ) → ((rest : List ℕ) → tail ≡ space ∷ rest → ⊥) → StandsForNone (82 ∷ tail)
repeat_no_space tail none = repeat_none tail (λ place word p w e _ _. none (place ++ space ∷ word) e)

module _ (tail rest : List ℕ) (e : tail ≡ space ∷ rest) where
  pub repeat_not_cut : NoSpace rest → StandsForNone (82 ∷ tail)
  repeat_not_cut none = repeat_none tail (λ place word p w is _ _. not_cut rest place word none (ap (drop 1) (sym e ∙ is)))

  module _ (front back : List ℕ) (cut : rest ≡ front ++ space ∷ back) (none : NoSpace front) where
    same : (place word : List ℕ) (p : ℕ) → tail ≡ space ∷ (place ++ space ∷ word) → Writes 10 3 place p → (place ≡ front) × (word ≡ back)
    same place word p is so = same_cut place front word back (writes_no_space so) none (ap (drop 1) (sym is ∙ e) ∙ cut)

    pub repeat_no_place : ((x : ℕ) → Writes 10 3 front x → ⊥) → StandsForNone (82 ∷ tail)
    repeat_no_place bad = repeat_none tail (λ place word p w is so _. bad p (subst (λ (t : List ℕ). Writes 10 3 t p) (same place word p is so).0 so))

    pub repeat_no_word : ((x : ℕ) → Writes 16 11 back x → ⊥) → StandsForNone (82 ∷ tail)
    repeat_no_word bad = repeat_none tail (λ place word p w is so wrote. bad w (subst (λ (t : List ℕ). Writes 16 11 t w) (same place word p is so).1 wrote))

    pub repeat_stands : (p w : ℕ) → Writes 10 3 front p → Writes 16 11 back w → Stands (82 ∷ tail) (Repeat p w)
    repeat_stands p w so wrote = (front, back, ap (λ (t : List ℕ). 82 ∷ t) (e ∙ ap (λ (t : List ℕ). space ∷ t) cut), so, wrote)

-- ---- no line stands for two commands

one_command : (line : List ℕ) (c d : Call) → Stands line c → Stands line d → c ≡ d
one_command line (Offer w) (Offer x) s t =
    let words : s.0 ≡ t.0 = ap (drop 2) (sym s.1 ∙ t.1) in
    ap Offer (same_number (subst (λ (l : List ℕ). Writes 16 11 l w) words s.2) t.2)
one_command line (Repeat p w) (Repeat q x) s t =
    let cut = same_cut s.0 t.0 s.1 t.1 (writes_no_space s.3) (writes_no_space t.3) (ap (drop 2) (sym s.2 ∙ t.2)) in
    let places : p ≡ q = same_number (subst (λ (l : List ℕ). Writes 10 3 l p) cut.0 s.3) t.3 in
    let words : w ≡ x = same_number (subst (λ (l : List ℕ). Writes 16 11 l w) cut.1 s.4) t.4 in
    ap (λ (y : ℕ). Repeat y w) places ∙ ap (Repeat q) words
one_command line Clear Clear s t = refl
one_command line (Offer w) (Repeat q x) s t = absurd (omega (arith, stands_letter line (Offer w) s, stands_letter line (Repeat q x) t))
one_command line (Offer w) Clear s t = absurd (omega (arith, stands_letter line (Offer w) s, stands_letter line Clear t))
one_command line (Repeat p w) (Offer x) s t = absurd (omega (arith, stands_letter line (Repeat p w) s, stands_letter line (Offer x) t))
one_command line (Repeat p w) Clear s t = absurd (omega (arith, stands_letter line (Repeat p w) s, stands_letter line Clear t))
one_command line Clear (Offer x) s t = absurd (omega (arith, stands_letter line Clear s, stands_letter line (Offer x) t))
one_command line Clear (Repeat q x) s t = absurd (omega (arith, stands_letter line Clear s, stands_letter line (Repeat q x) t))

-- ---- each line stands for a command, or for none

abbrev Decision : List ℕ → Type 0
Decision line = ((c : Call) × Stands line c) ⊎ StandsForNone line

decide_space : (tail : List ℕ) → ((rest : List ℕ) × (tail ≡ space ∷ rest)) ⊎ ((rest : List ℕ) → tail ≡ space ∷ rest → ⊥)
decide_space [] = inr (λ rest e. let z : ◌≡◌ {A = ℕ} 0 1 = cc in omega arith)
decide_space (b ∷ tail) = ⊎_elim (λ e. inl (tail, ap (λ (x : ℕ). x ∷ tail) e)) (λ ne. inr (λ rest e. ne (cc))) (cases_eq b space)

decide_offer : (tail : List ℕ) → Decision (87 ∷ tail)
decide_offer tail =
    ⊎_elim
    (λ s.
    ⊎_elim (λ w. inl (Offer w.0, (s.0, ap (λ (t : List ℕ). 87 ∷ t) s.1, w.1))) (λ none. inr (offer_no_word tail s.0 s.1 none)) (decide_writes 16 11 s.0))
    (λ none. inr (offer_no_space tail none)) (decide_space tail)

decide_repeat : (tail : List ℕ) → Decision (82 ∷ tail)
decide_repeat tail =
    ⊎_elim
    (λ s.
    ⊎_elim
    (λ cut.
    ⊎_elim
    (λ p.
    ⊎_elim (λ w. inl (Repeat p.0 w.0, repeat_stands tail s.0 s.1 cut.0 cut.1 cut.2 cut.3 p.0 w.0 p.1 w.1))
    (λ none. inr (repeat_no_word tail s.0 s.1 cut.0 cut.1 cut.2 cut.3 none)) (decide_writes 16 11 cut.1))
    (λ none. inr (repeat_no_place tail s.0 s.1 cut.0 cut.1 cut.2 cut.3 none)) (decide_writes 10 3 cut.0))
    (λ none. inr (repeat_not_cut tail s.0 s.1 none)) (decide_cut s.0))
    (λ none. inr (repeat_no_space tail none)) (decide_space tail)

decide_clear : (tail : List ℕ) → Decision (67 ∷ tail)
decide_clear [] = inl (Clear, refl)
decide_clear (b ∷ tail) = inr (clear_none (b ∷ tail) (λ e. let z : ◌≡◌ {A = ℕ} 0 1 = cc in omega arith))

decide : (line : List ℕ) → Decision line
decide [] = inr (letter_none [] (λ e. omega arith) (λ e. omega arith) (λ e. omega arith))
decide (b ∷ tail) =
    ⊎_elim (λ e. subst (λ (x : ℕ). Decision (x ∷ tail)) (sym e) (decide_offer tail))
    (λ w.
    ⊎_elim (λ e. subst (λ (x : ℕ). Decision (x ∷ tail)) (sym e) (decide_repeat tail))
    (λ r.
    ⊎_elim (λ e. subst (λ (x : ℕ). Decision (x ∷ tail)) (sym e) (decide_clear tail)) (λ c. inr (letter_none (b ∷ tail) w r c)) (cases_eq b 67)) (cases_eq b 82))
    (cases_eq b 87)

-- ---- each line has one reading

pub grammar : Grammar
grammar = record {
  one_command = one_command;
  read = λ line. read (Stands line) (one_command line);
  refused = λ line. refused (Stands line);
  only_then = λ line. refusal (Stands line);
  one_outcome = λ line. one_reading (Stands line) (one_command line) (decide line);
}

-- ---- how long a command is

writes_short : {base most : ℕ} {text : List ℕ} {x : ℕ} → Writes base most text x → length text ≤ most
writes_short w = omega (arith, writes_count w, w.few)

-- a letter, a space, a place, a space and a word
pub command_length : (line : List ℕ) (c : Call) → Stands line c → length line ≤ 17
command_length line (Offer w) s = omega (arith, ap length s.1, writes_short s.2)
command_length line (Repeat p w) s = omega (arith, ap length s.2, length-append s.0 (space ∷ s.1), writes_short s.3, writes_short s.4)
command_length line Clear s = omega (arith, ap length s)
