-- That no line is two headings, and that each line has one reading.
use Rattle.std.proofs.Common.{◌≡◌, ℕ, Bool, true, false, ◌⊎◌, List, ◌++◌, length, get_or, take, drop, sym, refl, ap, ◌∙◌, inl, inr, ⊎_elim, arith}
use Rattle.std.proofs.lemmas.List.{take_at, drop_at}
use Rattle.std.specs.Bool.{Decides}
use Rattle.std.specs.Str.{bytes_eq}
use Rattle.std.proofs.lemmas.Bool.Decides.{not_from_Decides}
use Rattle.std.proofs.lemmas.Slice.Eq.{bytes_eq-Decides}
use Rattle.lines.specs.declared.heading.Heading.{Heading}
use Rattle.cyclic.specs.declared.name.Name.{Name}
use Rattle.cyclic.specs.declared.name.Name.TheVariants.{G23, Q31, Q41}
use Rattle.lines.proofs.Readings.{refusal, refused, read, one_reading}
use Rattle.lines.specs.Heading.{name_text, mark_text, heading_text, NamesNone, Headings}

-- ---- no line is two headings

abbrev heading : Name → Bool → Heading
heading n p = record { name = n; parity = p }

-- the second byte tells the names apart, and the length whether there is a mark
same_name : (m n : Name) → name_text m ≡ name_text n → m ≡ n
same_name G23 G23 e = refl
same_name Q31 Q31 e = refl
same_name Q41 Q41 e = refl
same_name m n e = absurd (omega (arith, ap (λ (l : List ℕ). get_or l 1 0) e))

same_mark : (p q : Bool) → mark_text p ≡ mark_text q → p ≡ q
same_mark true true e = refl
same_mark true false e = absurd (omega (arith, ap length e))
same_mark false true e = absurd (omega (arith, ap length e))
same_mark false false e = refl

name_length : (n : Name) → length (name_text n) ≡ 3
name_length G23 = refl
name_length Q31 = refl
name_length Q41 = refl

front : (h : Heading) → take 3 (heading_text h) ≡ name_text h.name
front h = take_at (name_text h.name) (mark_text h.parity) 3 (name_length h.name)

back : (h : Heading) → drop 3 (heading_text h) ≡ mark_text h.parity
back h = drop_at (name_text h.name) (mark_text h.parity) 3 (name_length h.name)

one_heading : (line : List ℕ) (g h : Heading) → line ≡ heading_text g → line ≡ heading_text h → g ≡ h
one_heading line g h p q =
    let same : heading_text g ≡ heading_text h = sym p ∙ q in
    let names : g.name ≡ h.name = same_name g.name h.name (sym (front g) ∙ ap (take 3) same ∙ front h) in
    let marks : g.parity ≡ h.parity = same_mark g.parity h.parity (sym (back g) ∙ ap (drop 3) same ∙ back h) in
    ap (λ (n : Name). heading n g.parity) names ∙ ap (heading h.name) marks

-- ---- each line is a heading, or none

decided : {P : Type 0} (r : Bool) → Decides r P → P ⊎ (P → ⊥)
decided true d = inl (d.0 refl)
decided false d = inr (not_from_Decides false d refl)

same_text : (xs ys : List ℕ) → (xs ≡ ys) ⊎ (xs ≡ ys → ⊥)
same_text xs ys = decided (bytes_eq xs ys) (bytes_eq-Decides xs ys)

-- one of the names with a test of its own, or none
decide_name : (P : Name → Type 0) → ((n : Name) → P n ⊎ (P n → ⊥)) → ((n : Name) × P n) ⊎ ((n : Name) → P n → ⊥)
decide_name P test =
    ⊎_elim (λ p. inl (G23, p))
    (λ a. ⊎_elim (λ p. inl (Q31, p)) (λ b. ⊎_elim (λ p. inl (Q41, p)) (λ c. inr (none a b c)) (test Q41)) (test Q31)) (test G23)
  where
    none : (P G23 → ⊥) → (P Q31 → ⊥) → (P Q41 → ⊥) → (n : Name) → P n → ⊥
    none a b c G23 = a
    none a b c Q31 = b
    none a b c Q41 = c

decide : (line : List ℕ) → ((h : Heading) × (line ≡ heading_text h)) ⊎ NamesNone line
decide line =
    ⊎_elim (λ s. inl (heading s.0 true, s.1))
    (λ marked. ⊎_elim (λ s. inl (heading s.0 false, s.1)) (λ plain. inr (λ h. none marked plain h.name h.parity)) (decide_name (Is false) (test false)))
    (decide_name (Is true) (test true))
  where
    Is : Bool → Name → Type 0
    Is p n = line ≡ name_text n ++ mark_text p

    test : (p : Bool) (n : Name) → Is p n ⊎ (Is p n → ⊥)
    test p n = same_text line (name_text n ++ mark_text p)

    none : ((n : Name) → Is true n → ⊥) → ((n : Name) → Is false n → ⊥) → (n : Name) (p : Bool) → Is p n → ⊥
    none marked plain n true = marked n
    none marked plain n false = plain n

-- ---- each line has one reading

abbrev Names : List ℕ → Heading → Type 0
Names line h = line ≡ heading_text h

pub headings : Headings
headings = record {
  one_heading = one_heading;
  read = λ h r q. read (Names (heading_text h)) (one_heading (heading_text h)) r q h refl;
  refused = λ line. refused (Names line);
  only_then = λ line. refusal (Names line);
  one_outcome = λ line. one_reading (Names line) (one_heading line) (decide line);
}
