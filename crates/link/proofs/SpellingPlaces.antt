-- Spelling the places of a report, from spelling their messages.
use Rattle.std.proofs.Common.{◌≡◌, ℕ, suc, ◌<◌, ◌⊎◌, List, [], ◌∷◌, ◌++◌, map, length, drop, Ok, Err, Result, sym, refl, ap, ◌∙◌, subst, inl, inr, ⊎_elim, suc-le-suc, zero-lt-suc, arith}
use Rattle.codes.specs.declared.fault.Cause.TheVariants.{GapInReport}
use Rattle.codes.specs.declared.fault.Fault.{Fault}
use Rattle.codes.specs.Interface.{in_service}
use Rattle.codes.specs.Meaning.{Meaning, Lawful, One}
use Rattle.codes.proofs.Answering.{service_decided}
use Rattle.codes.proofs.Faults.{Decided, one_transition}
use Rattle.tables.proofs.Sending.{bits_decided}
use Rattle.tables.proofs.OneSpelling.{one_spelling}
use Rattle.tables.specs.Sender.{has_bits}
use Rattle.tables.specs.Speller.{TableOf, Spelled}
use Rattle.link.specs.declared.report.Place.{Place}
use Rattle.link.specs.declared.report.Place.TheVariants.{Settled, Gap}
use Rattle.link.specs.Sealed.{first_gap, no_gap, Holds, holds_table, has_room_for, Spells, OneSpell}

pub settled_same : (xs bs : List ℕ) → map Settled xs ≡ map Settled bs → xs ≡ bs
settled_same [] [] e = refl
settled_same [] (b ∷ bs) e = cc
settled_same (a ∷ xs) [] e = cc
settled_same (a ∷ xs) (b ∷ bs) e =
    let head : a ≡ b = cc in
    let tail : map Settled xs ≡ map Settled bs = cc in
    ap (λ (x : ℕ). x ∷ xs) head ∙ ap (λ (xs : List ℕ). b ∷ xs) (settled_same xs bs tail)

pub settled_no_gap : (xs : List ℕ) → first_gap (map Settled xs) ≡ length (map Settled xs)
settled_no_gap [] = refl
settled_no_gap (a ∷ xs) = ap suc (settled_no_gap xs)

-- ---- from messages to places

module _ (m : Meaning) (ps : List Place) (xs : List ℕ) (is : ps ≡ map Settled xs) (buffer : List ℕ) where
  same_messages : (T : List ℕ) → Holds m.k ps T → TableOf m.k xs T
  same_messages T h = subst (λ (bs : List ℕ). TableOf m.k bs T) (settled_same h.0 xs (sym h.1 ∙ is)) h.2

  no_gap_here : first_gap ps ≡ length ps
  no_gap_here = subst (λ (qs : List Place). first_gap qs ≡ length qs) (sym is) (settled_no_gap xs)

  pub spelled_places : (r : Result ℕ Fault) (after : List ℕ) → Spelled m xs buffer r after → Spells m ps buffer r after
  spelled_places (Ok c) after h =
      let t = h.0.1.1.0 in (
        (h.0.0, (h.0.1.0, (no_gap_here, ((t.0, (xs, is, t.1)), (λ T holds. h.0.1.1.1.0 T (same_messages T holds), tt))))),
        (h.1.0, (xs, is, h.1.1), h.1.2, h.1.3),
      )
  spelled_places (Err f) after h = (
    ⊎_elim inl
        (λ x. inr (
          x.0,
          ⊎_elim inl
              (λ y. inr (
                y.0,
                inr (
                  no_gap_here,
                  ⊎_elim (λ z. inl (λ T holds. z.0 T (same_messages T holds), z.1))
                      (λ z. inr ((z.0.0, (xs, is, z.0.1)), ⊎_elim (λ u. inl ((u.0.0, (xs, is, u.0.1), u.0.2), u.1)) (λ u. absurd u.1) z.1)) y.1,
                ),
              )) x.1,
        )) h.0,
    h.1,
  )

  -- and back
  places_spelled : (r : Result ℕ Fault) (after : List ℕ) → Spells m ps buffer r after → Spelled m xs buffer r after
  places_spelled (Ok c) after h =
      let t = h.0.1.1.1.0 in (
        (h.0.0, (h.0.1.0, ((t.0, same_messages t.0 t.1), (λ T table. h.0.1.1.1.1.0 T (xs, is, table), tt)))),
        (h.1.0, same_messages h.1.0 h.1.1, h.1.2, h.1.3),
      )
  places_spelled (Err f) after h = (
    ⊎_elim inl
        (λ x. inr (
          x.0,
          ⊎_elim inl
              (λ y. inr (
                y.0,
                ⊎_elim (λ g. absurd (omega (arith, g.0, no_gap_here)))
                    (λ g. ⊎_elim (λ z. inl (λ T table. z.0 T (xs, is, table), z.1))
                    (λ z. inr ((z.0.0, same_messages z.0.0 z.0.1), ⊎_elim (λ u. inl ((u.0.0, same_messages u.0.0 u.0.1, u.0.2), u.1)) (λ u. absurd u.1) z.1)) g.1) y.1,
              )) x.1,
        )) h.0,
    h.1,
  )

  one_if_settled : Lawful m → One {A = Result ℕ Fault × List ℕ} (λ x. Spells m ps buffer x.0 x.1)
  one_if_settled law =
      let one = one_spelling m law xs buffer in
      (one.0, spelled_places one.0.0 one.0.1 one.1, λ x h. one.2 x (places_spelled x.0 x.1 h))

-- every place is settled, or there is a gap
settled_or_gap : (ps : List Place) → ((xs : List ℕ) × (ps ≡ map Settled xs)) ⊎ (first_gap ps < length ps)
settled_or_gap [] = inl ([], refl)
settled_or_gap (Gap ∷ ps) = inr (zero-lt-suc (length ps))
settled_or_gap (Settled a ∷ ps) =
    ⊎_elim (λ h. inl (a ∷ h.0, ap (λ (qs : List Place). Settled a ∷ qs) h.1)) (λ h. inr (suc-le-suc h)) (settled_or_gap ps)

pub one_spell : OneSpell
one_spell m law ps buffer =
    ⊎_elim (λ h. one_if_settled m ps h.0 h.1 buffer law)
    (λ gap.
    let no_gap_decided : Decided (no_gap ps) = record { named = (GapInReport, refl); either = inr gap; not_both = λ a b. omega arith } in
    one_transition buffer (λ c after. (T : List ℕ) × Holds m.k ps T × (c ≡ length T) × (after ≡ T ++ drop (length T) buffer))
    (in_service m 0 ∷ has_bits m ∷ no_gap ps ∷ holds_table m.k ps ∷ has_room_for m.k ps buffer ∷ [])
    (service_decided law 0, λ _. (bits_decided m, λ _. (no_gap_decided, λ none. absurd (omega arith)))) (λ p. absurd (omega (arith, p.1.1.0))))
    (settled_or_gap ps)
