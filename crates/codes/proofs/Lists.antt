-- A list of slots becomes one list.
use Rattle.std.proofs.Common.{◌≡◌, ℕ, zero, suc, ◌<◌, List, [], ◌∷◌, length, get_or, refl, ap, arith}
use Rattle.codes.specs.declared.slots.Slot.{Slot}
use Rattle.codes.specs.Meaning.{Meaning, Lawful, One}
use Rattle.codes.specs.Slots.{answered, Filled, Listed, OneList}
use Rattle.codes.proofs.Answering.{one_answer}

module _ {m : Meaning} (law : Lawful m) where
  one_filled : (s : Slot) → One (Filled m s)
  one_filled s =
      let one = one_answer.correct m law s.word in (
        answered s.word one.0,
        (one.0, one.1, refl),
        λ s' p. cc (one.2 p.0 p.1),
      )

  pub one_list : (before : List Slot) → One (Listed m before)
  one_list [] = ([], record { count = refl; each = λ p d h. absurd (omega arith) }, only)
    where
      only : (after : List Slot) → Listed m [] after → after ≡ []
      only [] p = refl
      only (x ∷ xs) p = absurd (omega (arith, p.count))
  one_list (s ∷ ss) =
      let head = one_filled s in
      let rest = one_list ss in (
        head.0 ∷ rest.0,
        record { count = ap suc rest.1.count; each = each head.1 rest.1 },
        only head rest,
      )
    where
      each : {h : Slot} {r : List Slot} → Filled m s h → Listed m ss r → (p : ℕ) (d : Slot) → p < length (s ∷ ss) → Filled m (get_or (s ∷ ss) p d) (get_or (h ∷ r) p d)
      each f l zero d h = f
      each f l (suc p) d h = l.each p d (omega arith)

      only : (head : One (Filled m s)) (rest : One (Listed m ss)) (after : List Slot) → Listed m (s ∷ ss) after → after ≡ head.0 ∷ rest.0
      only head rest [] p = absurd (omega (arith, p.count))
      only head rest (x ∷ xs) p =
          cc (
            head.2 x (p.each zero s (omega arith)),
            rest.2 xs (record { count = omega (arith, p.count); each = λ q d h. p.each (suc q) d (omega arith) }),
          )

pub one_lists : OneList
one_lists m law before = one_list law before
