-- The calls of a receiver leave one answer, and one list of places after it.
use Rattle.std.proofs.Common.{◌≡◌, ℕ, ◌⊎◌, List, [], ◌∷◌, ◌++◌, length, set, Some, None, Option, refl, ap, ◌∙◌, inl, inr, ⊎_elim, arith}
use lib.Bits.{bit_xor}
use Rattle.std.specs.List.{slice_get}
use Rattle.std.proofs.lemmas.Bool.{cases_lt}
use Rattle.codes.specs.declared.fault.Cause.TheVariants.{ReportFull, NotAGap}
use Rattle.codes.specs.Interface.{in_service, word_fits}
use Rattle.codes.specs.Meaning.{Meaning, Lawful, One, Within, Beyond, message}
use Rattle.codes.proofs.Answering.{service_decided, word_decided}
use Rattle.codes.proofs.Faults.{Decided, one_transition}
use Rattle.codes.proofs.Reach.{one_within, within_beyond, within_or_beyond}
use Rattle.link.specs.declared.receiver.Answer.{Answer}
use Rattle.link.specs.declared.receiver.Answer.TheVariants.{Settled as settled_at, Gap as gap_at}
use Rattle.link.specs.declared.report.Place.{Place}
use Rattle.link.specs.declared.report.Place.TheVariants.{Settled, Gap}
use Rattle.link.specs.Receiver.{has_room, is_gap, Answers, place_by, OneOffer, OneRepeat}

room_decided : (ps : List Place) → Decided (has_room ps)
room_decided ps = record { named = (ReportFull, refl); either = cases_lt (length ps) 256; not_both = λ p q. omega arith }

gap_or_not : (o : Option Place) → (o ≡ Some Gap) ⊎ (o ≡ Some Gap → ⊥)
gap_or_not None = inr (λ e. cc)
gap_or_not (Some (Settled a)) = inr (λ e. cc)
gap_or_not (Some Gap) = inl refl

gap_decided : (ps : List Place) (p : ℕ) → Decided (is_gap ps p)
gap_decided ps p = record { named = (NotAGap, refl); either = gap_or_not (slice_get ps p); not_both = λ yes no. no yes }

module _ {m : Meaning} (law : Lawful m) (w p : ℕ) where
  one_settled : (v : ℕ) → Within m w v → One (Answers m w p)
  one_settled v near = (settled_at p (message m v) (bit_xor w v), (refl, (v, near, refl, refl)), only)
    where
      only : (a : Answer) → Answers m w p a → a ≡ settled_at p (message m v) (bit_xor w v)
      only (settled_at q a e) (at, (u, within, carried, flips)) =
          let same : u ≡ v = one_within law w u v within near in
          let said : a ≡ message m v = carried ∙ ap (message m) same in
          let turned : e ≡ bit_xor w v = flips ∙ ap (bit_xor w) same in
          cc
      only (gap_at q) h = absurd (within_beyond law w v near h.1)

  one_gap : Beyond m w → One (Answers m w p)
  one_gap far = (gap_at p, (refl, far), only)
    where
      only : (a : Answer) → Answers m w p a → a ≡ gap_at p
      only (settled_at q a e) h = absurd (within_beyond law w h.1.0 h.1.1 far)
      only (gap_at q) h = ap gap_at h.0

  -- one answer to the word, and one list of places that the answer makes
  one_kept : (change : Answer → List Place) → One {A = Answer × List Place} (λ x. Answers m w p x.0 × (x.1 ≡ change x.0))
  one_kept change =
      let one : One (Answers m w p) = ⊎_elim (λ near. one_settled near.0 near.1) one_gap (within_or_beyond law w) in (
        (one.0, change one.0),
        (one.1, refl),
        λ x h. let same : x.0 ≡ one.0 = one.2 x.0 h.0 in ap (λ (z : List Place). (x.0, z)) h.1 ∙ ap (λ (a : Answer). (a, change a)) same,
      )

pub one_offer : OneOffer
one_offer m law w ps =
    one_transition ps (λ a after. Answers m w (length ps) a × (after ≡ ps ++ place_by a ∷ []))
    (in_service m (length ps) ∷ word_fits m w (length ps) ∷ has_room ps ∷ [])
    (service_decided law (length ps), λ _. (word_decided law w (length ps), λ _. (room_decided ps, λ _. tt)))
    (λ _. one_kept law w (length ps) (λ a. ps ++ place_by a ∷ []))

pub one_repeat : OneRepeat
one_repeat m law p w ps =
    one_transition ps (λ a after. Answers m w p a × (after ≡ set ps p (place_by a)))
    (in_service m p ∷ word_fits m w p ∷ is_gap ps p ∷ [])
    (service_decided law p, λ _. (word_decided law w p, λ _. (gap_decided ps p, λ _. tt)))
    (λ _. one_kept law w p (λ a. set ps p (place_by a)))
