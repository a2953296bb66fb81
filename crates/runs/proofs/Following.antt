-- How the report follows the book.
use Rattle.std.proofs.Common.{◌≡◌, ℕ, suc, ◌+◌, ◌^◌, ◌<◌, ◌≤◌, Bool, true, false, cond, not, ◌&&◌, ltb, ◌⊎◌, List, [], ◌∷◌, ◌++◌, length, get_or, take, set, Some, Ok, Err, sum, Result, sym, refl, ap, ◌∙◌, subst, inl, inr, ⊎_elim, suc-le-suc, arith}
use lib.Count.{ones}
use Rattle.std.specs.List.{slice_get}
use Rattle.std.proofs.lemmas.List.{length_push, length-set, get_or_append_left, get_or_push, get_or-set_same, get_or-set_other, take_more, take_all}
use Rattle.std.proofs.lemmas.Option.{slice_get-get_or, slice_get_within}
use Rattle.std.proofs.lemmas.List.Sums.{sum_by-cons}
use Rattle.std.proofs.lemmas.Bool.{and_from, and_left, and_right, cases_Bool, cases_lt, cases_eq, cond-true, cond-false, not_from_true, not_from_false, lt-ltb, le-ltb}
use Rattle.codes.specs.declared.fault.Fault.{Fault}
use Rattle.codes.specs.Meaning.{Meaning, Lawful, Beyond}
use Rattle.codes.proofs.Reach.{within_beyond, reaching_some, reaching_found}
use Rattle.link.specs.declared.receiver.Answer.{Answer}
use Rattle.link.specs.declared.receiver.Answer.TheVariants.{Settled as settled_at, Gap as gap_at}
use Rattle.link.specs.declared.report.Place.{Place}
use Rattle.link.specs.declared.report.Place.TheVariants.{Settled, Gap}
use Rattle.link.specs.Receiver.{Answers, place_by, flips_by, Offered, Repeated, Keeps}
use Rattle.link.specs.Report.{is_settled, settled_in}
use Rattle.runs.specs.declared.calls.Call.{Call}
use Rattle.runs.specs.declared.calls.Call.TheVariants.{Offer, Repeat}
use Rattle.runs.specs.Book.{reached, hearable, noted, book_from, book, Demands, Demanded, Tally}

-- ---- the codewords in reach

module _ {m : Meaning} (law : Lawful m) where
  beyond_unreached : (w : ℕ) → Beyond m w → reached m w ≡ false
  beyond_unreached w far =
      ⊎_elim (λ e. let s = reaching_some law w e in absurd (within_beyond law w s.0 s.1 far)) (λ e. e) (cases_Bool (reached m w))

-- ---- one more word

pub answer_demands : (m : Meaning) (w p : ℕ) (a : Answer) → Answers m w p a → Demands m w (place_by a) (flips_by a)
answer_demands m w p (settled_at q a e) h = (h.1.0, h.1.1, h.1.2, ap ones h.1.3)
answer_demands m w p (gap_at q) h = (h.1, refl)

module _ (m : Meaning) (ws : List ℕ) (ps : List Place) (fs : List ℕ) (kept : Demanded m ws ps fs) (w : ℕ) (x : Place) (f : ℕ) (new : Demands m w x f) where
  demanded_push : Demanded m (ws ++ w ∷ []) (ps ++ x ∷ []) (fs ++ f ∷ [])
  demanded_push = record {
    count = length_push ps x ∙ ap (λ (i : ℕ). i + 1) kept.count ∙ sym (length_push ws w);
    counts = length_push fs f ∙ ap (λ (i : ℕ). i + 1) kept.counts ∙ sym (length_push ws w);
    each = λ p l.
        ⊎_elim
        (λ low.
        let l' : p < length ps = omega (arith, kept.count) in
        let l'' : p < length fs = omega (arith, kept.counts) in
        rw (get_or_append_left ws (w ∷ []) 0 p low, get_or_append_left ps (x ∷ []) Gap p l', get_or_append_left fs (f ∷ []) 0 p l'') (kept.each p low))
        (λ high.
        let at : length ws ≡ p = omega (arith, length_push ws w) in
        rw (get_or_push ws w 0 p at, get_or_push ps x Gap p (kept.count ∙ at), get_or_push fs f 0 p (kept.counts ∙ at)) new)
        (cases_lt p (length ws));
  }

  demanded_set : (i : ℕ) → i < length ws → Demanded m (set ws i w) (set ps i x) (set fs i f)
  demanded_set i l = record {
    count = length-set ps i x ∙ kept.count ∙ sym (length-set ws i w);
    counts = length-set fs i f ∙ kept.counts ∙ sym (length-set ws i w);
    each = λ p h.
        let l' : i < length ps = omega (arith, kept.count) in
        let l'' : i < length fs = omega (arith, kept.counts) in
        ⊎_elim
        (λ same.
        subst (λ (j : ℕ). Demands m (get_or (set ws i w) j 0) (get_or (set ps i x) j Gap) (get_or (set fs i f) j 0)) (sym same)
        (rw (get_or-set_same ws i w 0 l, get_or-set_same ps i x Gap l', get_or-set_same fs i f 0 l'') new))
        (λ ne.
        rw (get_or-set_other ws i p w 0 ne, get_or-set_other ps i p x Gap ne, get_or-set_other fs i p f 0 ne) (kept.each p (omega (arith, length-set ws i w))))
        (cases_eq p i);
  }

-- ---- the calls

place_cases : (x : Place) → (x ≡ Gap) ⊎ ((a : ℕ) × (x ≡ Settled a))
place_cases Gap = inl refl
place_cases (Settled a) = inr (a, refl)

hearable_from : (m : Meaning) (w : ℕ) → m.serves ≡ true → w < 2 ^ m.n → hearable m w ≡ true
hearable_from m w s l = and_from m.serves (ltb w (2 ^ m.n)) s (lt-ltb w (2 ^ m.n) l)

unhearable_serves : (m : Meaning) (w : ℕ) → m.serves ≡ false → hearable m w ≡ false
unhearable_serves m w e = and_left m.serves (ltb w (2 ^ m.n)) e

unhearable_long : (m : Meaning) (w : ℕ) → 2 ^ m.n ≤ w → hearable m w ≡ false
unhearable_long m w l = and_right m.serves (ltb w (2 ^ m.n)) (le-ltb w (2 ^ m.n) l)

module _ {m : Meaning} {ws : List ℕ} {ps : List Place} {fs : List ℕ} (kept : Demanded m ws ps fs) (w : ℕ) (ps' : List Place) (fs' : List ℕ) where
  abbrev room : Bool
  room = ltb (length ws) 256

  pub offer_noted : (r : Result Answer Fault) → Offered m w ps r ps' → Keeps r fs (λ a. fs ++ flips_by a ∷ []) fs' → Demanded m (noted m ws (Offer w)) ps' fs'
  offer_noted (Ok a) o k =
      let e : (hearable m w && room) ≡ true =
      and_from (hearable m w) room (hearable_from m w o.0.0 o.0.1.0) (lt-ltb (length ws) 256 (omega (arith, kept.count, o.0.1.1.0))) in
      rw (cond-true (hearable m w && room) (ws ++ w ∷ []) ws e, o.1.1, k)
      (demanded_push m ws ps fs kept w (place_by a) (flips_by a) (answer_demands m w (length ps) a o.1.0))
  offer_noted (Err f) o k =
      let e : (hearable m w && room) ≡ false =
      ⊎_elim (λ x. and_left (hearable m w) room (unhearable_serves m w x.0))
      (λ x.
      ⊎_elim (λ y. and_left (hearable m w) room (unhearable_long m w y.0))
      (λ y. and_right (hearable m w) room (⊎_elim (λ z. le-ltb (length ws) 256 (omega (arith, kept.count, z.0))) (λ z. absurd z.1) y.1)) x.1)
      o.0 in
      rw (cond-false (hearable m w && room) (ws ++ w ∷ []) ws e, o.1, k) kept

module _ {m : Meaning} (law : Lawful m) {ws : List ℕ} {ps : List Place} {fs : List ℕ} (kept : Demanded m ws ps fs) (p w : ℕ) (ps' : List Place) (fs' : List ℕ) where
  abbrev open_place : Bool
  open_place = ltb p (length ws) && not (reached m (get_or ws p 0))

  gap_open : slice_get ps p ≡ Some Gap → (p < length ws) × (open_place ≡ true)
  gap_open e =
      let low : p < length ps = slice_get_within ps p Gap e in
      let low' : p < length ws = omega (arith, kept.count) in
      let gap : get_or ps p Gap ≡ Gap = cc (slice_get-get_or ps p Gap low) in
      let far = subst (λ (x : Place). Demands m (get_or ws p 0) x (get_or fs p 0)) gap (kept.each p low') in (
        low',
        and_from (ltb p (length ws)) (not (reached m (get_or ws p 0))) (lt-ltb p (length ws) low')
            (not_from_false (reached m (get_or ws p 0)) (beyond_unreached law (get_or ws p 0) far.0)),
      )

  other_shut : (slice_get ps p ≡ Some Gap → ⊥) → open_place ≡ false
  other_shut ne =
      ⊎_elim
      (λ low.
      let low' : p < length ps = omega (arith, kept.count) in
      ⊎_elim (λ gap. absurd (ne (slice_get-get_or ps p Gap low' ∙ ap Some gap)))
      (λ s.
      let d = subst (λ (x : Place). Demands m (get_or ws p 0) x (get_or fs p 0)) s.1 (kept.each p low) in
      and_right (ltb p (length ws)) (not (reached m (get_or ws p 0)))
      (not_from_true (reached m (get_or ws p 0)) (reaching_found law (get_or ws p 0) d.0 d.1)))
      (place_cases (get_or ps p Gap)))
      (λ high. and_left (ltb p (length ws)) (not (reached m (get_or ws p 0))) (le-ltb p (length ws) high))
      (cases_lt p (length ws))

  pub repeat_noted : (r : Result Answer Fault) → Repeated m p w ps r ps' → Keeps r fs (λ a. set fs p (flips_by a)) fs' → Demanded m (noted m ws (Repeat p w)) ps' fs'
  repeat_noted (Ok a) o k =
      let gap = gap_open o.0.1.1.0 in
      let e : (hearable m w && open_place) ≡ true = and_from (hearable m w) open_place (hearable_from m w o.0.0 o.0.1.0) gap.1 in
      rw (cond-true (hearable m w && open_place) (set ws p w) ws e, o.1.1, k)
      (demanded_set m ws ps fs kept w (place_by a) (flips_by a) (answer_demands m w p a o.1.0) p gap.0)
  repeat_noted (Err f) o k =
      let e : (hearable m w && open_place) ≡ false =
      ⊎_elim (λ x. and_left (hearable m w) open_place (unhearable_serves m w x.0))
      (λ x.
      ⊎_elim (λ y. and_left (hearable m w) open_place (unhearable_long m w y.0))
      (λ y. and_right (hearable m w) open_place (⊎_elim (λ z. other_shut z.0) (λ z. absurd z.1) y.1)) x.1)
      o.0 in
      rw (cond-false (hearable m w && open_place) (set ws p w) ws e, o.1, k) kept

pub demanded_none : (m : Meaning) (ps : List Place) (fs : List ℕ) → ps ≡ [] → fs ≡ [] → Demanded m [] ps fs
demanded_none m ps fs e f = rw (e, f) (record { count = refl; counts = refl; each = λ p l. absurd (omega arith) })

-- ---- runs

book_more : (m : Meaning) (ws : List ℕ) (cs : List Call) (c : Call) → book_from m ws (cs ++ c ∷ []) ≡ noted m (book_from m ws cs) c
book_more m ws [] c = refl
book_more m ws (d ∷ cs) c = book_more m (noted m ws d) cs c

-- one turn of a run, whose receiver keeps its code
pub run_more : {S : Type 0} (mean : S → Meaning) (s s₀ : S) (cs : List Call) (i : ℕ) (d : Call) (ps ps' : List Place) (fs fs' : List ℕ)
    → s ≡ s₀ → i < length cs → Demanded (mean s₀) (book (mean s₀) (take i cs)) ps fs
    → ((ws : List ℕ) → Demanded (mean s) ws ps fs → Demanded (mean s) (noted (mean s) ws (get_or cs i d)) ps' fs')
    → Demanded (mean s₀) (book (mean s₀) (take (i + 1) cs)) ps' fs'
run_more {S} mean s s₀ cs i d ps ps' fs fs' e l kept turn =
    let turn' =
    subst (λ (x : S). (ws : List ℕ) → Demanded (mean x) ws ps fs → Demanded (mean x) (noted (mean x) ws (get_or cs i d)) ps' fs') e turn in
    rw (take_more cs i d l, book_more (mean s₀) [] (take i cs) (get_or cs i d)) (turn' (book (mean s₀) (take i cs)) kept)

pub run_all : {S : Type 0} (mean : S → Meaning) (s₀ s : S) (cs : List Call) (i : ℕ) (ps : List Place) (fs : List ℕ) → s₀ ≡ s → length cs ≤ i
    → Demanded (mean s₀) (book (mean s₀) (take i cs)) ps fs → Demanded (mean s) (book (mean s) cs) ps fs
run_all {S} mean s₀ s cs i ps fs e l kept =
    subst (λ (x : S). Demanded (mean x) (book (mean x) cs) ps fs) e (rw (take_all i cs l) at kept)

-- ---- the tally of a book is that of the report

tallied_one : (m : Meaning) (w : ℕ) (ws : List ℕ) (x : Place) (f s' f' : ℕ) → Demands m w x f → Tally m ws s' f' → Tally m (w ∷ ws) (cond (is_settled x) 1 0 + s') (f + f')
tallied_one m w ws (Settled a) f s' f' d rest = inl (d.0, d.1, (s', f', rest, refl, ap (λ (y : ℕ). y + f') d.3))
tallied_one m w ws Gap f s' f' d rest =
    inr (d.0, subst (λ (y : ℕ). Tally m ws y (f + f')) (omega arith) (subst (λ (y : ℕ). Tally m ws s' y) (omega (arith, d.1)) rest))

pub tallied : (m : Meaning) (ws : List ℕ) (ps : List Place) (fs : List ℕ) → Demanded m ws ps fs → Tally m ws (settled_in ps) (sum fs)
tallied m [] [] [] kept = (refl, refl)
tallied m [] (x ∷ ps) fs kept = absurd (omega (arith, kept.count))
tallied m [] [] (f ∷ fs) kept = absurd (omega (arith, kept.counts))
tallied m (w ∷ ws) [] fs kept = absurd (omega (arith, kept.count))
tallied m (w ∷ ws) (x ∷ ps) [] kept = absurd (omega (arith, kept.counts))
tallied m (w ∷ ws) (x ∷ ps) (f ∷ fs) kept =
    let rest = tallied m ws ps fs (record { count = omega (arith, kept.count); counts = omega (arith, kept.counts); each = λ p l. kept.each (suc p) (suc-le-suc l) }) in
    let all = tallied_one m w ws x f (settled_in ps) (sum fs) (kept.each 0 (omega arith)) rest in
    subst (λ (s : ℕ). Tally m (w ∷ ws) s (sum (f ∷ fs))) (sym (sum_by-cons (λ (y : Place). cond (is_settled y) 1 0) x ps))
    (subst (λ (s : ℕ). Tally m (w ∷ ws) (cond (is_settled x) 1 0 + settled_in ps) s) (sym (sum_by-cons (λ (y : ℕ). y) f fs)) all)
