-- A lookup leaves one answer: the floor's entry in the first record of the kind.
use Rattle.std.proofs.Common.{◌≡◌, ℕ, ◌<◌, eqb, ◌⊎◌, List, [], ◌∷◌, ◌++◌, length, Some, None, Ok, Err, Option, Result, refl, ap, ◌∙◌, subst, inl, inr, ⊎_elim, append-nil, arith}
use Rattle.std.specs.List.{slice_get, AllByRecursion}
use Rattle.std.proofs.lemmas.Bool.{cases_lt, eq-eqb, cond-true}
use Rattle.codes.specs.declared.fault.Cause.TheVariants.{BadRecord}
use Rattle.codes.specs.declared.fault.Fault.{Fault}
use Rattle.codes.specs.Fault.{Outcome, Reports}
use Rattle.codes.specs.Meaning.{One}
use Rattle.codes.proofs.Faults.{Decided, one_outcome}
use Rattle.tables.specs.Stream.{Bytes}
use Rattle.records.specs.declared.layout.Kind.{Kind}
use Rattle.records.specs.Layout.{Content, kind_number, bytes_of, laid, Sound, Faulty}
use Rattle.records.specs.Lookup.{entries, first_of, time_at, met_sound, LookedUp, times_record, Entry}
use Rattle.records.proofs.Meanings.{meaning, front_of, first_means, no_record, same_meaning, laid_means}
use Rattle.records.proofs.Walking.{first_append}
use Rattle.records.proofs.Entries.{entries_back}

-- the outcome of a lookup, where bytes mean these records and this rest
abbrev Answered : Kind → ℕ → List Content → List ℕ → Result (Option ℕ) Fault → Type 0
Answered k floor rs rest = Outcome (met_sound k rs rest ∷ []) (λ o. o ≡ time_at floor (first_of k rs))

cases_option : {A : Type 0} (o : Option A) → ((x : A) × (o ≡ Some x)) ⊎ (o ≡ None)
cases_option (Some x) = inl (x, refl)
cases_option None = inr refl

sound_decided : (k : Kind) (rs : List Content) (rest : List ℕ) → Decided (met_sound k rs rest)
sound_decided k rs rest =
    record {
      named = (BadRecord, refl);
      either = ⊎_elim (λ x. inl (inl x)) (λ none. ⊎_elim (λ some. inr (none, some)) (λ empty. inl (inr (omega arith))) (cases_lt 0 (length rest))) (cases_option (first_of k rs));
      not_both = λ p q. ⊎_elim (λ x. cc (x.1, q.0)) (λ e. omega (arith, e, q.1)) p;
    }

module _ (k : Kind) (floor : ℕ) where
  one_answered : (rs : List Content) (rest : List ℕ) → One (Answered k floor rs rest)
  one_answered rs rest = one_outcome (λ o. o ≡ time_at floor (first_of k rs)) (met_sound k rs rest ∷ []) (sound_decided k rs rest, λ _. tt) (λ _. (time_at floor (first_of k rs), refl, λ o e. e))

  one_lookup : (bs : List ℕ) → Bytes bs → One (LookedUp k bs floor)
  one_lookup bs b =
      let m = meaning bs b in
      let one = one_answered m.0 m.1 in (
        one.0,
        (m.0, m.1, m.2, one.1),
        λ r h.
            let same = same_meaning bs m.0 h.0 m.1 h.1 m.2 h.2 in
            one.2 r (subst (λ x. Answered k floor m.0 x r) same.1 (subst (λ x. Answered k floor x h.1 r) same.0 h.3)),
      )

  -- the first record of the kind decides
  by_first : (rs : List Content) (rest : List ℕ) (x : Content) → first_of k rs ≡ Some x → (r : Result (Option ℕ) Fault) → Answered k floor rs rest r → r ≡ Ok (slice_get (entries x.payload) floor)
  by_first rs rest x e (Ok o) h = ap Ok (h.1 ∙ ap (time_at floor) e)
  by_first rs rest x e (Err f) h = absurd (⊎_elim (λ a. cc a.0.0) (λ a. a.1) h)

  -- no record is of the kind, and none is faulty
  by_none : (rs : List Content) (rest : List ℕ) → first_of k rs ≡ None → rest ≡ [] → (r : Result (Option ℕ) Fault) → Answered k floor rs rest r → r ≡ Ok None
  by_none rs rest e none (Ok o) h = ap Ok (h.1 ∙ ap (time_at floor) e)
  by_none rs rest e none (Err f) h = absurd (⊎_elim (λ a. omega (arith, a.0.1, ap length none)) (λ a. a.1) h)

  -- a faulty record comes first
  by_fault : (rs : List Content) (rest : List ℕ) → first_of k rs ≡ None → 0 < length rest → (r : Result (Option ℕ) Fault) → Answered k floor rs rest r → (f : Fault) × (r ≡ Err f) × Reports (met_sound k rs rest) f
  by_fault rs rest e some (Ok o) h = absurd (⊎_elim (λ x. cc x.1) (λ empty. omega (arith, empty, some)) h.0.0)
  by_fault rs rest e some (Err f) h = ⊎_elim (λ a. (f, refl, a.1)) (λ a. absurd a.1) h

  found : (before : List Content) (times more : List ℕ) (r : Result (Option ℕ) Fault) → AllByRecursion Sound before → first_of k before ≡ None → Sound (times_record k times)
      → LookedUp k (laid before ++ (bytes_of (times_record k times) ++ more)) floor r → r ≡ Ok (slice_get times floor)
  found before times more r sound none fits (rs, rest, m, h) =
      let x : Content = times_record k times in
      let front = front_of before (bytes_of x ++ more) rs rest sound m in
      let one = first_means x more front.0 rest fits front.2 in
      let here = cond-true (eqb x.kind (kind_number k)) (Some x) (first_of k one.0) (eq-eqb (kind_number k) (kind_number k) refl) in
      let first = ap (first_of k) front.1 ∙ first_append k before front.0 none ∙ ap (first_of k) one.1 ∙ here in
      by_first rs rest x first r h ∙ ap (λ l. Ok (slice_get l floor)) (entries_back times)

  absent : (qs : List Content) (r : Result (Option ℕ) Fault) → AllByRecursion Sound qs → first_of k qs ≡ None → LookedUp k (laid qs) floor r → r ≡ Ok None
  absent qs r sound none (rs, rest, m, h) =
      let same = same_meaning (laid qs) qs rs [] rest (laid_means qs sound) m in
      by_none rs rest (ap (first_of k) same.0 ∙ none) same.1 r h

  refused : (before : List Content) (left : List ℕ) (r : Result (Option ℕ) Fault) → AllByRecursion Sound before → first_of k before ≡ None → Faulty left
      → LookedUp k (laid before ++ left) floor r → (f : Fault) × (r ≡ Err f) × Reports (met_sound k before left) f
  refused before left r sound none faulty (rs, rest, m, h) =
      let front = front_of before left rs rest sound m in
      let nothing = no_record left front.0 rest (inr faulty) front.2 in
      let same : rs ≡ before = front.1 ∙ ap (λ l. before ++ l) nothing.0 ∙ append-nil before in
      by_fault before left none faulty.0 r (subst (λ x. Answered k floor before x r) nothing.1 (subst (λ x. Answered k floor x rest r) same h))

pub entry_law : (k : Kind) → Entry k
entry_law k =
    record {
      one = λ bs b floor. one_lookup k floor bs b;
      found = λ before times more floor r. found k floor before times more r;
      absent = λ rs floor r. absent k floor rs r;
      refused = λ before rest floor r. refused k floor before rest r;
    }
