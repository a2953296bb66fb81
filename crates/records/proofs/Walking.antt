-- Walking along the records of a table until one of a kind is met.
use Rattle.std.proofs.Common.{◌≡◌, ℕ, ◌+◌, ◌-◌, ◌<◌, Bool, true, false, cond, eqb, List, [], ◌∷◌, ◌++◌, length, drop, Some, None, Ok, Err, Option, sym, refl, ap, ◌∙◌, subst, inl, inr, ⊎_elim, append_assoc, append-nil, arith}
use Rattle.std.specs.List.{AllByRecursion}
use Rattle.std.proofs.lemmas.List.{length-append, length-drop}
use Rattle.std.proofs.lemmas.Bool.{eqb-true, eq-eqb, ne_eqb, cond-true, cond-false}
use Rattle.codes.specs.declared.fault.Fault.{Fault}
use Rattle.records.specs.declared.layout.Kind.{Kind}
use Rattle.records.specs.declared.layout.Kind.TheVariants.{Travel, Door, Other}
use Rattle.records.specs.declared.layout.Record.{Record}
use Rattle.records.specs.Layout.{Content, kind_number, kind_of, bytes_of, laid, Sound, Means}
use Rattle.records.specs.Lookup.{first_of}
use Rattle.records.specs.Reader.{ReadOn}
use Rattle.records.specs.Steps.{Found, FirstOf}
use Rattle.records.proofs.Meanings.{left_behind}

-- the reader has passed over sound records, none of the kind
pub record PassedOver (bytes : List ℕ) (k : Kind) (at : ℕ) : Type 0 where
  pub before : List Content
  pub sound : AllByRecursion Sound before
  pub none : first_of k before ≡ None
  pub parts : bytes ≡ laid before ++ drop at bytes
  pub place : at ≡ length (laid before)

-- the number of a number's kind is that number
numbered_by : (b c : Bool) (x : ℕ) → eqb x 1 ≡ b → eqb x 2 ≡ c → kind_number (cond b Travel (cond c Door (Other x))) ≡ x
numbered_by true c x p q = sym (eqb-true x 1 p)
numbered_by false true x p q = sym (eqb-true x 2 q)
numbered_by false false x p q = refl

pub number_back : (x : ℕ) → kind_number (kind_of x) ≡ x
number_back x = numbered_by (eqb x 1) (eqb x 2) x refl refl

-- records laid end to end, in two parts
pub laid_append : (xs ys : List Content) → laid (xs ++ ys) ≡ laid xs ++ laid ys
laid_append [] ys = refl
laid_append (x ∷ xs) ys = ap (λ l. bytes_of x ++ l) (laid_append xs ys) ∙ sym (append_assoc (bytes_of x) (laid xs) (laid ys))

pub sound_append : (xs ys : List Content) → AllByRecursion Sound xs → AllByRecursion Sound ys → AllByRecursion Sound (xs ++ ys)
sound_append [] ys a b = b
sound_append (x ∷ xs) ys a b = (a.0, sound_append xs ys a.1 b)

-- where none is met, it is not the first, and none of the others
not_first : {A : Type 0} (b : Bool) (x : A) (o p : Option A) → cond b (Some x) o ≡ None → (cond b (Some x) p ≡ p) × (o ≡ None)
not_first true x o p e = absurd cc
not_first false x o p e = (refl, e)

pub first_append : (k : Kind) (xs ys : List Content) → first_of k xs ≡ None → first_of k (xs ++ ys) ≡ first_of k ys
first_append k [] ys e = refl
first_append k (x ∷ xs) ys e =
    let parts = not_first (eqb x.kind (kind_number k)) x (first_of k xs) (first_of k (xs ++ ys)) e in
    parts.0 ∙ first_append k xs ys parts.1

-- what all bytes mean, from what those behind the records passed over mean
module _ (bs : List ℕ) (k : Kind) (at : ℕ) (p : PassedOver bs k at) (rs : List Content) (rest : List ℕ) (m : Means (drop at bs) rs rest) where
  pub all_means : Means bs (p.before ++ rs) rest
  all_means =
      record {
        parts = p.parts ∙ ap (λ l. laid p.before ++ l) m.parts ∙ sym (append_assoc (laid p.before) (laid rs) rest) ∙ ap (λ l. l ++ rest) (sym (laid_append p.before rs));
        sound = sound_append p.before rs p.sound m.sound;
        ends = m.ends;
      }

  pub all_first : first_of k (p.before ++ rs) ≡ first_of k rs
  all_first = first_append k p.before rs p.none

  pub all_length : length (laid (p.before ++ rs)) ≡ at + length (laid rs)
  all_length = ap length (laid_append p.before rs) ∙ length-append (laid p.before) (laid rs) ∙ ap (λ n. n + length (laid rs)) (sym p.place)

pub at_start : (bs : List ℕ) (k : Kind) → PassedOver bs k 0
at_start bs k = record { before = []; sound = tt; none = refl; parts = refl; place = refl }

-- the reader goes on where it is, by what it answers there
module _ (bs : List ℕ) (k : Kind) (at : ℕ) (p : PassedOver bs k at) (after : ℕ) where
  -- there are no more records
  pub none_left : ReadOn bs at (Ok None) after → FirstOf bs k (Ok None)
  none_left ([], rest, m, (passed, same)) = (
    p.before ++ [],
    rest,
    all_means bs k at p [] rest m,
    ((inr (⊎_elim (λ h. absurd (omega arith)) (λ h. h) passed.0), tt), subst (λ o. Found o None) (sym (all_first bs k at p [] rest m)) tt),
  )
  none_left (x ∷ rs, rest, m, (passed, same)) = absurd same

  -- the next record is faulty
  pub faulty_next : (f : Fault) → ReadOn bs at (Err f) after → FirstOf bs k (Err f)
  faulty_next f (rs, rest, m, (inr h, same)) = absurd h.1
  faulty_next f (x ∷ rs, rest, m, (inl h, same)) = absurd (omega (arith, h.0.0))
  faulty_next f ([], rest, m, (inl h, same)) =
      let place : at ≡ length (laid (p.before ++ [])) = omega (arith, all_length bs k at p [] rest m) in
      (p.before ++ [], rest, all_means bs k at p [] rest m, inl ((all_first bs k at p [] rest m, h.0.1), (h.1.0, h.1.1, h.1.2 ∙ place)))

  module _ (found : Record) where
    -- the next record is of the kind
    pub met : kind_number found.kind ≡ kind_number k → ReadOn bs at (Ok (Some found)) after → FirstOf bs k (Ok (Some found))
    met e ([], rest, m, (passed, next)) = absurd next
    met e (x ∷ rs, rest, m, (passed, (handed, moved))) =
        let number : x.kind ≡ kind_number k = sym (number_back x.kind) ∙ sym (ap kind_number handed.kind) ∙ e in
        let here : first_of k (x ∷ rs) ≡ Some x = cond-true (eqb x.kind (kind_number k)) (Some x) (first_of k rs) (eq-eqb x.kind (kind_number k) number) in
        let first = all_first bs k at p (x ∷ rs) rest m ∙ here in
        (p.before ++ x ∷ rs, rest, all_means bs k at p (x ∷ rs) rest m, ((inl (x, first), tt), subst (λ o. Found o (Some found)) (sym first) handed.payload))

    -- the next record is of another kind
    pub passed_over : (kind_number found.kind ≡ kind_number k → ⊥) → ReadOn bs at (Ok (Some found)) after → PassedOver bs k after
    passed_over e ([], rest, m, (passed, next)) = absurd next
    passed_over e (x ∷ rs, rest, m, (passed, (handed, moved))) =
        let other : x.kind ≡ kind_number k → ⊥ = λ h. e (ap kind_number handed.kind ∙ number_back x.kind ∙ h) in
        let none = cond-false (eqb x.kind (kind_number k)) (Some x) None (ne_eqb x.kind (kind_number k) other) in
        let rest_is : drop at bs ≡ bytes_of x ++ (laid rs ++ rest) = m.parts ∙ append_assoc (bytes_of x) (laid rs) rest in
        let behind : drop after bs ≡ laid rs ++ rest = ap (λ n. drop n bs) moved ∙ left_behind bs at x (laid rs ++ rest) rest_is in
        let one : laid (x ∷ []) ≡ bytes_of x = append-nil (bytes_of x) in
        let all = laid_append p.before (x ∷ []) ∙ ap (λ l. laid p.before ++ l) one in
        record {
          before = p.before ++ x ∷ [];
          sound = sound_append p.before (x ∷ []) p.sound (m.sound.0, tt);
          none = first_append k p.before (x ∷ []) p.none ∙ none;
          parts = p.parts ∙ ap (λ l. laid p.before ++ l) (rest_is ∙ ap (λ l. bytes_of x ++ l) (sym behind)) ∙ sym (append_assoc (laid p.before) (bytes_of x) (drop after bs)) ∙ ap (λ l. l ++ drop after bs) (sym all);
          place = moved ∙ ap (λ n. n + length (bytes_of x)) p.place ∙ sym (ap length all ∙ length-append (laid p.before) (bytes_of x));
        }

    -- either way it moves on
    pub goes_on : ReadOn bs at (Ok (Some found)) after → length bs - after < length bs - at
    goes_on ([], rest, m, (passed, next)) = absurd next
    goes_on (x ∷ rs, rest, m, (passed, (handed, moved))) = omega (arith, moved, ap length m.parts, length-drop at bs, length-append (x.payload ++ laid rs) rest)
