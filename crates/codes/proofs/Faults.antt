-- Numbers tell causes apart and letters layers, so that the tests of a call leave one outcome.
use Rattle.std.proofs.Common.{◌≡◌, ℕ, ◌⊎◌, List, [], ◌∷◌, Ok, Err, Result, refl, ap, ◌∙◌, inl, inr, ⊎_elim, arith}
use Rattle.codes.specs.declared.fault.Cause.{Cause}
use Rattle.codes.specs.declared.fault.Cause.TheVariants.{OutOfService, WordTooLong, MessageTooLong, BeyondReach, ReportFull, NotAGap, NoMessageBits, TableTooLong, TooShort, GapInReport, NotATable, BadRecord, BadLine}
use Rattle.codes.specs.declared.fault.Layer.{Layer}
use Rattle.codes.specs.declared.fault.Layer.TheVariants.{Word, Report, Table}
use Rattle.codes.specs.declared.fault.Fault.{Fault}
use Rattle.codes.specs.Fault.{number, letter, fault, Test, Reports, Passed, Outcome, Transition}
use Rattle.codes.specs.Meaning.{One}

pub numbers_distinct : (x y : Cause) → number x ≡ number y → x ≡ y
numbers_distinct OutOfService OutOfService h = refl
numbers_distinct WordTooLong WordTooLong h = refl
numbers_distinct MessageTooLong MessageTooLong h = refl
numbers_distinct BeyondReach BeyondReach h = refl
numbers_distinct ReportFull ReportFull h = refl
numbers_distinct NotAGap NotAGap h = refl
numbers_distinct NoMessageBits NoMessageBits h = refl
numbers_distinct TableTooLong TableTooLong h = refl
numbers_distinct TooShort TooShort h = refl
numbers_distinct GapInReport GapInReport h = refl
numbers_distinct NotATable NotATable h = refl
numbers_distinct BadRecord BadRecord h = refl
numbers_distinct BadLine BadLine h = refl
numbers_distinct x y h = absurd (omega arith)

letters_distinct : (x y : Layer) → letter x ≡ letter y → x ≡ y
letters_distinct Word Word h = refl
letters_distinct Report Report h = refl
letters_distinct Table Table h = refl
letters_distinct x y h = absurd (omega arith)

pub same_fault : (c : Test) (f g : Fault) → Reports c f → Reports c g → f ≡ g
same_fault c f g p q =
    let cause : f.cause ≡ g.cause = numbers_distinct f.cause g.cause (cc) in
    let layer : f.layer ≡ g.layer = letters_distinct f.layer g.layer (cc) in
    let parts : fault f.cause f.layer f.place ≡ fault g.cause g.layer g.place = cc in
    parts

-- a test that either passes or fails, and whose number is a cause's
pub record Decided (c : Test) : Type 0 where
  pub named : (x : Cause) × (number x ≡ c.numbered)
  pub either : c.passes ⊎ c.fails
  pub not_both : c.passes → c.fails → ⊥

-- each test is decided where those before it pass
abbrev pub AllDecided : List Test → Type 0
AllDecided [] = Unit {0}
AllDecided (c ∷ cs) = Decided c × (c.passes → AllDecided cs)

module _ {A : Type 0} (P : A → Type 0) where
  one_answered : One P → One (Outcome [] P)
  one_answered one = (Ok one.0, (tt, one.1), only)
    where
      only : (r : Result A Fault) → Outcome [] P r → r ≡ Ok one.0
      only (Ok b) q = ap Ok (one.2 b q.1)
      only (Err g) q = absurd q

  one_refused : (c : Test) (cs : List Test) → Decided c → c.fails → One (Outcome (c ∷ cs) P)
  one_refused c cs so h =
      let f : Fault = fault so.named.0 c.layer c.place in
      (Err f, inl (h, (so.named.1, refl, refl)), only)
    where
      only : (r : Result A Fault) → Outcome (c ∷ cs) P r → r ≡ Err (fault so.named.0 c.layer c.place)
      only (Ok b) q = absurd (so.not_both q.0.0 h)
      only (Err g) q =
          ⊎_elim (λ a. ap Err (same_fault c g (fault so.named.0 c.layer c.place) a.1 (so.named.1, refl, refl)))
          (λ a. absurd (so.not_both a.0 h)) q

  one_passed : (c : Test) (cs : List Test) → Decided c → c.passes → One (Outcome cs P) → One (Outcome (c ∷ cs) P)
  one_passed c cs so h (r, p, unique) = (r, back r p, λ s q. unique s (forth s q))
    where
      back : (s : Result A Fault) → Outcome cs P s → Outcome (c ∷ cs) P s
      back (Ok a) q = ((h, q.0), q.1)
      back (Err f) q = inr (h, q)

      forth : (s : Result A Fault) → Outcome (c ∷ cs) P s → Outcome cs P s
      forth (Ok a) q = (q.0.1, q.1)
      forth (Err f) q = ⊎_elim (λ a. absurd (so.not_both h a.0)) (λ a. a.1) q

  -- tests that are decided leave one outcome, where one value is to be answered once all pass
  pub one_outcome : (cs : List Test) → AllDecided cs → (Passed cs → One P) → One (Outcome cs P)
  one_outcome [] so one = one_answered (one tt)
  one_outcome (c ∷ cs) so one =
      ⊎_elim (λ h. one_passed c cs so.0 h (one_outcome cs (so.1 h) (λ rest. one (h, rest)))) (λ h. one_refused c cs so.0 h) so.0.either

-- a fault that was made of these parts reports them
pub reported : (c : Cause) (l : Layer) (p : ℕ) (f : Fault) → f ≡ fault c l p → (number f.cause ≡ number c) × (letter f.layer ≡ letter l) × (f.place ≡ p)
reported c l p f e = rw e (refl, refl, refl)

module _ {A S : Type 0} (before : S) (P : A → S → Type 0) where
  -- an outcome over answer and state, taken apart: a refusal leaves the state before
  parted : Result (A × S) Fault → Result A Fault × S
  parted (Ok x) = (Ok x.0, x.1)
  parted (Err f) = (Err f, before)

  -- the same of a call on a state: one answer, and one state after it
  pub one_transition : (cs : List Test) → AllDecided cs → (Passed cs → One {A = A × S} (λ x. P x.0 x.1)) → One {A = Result A Fault × S} (λ x. Transition cs before P x.0 x.1)
  unfolding parted
  one_transition cs so one =
      let out = one_outcome (λ (x : A × S). P x.0 x.1) cs so one in
      (parted out.0, holds out.0 out.1, λ x h. only out x.0 x.1 h)
    where
      holds : (r : Result (A × S) Fault) → Outcome cs (λ (x : A × S). P x.0 x.1) r → Transition cs before P (parted r).0 (parted r).1
      holds (Ok x) h = h
      holds (Err f) h = (h, refl)

      only : (out : One (Outcome cs (λ (x : A × S). P x.0 x.1))) (r : Result A Fault) (s : S) → Transition cs before P r s → (r, s) ≡ parted out.0
      only out (Ok a) s h = ap parted (out.2 (Ok (a, s)) h)
      only out (Err f) s h = ap (λ (z : S). (Err f, z)) h.1 ∙ ap parted (out.2 (Err f) h.0)
