-- What is read of a line, whatever lines may stand for: what it stands for, or the refusal 13.
use Rattle.std.proofs.Common.{◌≡◌, ◌⊎◌, [], ◌∷◌, Ok, Err, Result, refl, ap, ⊎_elim}
use Rattle.codes.specs.declared.fault.Cause.TheVariants.{BadLine}
use Rattle.codes.specs.declared.fault.Fault.{Fault}
use Rattle.codes.specs.declared.fault.Layer.TheVariants.{Table}
use Rattle.codes.specs.Fault.{test, Outcome}
use Rattle.codes.specs.Meaning.{One}
use Rattle.codes.proofs.Faults.{one_outcome}
use Rattle.lines.specs.Command.{BadLineFault}

module _ {A : Type 0} (Stands : A → Type 0) where
  abbrev None : Type 0
  None = (x : A) → Stands x → ⊥

  abbrev Read : Result A Fault → Type 0
  Read = Outcome (test 13 Table 0 ((x : A) × Stands x) None ∷ []) Stands

  pub refusal : (f : Fault) → Read (Err f) → None × BadLineFault f
  refusal f q = ⊎_elim (λ a. (a.0, record { cause = a.1.0; layer = a.1.1; place = a.1.2 })) (λ a. absurd a.1) q

  pub refused : (r : Result A Fault) → Read r → None → (f : Fault) × (r ≡ Err f) × BadLineFault f
  refused (Ok x) q none = absurd (none x q.1)
  refused (Err f) q none = (f, refl, (refusal f q).1)

  module _ (one : (x y : A) → Stands x → Stands y → x ≡ y) where
    pub read : (r : Result A Fault) → Read r → (x : A) → Stands x → r ≡ Ok x
    read (Ok y) q x s = ap Ok (one y x q.1 s)
    read (Err f) q x s = absurd ((refusal f q).0 x s)

    pub one_reading : ((x : A) × Stands x) ⊎ None → One Read
    one_reading either =
        one_outcome Stands (test 13 Table 0 ((x : A) × Stands x) None ∷ []) (record { named = (BadLine, refl); either = either; not_both = λ p none. none p.0 p.1 }, λ _. tt)
        (λ p. (p.0.0, p.0.1, λ y s. one y p.0.0 s p.0.1))
