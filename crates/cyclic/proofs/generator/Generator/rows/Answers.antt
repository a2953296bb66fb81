use Rattle.std.proofs.Common.{◌≡◌, ℕ, ◌^◌, ◌<◌, ◌≢◌, List, ◌++◌, length, get_or, length-append, sym, ap, ◌∙◌, subst, not-suc-le-zero, arith, get_or-set_other, get_or-set_same, below_more}
use Rattle.std.proofs.lemmas.List.{length-take-le, get_or_append_left}
use Rattle.cyclic.specs.Polynomial.{times_x}
use Rattle.cyclic.specs.Generator.{Numbers, numbers, parity_bits, syndrome}
use Rattle.cyclic.specs.Search.{Table}
use Rattle.cyclic.specs.Facts.{facts}
use Rattle.cyclic.specs.Turns.{syndrome_lt, first_row, next_row}
use Rattle.cyclic.proofs.generator.Generator.rows.Goals as goal

pub loop-entry-init : goal.loop-entry-init
loop-entry-init c =
    let code = c.args.self.now in
    (λ k h. absurd (not-suc-le-zero h), sym (first_row (numbers code) (facts code)))

pub times_x-row-requires : goal.times_x-row-requires
times_x-row-requires c =
    let code = c.args.self.now in
    subst (λ (x : ℕ). x < 2 ^ parity_bits (numbers code)) (sym c.loop-entry.invariant.1)
    (syndrome_lt (numbers code) (facts code) (2 ^ c.loop-entry.entry-index))

pub loop-entry-preserved : goal.loop-entry-preserved
loop-entry-preserved c =
    let code = c.args.self.now in
    let lt : c.loop-entry.entry-index < length c.loop-entry.entry-items = omega arith in (
      below_more _ _ (λ k h. let ne : k ≢ c.loop-entry.entry-index = omega arith in rw get_or-set_other (c.loop-entry.invariant.0 k h))
          (rw get_or-set_same c.loop-entry.invariant.1),
      c.times_x-row.ensures ∙ ap (times_x (parity_bits (numbers code)) code.polynomial) c.loop-entry.invariant.1
          ∙ next_row (parity_bits (numbers code)) code.polynomial c.loop-entry.entry-index,
    )

-- the entries before the end stand, and what is left of the array comes after them
before_rest : (c : Numbers) (items rest : List ℕ) → length items ≡ c.n → ((k : ℕ) → k < c.n → get_or items k 0 ≡ syndrome c (2 ^ k)) → Table c (items ++ rest)
before_rest c items rest len at = record {
  size = omega (arith, length-append items rest);
  at = λ i h. let lt : i < length items = omega arith in get_or_append_left items rest 0 i lt ∙ at i h;
}

pub returns-clause-table : goal.returns-clause-table
returns-clause-table c =
    let code = c.args.self.now in
    let all : length c.loop-entry.entry-items ≡ code.n = omega (arith, length-take-le {A = ℕ}) in
    let last : c.loop-entry.entry-index ≡ code.n = omega arith in
    before_rest (numbers code) c.loop-entry.entry-items _ all (λ k h. c.loop-entry.invariant.0 k (omega arith))
