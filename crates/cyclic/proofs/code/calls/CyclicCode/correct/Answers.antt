use Rattle.std.proofs.Common.{◌^◌, ◌<◌, ◌≡◌, ℕ, MatchOption, sym, subst, rules, arith}
use Rattle.codes.specs.Interface.{Corrects}
use Rattle.codes.specs.Meaning.{Beyond}
use Rattle.cyclic.specs.Generator.{numbers, code_of, syndrome}
use Rattle.cyclic.specs.Code.{correction}
use Rattle.cyclic.specs.Search.{Pattern}
use Rattle.cyclic.specs.Facts.{facts}
use Rattle.cyclic.proofs.Reach.{found, none_found}
use Rattle.cyclic.proofs.Search.{mapped}
use Rattle.cyclic.proofs.code.calls.CyclicCode.correct.Goals as goal

pub returns : goal.returns
returns c =
    let code = c.args.self.now.generator in
    let f = facts code in
    let fits : c.args.word < 2 ^ code.n = omega (arith, c.if-not-fits_in.ensures) in
    let near : MatchOption c.map.result (Beyond (code_of (numbers code)) c.args.word) (Corrects (code_of (numbers code)) c.args.word) =
    mapped (Pattern (numbers code) code.t (syndrome (numbers code) c.args.word)) (Corrects (code_of (numbers code)) c.args.word) _ c.pattern.result c.map.result
    (none_found (numbers code) f c.args.word fits)
    (λ e x p made.
    let is : x ≡ correction (numbers code) c.args.word e = search rules in
    subst (Corrects (code_of (numbers code)) c.args.word) (sym is) (found (numbers code) f c.args.word e fits p))
    (subst (λ (y : ℕ). MatchOption c.pattern.result ((e : ℕ) → Pattern (numbers code) code.t y e → ⊥) (Pattern (numbers code) code.t y)) c.remainder.ensures.value c.pattern.ensures)
    c.map.ensures.cases in
    search rules
