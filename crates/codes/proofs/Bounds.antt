-- What a search below a bound finds.
use Rattle.std.proofs.Common.{◌≡◌, ℕ, zero, suc, ◌<◌, Bool, true, arith}
use Rattle.std.proofs.lemmas.Grind.{common_steps}
use Rattle.codes.specs.Bounded.{any_below}

module _ (passes : ℕ → Bool) where
  pub below_some : (b : ℕ) → any_below passes b ≡ true → (v : ℕ) × (v < b) × (passes v ≡ true)
  unfolding any_below
  below_some zero e = cc
  below_some (suc b) e = grind (arith, below_some b)

  pub below_any : (b v : ℕ) → v < b → passes v ≡ true → any_below passes b ≡ true
  unfolding any_below
  below_any zero v h e = absurd (omega arith)
  below_any (suc b) v h e = grind (arith, common_steps, below_any b v)
