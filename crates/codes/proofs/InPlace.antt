-- A loop that replaces each element of a list by one in a relation to it.
use Rattle.std.proofs.Common.{◌≡◌, ℕ, ◌+◌, ◌<◌, ◌≤◌, List, length, get_or, set, arith}
use Rattle.std.proofs.lemmas.Grind.{common_steps}

module _ {X : Type 0} (P : X → X → Type 0) where
  -- the first `i` elements of `xs` are replaced in `ys`
  pub record Replaced (i : ℕ) (xs ys : List X) : Type 0 where
    pub count : length ys ≡ length xs
    pub done : (p : ℕ) (d : X) → p < i → p < length xs → P (get_or xs p d) (get_or ys p d)
    pub rest : (p : ℕ) (d : X) → i ≤ p → get_or ys p d ≡ get_or xs p d

  pub replaced_more : (i : ℕ) (xs ys : List X) (y e : X) → Replaced i xs ys → i < length xs → P (get_or ys i e) y → Replaced (i + 1) xs (set ys i y)
  replaced_more i xs ys y e so l h = grind (arith, common_steps)
