-- A search below a bound.
use Rattle.std.specs.Prelude.{ℕ, zero, suc, Bool, false, ◌||◌}

-- Whether some number below the bound passes the test. The bounds here are powers of two, so it is never computed.
unfoldable pub any_below : (ℕ → Bool) → ℕ → Bool
any_below passes zero = false
any_below passes (suc b) = passes b || any_below passes b
