-- Looking up a floor's time, as C sees it.
use Rattle.std.specs.Prelude.{◌≡◌, ℕ, true, false, ◌⊎◌, List, Some, None, Ok, Err, Option, Result}
use Rattle.codes.specs.declared.fault.Fault.{Fault}
use Rattle.codes.specs.Fault.{number}
use Rattle.records.specs.Layout.{kind_of, holds_times}
use Rattle.records.specs.Lookup.{LookedUp}

-- 0 and the time, 255 where it is absent, or the number of the refusal; the pointer is written only with a time
abbrev pub Told : Result (Option ℕ) Fault → ℕ → ℕ → ℕ → Type 0
Told (Ok (Some time)) before answer after = (answer ≡ 0) × (after ≡ time)
Told (Ok None) before answer after = (answer ≡ 255) × (after ≡ before)
Told (Err f) before answer after = (answer ≡ number f.cause) × (after ≡ before)

-- a kind that holds times is looked up, and any other is absent
abbrev pub LookedUpTo : List ℕ → ℕ → ℕ → ℕ → ℕ → ℕ → Type 0
LookedUpTo table kind floor before answer after =
    ((holds_times kind ≡ true) × ((r : Result (Option ℕ) Fault) × LookedUp (kind_of kind) table floor r × Told r before answer after))
    ⊎ ((holds_times kind ≡ false) × Told (Ok None) before answer after)
