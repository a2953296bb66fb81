-- The bounds on a word with a parity bit, from those on its upper part.
use Rattle.std.proofs.Common.{◌≡◌, ℕ, ◌*◌, ◌^◌, ◌<◌, ◌≤◌, true, arith, pow_mono, pow-add}
use Rattle.codes.specs.Meaning.{Meaning, Lawful}
use Rattle.layers.specs.Parity.{with_parity}

pub parity_wide : (m : Meaning) → 2 ^ (with_parity m).n ≡ 2 ^ m.n * 2
parity_wide m = pow-add 2 m.n 1

-- codewords of a code in service have room for one more bit
pub parity_room : {m : Meaning} → Lawful m → (v : ℕ) → m.serves ≡ true → m.codeword v ≡ true → v < 2 ^ 63
parity_room {m} law v serves h =
    let wide : 2 ^ m.n ≤ 2 ^ 42 = pow_mono (law.short serves) in
    omega (arith, law.below v h)
