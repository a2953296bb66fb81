-- The bounds of a shortened code, and how it encodes.
use Rattle.std.proofs.Common.{ℕ, ◌^◌, ◌<◌, ◌≤◌, Ok, Err, Result, arith, pow_mono}
use Rattle.std.proofs.lemmas.Grind.{common_steps}
use Rattle.codes.specs.declared.fault.Fault.{Fault}
use Rattle.codes.specs.declared.interface.Shape.{Shape}
use Rattle.codes.specs.Interface.{Shaped, Encoded}
use Rattle.codes.specs.Meaning.{Meaning, Lawful}
use Rattle.layers.specs.Shortened.{shorten}
use Rattle.layers.specs.ShortenedLaws.{shorter_carries}

-- what fits here fits below
pub shorter_wide : (m : Meaning) (j : ℕ) → (2 ^ (shorten m j).n ≤ 2 ^ m.n) × (2 ^ (shorten m j).k ≤ 2 ^ m.k)
shorter_wide m j = (pow_mono (omega arith), pow_mono (omega arith))

-- a message that fits here is encoded as below
pub shorter_encoded : {m : Meaning} → Lawful m → (j : ℕ) (s : Shape) → Shaped (shorten m j) (Ok s) → (a : ℕ) (r : Result ℕ Fault) → a < 2 ^ s.message_bits → Encoded m a r → Encoded (shorten m j) a r
shorter_encoded {m} law j s shaped a (Ok v) fits e = grind (arith, common_steps, shorter_carries law j a v)
shorter_encoded {m} law j s shaped a (Err f) fits e = grind (arith, common_steps, shorter_wide m j)
