use Rattle.std.proofs.Common.{◌≡◌, ℕ, ◌+◌, ◌*◌, ◌%◌, ◌^◌, ◌<◌, suc, sym, ap, ◌∙◌, arith, add_comm, pow-add, shl_exact}
use Rattle.std.proofs.lemmas.Nat.{one_shl}
use lib.Pow.{pow-lt}
use Rattle.cyclic.specs.Generator.{Numbers, numbers, parity_bits}
use Rattle.cyclic.specs.Facts.{Holds, facts}
use Rattle.cyclic.proofs.code.Cyclic.message_flip.Goals as goal

flipped : (c : Numbers) → Holds c → (i : ℕ) → i < c.k → 1 * 2 ^ i % 2 ^ 64 * 2 ^ parity_bits c % 2 ^ 64 ≡ 2 ^ (parity_bits c + i)
flipped c f i h =
    let r = parity_bits c in
    let bit : 2 ^ i < 2 ^ suc i = pow-lt (omega arith) in
    ap (λ (x : ℕ). x * 2 ^ r % 2 ^ 64) (one_shl i 64 (omega arith)) ∙ shl_exact (suc i) r 64 bit (omega arith)
    ∙ sym (pow-add 2 i r) ∙ ap (λ (x : ℕ). 2 ^ x) (add_comm i r)

pub returns : goal.returns
returns c = let code = c.args.self.now.generator in rw c.parity_bits.ensures (flipped (numbers code) (facts code) c.args.i c.requires)
