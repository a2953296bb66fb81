-- How many messages a table takes.
use Rattle.std.proofs.Common.{◌≡◌, ℕ, ◌+◌, ◌-◌, ◌*◌, ◌/◌, ◌%◌, ◌<◌, ◌≤◌, leb, MatchBool, ap, ◌∙◌, div-add-mod', arith}
use native.Mathlib.Nat.{add-div_right}
use Rattle.std.proofs.lemmas.Nat.{le-div, div_below, mod_below}
use Rattle.std.proofs.lemmas.Bool.{leb-true, leb-false}
use Rattle.codes.proofs.Answering.{when_from}
use Rattle.tables.specs.Stream.{messages_for}

module _ (k size : ℕ) (some : 0 < k) where
  -- 256 messages hold the stream of a table up to the longest, and of no other
  pub fits_by_size : (longest : ℕ) → longest + 2 ≡ 32 * k → MatchBool (leb size longest) (messages_for k size ≤ 256) (256 < messages_for k size)
  fits_by_size longest e =
      when_from (leb size longest)
      (λ h.
      let l = leb-true size longest h in
      let below : messages_for k size < 257 = div_below (8 * (size + 2) + (k - 1)) k 257 some (omega arith) in
      omega arith)
      (λ h. let l = leb-false size longest h in le-div 257 (8 * (size + 2) + (k - 1)) k some (omega arith))

  -- the messages have room for every bit of the stream
  pub messages_cover : 8 * (size + 2) ≤ messages_for k size * k
  messages_cover =
      let n = 8 * (size + 2) + (k - 1) in
      omega (arith, div-add-mod' n k, mod_below n k some)

  -- all but the last are full, and the last has the rest
  pub last_is : messages_for k size ≡ (8 * (size + 2) - 1) / k + 1
  last_is =
      let e : 8 * (size + 2) + (k - 1) ≡ 8 * (size + 2) - 1 + k = omega arith in
      ap (λ (x : ℕ). x / k) e ∙ add-div_right (8 * (size + 2) - 1) some

  pub last_bits : (messages_for k size - 1) * k + ((8 * (size + 2) - 1) % k + 1) ≡ 8 * (size + 2)
  last_bits =
      let before : messages_for k size - 1 ≡ (8 * (size + 2) - 1) / k = omega (arith, last_is) in
      omega (arith, ap (λ (x : ℕ). x * k) before, div-add-mod' (8 * (size + 2) - 1) k)
