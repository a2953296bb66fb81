-- What the laws give of the codewords in reach.
use Rattle.std.proofs.Common.{◌≡◌, ℕ, ◌+◌, ◌-◌, ◌^◌, ◌<◌, Bool, true, false, ◌&&◌, leb, ◌⊎◌, sym, ◌∙◌, inl, inr, ⊎_elim, arith, shr_lt}
use Rattle.std.proofs.lemmas.Bool.{cases_Bool}
use Rattle.std.proofs.lemmas.Grind.{common_steps}
use Rattle.codes.specs.Bounded.{any_below}
use Rattle.codes.specs.Meaning.{Meaning, Lawful, Within, Beyond, message, distance}
use Rattle.codes.proofs.Bounds.{below_some, below_any}
use Rattle.codes.proofs.Distance.{triangle, distance_comm}

-- whether a codeword is within reach of the word `w`
abbrev pub reaching : Meaning → ℕ → ℕ → Bool
reaching m w v = m.codeword v && leb (distance w v) m.t

module _ {m : Meaning} (law : Lawful m) where
  -- at most one codeword is in reach of a word
  pub one_within : (w u v : ℕ) → Within m w u → Within m w v → u ≡ v
  one_within w u v p q = grind (arith, law.apart u v p.0 q.0, triangle u w v, distance_comm u w)

  -- a codeword in reach rules out that there is none
  pub within_beyond : (w v : ℕ) → Within m w v → Beyond m w → ⊥
  within_beyond w v p far = omega (arith, p, far v p.0)

  -- the search for a codeword within reach finds one exactly where there is one
  pub reaching_some : (w : ℕ) → any_below (reaching m w) (2 ^ m.n) ≡ true → (v : ℕ) × Within m w v
  reaching_some w e = grind (arith, common_steps, below_some (reaching m w) (2 ^ m.n))

  pub reaching_found : (w v : ℕ) → Within m w v → any_below (reaching m w) (2 ^ m.n) ≡ true
  reaching_found w v near = grind (arith, common_steps, below_any (reaching m w) (2 ^ m.n) v, law.below v)

  pub reaching_none : (w : ℕ) → any_below (reaching m w) (2 ^ m.n) ≡ false → Beyond m w
  reaching_none w e v h = grind (arith, common_steps, reaching_found w v)

  -- there is one in reach, or there is none
  pub within_or_beyond : (w : ℕ) → ((v : ℕ) × Within m w v) ⊎ Beyond m w
  within_or_beyond w = ⊎_elim (λ e. inl (reaching_some w e)) (λ e. inr (reaching_none w e)) (cases_Bool (any_below (reaching m w) (2 ^ m.n)))

  -- the message of a codeword is below 2 ^ k
  pub message_lt : (v : ℕ) → m.codeword v ≡ true → message m v < 2 ^ m.k
  message_lt v h =
      let whole : m.k + (m.n - m.k) ≡ m.n = omega (arith, law.message_fits) in
      shr_lt m.k (m.n - m.k) (rw whole (law.below v h))

  -- codewords of one message are one
  pub same_message : (v w : ℕ) → m.codeword v ≡ true → m.codeword w ≡ true → message m v ≡ message m w → v ≡ w
  same_message v w p q e =
      let one = law.encodes (message m w) (message_lt w q) in
      one.2 v (p, e) ∙ sym (one.2 w (q, (λ _. message m w)))
