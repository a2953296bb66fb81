-- A computed test of a cyclic code's numbers, from which its laws are proved: length n, k message bits, reach t, generator g of degree n - k.
use Rattle.std.specs.Prelude.{ℕ, zero, suc, pred, ◌+◌, ◌-◌, ◌*◌, ◌/◌, ◌^◌, Bool, true, ◌&&◌, ◌==◌, bit_xor, nat_le}
use Rattle.cyclic.specs.Polynomial.{horner, times_x, remainder}

-- the weight, by a recursion that computes
unfoldable pub weight : ℕ → ℕ
weight w = horner (λ s b. s + b) w

-- Each sum of at least one and at most w of the d rows s, s x, s x^2, .., added to v, has with the number of its rows a weight of at least `need`.
unfoldable pub spans : ℕ → ℕ → ℕ → ℕ → ℕ → ℕ → ℕ → Bool
spans r g zero w need v s = true
spans r g (suc d) zero need v s = true
spans r g (suc d) (suc w) need v s =
    let x = bit_xor v s in
    let next = times_x r g s in
    nat_le need (suc (weight x)) && (spans r g d w (pred need) x next && spans r g d (suc w) need v next)

-- g has degree r > 0 and divides x^n + 1, there is one message bit more than parity bits, and the codewords with at most t message bits are heavy
unfoldable pub sound_at : ℕ → ℕ → ℕ → ℕ → ℕ → Bool
sound_at n k t r g =
    (n == k + r) && (k == suc r && (nat_le 1 r && (nat_le n 42 && (nat_le t 4 && (g / 2 ^ r == 1 && (remainder r g g == 0 && (remainder r g (2 ^ n) == 1
    && spans r g k t (2 * t + 1) 0 (remainder r g (2 ^ r)))))))))

unfoldable pub sound : ℕ → ℕ → ℕ → ℕ → Bool
sound n k t g = sound_at n k t (n - k) g
