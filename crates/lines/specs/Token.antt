-- The parts of a line.
use Rattle.std.specs.Prelude.{◌≡◌, ℕ, List, ◌∷◌, ◌++◌, Option, MatchOption, ◌≢◌}
use Rattle.std.specs.Borrow.{Bor}
use Rattle.std.specs.List.{AllByRecursion}
use Rattle.lines.specs.declared.token.Token.{Token}
use Rattle.lines.specs.declared.token.Token.TheVariants.{Name, Place, Word}
use Rattle.lines.specs.Number.{Writes}

abbrev pub space : ℕ
space = 32

-- the token writes this number: a place has 1 to 3 decimal digits, a word 1 to 11 hexadecimal ones, and a name is no number
abbrev pub TokenWrites : Token → ℕ → Type 0
TokenWrites (Name text) x = ⊥
TokenWrites (Place text) x = Writes 10 3 text.now x
TokenWrites (Word text) x = Writes 16 11 text.now x

abbrev pub NoSpace : List ℕ → Type 0
NoSpace text = AllByRecursion (λ b. b ≢ space) text

-- what follows a space at the front of the text
abbrev pub AfterSpace : List ℕ → Option (Bor (List ℕ)) → Type 0
AfterSpace text r = MatchOption r ((rest : List ℕ) → text ≢ space ∷ rest) (λ rest. text ≡ space ∷ rest.now)

-- what stands before the first space of the text, and what follows it
abbrev pub CutAtSpace : List ℕ → Option (Bor (List ℕ) × Bor (List ℕ)) → Type 0
CutAtSpace text r = MatchOption r (NoSpace text) (λ parts. (text ≡ parts.0.now ++ space ∷ parts.1.now) × NoSpace parts.0.now)
