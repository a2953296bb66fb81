-- What a search finds, and what it has passed over.
use Rattle.std.specs.Prelude.{ℕ, ◌/◌, ◌^◌, ◌<◌, ◌≤◌, count_ones}
use Rattle.cyclic.specs.Generator.{Numbers, numbers, parity_bits}
use Rattle.cyclic.specs.Search.{Pattern, Singles, Pairs}
use Rattle.cyclic.specs.declared.code.search.Search.{Search}

-- the numbers of the code that is searched
abbrev pub searched : Search → Numbers
searched s = numbers s.code.now.generator

-- e is a pattern that the search is for
abbrev pub Sought : Search → ℕ → Type 0
Sought s e = Pattern (searched s) (searched s).t s.syndrome e

-- with one flip at any message bit, too many are left for the parity bits
abbrev pub NoSingle : Search → Type 0
NoSingle s = Singles (searched s) s.syndrome (searched s).n

-- so it is with each pair of message bits
abbrev pub NoPair : Search → Type 0
NoPair s = Pairs (searched s) s.syndrome (searched s).n

-- there is no such pattern with at most two flips in message bits
abbrev pub NoneWithFew : Search → Type 0
NoneWithFew s = (e : ℕ) → Sought s e → count_ones (e / 2 ^ parity_bits (searched s)) ≤ 2 → ⊥

-- there is none with more
abbrev pub NoneWithMany : Search → Type 0
NoneWithMany s = (e : ℕ) → Sought s e → 2 < count_ones (e / 2 ^ parity_bits (searched s)) → ⊥

-- there is no such pattern
abbrev pub NoneAtAll : Search → Type 0
NoneAtAll s = (e : ℕ) → Sought s e → ⊥
