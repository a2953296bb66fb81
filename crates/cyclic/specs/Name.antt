-- The three codes by name.
use Rattle.std.specs.Prelude.{ℕ}
use Rattle.cyclic.specs.Generator.{Numbers, g23, q31, q41}
use Rattle.cyclic.specs.declared.name.Name.{Name}
use Rattle.cyclic.specs.declared.name.Name.TheVariants.{G23, Q31, Q41}

-- the numbers of a code
abbrev pub numbers_named : Name → Numbers
numbers_named G23 = g23
numbers_named Q31 = q31
numbers_named Q41 = q41

-- the least distance of two of its codewords
abbrev pub distance_named : Name → ℕ
distance_named G23 = 7
distance_named Q31 = 7
distance_named Q41 = 9
