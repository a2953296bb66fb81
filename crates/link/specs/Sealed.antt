-- Spelling a sealed report, and its line figure.
use Rattle.std.specs.Prelude.{◌≡◌, ℕ, suc, ◌*◌, ◌/◌, ◌<◌, ◌≤◌, cond, ◌&&◌, List, [], ◌∷◌, ◌++◌, map, length, drop, Some, None, Option, Result, nat_lt}
use Rattle.codes.specs.declared.fault.Fault.{Fault}
use Rattle.codes.specs.declared.fault.Layer.TheVariants.{Report}
use Rattle.codes.specs.Fault.{Test, test, Transition}
use Rattle.codes.specs.Interface.{in_service}
use Rattle.codes.specs.Meaning.{Meaning, Lawful, One}
use Rattle.tables.specs.Sender.{has_bits}
use Rattle.tables.specs.Speller.{TableOf}
use Rattle.link.specs.declared.report.Place.{Place}
use Rattle.link.specs.declared.report.Place.TheVariants.{Settled, Gap}

-- the first gap, or the count where there is none
abbrev pub first_gap : List Place → ℕ
first_gap [] = 0
first_gap (Settled a ∷ ps) = suc (first_gap ps)
first_gap (Gap ∷ ps) = 0

-- 10: no place is a gap
abbrev pub no_gap : List Place → Test
no_gap ps = test 10 Report (first_gap ps) (first_gap ps ≡ length ps) (first_gap ps < length ps)

-- the places hold, in order, the messages that sending the table makes
abbrev pub Holds : ℕ → List Place → List ℕ → Type 0
Holds k ps table = (messages : List ℕ) × (ps ≡ map Settled messages) × TableOf k messages table

-- 11: the places hold the messages of some table
abbrev pub holds_table : ℕ → List Place → Test
holds_table k ps = test 11 Report 0 ((T : List ℕ) × Holds k ps T) ((T : List ℕ) → Holds k ps T → ⊥)

-- 9: the buffer has room for the table
abbrev pub has_room_for : ℕ → List Place → List ℕ → Test
has_room_for k ps buffer =
    test 9 Report 0 ((T : List ℕ) → Holds k ps T → length T ≤ length buffer) ((T : List ℕ) × Holds k ps T × (length buffer < length T))

-- spelling writes the table whose messages the places hold, and leaves what the buffer has past it
abbrev pub Spells : Meaning → List Place → List ℕ → Result ℕ Fault → List ℕ → Type 0
Spells m ps buffer =
    Transition (in_service m 0 ∷ has_bits m ∷ no_gap ps ∷ holds_table m.k ps ∷ has_room_for m.k ps buffer ∷ []) buffer
    (λ c after. (T : List ℕ) × Holds m.k ps T × (c ≡ length T) × (after ≡ T ++ drop (length T) buffer))

-- a lawful meaning leaves one answer and one buffer
abbrev pub OneSpell : Type 0
OneSpell = (m : Meaning) → Lawful m → (ps : List Place) (buffer : List ℕ) → One {A = Result ℕ Fault × List ℕ} (λ x. Spells m ps buffer x.0 x.1)

-- 1000 F over n S, remainder dropped, for S settled places and F flips; absent out of service, and where n S is 0
abbrev pub line_figure : Meaning → ℕ → ℕ → Option ℕ
line_figure m s f = cond (m.serves && nat_lt 0 (m.n * s)) (Some (1000 * f / (m.n * s))) None
