-- The lines that stand for commands.
use Rattle.std.specs.Prelude.{◌≡◌, ℕ, List, [], ◌∷◌, ◌++◌, Ok, Err, Option, Result, MatchOption}
use Rattle.codes.specs.declared.fault.Fault.{Fault}
use Rattle.codes.specs.declared.fault.Layer.TheVariants.{Table}
use Rattle.codes.specs.Fault.{number, letter, Test, test, Outcome}
use Rattle.codes.specs.Meaning.{One}
use Rattle.runs.specs.declared.calls.Call.{Call}
use Rattle.runs.specs.declared.calls.Call.TheVariants.{Offer, Repeat, Clear}
use Rattle.lines.specs.Number.{Writes}
use Rattle.lines.specs.Token.{space}

-- the letters of the commands: W, R and C
abbrev pub offer_letter : ℕ
offer_letter = 87

abbrev pub repeat_letter : ℕ
repeat_letter = 82

abbrev pub clear_letter : ℕ
clear_letter = 67

abbrev pub command_letter : Call → ℕ
command_letter (Offer w) = offer_letter
command_letter (Repeat p w) = repeat_letter
command_letter Clear = clear_letter

-- a line stands for a command
abbrev pub Stands : List ℕ → Call → Type 0
Stands line (Offer w) = (word : List ℕ) × (line ≡ command_letter (Offer w) ∷ space ∷ word) × Writes 16 11 word w
Stands line (Repeat p w) =
    (place : List ℕ) × (word : List ℕ) × (line ≡ command_letter (Repeat p w) ∷ space ∷ (place ++ space ∷ word)) × Writes 10 3 place p × Writes 16 11 word w
Stands line Clear = line ≡ command_letter Clear ∷ []

abbrev pub StandsForNone : List ℕ → Type 0
StandsForNone line = (c : Call) → Stands line c → ⊥

-- the command that a line stands for, absent where there is none
abbrev pub Finds : List ℕ → Option Call → Type 0
Finds line r = MatchOption r (StandsForNone line) (Stands line)

-- 13: the line stands for some command
abbrev pub is_command : List ℕ → Test
is_command line = test 13 Table 0 ((c : Call) × Stands line c) (StandsForNone line)

abbrev pub ReadAs : List ℕ → Result Call Fault → Type 0
ReadAs line = Outcome (is_command line ∷ []) (Stands line)

-- the refusal of a line: 13, layer T, place 0
pub record BadLineFault (f : Fault) : Type 0 where
  pub cause : number f.cause ≡ 13
  pub layer : letter f.layer ≡ 84
  pub place : f.place ≡ 0

-- Every line has one reading: the command that it stands for, or a refusal where there is none.
pub record Grammar : Type 0 where
  pub one_command : (line : List ℕ) (c d : Call) → Stands line c → Stands line d → c ≡ d
  pub read : (line : List ℕ) (r : Result Call Fault) → ReadAs line r → (c : Call) → Stands line c → r ≡ Ok c
  pub refused : (line : List ℕ) (r : Result Call Fault) → ReadAs line r → StandsForNone line → (f : Fault) × (r ≡ Err f) × BadLineFault f
  pub only_then : (line : List ℕ) (f : Fault) → ReadAs line (Err f) → StandsForNone line × BadLineFault f
  pub one_outcome : (line : List ℕ) → One (ReadAs line)
