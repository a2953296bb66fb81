-- The causes of refusals with their numbers, the layers with their letters, and the order in which a call tests its input.
use Rattle.std.specs.Prelude.{◌≡◌, ℕ, ◌⊎◌, List, [], ◌∷◌, ◌++◌, Ok, Err, Result, codes, decimal}
use Rattle.codes.specs.declared.fault.Cause.{Cause}
use Rattle.codes.specs.declared.fault.Cause.TheVariants.{OutOfService, WordTooLong, MessageTooLong, BeyondReach, ReportFull, NotAGap, NoMessageBits, TableTooLong, TooShort, GapInReport, NotATable, BadRecord, BadLine}
use Rattle.codes.specs.declared.fault.Layer.{Layer}
use Rattle.codes.specs.declared.fault.Layer.TheVariants.{Word, Report, Table}
use Rattle.codes.specs.declared.fault.Fault.{Fault}

-- the number of a cause
abbrev pub number : Cause → ℕ
number OutOfService = 1
number WordTooLong = 2
number MessageTooLong = 3
number BeyondReach = 4
number ReportFull = 5
number NotAGap = 6
number NoMessageBits = 7
number TableTooLong = 8
number TooShort = 9
number GapInReport = 10
number NotATable = 11
number BadRecord = 12
number BadLine = 13

-- the letter of a layer, as a character's code: W, R and T
abbrev pub letter : Layer → ℕ
letter Word = 87
letter Report = 82
letter Table = 84

-- the layer of a cause; that a line buffer is too short is the one refusal by another layer, Table
abbrev pub layer_of : Cause → Layer
layer_of OutOfService = Word
layer_of WordTooLong = Word
layer_of MessageTooLong = Word
layer_of BeyondReach = Word
layer_of ReportFull = Report
layer_of NotAGap = Report
layer_of NoMessageBits = Report
layer_of TableTooLong = Report
layer_of TooShort = Report
layer_of GapInReport = Report
layer_of NotATable = Report
layer_of BadRecord = Table
layer_of BadLine = Table

abbrev pub fault : Cause → Layer → ℕ → Fault
fault c l p = record { cause = c; layer = l; place = p }

-- how a fault is written: its number, the letter of its layer, and its place
abbrev pub fault_text : Fault → List ℕ
fault_text f = codes "refused with " ++ decimal (number f.cause) ++ codes ", layer " ++ letter f.layer ∷ codes ", place " ++ decimal f.place

-- One test of a call: the number, layer and place of the fault, what it is to pass, and what it is to fail.
pub record Test : Type 1 where
  pub numbered : ℕ
  pub layer : Layer
  pub place : ℕ
  pub passes : Type 0
  pub fails : Type 0

abbrev pub test : ℕ → Layer → ℕ → Type 0 → Type 0 → Test
test i l p passing failing = record { numbered = i; layer = l; place = p; passes = passing; fails = failing }

-- the fault that a failed test is answered with
abbrev pub Reports : Test → Fault → Type 0
Reports c f = (number f.cause ≡ c.numbered) × (letter f.layer ≡ letter c.layer) × (f.place ≡ c.place)

abbrev pub Passed : List Test → Type 0
Passed [] = Unit {0}
Passed (c ∷ cs) = c.passes × Passed cs

-- the first test that fails gives the fault
abbrev pub Refused : List Test → Fault → Type 0
Refused [] f = ⊥
Refused (c ∷ cs) f = (c.fails × Reports c f) ⊎ (c.passes × Refused cs f)

-- A call that makes these tests in this order, and answers by `P` where all pass.
abbrev pub Outcome : {A : Type 0} → List Test → (A → Type 0) → Result A Fault → Type 0
Outcome tests P (Ok a) = Passed tests × P a
Outcome tests P (Err f) = Refused tests f

-- The same of a call on a state: its answer speaks of the state after it, and a refusal leaves the state as it was.
abbrev pub Transition : {A S : Type 0} → List Test → S → (A → S → Type 0) → Result A Fault → S → Type 0
Transition tests before P (Ok a) after = Passed tests × P a after
Transition tests before P (Err f) after = Refused tests f × (after ≡ before)
