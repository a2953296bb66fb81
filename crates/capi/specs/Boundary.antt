-- Codes and refusals by number, as C sees them.
use Rattle.std.specs.Prelude.{◌≡◌, ℕ, ◌+◌, cond, ◌⊎◌, Ok, Err, Result, ◌≢◌}
use Rattle.codes.specs.declared.fault.Fault.{Fault}
use Rattle.codes.specs.Fault.{number}
use Rattle.codes.specs.Meaning.{Meaning}
use Rattle.lines.specs.declared.heading.Heading.{Heading}
use Rattle.cyclic.specs.declared.name.Name.{Name}
use Rattle.cyclic.specs.declared.name.Name.TheVariants.{G23, Q31, Q41}
use Rattle.listings.specs.declared.choice.Choice.{Choice}
use Rattle.listings.specs.Choice.{choice_means, named}

-- the number of a code
abbrev pub name_number : Name → ℕ
name_number G23 = 0
name_number Q31 = 1
name_number Q41 = 2

-- no name has the number
abbrev pub NamesNone : ℕ → Type 0
NamesNone number = (n : Name) → name_number n ≢ number

-- the parity layer adds 4
abbrev pub code_number : Heading → ℕ
code_number h = name_number h.name + cond h.parity 4 0

-- no code has the number
abbrev pub NumbersNone : ℕ → Type 0
NumbersNone code = (h : Heading) → code_number h ≢ code

-- the number is that of a code that means `m`
abbrev pub Numbers : ℕ → Meaning → Type 0
Numbers code m = (h : Heading) × (code_number h ≡ code) × (m ≡ named h)

abbrev pub Picks : ℕ → Choice → Type 0
Picks code c = Numbers code (choice_means c)

-- what tells C how a call ended: 0, or the number of the refusal
abbrev pub status : {A : Type 0} → Result A Fault → ℕ
status (Ok a) = 0
status (Err f) = number f.cause

-- what a pointer holds afterwards: the answer, or what it held before a refusal
abbrev pub written : {A B : Type 0} → (A → B) → B → Result A Fault → B
written show before (Ok a) = show a
written show before (Err f) = before

-- A call over a numbered code: by what that code means, or 254 and nothing written where no code has the number.
abbrev pub OverCode : {S : Type 0} → ℕ → (Meaning → Type 0) → S → ℕ → S → Type 0
OverCode code P before answer after = ((m : Meaning) × Numbers code m × P m) ⊎ (NumbersNone code × (answer ≡ 254) × (after ≡ before))
