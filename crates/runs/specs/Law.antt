-- The law: of two runs of calls, and of two tables that are carried.
use Rattle.std.specs.Prelude.{◌≡◌, ℕ, ◌<◌, ◌≤◌, true, false, ◌⊎◌, List, [], length, take, Ok, Err, Result, slice_index}
use Rattle.codes.specs.declared.fault.Fault.{Fault}
use Rattle.codes.specs.Meaning.{Meaning, Within, Beyond}
use Rattle.link.specs.declared.report.Place.{Place}
use Rattle.runs.specs.declared.calls.Call.{Call}
use Rattle.runs.specs.Book.{book, heard, reached, Demanded}
use Rattle.runs.specs.Transport.{Sendable, Light, Whole}

-- one code: the five parts are the same, the sets of codewords member by member
pub record SameParts (m o : Meaning) : Type 0 where
  pub n : m.n ≡ o.n
  pub k : m.k ≡ o.k
  pub t : m.t ≡ o.t
  pub codeword : (w : ℕ) → m.codeword w ≡ o.codeword w
  pub serves : m.serves ≡ o.serves

-- two words agree: one codeword is within reach of both, or none of either
abbrev pub Agree : Meaning → ℕ → ℕ → Type 0
Agree m v w = ((u : ℕ) × Within m v u × Within m w u) ⊎ (Beyond m v × Beyond m w)

-- both runs heard equally many offers since their last clearing, and, place by place, the words behind agree
pub record Alike (m o : Meaning) (cs ds : List Call) : Type 0 where
  pub offers : heard m cs ≡ heard o ds
  pub words : (p : ℕ) → p < heard m cs → Agree m (slice_index (book m cs) p) (slice_index (book o ds) p)

-- The two runs `cs` and `ds`, over codes that mean `m` and `o`, led to the places `ps` and `qs` and the flips `fs` and `gs`.
pub record Runs (m o : Meaning) (cs ds : List Call) (ps : List Place) (fs : List ℕ) (qs : List Place) (gs : List ℕ) : Type 0 where
  -- each report holds at each place what the word behind it demands
  pub first : Demanded m (book m cs) ps fs
  pub second : Demanded o (book o ds) qs gs
  -- the book has a word for each offer that was heard since the last clearing
  pub offers : length (book m cs) ≡ heard m cs
  pub others : length (book o ds) ≡ heard o ds
  -- over one code the reports are equal exactly where the runs are alike
  pub alike : SameParts m o → ps ≡ qs → Alike m o cs ds
  pub equal : SameParts m o → Alike m o cs ds → ps ≡ qs
  -- a word is said to be reached exactly where some codeword is within reach of it
  pub some : (w : ℕ) → reached m w ≡ true → (v : ℕ) × Within m w v
  pub none : (w : ℕ) → reached m w ≡ false → Beyond m w

-- what was spelled: the front of the buffer
abbrev pub spelled : Result ℕ Fault → List ℕ → List ℕ
spelled (Ok c) after = take c after
spelled (Err f) after = []

-- a table that sending does not refuse, at most t bits turned over in each word, and buffer enough
pub record Fair (m : Meaning) (table patterns buffer : List ℕ) : Type 0 where
  pub sendable : Sendable m table
  pub light : Light m table patterns
  pub room : length table ≤ length buffer

-- Two tables were carried over codes that mean `m` and `o`; the answers were `r` and `s`, and the buffers hold `after` and `other` now.
pub record Carriages (m o : Meaning) (table patterns buffer : List ℕ) (r : Result ℕ Fault) (after : List ℕ)
    (table' patterns' buffer' : List ℕ) (s : Result ℕ Fault) (other : List ℕ) : Type 0 where
  -- each is spelled as it was sent
  pub first : Fair m table patterns buffer → Whole table buffer r after
  pub second : Fair o table' patterns' buffer' → Whole table' buffer' s other
  -- and so equal tables are spelled exactly where equal tables were sent
  pub alike : Fair m table patterns buffer → Fair o table' patterns' buffer' → table ≡ table' → spelled r after ≡ spelled s other
  pub equal : Fair m table patterns buffer → Fair o table' patterns' buffer' → spelled r after ≡ spelled s other → table ≡ table'

-- The law, whole: of two runs of calls, and of two tables that are carried.
pub record Law (m o : Meaning) (cs ds : List Call) (ps : List Place) (fs : List ℕ) (qs : List Place) (gs : List ℕ)
    (p q : Meaning) (table patterns buffer : List ℕ) (r : Result ℕ Fault) (after : List ℕ)
    (table' patterns' buffer' : List ℕ) (s : Result ℕ Fault) (other : List ℕ) : Type 0 where
  pub runs : Runs m o cs ds ps fs qs gs
  pub carriages : Carriages p q table patterns buffer r after table' patterns' buffer' s other
