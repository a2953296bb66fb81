-- Words that are offered one after the other.
use Rattle.std.proofs.Common.{ℕ, ◌+◌, ◌<◌, ◌≤◌, List, length, get_or, drop, Ok, Err, Result, sym, refl, subst, inl, inr}
use Rattle.std.proofs.lemmas.List.{drop_more, drop_all}
use Rattle.codes.specs.declared.fault.Fault.{Fault}
use Rattle.codes.specs.Meaning.{Meaning}
use Rattle.link.specs.declared.receiver.Answer.{Answer}
use Rattle.link.specs.declared.report.Place.{Place}
use Rattle.link.specs.Receiver.{Offered}
use Rattle.capi.specs.Transfer.{HeardAll}

-- what came of the words from the i-th on, by the answer to the i-th
module _ (m : Meaning) (words : List ℕ) (i : ℕ) (ps : List Place) (inside : i < length words) where
  pub heard_more : (a : Answer) (between : List Place) → Offered m (get_or words i 0) ps (Ok a) between
      → (r : Result (Unit {0}) Fault) (after : List Place) → HeardAll m between (drop (i + 1) words) r after → HeardAll m ps (drop i words) r after
  heard_more a between offered r after rest = subst (λ l. HeardAll m ps l r after) (sym (drop_more words i 0 inside)) (inl (a, between, offered, rest))

  pub heard_stop : (f : Fault) (after : List Place) → Offered m (get_or words i 0) ps (Err f) after → HeardAll m ps (drop i words) (Err f) after
  heard_stop f after refused = subst (λ l. HeardAll m ps l (Err f) after) (sym (drop_more words i 0 inside)) (inr (f, refl, refused))

pub heard_end : (m : Meaning) (words : List ℕ) (i : ℕ) (ps : List Place) → length words ≤ i → HeardAll m ps (drop i words) (Ok tt) ps
heard_end m words i ps h = subst (λ l. HeardAll m ps l (Ok tt) ps) (sym (drop_all i words h)) refl
