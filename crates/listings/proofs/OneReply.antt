-- A line has one reply, and leaves one report.
use Rattle.std.proofs.Common.{◌≡◌, ℕ, List, [], ◌∷◌, ◌++◌, length, drop, set, Ok, Err, Result, refl, ap, ◌∙◌, subst, inl, inr, ⊎_elim, arith}
use Rattle.std.proofs.lemmas.Bool.{cases_lt}
use Rattle.codes.specs.declared.fault.Cause.TheVariants.{TooShort, BadLine}
use Rattle.codes.specs.declared.fault.Fault.{Fault}
use Rattle.codes.specs.Meaning.{Meaning, Lawful, One}
use Rattle.codes.proofs.Faults.{Decided, one_transition, numbers_distinct}
use Rattle.link.specs.declared.receiver.Answer.{Answer}
use Rattle.link.specs.declared.report.Place.{Place}
use Rattle.link.specs.Receiver.{Offered, Repeated, Keeps, flips_by}
use Rattle.link.proofs.Transitions.{one_offer, one_repeat}
use Rattle.runs.specs.declared.calls.Call.{Call}
use Rattle.runs.specs.declared.calls.Call.TheVariants.{Offer, Repeat, Clear}
use Rattle.lines.specs.declared.reply.Reply.{Reply}
use Rattle.lines.specs.declared.reply.Reply.TheVariants.{Cleared, Refused}
use Rattle.lines.specs.Command.{ReadAs}
use Rattle.lines.specs.Reply.{reply_text}
use Rattle.lines.proofs.Commands.{grammar}
use Rattle.listings.specs.Listing.{Held}
use Rattle.listings.specs.Line.{reply_of, Does, Replied, line_fits, OneLine}

abbrev held : List Place → List ℕ → Held
held ps fs = record { places = ps; flips = fs }

-- the flips after an answer
kept : Result Answer Fault → List ℕ → (Answer → List ℕ) → List ℕ
kept (Ok a) before change = change a
kept (Err f) before change = before

kept_keeps : (r : Result Answer Fault) (before : List ℕ) (change : Answer → List ℕ) → Keeps r before change (kept r before change)
unfolding kept
kept_keeps (Ok a) before change = refl
kept_keeps (Err f) before change = refl

keeps_kept : (r : Result Answer Fault) (before : List ℕ) (change : Answer → List ℕ) (after : List ℕ) → Keeps r before change after → after ≡ kept r before change
unfolding kept
keeps_kept (Ok a) before change after h = h
keeps_kept (Err f) before change after h = h

-- one answer and one list of places make one reply and one report
one_heard : (P : Result Answer Fault → List Place → Type 0) (fs : List ℕ) (change : Answer → List ℕ) → One {A = Result Answer Fault × List Place} (λ x. P x.0 x.1)
    → One {A = Reply × Held} (λ x. (r : Result Answer Fault) × P r x.1.places × Keeps r fs change x.1.flips × (x.0 ≡ reply_of r))
one_heard P fs change ((r, ps), holds, only) = (
  (reply_of r, held ps (kept r fs change)),
  (r, holds, kept_keeps r fs change, refl),
  λ x h.
      let same = only (h.0, x.1.places) h.1 in
      let answer : h.0 ≡ r = ap (λ (y : Result Answer Fault × List Place). y.0) same in
      let places : x.1.places ≡ ps = ap (λ (y : Result Answer Fault × List Place). y.1) same in
      let reply : x.0 ≡ reply_of r = h.3 ∙ ap reply_of answer in
      let flips : x.1.flips ≡ kept r fs change = keeps_kept h.0 fs change x.1.flips h.2 ∙ ap (λ y. kept y fs change) answer in
      λ i. (reply i, held (places i) (flips i)),
)

module _ (m : Meaning) (law : Lawful m) (before : Held) where
  one_done : (c : Call) → One {A = Reply × Held} (λ x. Does m c before x.0 x.1)
  one_done (Offer w) = one_heard (Offered m w before.places) before.flips (λ a. before.flips ++ flips_by a ∷ []) (one_offer m law w before.places)
  one_done (Repeat p w) = one_heard (Repeated m p w before.places) before.flips (λ a. set before.flips p (flips_by a)) (one_repeat m law p w before.places)
  one_done Clear = ((Cleared, held [] []), (refl, refl, refl), λ x h. λ i. (h.0 i, held (h.1 i) (h.2 i)))

  by_reading : (line : List ℕ) (r : Result Call Fault) → ReadAs line r → One {A = Reply × Held} (λ x. Replied m line before x.0 x.1)
  by_reading line (Ok c) h =
      let one = one_done c in (
        one.0,
        inl (c, h.1, one.1),
        λ x q.
            ⊎_elim
            (λ a. one.2 x (subst (λ d. Does m d before x.0 x.1) (grammar.one_command line a.0 c a.1 h.1) a.2))
            (λ a. absurd (a.0 c h.1))
            q,
      )
  by_reading line (Err f) h =
      let none = (grammar.only_then line f h).0 in (
        (Refused BadLine, before),
        inr (none, ((BadLine, refl, refl), refl)),
        λ x q.
            ⊎_elim
            (λ a. absurd (none a.0 a.1))
            (λ a.
            let reply : x.0 ≡ Refused BadLine = a.1.0.2 ∙ ap Refused (numbers_distinct a.1.0.0 BadLine a.1.0.1) in
            let same : x.1 ≡ before = a.1.1 in
            λ i. (reply i, same i))
            q,
      )

  one_replied : (line : List ℕ) → One {A = Reply × Held} (λ x. Replied m line before x.0 x.1)
  one_replied line = by_reading line (grammar.one_outcome line).0 (grammar.one_outcome line).1

fits_decided : (buffer : List ℕ) → Decided (line_fits buffer)
fits_decided buffer =
    record {
      named = (TooShort, refl);
      either = ⊎_elim (λ short. inr short) (λ room. inl room) (cases_lt (length buffer) 32);
      not_both = λ p q. omega (arith, p, q);
    }

pub one_line : OneLine
one_line m law line before =
    one_transition before
    (λ count after. (reply : Reply) × Replied m line before.0 reply after.0 × (count ≡ length (reply_text reply)) × (after.1 ≡ reply_text reply ++ drop (length (reply_text reply)) before.1))
    (line_fits before.1 ∷ []) (fits_decided before.1, λ _. tt)
    (λ _.
    let one = one_replied m law before.0 line in
    let text : Reply → List ℕ = λ reply. reply_text reply ++ drop (length (reply_text reply)) before.1 in (
      (length (reply_text one.0.0), (one.0.1, text one.0.0)),
      (one.0.0, one.1, refl, refl),
      λ x h.
          let same = one.2 (h.0, x.1.0) h.1 in
          let reply : h.0 ≡ one.0.0 = ap (λ (y : Reply × Held). y.0) same in
          let after : x.1.0 ≡ one.0.1 = ap (λ (y : Reply × Held). y.1) same in
          let count : x.0 ≡ length (reply_text one.0.0) = h.2 ∙ ap (λ y. length (reply_text y)) reply in
          let buffer : x.1.1 ≡ text one.0.0 = h.3 ∙ ap text reply in
          λ i. (count i, (after i, buffer i)),
    ))
