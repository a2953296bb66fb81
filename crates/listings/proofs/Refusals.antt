-- With which numbers a line is refused, and which lines with 13.
use Rattle.std.proofs.Common.{◌≡◌, ℕ, Bool, true, false, cond, ◌⊎◌, List, Ok, Err, Result, refl, ap, ◌∙◌, subst, inl, inr, arith}
use Rattle.codes.specs.declared.fault.Cause.{Cause}
use Rattle.codes.specs.declared.fault.Fault.{Fault}
use Rattle.codes.specs.Fault.{number}
use Rattle.codes.specs.Meaning.{Meaning}
use Rattle.cyclic.specs.declared.name.Name.{Name}
use Rattle.cyclic.specs.declared.name.Name.TheVariants.{G23, Q31, Q41}
use Rattle.layers.specs.Parity.{with_parity}
use Rattle.link.specs.declared.receiver.Answer.{Answer}
use Rattle.link.specs.declared.receiver.Answer.TheVariants.{Settled as settled_at, Gap as gap_at}
use Rattle.link.specs.declared.report.Place.{Place}
use Rattle.link.specs.Receiver.{Offered, Repeated}
use Rattle.runs.specs.declared.calls.Call.{Call}
use Rattle.runs.specs.declared.calls.Call.TheVariants.{Offer, Repeat, Clear}
use Rattle.lines.specs.declared.reply.Reply.{Reply}
use Rattle.lines.specs.declared.reply.Reply.TheVariants.{Refused}
use Rattle.lines.specs.Command.{StandsForNone}
use Rattle.listings.specs.Choice.{plain_named, named}
use Rattle.listings.specs.Listing.{Held}
use Rattle.listings.specs.Line.{reply_of, Does, Replied, Thirteen, Refusals}

-- ---- commands that are refused

module _ (m : Meaning) where
  -- with 1 out of service only, or with 2, 5 or 6
  ByReceiver : ℕ → Type 0
  ByReceiver i = ((i ≡ 1) × (m.serves ≡ false)) ⊎ ((i ≡ 2) ⊎ ((i ≡ 5) ⊎ (i ≡ 6)))

  by_receiver_13 : (i : ℕ) → ByReceiver i → i ≡ 13 → ⊥
  unfolding ByReceiver
  by_receiver_13 i (inl a) h = omega (arith, a.0, h)
  by_receiver_13 i (inr (inl a)) h = omega (arith, a, h)
  by_receiver_13 i (inr (inr (inl a))) h = omega (arith, a, h)
  by_receiver_13 i (inr (inr (inr a))) h = omega (arith, a, h)

  offer_refused : (w : ℕ) (ps after : List Place) (f : Fault) → Offered m w ps (Err f) after → ByReceiver (number f.cause)
  unfolding ByReceiver
  offer_refused w ps after f (inl a, same) = inl (a.1.0, a.0)
  offer_refused w ps after f (inr (p, inl a), same) = inr (inl a.1.0)
  offer_refused w ps after f (inr (p, inr (q, inl a)), same) = inr (inr (inl a.1.0))
  offer_refused w ps after f (inr (p, inr (q, inr (r, none))), same) = absurd none

  repeat_refused : (p w : ℕ) (ps after : List Place) (f : Fault) → Repeated m p w ps (Err f) after → ByReceiver (number f.cause)
  unfolding ByReceiver
  repeat_refused p w ps after f (inl a, same) = inl (a.1.0, a.0)
  repeat_refused p w ps after f (inr (s, inl a), same) = inr (inl a.1.0)
  repeat_refused p w ps after f (inr (s, inr (q, inl a)), same) = inr (inr (inr a.1.0))
  repeat_refused p w ps after f (inr (s, inr (q, inr (r, none))), same) = absurd none

  answer_refused : (P : Result Answer Fault → Type 0) → ((f : Fault) → P (Err f) → ByReceiver (number f.cause)) → (r : Result Answer Fault) (c : Cause) → P r → Refused c ≡ reply_of r → ByReceiver (number c)
  answer_refused P refused (Ok (settled_at p a e)) c heard same = absurd (cc)
  answer_refused P refused (Ok (gap_at p)) c heard same = absurd (cc)
  answer_refused P refused (Err f) c heard same =
      let cause : f.cause ≡ c = cc in
      subst (λ (x : Cause). ByReceiver (number x)) cause (refused f heard)

  command_refused : (d : Call) (before after : Held) (c : Cause) → Does m d before (Refused c) after → ByReceiver (number c)
  command_refused (Offer w) before after c (r, offered, keeps, e) =
      answer_refused (λ s. Offered m w before.places s after.places) (offer_refused w before.places after.places) r c offered e
  command_refused (Repeat p w) before after c (r, repeated, keeps, e) =
      answer_refused (λ s. Repeated m p w before.places s after.places) (repeat_refused p w before.places after.places) r c repeated e
  command_refused Clear before after c (e, places, flips) = absurd (cc)

-- ---- 13

only_then : (m : Meaning) (line : List ℕ) (before after : Held) (c : Cause) → Replied m line before (Refused c) after → number c ≡ 13 → StandsForNone line
only_then m line before after c (inl (d, stands, done)) h = absurd (by_receiver_13 m (number c) (command_refused m d before after c done) h)
only_then m line before after c (inr (none, passes)) h = none

always : (m : Meaning) (line : List ℕ) (before after : Held) (reply : Reply) → Replied m line before reply after → StandsForNone line → (c : Cause) × (number c ≡ 13) × (reply ≡ Refused c)
always m line before after reply (inl (d, stands, done)) none = absurd (none d stands)
always m line before after reply (inr (other, passes)) none = passes.0

pub thirteen : Thirteen
thirteen = record { only_then = only_then; always = always }

-- ---- the codes that a first line names are in service

serves : (n : Name) (p : Bool) → (cond p (with_parity (plain_named n)) (plain_named n)).serves ≡ true
serves G23 true = refl
serves G23 false = refl
serves Q31 true = refl
serves Q31 false = refl
serves Q41 true = refl
serves Q41 false = refl

in_service : (m : Meaning) → m.serves ≡ true → (i : ℕ) → ByReceiver m i → (i ≡ 2) ⊎ ((i ≡ 5) ⊎ ((i ≡ 6) ⊎ (i ≡ 13)))
unfolding ByReceiver
in_service m so i (inl a) = let out = a.1 in absurd (cc)
in_service m so i (inr (inl a)) = inl a
in_service m so i (inr (inr (inl a))) = inr (inl a)
in_service m so i (inr (inr (inr a))) = inr (inr (inl a))

pub refusals : Refusals
refusals h line before after c (inl (d, stands, done)) = in_service (named h) (serves h.name h.parity) (number c) (command_refused (named h) d before after c done)
refusals h line before after c (inr (none, passes)) =
    let same = passes.0.2 in
    let cause : c ≡ passes.0.0 = cc in
    inr (inr (inr (ap number cause ∙ passes.0.1)))
