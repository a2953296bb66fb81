-- Every reply has at most 31 bytes: places are below 256, and words of a code in service below 2 ^ 42.
use Rattle.std.proofs.Common.{ℕ, ◌-◌, ◌^◌, ◌<◌, ◌≤◌, List, length, Ok, Err, sym, subst, inl, inr, lt_of_lt_of_le, lt_of_le_of_lt, div-le_self, arith, pow_mono}
use lib.Bits.{bit_xor, xor_lt}
use Rattle.std.proofs.lemmas.Option.{slice_get_within}
use Rattle.codes.specs.Meaning.{Meaning, Lawful}
use Rattle.link.specs.declared.receiver.Answer.{Answer}
use Rattle.link.specs.declared.receiver.Answer.TheVariants.{Settled as settled_at, Gap as gap_at}
use Rattle.link.specs.Receiver.{Answers}
use Rattle.link.specs.declared.report.Place.TheVariants.{Gap}
use Rattle.lines.specs.declared.reply.Reply.{Reply}
use Rattle.lines.specs.Reply.{reply_text}
use Rattle.lines.proofs.Replies.{Usual, short_reply}
use Rattle.runs.specs.declared.calls.Call.{Call}
use Rattle.runs.specs.declared.calls.Call.TheVariants.{Offer, Repeat, Clear}
use Rattle.listings.specs.declared.listing.Listing.{Listing}
use Rattle.listings.specs.Lawfulness.{choice_lawful, few_places}
use Rattle.listings.specs.Listing.{meaning_in, held_in, Held}
use Rattle.listings.specs.Line.{reply_of, Does, Replied}

-- a word of n bits, where n is at most 42
narrow : (n w : ℕ) → n ≤ 42 → w < 2 ^ n → w < 2 ^ 44
narrow n w h l = let up : n ≤ 44 = omega arith in lt_of_lt_of_le l (pow_mono up)

module _ (m : Meaning) (law : Lawful m) (w : ℕ) (short : m.n ≤ 42) (fits : w < 2 ^ m.n) where
  usual_answer : (p : ℕ) → p < 256 → (a : Answer) → Answers m w p a → Usual (reply_of (Ok a))
  usual_answer p low (settled_at q a e) (same, (v, within, message, pattern)) =
      let below : v < 2 ^ m.n = law.below v within.0 in (
        omega (arith, same, low),
        subst (λ x. x < 2 ^ 44) (sym message) (lt_of_le_of_lt (div-le_self v (2 ^ (m.n - m.k))) (narrow m.n v short below)),
        subst (λ x. x < 2 ^ 44) (sym pattern) (narrow m.n (bit_xor w v) short (xor_lt m.n w v fits below)),
      )
  usual_answer p low (gap_at q) (same, beyond) = omega (arith, same, low)

module _ (m : Meaning) (law : Lawful m) (before : Held) (few : length before.places ≤ 256) where
  usual_done : (c : Call) (reply : Reply) (after : Held) → Does m c before reply after → Usual reply
  usual_done (Offer w) reply after (Ok a, offered, keeps, e) =
      let passed = offered.0 in
      subst Usual (sym e) (usual_answer m law w (law.short passed.0) passed.1.0 (length before.places) passed.1.1.0 a offered.1.0)
  usual_done (Offer w) reply after (Err f, offered, keeps, e) = subst Usual (sym e) tt
  usual_done (Repeat p w) reply after (Ok a, repeated, keeps, e) =
      let passed = repeated.0 in
      let there = slice_get_within before.places p Gap passed.1.1.0 in
      subst Usual (sym e) (usual_answer m law w (law.short passed.0) passed.1.0 p (omega arith) a repeated.1.0)
  usual_done (Repeat p w) reply after (Err f, repeated, keeps, e) = subst Usual (sym e) tt
  usual_done Clear reply after (e, places, flips) = subst Usual (sym e) tt

  short_replied : (line : List ℕ) (reply : Reply) (after : Held) → Replied m line before reply after → length (reply_text reply) ≤ 31
  short_replied line reply after (inl (c, stands, done)) = short_reply reply (usual_done c reply after done)
  short_replied line reply after (inr (none, passes)) = short_reply reply (subst Usual (sym passes.0.2) tt)

-- so of a listing, whose code keeps the laws
pub short_line : (l : Listing) (line : List ℕ) (reply : Reply) (after : Held) → Replied (meaning_in l) line (held_in l) reply after → length (reply_text reply) ≤ 31
short_line l line reply after = short_replied (meaning_in l) (choice_lawful l.receiver.code) (held_in l) (few_places l.receiver.report) line reply after
