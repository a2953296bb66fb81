-- How long a reply is, and that a buffer is left one outcome.
use Rattle.std.proofs.Common.{◌≡◌, ℕ, ◌^◌, ◌<◌, ◌≤◌, List, [], ◌∷◌, ◌++◌, length, drop, codes, sym, refl, ap, ◌∙◌, inl, inr, ⊎_elim, arith}
use Rattle.std.specs.List.{AllByRecursion}
use Rattle.std.proofs.ByRecursion.{All-append, All-weaker}
use Rattle.std.proofs.lemmas.List.{append_assoc, append_cancel_right, length-append}
use Rattle.std.proofs.lemmas.Bool.{cases_lt}
use Rattle.codes.specs.declared.fault.Cause.{Cause}
use Rattle.codes.specs.declared.fault.Cause.TheVariants.{OutOfService, WordTooLong, MessageTooLong, BeyondReach, ReportFull, NotAGap, NoMessageBits, TableTooLong, TooShort, GapInReport, NotATable, BadRecord, BadLine}
use Rattle.codes.specs.Fault.{number}
use Rattle.codes.proofs.Faults.{Decided, one_transition, numbers_distinct}
use Rattle.lines.specs.declared.reply.Reply.{Reply}
use Rattle.lines.specs.declared.reply.Reply.TheVariants.{Settled, Gap, Cleared, Refused}
use Rattle.lines.specs.Number.{text_of}
use Rattle.lines.specs.Reply.{line_feed, field, reply_words, reply_text, text_fits, OneWriting, Told}
use Rattle.lines.specs.Token.{space, NoSpace}
use Rattle.lines.proofs.Numbers.{count_most, text_writes}
use Rattle.lines.proofs.Commands.{first}
use Rattle.lines.proofs.Tokens.{same_cut, same_text_of, writes_high, writes_no_space}

-- ---- one outcome

fits_decided : (reply : Reply) (before : List ℕ) → Decided (text_fits reply before)
fits_decided reply before = record {
  named = (TooShort, refl);
  either = ⊎_elim (λ h. inr h) (λ h. inl h) (cases_lt (length before) (length (reply_text reply)));
  not_both = λ p q. omega arith;
}

pub one_writing : OneWriting
one_writing reply before =
    let text = reply_text reply in
    let after = text ++ drop (length text) before in
    one_transition before (λ c l. (c ≡ length text) × (l ≡ text ++ drop (length text) before)) (text_fits reply before ∷ []) (fits_decided reply before, λ _. tt)
    (λ _. ((length text, after), (refl, refl), λ x p. ap (λ (c : ℕ). (c, x.1)) p.0 ∙ ap (λ (l : List ℕ). (length text, l)) p.1))

-- ---- how long a reply is

cause_below : (c : Cause) → number c < 100
cause_below OutOfService = omega arith
cause_below WordTooLong = omega arith
cause_below MessageTooLong = omega arith
cause_below BeyondReach = omega arith
cause_below ReportFull = omega arith
cause_below NotAGap = omega arith
cause_below NoMessageBits = omega arith
cause_below TableTooLong = omega arith
cause_below TooShort = omega arith
cause_below GapInReport = omega arith
cause_below NotATable = omega arith
cause_below BadRecord = omega arith
cause_below BadLine = omega arith

-- the place is below 1000, message and pattern are below 2 ^ 44
abbrev pub Usual : Reply → Type 0
Usual (Settled place message pattern) = (place < 1000) × (message < 2 ^ 44) × (pattern < 2 ^ 44)
Usual (Gap place) = place < 1000
Usual Cleared = Unit {0}
Usual (Refused cause) = Unit {0}

place_short : (p : ℕ) → p < 1000 → length (field 10 p) ≤ 4
place_short p low = omega (arith, count_most 10 3 p (omega arith) (omega arith) (omega arith))

word_short : (w : ℕ) → w < 2 ^ 44 → length (field 16 w) ≤ 12
word_short w low = omega (arith, count_most 16 11 w (omega arith) (omega arith) (omega arith))

pub short_reply : (reply : Reply) → Usual reply → length (reply_text reply) ≤ 31
short_reply (Settled p m e) so =
    simp length-append (omega (arith, place_short p so.0, word_short m so.1, word_short e so.2))
short_reply (Gap p) so = simp length-append (omega (arith, place_short p so))
short_reply Cleared so = omega arith
short_reply (Refused c) so = simp length-append (omega (arith, place_short (number c) (omega (arith, cause_below c))))

-- ---- replies are told apart by their lines

abbrev NoFeed : List ℕ → Type 0
NoFeed text = AllByRecursion (λ b. b ≡ line_feed → ⊥) text

field_no_feed : (base x : ℕ) → 2 ≤ base → NoFeed (field base x)
field_no_feed base x two = (
  λ e. omega arith,
  All-weaker (λ b. 48 ≤ b) (λ b. b ≡ line_feed → ⊥) (λ b high e. omega arith) (text_of base x) (writes_high (text_writes base (length (text_of base x)) x two (omega arith))),
)

both_no_feed : (s t : List ℕ) → NoFeed s → NoFeed t → NoFeed (s ++ t)
both_no_feed s t p q = All-append (λ b. b ≡ line_feed → ⊥) s t p q

one_line : (reply : Reply) → NoFeed (reply_words reply)
one_line (Settled p m e) =
    both_no_feed (codes "OK" ++ field 10 p ++ field 16 m) (field 16 e)
    (both_no_feed (codes "OK" ++ field 10 p) (field 16 m)
    (both_no_feed (codes "OK") (field 10 p) (λ e. omega arith, (λ e. omega arith, tt)) (field_no_feed 10 p (omega arith))) (field_no_feed 16 m (omega arith)))
    (field_no_feed 16 e (omega arith))
one_line (Gap p) = both_no_feed (codes "GAP") (field 10 p) (λ e. omega arith, (λ e. omega arith, (λ e. omega arith, tt))) (field_no_feed 10 p (omega arith))
one_line Cleared = (λ e. omega arith, (λ e. omega arith, (λ e. omega arith, (λ e. omega arith, (λ e. omega arith, tt)))))
one_line (Refused c) = both_no_feed (codes "NO") (field 10 (number c)) (λ e. omega arith, (λ e. omega arith, tt)) (field_no_feed 10 (number c) (omega arith))

-- the text of a number has no space in it, so what follows it is told from it
text_no_space : (base x : ℕ) → 2 ≤ base → NoSpace (text_of base x)
text_no_space base x two = writes_no_space (text_writes base (length (text_of base x)) x two (omega arith))

cut_number : (base x y : ℕ) (s t : List ℕ) → 2 ≤ base → text_of base x ++ space ∷ s ≡ text_of base y ++ space ∷ t → (x ≡ y) × (s ≡ t)
cut_number base x y s t two e =
    let cut = same_cut (text_of base x) (text_of base y) s t (text_no_space base x two) (text_no_space base y two) e in
    (same_text_of base x y two cut.0, cut.1)

same_settled : (p m e q n f : ℕ) → reply_words (Settled p m e) ≡ reply_words (Settled q n f) → Settled p m e ≡ Settled q n f
same_settled p m e q n f h =
    let joined : text_of 10 p ++ field 16 m ++ field 16 e ≡ text_of 10 q ++ field 16 n ++ field 16 f = ap (drop 3) h in
    let places = cut_number 10 p q (text_of 16 m ++ field 16 e) (text_of 16 n ++ field 16 f) (omega arith)
    (sym (append_assoc (text_of 10 p) (field 16 m) (field 16 e)) ∙ joined ∙ append_assoc (text_of 10 q) (field 16 n) (field 16 f)) in
    let messages = cut_number 16 m n (text_of 16 e) (text_of 16 f) (omega arith) places.1 in
    ap (λ (x : ℕ). Settled x m e) places.0 ∙ ap (λ (x : ℕ). Settled q x e) messages.0 ∙ ap (Settled q n) (same_text_of 16 e f (omega arith) messages.1)

apart : (r s : Reply) → reply_words r ≡ reply_words s → r ≡ s
apart (Settled p m e) (Settled q n f) h = same_settled p m e q n f h
apart (Settled p m e) (Gap q) h = absurd (omega (arith, ap first h))
apart (Settled p m e) Cleared h = absurd (omega (arith, ap first h))
apart (Settled p m e) (Refused d) h = absurd (omega (arith, ap first h))
apart (Gap p) (Settled q n f) h = absurd (omega (arith, ap first h))
apart (Gap p) (Gap q) h = ap Gap (same_text_of 10 p q (omega arith) (ap (drop 4) h))
apart (Gap p) Cleared h = absurd (omega (arith, ap first h))
apart (Gap p) (Refused d) h = absurd (omega (arith, ap first h))
apart Cleared (Settled q n f) h = absurd (omega (arith, ap first h))
apart Cleared (Gap q) h = absurd (omega (arith, ap first h))
apart Cleared Cleared h = refl
apart Cleared (Refused d) h = absurd (omega (arith, ap first h))
apart (Refused c) (Settled q n f) h = absurd (omega (arith, ap first h))
apart (Refused c) (Gap q) h = absurd (omega (arith, ap first h))
apart (Refused c) Cleared h = absurd (omega (arith, ap first h))
apart (Refused c) (Refused d) h = ap Refused (numbers_distinct c d (same_text_of 10 (number c) (number d) (omega arith) (ap (drop 3) h)))

pub told : Told
told = record {
  one_line = one_line;
  apart = λ r s h. apart r s (append_cancel_right (reply_words r) (reply_words s) (line_feed ∷ []) h);
}
