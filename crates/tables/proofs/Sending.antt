-- The words of a table, one after the other.
use Rattle.std.proofs.Common.{◌≡◌, ℕ, ◌+◌, ◌-◌, ◌*◌, ◌/◌, ◌%◌, ◌^◌, ◌<◌, ◌≤◌, List, [], ◌∷◌, ◌++◌, length, map, drop, get_or, sym, refl, ap, ◌∙◌, subst, inl, inr, ⊎_elim, add-mul, one-mul, arith, shr-shr, length-append, length-drop}
use Rattle.std.specs.List.{range_with_len}
use Rattle.std.proofs.lemmas.List.FromFn.{length-map-range_with_len, get_or-map-range_with_len}
use Rattle.std.proofs.lemmas.List.{get_or-append_right, get_or-drop, ext_get_or}
use Rattle.std.proofs.Math.ListN.{get_or-append}
use Rattle.std.proofs.lemmas.Bool.{cases_lt}
use Rattle.codes.specs.declared.fault.Cause.TheVariants.{NoMessageBits, TableTooLong, TooShort}
use Rattle.codes.specs.Interface.{in_service}
use Rattle.codes.specs.Meaning.{Meaning, Lawful, One, Carries}
use Rattle.codes.proofs.Answering.{service_decided}
use Rattle.codes.proofs.Faults.{Decided}
use Rattle.codes.proofs.Reach.{same_message}
use Rattle.tables.specs.Feed.{Supply, supply, joined}
use Rattle.tables.specs.Sender.{has_bits, words_for, table_fits, list_fits, Words, OneSending}
use Rattle.tables.specs.Stream.{stream, message_at, messages_for}
use Rattle.tables.proofs.Joined.{message_is, message_below}
use Rattle.codes.proofs.Faults.{one_transition}

-- the words of a list whose first ones were written, each by its message
pub words_written : {m : Meaning} (table before items : List ℕ) (k count : ℕ) → k ≡ m.k → count ≡ messages_for k (length table) → count ≤ length before → length items ≡ count → ((i : ℕ) → i < length items → Carries m (message_at k table i) (get_or items i 0)) → Words m table before (items ++ drop count before)
words_written {m} table before items k count width is room size each =
    let rest = drop count before in
    let same : count ≡ words_for m table = is ∙ ap (λ (x : ℕ). messages_for x (length table)) width in
    record {
      count = length-append items rest ∙ omega (arith, length-drop count before);
      each = λ i low.
          let first : i < length items = omega arith in
          let word : get_or (items ++ rest) i 0 ≡ get_or items i 0 = get_or-append items rest 0 i first in
          subst (λ (x : ℕ). Carries m (message_at x table i) (get_or (items ++ rest) i 0)) width
          (subst (λ (x : ℕ). Carries m (message_at k table i) x) (sym word) (each i first));
      rest = λ i past.
          let there : count + (i - count) ≡ i = omega arith in
          get_or-append_right items rest count i 0 size (omega arith) ∙ get_or-drop count before (i - count) 0
          ∙ ap (λ (x : ℕ). get_or before x 0) there;
    }

-- ---- the messages drawn from the stream

-- once i messages are drawn, the rest of the stream is left
abbrev pub Remaining : ℕ → List ℕ → ℕ → Supply → Type 0
Remaining k table i feed = feed ≡ supply (joined 8 (stream table) / 2 ^ (i * k)) 8

module _ (k : ℕ) (table : List ℕ) (i : ℕ) (before : Supply) (so : Remaining k table i before) where
  pub remaining_less : (after : Supply) → after ≡ supply (before.left / 2 ^ k) before.width → Remaining k table (i + 1) after
  remaining_less after e =
      let less : joined 8 (stream table) / 2 ^ (i * k) / 2 ^ k ≡ joined 8 (stream table) / 2 ^ ((i + 1) * k) =
      shr-shr (joined 8 (stream table)) (i * k) k
      ∙ ap (λ (x : ℕ). joined 8 (stream table) / 2 ^ x) (sym (add-mul i 1 k ∙ ap (λ (x : ℕ). i * k + x) (one-mul k))) in
      e ∙ ap (λ (s : Supply). supply (s.left / 2 ^ k) s.width) so ∙ ap (λ (x : ℕ). supply x 8) less

  pub next_message : (a : ℕ) → a ≡ before.left % 2 ^ k → a ≡ message_at k table i
  next_message a e = e ∙ ap (λ (s : Supply). s.left % 2 ^ k) so ∙ sym (message_is k table i)

-- ---- one answer and one list

pub bits_decided : (m : Meaning) → Decided (has_bits m)
bits_decided m = record {
  named = (NoMessageBits, refl);
  either = ⊎_elim (λ h. inl h) (λ h. inr (omega arith)) (cases_lt 0 m.k);
  not_both = λ p q. omega arith;
}

table_decided : (m : Meaning) (table : List ℕ) → Decided (table_fits m table)
table_decided m table = record {
  named = (TableTooLong, refl);
  either = ⊎_elim (λ h. inr h) (λ h. inl h) (cases_lt 256 (words_for m table));
  not_both = λ p q. omega arith;
}

list_decided : (m : Meaning) (table list : List ℕ) → Decided (list_fits m table list)
list_decided m table list = record {
  named = (TooShort, refl);
  either = ⊎_elim (λ h. inr h) (λ h. inl h) (cases_lt (length list) (words_for m table));
  not_both = λ p q. omega arith;
}

module _ {m : Meaning} (law : Lawful m) (table before : List ℕ) where
  same_words : (xs ys : List ℕ) → Words m table before xs → Words m table before ys → xs ≡ ys
  same_words xs ys p q =
      ext_get_or 0 xs ys (p.count ∙ sym q.count)
      (λ i l.
      ⊎_elim
      (λ low.
      let a = p.each i low in
      let b = q.each i low in
      same_message law (get_or xs i 0) (get_or ys i 0) a.0 b.0 (a.1 ∙ sym b.1))
      (λ past. p.rest i past ∙ sym (q.rest i past))
      (cases_lt i (words_for m table)))

  one_words : words_for m table ≤ length before → One {A = ℕ × List ℕ} (λ x. (x.0 ≡ words_for m table) × Words m table before x.1)
  one_words room =
      let count = words_for m table in
      let encoded : (i : ℕ) → (v : ℕ) × Carries m (message_at m.k table i) v =
      λ i. let found = law.encodes (message_at m.k table i) (message_below m.k table i) in (found.0, found.1) in
      let word : ℕ → ℕ = λ i. (encoded i).0 in
      let items = map word (range_with_len 0 count) in
      let size : length items ≡ count = length-map-range_with_len word 0 count in
      let words : Words m table before (items ++ drop count before) =
      words_written table before items m.k count refl refl room size
      (λ i l.
      let is : get_or items i 0 ≡ word i = get_or-map-range_with_len word 0 count i i 0 (omega arith) (omega arith) in
      subst (Carries m (message_at m.k table i)) (sym is) (encoded i).1) in (
        (count, items ++ drop count before),
        (refl, words),
        λ x p.
            ap (λ (c : ℕ). (c, x.1)) p.0 ∙ ap (λ (ws : List ℕ). (count, ws)) (same_words x.1 (items ++ drop count before) p.1 words),
      )

pub one_sending : OneSending
one_sending m law table before =
    one_transition before (λ c after. (c ≡ words_for m table) × Words m table before after)
    (in_service m 0 ∷ has_bits m ∷ table_fits m table ∷ list_fits m table before ∷ [])
    (service_decided law 0, λ _. (bits_decided m, λ _. (table_decided m table, λ _. (list_decided m table before, λ _. tt))))
    (λ p. one_words law table before p.1.1.1.0)
