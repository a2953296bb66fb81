-- Spelling leaves one answer and one buffer.
use Rattle.std.proofs.Common.{◌≡◌, ℕ, suc, ◌+◌, ◌*◌, ◌/◌, ◌%◌, ◌^◌, ◌<◌, ◌⊎◌, List, [], ◌∷◌, ◌++◌, length, drop, refl, ap, ◌∙◌, inl, inr, ⊎_elim, suc-le-suc, zero-lt-suc, arith}
use Rattle.std.proofs.lemmas.List.Elements.{All-nil, All-cons}
use Rattle.std.proofs.lemmas.Bool.{cases_eq, cases_lt}
use Rattle.codes.specs.declared.fault.Cause.TheVariants.{NotATable, TooShort}
use Rattle.codes.specs.Interface.{in_service}
use Rattle.codes.specs.Meaning.{One}
use Rattle.codes.proofs.Answering.{service_decided}
use Rattle.codes.proofs.Faults.{Decided}
use Rattle.tables.specs.Feed.{joined, Below, NoTable}
use Rattle.tables.specs.Sender.{has_bits}
use Rattle.tables.specs.Speller.{TableOf, is_table, buffer_fits, OneSpelling}
use Rattle.tables.specs.Stream.{messages_for}
use Rattle.tables.proofs.Sending.{bits_decided}
use Rattle.tables.proofs.Spelling.{spelt, one_table, no_table, too_wide, spellable_table}
use Rattle.codes.proofs.Faults.{one_transition}

-- every message has at most w bits, or not
below_or_wide : (w : ℕ) (ss : List ℕ) → Below w ss ⊎ ¬ (Below w ss)
below_or_wide w [] = inl (All-nil (λ s. s < 2 ^ w))
below_or_wide w (s ∷ ss) =
    ⊎_elim
    (λ low. ⊎_elim (λ rest. inl (All-cons (λ s. s < 2 ^ w) s ss low rest)) (λ wide. inr (λ all. wide (λ i d l. all (suc i) d (suc-le-suc l)))) (below_or_wide w ss))
    (λ high. inr (λ all. let low = all 0 0 (zero-lt-suc (length ss)) in omega arith))
    (cases_lt s (2 ^ w))

module _ {k : ℕ} (some : 0 < k) (messages : List ℕ) where
  abbrev told : ℕ
  told = joined k messages % 65536

  abbrev Found : Type 0
  Found = (T : List ℕ) × TableOf k messages T

  tested : Below k messages → Found ⊎ NoTable k messages
  tested below =
      ⊎_elim
      (λ count.
      ⊎_elim
      (λ filling. inl (spelt (joined k messages) told, spellable_table (record { below = below; told = refl; count = count; filling = filling })))
      (λ other. inr (no_table some messages refl (λ so. other so.filling)))
      (cases_eq (joined k messages / 2 ^ (8 * (told + 2))) 0))
      (λ other. inr (no_table some messages refl (λ so. other so.count)))
      (cases_eq (length messages) (messages_for k told))

  -- some table has these messages, or none has
  pub table_decided : Decided (is_table k messages)
  table_decided = record {
    named = (NotATable, refl);
    either = ⊎_elim tested (λ wide. inr (too_wide some messages wide)) (below_or_wide k messages);
    not_both = λ p q. q p.0 p.1;
  }

  module _ (buffer : List ℕ) (found : Found) where
    buffer_decided : Decided (buffer_fits k messages buffer)
    buffer_decided = record {
      named = (TooShort, refl);
      either = ⊎_elim (λ short. inr (found.0, found.1, short))
          (λ room. inl (λ T so. omega (arith, room, ap length (one_table some so found.1))))
          (cases_lt (length buffer) (length found.0));
      not_both = λ p q. omega (arith, p q.0 q.1, q.2);
    }

    one_written : One {A = ℕ × List ℕ} (λ x. (T : List ℕ) × TableOf k messages T × (x.0 ≡ length T) × (x.1 ≡ T ++ drop (length T) buffer))
    one_written =
        let T = found.0 in (
          (length T, T ++ drop (length T) buffer),
          (T, found.1, refl, refl),
          λ x p.
              let same : p.0 ≡ T = one_table some p.1 found.1 in
              ap (λ (c : ℕ). (c, x.1)) p.2 ∙ ap (λ (xs : List ℕ). (length p.0, xs)) p.3
              ∙ ap (λ (U : List ℕ). (length U, U ++ drop (length U) buffer)) same,
        )

pub one_spelling : OneSpelling
one_spelling m law messages buffer =
    one_transition buffer (λ c after. (T : List ℕ) × TableOf m.k messages T × (c ≡ length T) × (after ≡ T ++ drop (length T) buffer))
    (in_service m 0 ∷ has_bits m ∷ is_table m.k messages ∷ buffer_fits m.k messages buffer ∷ [])
    (service_decided law 0, λ _. (bits_decided m, λ some. (table_decided some messages, λ found. (buffer_decided some messages buffer found, λ _. tt))))
    (λ p. one_written p.1.0 messages buffer p.1.1.0)
