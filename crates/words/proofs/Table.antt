-- The table of checked words stands.
use Rattle.std.proofs.Common.{◌≡◌, ℕ, zero, suc, ◌%◌, ◌<◌, ◌≤◌, [], ◌∷◌, get_or, sym, refl, ◌∙◌, subst, arith, lit<, lit≤}
use lib.Count.{ones}
use Rattle.std.proofs.lemmas.List.{get_or_past}
use Rattle.codes.specs.Meaning.{Lawful, Carries}
use Rattle.cyclic.specs.Polynomial.{horner_in, horner, scale, times_x, remainder}
use Rattle.cyclic.specs.Sound.{weight, spans}
use Rattle.cyclic.specs.Generator.{code_of, g23, q31, q41}
use Rattle.cyclic.specs.Codewords.{lawful}
use Rattle.cyclic.specs.Span.{weight_ones}
use Rattle.cyclic.proofs.Three.{g23_holds, q31_holds, q41_holds}
use Rattle.tables.specs.Stream.{number_of, message_at}
use Rattle.words.specs.Words.{encodes, corrects, sends, Stands, Stand, words}
use Rattle.words.proofs.Rows.{encoding, correcting, alone, refusing, encodes_row, corrects_row, refuses_row}
use Rattle.words.proofs.LayerRows.{parity_encodes, parity_refuses, parity_corrects, shortened_corrects, shortened_refuses}

-- the weights that the rows need
odd : (w : ℕ) → weight w % 2 ≡ 1 → ones w % 2 ≡ 1
odd w e = rw (← weight_ones w) e

light : (w t : ℕ) → weight w ≤ t → ones w ≤ t
light w t h = rw (← weight_ones w) h

heavy : (w t : ℕ) → t < weight w → t < ones w
heavy w t h = rw (← weight_ones w) h

g23_lawful : Lawful (code_of g23)
g23_lawful = lawful g23 g23_holds

one : Stands (encodes (code_of g23) 1 0xae3)
unfolding horner_in horner scale times_x remainder encoding
one = encodes_row g23 g23_holds 1 0xae3 tt

four_ones : Stands (corrects (code_of g23) 0xf 0x402 0x201200)
unfolding horner_in horner scale times_x remainder weight correcting
four_ones = corrects_row g23 g23_holds 0xf 0x402 0x201200 tt

fifty : Stands (encodes (code_of g23) 0x50 0x2868a)
unfolding horner_in horner scale times_x remainder encoding
fifty = encodes_row g23 g23_holds 0x50 0x2868a tt

each_word : (i : ℕ) → i < 2 → Carries (code_of g23) (message_at 12 (5 ∷ []) i) (get_or (0xae3 ∷ 0x2868a ∷ []) i 0)
unfolding number_of
each_word zero h = one.1
each_word (suc zero) h = fifty.1
each_word (suc (suc i)) h = absurd (omega arith)

one_byte : Stands (sends (code_of g23) (5 ∷ []) (0xae3 ∷ 0x2868a ∷ []))
one_byte before count = (
  (refl, (lit< tt, (lit≤ tt, (omega (arith, count), tt)))),
  (
    refl,
    record {
      count = sym count;
      each = each_word;
      rest = λ i past. get_or_past (0xae3 ∷ 0x2868a ∷ []) i 0 past ∙ sym (get_or_past before i 0 (subst (λ (x : ℕ). x ≤ i) (sym count) past));
    },
  ),
)

pub all_stand : Stand words
unfolding horner_in horner scale times_x remainder weight spans encoding correcting alone refusing
all_stand = (
  one,
  (
    encodes_row g23 g23_holds 0xfff 0x7fffff tt,
    (
      four_ones,
      (
        refuses_row q31 q31_holds 0xf tt,
        (
          corrects_row q31 q31_holds 0x40006308 1 0x40008001 tt,
          (
            corrects_row q41 q41_holds 0x1b4e54 1 0xf tt,
            (
              corrects_row q41 q41_holds 0x700001 0 0x700001 tt,
              (
                parity_encodes g23_lawful (lit≤ tt) 1 0xae3 1 one (odd 0xae3 refl),
                (
                  parity_refuses g23_lawful (lit≤ tt) 0x1e 0x402 0x201200 1 four_ones (odd 0x20120f refl) (lit< tt) (heavy 0x402401 3 (lit< tt)),
                  (
                    parity_corrects g23_lawful (lit≤ tt) 0x1f 0x402 0x201200 1 four_ones (odd 0x20120f refl) (lit< tt) 0x402400 refl (light 0x402400 3 (lit≤ tt)),
                    (
                      shortened_corrects g23_lawful 1 0xf 0x402 0x201200 four_ones (lit< tt) (lit< tt),
                      (shortened_refuses g23_lawful 2 0xf 0x402 0x201200 four_ones (lit< tt) (lit≤ tt), (one_byte, tt)),
                    ),
                  ),
                ),
              ),
            ),
          ),
        ),
      ),
    ),
  ),
)
