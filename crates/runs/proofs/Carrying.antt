-- Words that are offered in order, and a table that is carried.
use Rattle.std.proofs.Common.{◌≡◌, ℕ, zero, suc, ◌+◌, ◌-◌, ◌*◌, ◌^◌, ◌<◌, ◌≤◌, true, ltb, List, [], ◌∷◌, ◌++◌, map, length, get_or, take, drop, Ok, Err, Result, sym, refl, ap, ◌∙◌, subst, inl, inr, ⊎_elim, suc-le-suc, zero-lt-suc, arith, pow_pos}
use lib.Bits.{bit_xor, xor_lt, xor_comm}
use lib.Count.{ones}
use lib.Seq.{take-append_seam}
use Rattle.std.proofs.lemmas.Nat.{le-div}
use Rattle.std.proofs.lemmas.List.{length_push, length-map, length-take-le, get_or_append_left, get_or-map, get_or_past, get_or_push, get_or-take, ext_get_or}
use Rattle.std.proofs.lemmas.Bool.{cases_lt, cond-true, cond-false, lt-ltb, le-ltb, both_ways}
use Rattle.codes.specs.declared.fault.Fault.{Fault}
use Rattle.codes.specs.Fault.{Refused}
use Rattle.codes.specs.Meaning.{Meaning, Lawful, Carries, Within, message}
use Rattle.codes.specs.Sums.{xor_cancel}
use Rattle.codes.proofs.Reach.{one_within, within_beyond}
use Rattle.link.specs.declared.receiver.Answer.{Answer}
use Rattle.link.specs.declared.report.Place.{Place}
use Rattle.link.specs.declared.report.Place.TheVariants.{Settled, Gap}
use Rattle.tables.specs.Sender.{words_for, Sent}
use Rattle.tables.specs.Speller.{TableOf}
use Rattle.tables.specs.Stream.{Bytes, message_at}
use Rattle.tables.proofs.Spelling.{one_table, has_messages}
use Rattle.link.specs.Receiver.{place_by, flips_by, Offered}
use Rattle.link.specs.Sealed.{first_gap, Holds, Spells}
use Rattle.link.proofs.SpellingPlaces.{settled_same, settled_no_gap}
use Rattle.runs.specs.Book.{Demands}
use Rattle.runs.specs.Law.{spelled, Fair, Carriages}
use Rattle.runs.specs.Steps.{Arriving, Stopped}
use Rattle.runs.specs.Transport.{turned, first_long, carrying, Arrived, Carried, Sendable, Light, Whole, Arrives}
use Rattle.runs.proofs.Following.{answer_demands}

module _ (m : Meaning) (words patterns : List ℕ) where
  pub arriving_none : (ps : List Place) → ps ≡ [] → Arriving m words patterns 0 ps
  arriving_none ps e = record { count = ap length e; fits = λ j l. absurd (omega arith); each = λ j l. absurd (omega arith) }

  -- one word more
  pub arriving_more : (i : ℕ) (ps ps' : List Place) (w : ℕ) (a : Answer) → w ≡ bit_xor (get_or words i 0) (turned patterns i)
      → Arriving m words patterns i ps → Offered m w ps (Ok a) ps' → Arriving m words patterns (i + 1) ps'
  arriving_more i ps ps' w a is so o = record {
    count = ap length o.1.1 ∙ length_push ps (place_by a) ∙ ap (λ (x : ℕ). x + 1) so.count;
    fits = λ j l. ⊎_elim (so.fits j) (λ high. subst (λ (x : ℕ). bit_xor (get_or words x 0) (turned patterns x) < 2 ^ m.n) (omega arith) (subst (λ (x : ℕ). x < 2 ^ m.n) is o.0.1.0)) (cases_lt j i);
    each = λ j l.
        ⊎_elim
        (λ low.
        let kept = so.each j low in
        let inside : j < length ps = omega (arith, so.count) in
        (kept.0, subst (λ (x : Place). Demands m (bit_xor (get_or words j 0) (turned patterns j)) x kept.0) (sym (ap (λ (qs : List Place). get_or qs j Gap) o.1.1 ∙ get_or_append_left ps (place_by a ∷ []) Gap j inside)) kept.1))
        (λ high.
        let at : length ps ≡ j = omega (arith, so.count) in
        let here : i ≡ j = omega arith in
        let new : Demands m (bit_xor (get_or words i 0) (turned patterns i)) (place_by a) (flips_by a) =
        subst (λ (x : ℕ). Demands m x (place_by a) (flips_by a)) is (answer_demands m w (length ps) a o.1.0) in (
          flips_by a,
          subst (λ (x : Place). Demands m (bit_xor (get_or words j 0) (turned patterns j)) x (flips_by a)) (sym (ap (λ (qs : List Place). get_or qs j Gap) o.1.1 ∙ get_or_push ps (place_by a) Gap j at))
              (subst (λ (x : ℕ). Demands m (bit_xor (get_or words x 0) (turned patterns x)) (place_by a) (flips_by a)) here new),
        ))
        (cases_lt j i);
  }

  pub stopped : (i : ℕ) (ps ps' : List Place) (w : ℕ) (f : Fault) → w ≡ bit_xor (get_or words i 0) (turned patterns i) → i < length words
      → Arriving m words patterns i ps → Offered m w ps (Err f) ps' → Stopped m words patterns f
  stopped i ps ps' w f is l so o = record {
    at = i;
    within = l;
    fits = so.fits;
    places = ps;
    count = so.count;
    refused = subst (λ (x : ℕ). Offered m x ps (Err f) ps) is (o.0, refl);
  }

-- the same of a receiver that keeps its code
pub arriving_next : {S : Type 0} (mean : S → Meaning) (s s₀ : S) (words patterns : List ℕ) (i : ℕ) (ps ps' : List Place) (w : ℕ) (a : Answer) → s ≡ s₀
    → w ≡ bit_xor (get_or words i 0) (turned patterns i) → Arriving (mean s₀) words patterns i ps → Offered (mean s) w ps (Ok a) ps' → Arriving (mean s₀) words patterns (i + 1) ps'
arriving_next {S} mean s s₀ words patterns i ps ps' w a e is so o =
    arriving_more (mean s₀) words patterns i ps ps' w a is so (subst (λ (x : S). Offered (mean x) w ps (Ok a) ps') e o)

-- ---- the words of a table

-- the codewords of the messages, and no more
pub record Codewords (m : Meaning) (table words : List ℕ) : Type 0 where
  pub count : length words ≡ words_for m table
  pub each : (i : ℕ) → i < words_for m table → Carries m (message_at m.k table i) (get_or words i 0)

pub front_words : (m : Meaning) (table before after : List ℕ) (c : ℕ) → Sent m table before (Ok c) after → Codewords m table (take c after)
front_words m table before after c sent =
    let words = sent.1.1 in
    record {
      count = length-take-le c after (omega (arith, sent.1.0, words.count, sent.0.1.1.1.0)) ∙ sent.1.0;
      each = λ i l. subst (λ (x : ℕ). Carries m (message_at m.k table i) x) (sym (get_or-take c after i 0 (omega (arith, sent.1.0)))) (words.each i l);
    }

-- what is added to a word below 2 ^ n and leaves it there is itself below
below_added : (n v e : ℕ) → v < 2 ^ n → bit_xor v e < 2 ^ n → e < 2 ^ n
below_added n v e h l = subst (λ (x : ℕ). x < 2 ^ n) (xor_cancel v e) (xor_lt n v (bit_xor v e) h l)

first_long_is : (b : ℕ) (es : List ℕ) (i : ℕ) → 0 < b → ((j : ℕ) → j < i → get_or es j 0 < b) → b ≤ get_or es i 0 → first_long b es ≡ i
first_long_is b [] i pos below long = absurd (omega (arith, get_or_past {X = ℕ} [] i 0 (omega arith)))
first_long_is b (e ∷ es) zero pos below long = cond-false (ltb e b) (suc (first_long b es)) 0 (le-ltb e b long)
first_long_is b (e ∷ es) (suc i) pos below long =
    cond-true (ltb e b) (suc (first_long b es)) 0 (lt-ltb e b (below 0 (zero-lt-suc i)))
    ∙ ap suc (first_long_is b es i pos (λ j l. below (suc j) (suc-le-suc l)) long)

module _ {m : Meaning} (law : Lawful m) (table patterns buffer : List ℕ) (serves : m.serves ≡ true) (bits : 0 < m.k) (room : words_for m table ≤ 256)
    (words : List ℕ) (codewords : Codewords m table words) where
  word_below : (i : ℕ) → i < words_for m table → get_or words i 0 < 2 ^ m.n
  word_below i l = law.below (get_or words i 0) (codewords.each i l).0

  pattern_below : (i : ℕ) → i < words_for m table → bit_xor (get_or words i 0) (turned patterns i) < 2 ^ m.n → turned patterns i < 2 ^ m.n
  pattern_below i l h = below_added m.n (get_or words i 0) (turned patterns i) (word_below i l) h

  -- ---- a word was refused

  module _ (f : Fault) (stop : Stopped m words patterns f) where
    inside : stop.at < words_for m table
    inside = omega (arith, stop.within, codewords.count)

    long_pattern : 2 ^ m.n ≤ bit_xor (get_or words stop.at 0) (turned patterns stop.at) → 2 ^ m.n ≤ turned patterns stop.at
    long_pattern h =
        ⊎_elim (λ low. absurd (omega (arith, h, xor_lt m.n (get_or words stop.at 0) (turned patterns stop.at) (word_below stop.at inside) low)))
        (λ high. high) (cases_lt (turned patterns stop.at) (2 ^ m.n))

    first_is : 2 ^ m.n ≤ turned patterns stop.at → first_long (2 ^ m.n) patterns ≡ stop.at
    first_is = first_long_is (2 ^ m.n) patterns stop.at (pow_pos m.n) (λ j l. pattern_below j (omega (arith, inside)) (stop.fits j l))

    refused_at : (2 ^ m.n ≤ turned patterns stop.at) × Refused (carrying m table patterns) f
    refused_at =
        ⊎_elim (λ x. absurd (both_ways m.serves x.0 serves))
        (λ x.
        ⊎_elim
        (λ y.
        let high = long_pattern y.0 in
        let at = first_is high in (
          high,
          inr (
            serves,
            inr (
              bits,
              inr (
                room,
                inl (
                  (subst (λ (i : ℕ). (i < words_for m table) × (2 ^ m.n ≤ turned patterns i)) (sym at) (inside, high)),
                  (y.1.0, y.1.1, y.1.2 ∙ stop.count ∙ sym at),
                ),
              ),
            ),
          ),
        ))
        (λ y. ⊎_elim (λ z. absurd (omega (arith, z.0, stop.count, inside))) (λ z. absurd z.1) y.1) x.1)
        stop.refused.0

    pub carry_stopped : Carried m table patterns buffer (Err f) buffer × Arrives m table patterns buffer (Err f) buffer
    carry_stopped = (
      inl (f, refl, refused_at.1, refl),
      λ sendable light space. absurd (omega (arith, refused_at.0, (light stop.at inside).0)),
    )

  -- ---- every word was heard

  module _ (bytes : Bytes table) (ps : List Place) (heard : Arriving m words patterns (length words) ps) (r : Result ℕ Fault) (after : List ℕ)
      (spells : Spells m ps buffer r after) where
    arrived : Arrived m table patterns ps
    arrived = record {
      count = heard.count ∙ codewords.count;
      each = λ i l.
          let low : i < words_for m table = omega (arith, heard.count, codewords.count) in
          let here = heard.each i (omega (arith, heard.count)) in
          (get_or words i 0, here.0, codewords.each i low, here.1);
    }

    -- a word with at most t bits turned over settles its place with its message
    settled_by : (v e a f : ℕ) (x : Place) → ones e ≤ m.t → Carries m a v → Demands m (bit_xor v e) x f → x ≡ Settled a
    settled_by v e a f (Settled b) light c d =
        let near : Within m (bit_xor v e) v = (c.0, subst (λ (y : ℕ). ones y ≤ m.t) (sym (xor_comm (bit_xor v e) v ∙ xor_cancel v e)) light) in
        ap Settled (d.2 ∙ ap (message m) (one_within law (bit_xor v e) d.0 v d.1 near) ∙ c.1)
    settled_by v e a f Gap light c d =
        let near : Within m (bit_xor v e) v = (c.0, subst (λ (y : ℕ). ones y ≤ m.t) (sym (xor_comm (bit_xor v e) v ∙ xor_cancel v e)) light) in
        absurd (within_beyond law (bit_xor v e) v near d.0)

    holds : Sendable m table → Light m table patterns → Holds m.k ps table
    holds sendable light =
        let found = has_messages m.k table in
        let messages = found.0 in
        let counts : length ps ≡ length messages = arrived.count ∙ sym found.1.count in
        let short : length table < 65536 =
        ⊎_elim (λ l. l)
        (λ l. absurd (omega (arith, room, le-div 257 (8 * (length table + 2) + (m.k - 1)) m.k bits (omega (arith, law.short serves, law.message_fits)))))
        (cases_lt (length table) 65536) in (
          messages,
          ext_get_or Gap ps (map Settled messages) (counts ∙ sym (length-map messages Settled))
              (λ i l.
              let e = arrived.each i l in
              let low : i < words_for m table = omega (arith, arrived.count) in
              let inner : i < length messages = omega (arith, counts) in
              settled_by e.0 (turned patterns i) (message_at m.k table i) e.1 (get_or ps i Gap) (light i low).1 e.2 e.3
              ∙ ap Settled (sym (found.1.each i inner)) ∙ sym (get_or-map Settled messages i 0 Gap inner)),
          record { short = short; bytes = bytes; held = found.1 },
        )

    same_table : (T : List ℕ) → Holds m.k ps table → Holds m.k ps T → T ≡ table
    same_table T h g =
        one_table bits (subst (λ (xs : List ℕ). TableOf m.k xs T) (settled_same g.0 h.0 (sym g.1 ∙ h.1)) g.2) h.2

    spelled_whole : Holds m.k ps table → length table ≤ length buffer → (r' : Result ℕ Fault) → Spells m ps buffer r' after → Whole table buffer r' after
    spelled_whole h space (Ok c) s =
        let same = same_table s.1.0 h s.1.1 in
        (ap Ok (s.1.2 ∙ ap length same), s.1.3 ∙ ap (λ (T : List ℕ). T ++ drop (length T) buffer) same)
    spelled_whole h space (Err f) s =
        absurd (⊎_elim (λ x. both_ways m.serves x.0 serves)
        (λ x. ⊎_elim (λ y. omega (arith, y.0))
        (λ y. ⊎_elim (λ z. omega (arith, z.0, subst (λ (qs : List Place). first_gap qs ≡ length qs) (sym h.1) (settled_no_gap h.0)))
        (λ z. ⊎_elim (λ u. u.0 table h)
        (λ u. ⊎_elim (λ v. omega (arith, v.0.2, space, ap length (same_table v.0.0 h v.0.1))) (λ v. v.1) u.1) z.1) y.1) x.1) s.0)

    pub carry_spelled : Carried m table patterns buffer r after × Arrives m table patterns buffer r after
    carry_spelled = (
      inr ((serves, (bits, (room, (λ i l. pattern_below i l (heard.fits i (omega (arith, codewords.count))), tt)))), (ps, arrived, spells)),
      λ sendable light space. spelled_whole (holds sendable light) space r spells,
    )

-- ---- the same over receivers that keep their code

module _ {S : Type 0} (mean : S → Meaning) (s : S) (law : Lawful (mean s)) (table patterns buffer before after : List ℕ) (c : ℕ)
    (sent : Sent (mean s) table before (Ok c) after) where
  pub stopped_over : (s₁ : S) → s₁ ≡ s → (f : Fault) → Stopped (mean s₁) (take c after) patterns f
      → Carried (mean s) table patterns buffer (Err f) buffer × Arrives (mean s) table patterns buffer (Err f) buffer
  stopped_over s₁ e f stop =
      carry_stopped law table patterns buffer sent.0.0 sent.0.1.0 sent.0.1.1.0 (take c after)
      (front_words (mean s) table before after c sent) f (subst (λ (x : S). Stopped (mean x) (take c after) patterns f) e stop)

  pub spelled_over : (s₁ s₂ : S) → s₁ ≡ s → s₂ ≡ s → Bytes table → (ps : List Place) → Arriving (mean s₁) (take c after) patterns (length (take c after)) ps
      → (r : Result ℕ Fault) (out : List ℕ) → Spells (mean s₂) ps buffer r out
      → Carried (mean s) table patterns buffer r out × Arrives (mean s) table patterns buffer r out
  spelled_over s₁ s₂ e e' bytes ps heard r out spells =
      carry_spelled law table patterns buffer sent.0.0 sent.0.1.0 sent.0.1.1.0 (take c after) (front_words (mean s) table before after c sent)
      bytes ps (subst (λ (x : S). Arriving (mean x) (take c after) patterns (length (take c after)) ps) e heard) r out
      (subst (λ (x : S). Spells (mean x) ps buffer r out) e' spells)

-- ---- two tables

whole_spelled : (table buffer : List ℕ) (r : Result ℕ Fault) (after : List ℕ) → Whole table buffer r after → spelled r after ≡ table
whole_spelled table buffer r after w =
    ap (λ (x : Result ℕ Fault). spelled x after) w.0 ∙ ap (take (length table)) w.1 ∙ take-append_seam table (drop (length table) buffer)

pub carriages_from : (m o : Meaning) (table patterns buffer : List ℕ) (r : Result ℕ Fault) (after table' patterns' buffer' : List ℕ) (s : Result ℕ Fault) (other : List ℕ)
    → Arrives m table patterns buffer r after → Arrives o table' patterns' buffer' s other
    → Carriages m o table patterns buffer r after table' patterns' buffer' s other
carriages_from m o table patterns buffer r after table' patterns' buffer' s other a b =
    let one : Fair m table patterns buffer → Whole table buffer r after = λ f. a f.sendable f.light f.room in
    let two : Fair o table' patterns' buffer' → Whole table' buffer' s other = λ f. b f.sendable f.light f.room in
    record {
      first = one;
      second = two;
      alike = λ f g e. whole_spelled table buffer r after (one f) ∙ e ∙ sym (whole_spelled table' buffer' s other (two g));
      equal = λ f g e. sym (whole_spelled table buffer r after (one f)) ∙ e ∙ whole_spelled table' buffer' s other (two g);
    }
