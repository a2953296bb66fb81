-- Two runs, and when their reports are equal.
use Rattle.std.proofs.Common.{◌≡◌, ℕ, ◌+◌, ◌<◌, Bool, true, false, cond, not, ◌&&◌, ltb, List, [], ◌∷◌, ◌++◌, length, get_or, set, sym, refl, ap, ◌∙◌, subst, inl, inr, ⊎_elim, arith}
use mathlib.Core.Path.{fun_ext}
use Rattle.std.proofs.lemmas.List.{length_push, length-set, ext_get_or}
use Rattle.codes.specs.Meaning.{Meaning, Lawful, Within, message}
use Rattle.codes.proofs.Reach.{one_within, within_beyond, same_message, reaching_some, reaching_none}
use Rattle.link.specs.declared.report.Place.{Place}
use Rattle.link.specs.declared.report.Place.TheVariants.{Settled, Gap}
use Rattle.runs.specs.declared.calls.Call.{Call}
use Rattle.runs.specs.declared.calls.Call.TheVariants.{Offer, Repeat, Clear}
use Rattle.runs.specs.Book.{reached, hearable, noted, book_from, book, counted, heard_from, Demands, Demanded}
use Rattle.runs.specs.Law.{SameParts, Agree, Alike, Runs}

-- ---- the book has a word for each offer that was heard

length_cond : (b : Bool) (xs ys : List ℕ) (x y : ℕ) → length xs ≡ x → length ys ≡ y → length (cond b xs ys) ≡ cond b x y
length_cond true xs ys x y p q = p
length_cond false xs ys x y p q = q

cond_same : (b : Bool) (x : ℕ) → cond b x x ≡ x
cond_same true x = refl
cond_same false x = refl

noted_length : (m : Meaning) (ws : List ℕ) (c : Call) → length (noted m ws c) ≡ counted m (length ws) c
noted_length m ws (Offer w) = length_cond (hearable m w && ltb (length ws) 256) (ws ++ w ∷ []) ws (length ws + 1) (length ws) (length_push ws w) refl
noted_length m ws (Repeat p w) =
    let b = hearable m w && (ltb p (length ws) && not (reached m (get_or ws p 0))) in
    length_cond b (set ws p w) ws (length ws) (length ws) (length-set ws p w) refl ∙ cond_same b (length ws)
noted_length m ws Clear = refl

book_length : (m : Meaning) (ws : List ℕ) (cs : List Call) → length (book_from m ws cs) ≡ heard_from m (length ws) cs
book_length m ws [] = refl
book_length m ws (c ∷ cs) = book_length m (noted m ws c) cs ∙ ap (λ (h : ℕ). heard_from m h cs) (noted_length m ws c)

-- ---- two reports

module _ {m : Meaning} (law : Lawful m) where
  same_agree : (v w : ℕ) (x : Place) (f g : ℕ) → Demands m v x f → Demands m w x g → Agree m v w
  same_agree v w (Settled a) f g d e =
      let same : d.0 ≡ e.0 = same_message law d.0 e.0 d.1.0 e.1.0 (sym d.2 ∙ e.2) in
      inl (d.0, d.1, subst (λ (u : ℕ). Within m w u) (sym same) e.1)
  same_agree v w Gap f g d e = inr (d.0, e.0)

  agree_same : (v w : ℕ) (x y : Place) (f g : ℕ) → Demands m v x f → Demands m w y g → Agree m v w → x ≡ y
  agree_same v w (Settled a) (Settled b) f g d e =
      ⊎_elim
      (λ u.
      let p : d.0 ≡ u.0 = one_within law v d.0 u.0 d.1 u.1 in
      let q : e.0 ≡ u.0 = one_within law w e.0 u.0 e.1 u.2 in
      ap Settled (d.2 ∙ ap (message m) (p ∙ sym q) ∙ sym e.2))
      (λ far. absurd (within_beyond law v d.0 d.1 far.0))
  agree_same v w (Settled a) Gap f g d e =
      ⊎_elim (λ u. absurd (within_beyond law w u.0 u.2 e.0)) (λ far. absurd (within_beyond law v d.0 d.1 far.0))
  agree_same v w Gap (Settled b) f g d e =
      ⊎_elim (λ u. absurd (within_beyond law v u.0 u.1 d.0)) (λ far. absurd (within_beyond law w e.0 e.1 far.1))
  agree_same v w Gap Gap f g d e = λ _. refl

  module _ {vs ws : List ℕ} {ps qs : List Place} {fs gs : List ℕ} (first : Demanded m vs ps fs) (second : Demanded m ws qs gs) where
    equal_words : ps ≡ qs → (length vs ≡ length ws) × ((p : ℕ) → p < length vs → Agree m (get_or vs p 0) (get_or ws p 0))
    equal_words e =
        let long : length vs ≡ length ws = sym first.count ∙ ap length e ∙ second.count in (
          long,
          λ p l.
              same_agree (get_or vs p 0) (get_or ws p 0) (get_or qs p Gap) (get_or fs p 0) (get_or gs p 0)
              (subst (λ (xs : List Place). Demands m (get_or vs p 0) (get_or xs p Gap) (get_or fs p 0)) e (first.each p l)) (second.each p (omega arith)),
        )

    words_equal : length vs ≡ length ws → ((p : ℕ) → p < length vs → Agree m (get_or vs p 0) (get_or ws p 0)) → ps ≡ qs
    words_equal long agree =
        ext_get_or Gap ps qs (first.count ∙ long ∙ sym second.count)
        (λ p l.
        let low : p < length vs = omega (arith, first.count) in
        agree_same (get_or vs p 0) (get_or ws p 0) (get_or ps p Gap) (get_or qs p Gap) (get_or fs p 0) (get_or gs p 0) (first.each p low)
        (second.each p (omega arith)) (agree p low))

abbrev parts : ℕ → ℕ → ℕ → (ℕ → Bool) → Bool → Meaning
parts n k t codeword serves = record { n = n; k = k; t = t; codeword = codeword; serves = serves }

same_meaning : (m o : Meaning) → SameParts m o → m ≡ o
same_meaning m o s =
    ap (λ (x : ℕ). parts x m.k m.t m.codeword m.serves) s.n
    ∙ ap (λ (x : ℕ). parts o.n x m.t m.codeword m.serves) s.k
    ∙ ap (λ (x : ℕ). parts o.n o.k x m.codeword m.serves) s.t
    ∙ ap (λ (x : ℕ → Bool). parts o.n o.k o.t x m.serves) (fun_ext s.codeword)
    ∙ ap (parts o.n o.k o.t o.codeword) s.serves

module _ {m : Meaning} (law : Lawful m) (o : Meaning) (cs ds : List Call) (ps : List Place) (fs : List ℕ) (qs : List Place) (gs : List ℕ)
    (first : Demanded m (book m cs) ps fs) (second : Demanded o (book o ds) qs gs) where
  -- the second report, over the first meaning
  moved : SameParts m o → Demanded m (book o ds) qs gs
  moved e = subst (λ (x : Meaning). Demanded x (book o ds) qs gs) (sym (same_meaning m o e)) second

  alike : SameParts m o → ps ≡ qs → Alike m o cs ds
  alike e same =
      let h = equal_words law first (moved e) same in
      record {
        offers = sym (book_length m [] cs) ∙ h.0 ∙ book_length o [] ds;
        words = λ p l. h.1 p (subst (λ (x : ℕ). p < x) (sym (book_length m [] cs)) l);
      }

  equal : SameParts m o → Alike m o cs ds → ps ≡ qs
  equal e a =
      words_equal law first (moved e) (book_length m [] cs ∙ a.offers ∙ sym (book_length o [] ds))
      (λ p l. a.words p (subst (λ (x : ℕ). p < x) (book_length m [] cs) l))

  pub runs_from : Runs m o cs ds ps fs qs gs
  runs_from = record {
    first = first;
    second = second;
    offers = book_length m [] cs;
    others = book_length o [] ds;
    alike = alike;
    equal = equal;
    some = reaching_some law;
    none = reaching_none law;
  }
