-- All bytes mean one thing: the records that they begin with, and what is left.
use Rattle.std.proofs.Common.{◌≡◌, ℕ, zero, suc, ◌+◌, ◌≤◌, ◌⊎◌, List, [], ◌∷◌, ◌++◌, length, slice_range, take, drop, Some, None, Ok, sym, refl, ap, ◌∙◌, subst, inl, inr, ⊎_elim, append_assoc, append-nil, arith}
use Rattle.std.specs.List.{AllByRecursion}
use Rattle.tables.specs.Stream.{Bytes}
use Rattle.std.proofs.lemmas.List.{length-append, take_at, drop_at, drop-drop, drop_all}
use Rattle.records.specs.declared.layout.Record.{Record}
use Rattle.records.specs.Layout.{Content, bytes_of, laid, Sound, two_at, Faulty, Means, ReadBack}
use Rattle.records.specs.Reader.{HandedOut, ReadOn}
use Rattle.records.specs.Steps.{Begins}
use Rattle.records.proofs.Framing.{same_record, sound_not_faulty, content_at, bytes_drop, judged, left_at}

pub no_bytes : (bs : List ℕ) → bs ≡ [] → Means bs [] []
no_bytes bs e = record { parts = e; sound = tt; ends = inl refl }

pub faulty_bytes : (bs : List ℕ) → Faulty bs → Means bs [] bs
faulty_bytes bs f = record { parts = refl; sound = tt; ends = inr f }

pub one_more : (bs : List ℕ) (x : Content) (more : List ℕ) (rs : List Content) (rest : List ℕ) → Sound x → bs ≡ bytes_of x ++ more → Means more rs rest → Means bs (x ∷ rs) rest
one_more bs x more rs rest s e m =
    record { parts = e ∙ ap (λ l. bytes_of x ++ l) m.parts ∙ sym (append_assoc (bytes_of x) (laid rs) rest); sound = (s, m.sound); ends = m.ends }

-- where bytes begin with a sound record, so does what they mean
pub first_means : (x : Content) (more : List ℕ) (rs : List Content) (rest : List ℕ) → Sound x → Means (bytes_of x ++ more) rs rest
    → (rs' : List Content) × (rs ≡ x ∷ rs') × Means more rs' rest
first_means x more [] rest s m =
    absurd (⊎_elim
    (λ none. let len : length (bytes_of x ++ more) ≡ 0 = ap length (m.parts ∙ none) in omega (arith, len))
    (λ f. sound_not_faulty x more s (subst Faulty (sym m.parts) f))
    m.ends)
first_means x more (y ∷ rs) rest s m =
    let same = same_record x y more (laid rs ++ rest) (m.parts ∙ append_assoc (bytes_of y) (laid rs) rest) in
    (rs, ap (λ z. z ∷ rs) (sym same.0), record { parts = same.1; sound = m.sound.1; ends = m.ends })

-- what is left behind the first record is shorter
shorter : (bs : List ℕ) (x : Content) (more : List ℕ) → bs ≡ bytes_of x ++ more → 4 + length more ≤ length bs
shorter bs x more e = omega (arith, ap length e, length-append x.payload more)

meaning_by : (fuel : ℕ) (bs : List ℕ) → length bs ≤ fuel → Bytes bs → (rs : List Content) × (rest : List ℕ) × Means bs rs rest
meaning_by fuel [] h b = ([], [], no_bytes [] refl)
meaning_by zero (x ∷ bs) h b = absurd (omega arith)
meaning_by (suc fuel) (x ∷ bs) h b =
    ⊎_elim
    (λ f. ([], x ∷ bs, faulty_bytes (x ∷ bs) f))
    (λ s.
    let more : List ℕ = drop (two_at (x ∷ bs) 0) (drop 4 (x ∷ bs)) in
    let less = shorter (x ∷ bs) (content_at (x ∷ bs)) more s.parts in
    let next = meaning_by fuel more (omega arith) (bytes_drop (drop 4 (x ∷ bs)) (two_at (x ∷ bs) 0) (bytes_drop (x ∷ bs) 4 b)) in
    (content_at (x ∷ bs) ∷ next.0, next.1, one_more (x ∷ bs) (content_at (x ∷ bs)) more next.0 next.1 s.sound s.parts next.2))
    (judged (x ∷ bs) b (omega arith))

pub meaning : (bs : List ℕ) → Bytes bs → (rs : List Content) × (rest : List ℕ) × Means bs rs rest
meaning bs b = meaning_by (length bs) bs (omega arith) b

-- sound records at the front of bytes are the first that they mean
pub front_of : (xs : List Content) (more : List ℕ) (rs : List Content) (rest : List ℕ) → AllByRecursion Sound xs → Means (laid xs ++ more) rs rest
    → (rs' : List Content) × (rs ≡ xs ++ rs') × Means more rs' rest
front_of [] more rs rest s m = (rs, refl, m)
front_of (x ∷ xs) more rs rest s m =
    let one = first_means x (laid xs ++ more) rs rest s.0 (subst (λ l. Means l rs rest) (append_assoc (bytes_of x) (laid xs) more) m) in
    let rec = front_of xs more one.0 rest s.1 one.2 in
    (rec.0, one.1 ∙ ap (λ l. x ∷ l) rec.1, rec.2)

-- bytes that are nothing, or faulty, mean no record
pub no_record : (bs : List ℕ) (rs : List Content) (rest : List ℕ) → (bs ≡ []) ⊎ Faulty bs → Means bs rs rest → (rs ≡ []) × (rest ≡ bs)
no_record bs [] rest h m = (refl, sym m.parts)
no_record bs (x ∷ rs) rest h m =
    let e = m.parts ∙ append_assoc (bytes_of x) (laid rs) rest in
    absurd (⊎_elim (λ none. omega (arith, ap length (sym e ∙ none))) (λ f. sound_not_faulty x (laid rs ++ rest) m.sound.0 (subst Faulty e f)) h)

pub same_meaning : (bs : List ℕ) (rs qs : List Content) (rest left : List ℕ) → Means bs rs rest → Means bs qs left → (qs ≡ rs) × (left ≡ rest)
same_meaning bs rs qs rest left m o =
    let front = front_of rs rest qs left m.sound (subst (λ l. Means l qs left) m.parts o) in
    let none = no_record rest front.0 left m.ends front.2 in
    (front.1 ∙ ap (λ l. rs ++ l) none.0 ∙ append-nil rs, none.1)

pub laid_means : (rs : List Content) → AllByRecursion Sound rs → Means (laid rs) rs []
laid_means rs s = record { parts = sym (append-nil (laid rs)); sound = s; ends = inl refl }

-- what is left behind the first record
pub left_behind : (bs : List ℕ) (at : ℕ) (x : Content) (more : List ℕ) → drop at bs ≡ bytes_of x ++ more → drop (at + length (bytes_of x)) bs ≡ more
left_behind bs at x more e =
    let size : ℕ = length (bytes_of x) in
    sym (drop-drop size at bs) ∙ ap (drop size) e ∙ drop_at (bytes_of x) more size refl

pub others_behind : (bs : List ℕ) (at : ℕ) (x : Content) (rs : List Content) (rest : List ℕ) → Means (drop at bs) (x ∷ rs) rest → Means (drop (at + length (bytes_of x)) bs) rs rest
others_behind bs at x rs rest m =
    record { parts = left_behind bs at x (laid rs ++ rest) (m.parts ∙ append_assoc (bytes_of x) (laid rs) rest); sound = m.sound.1; ends = m.ends }

pub reads_back : ReadBack
reads_back =
    record {
      one = λ bs b. let m = meaning bs b in ((m.0, m.1), m.2, λ o h. let e = same_meaning bs m.0 o.0 m.1 o.1 m.2 h in λ i. (e.0 i, e.1 i));
      same = laid_means;
      only = λ rs s read rest m. same_meaning (laid rs) rs read [] rest (laid_means rs s) m;
      behind = others_behind;
    }

-- the reader behind the last byte, and before a sound record
pub ended : (bs : List ℕ) (at : ℕ) → length bs ≤ at → ReadOn bs at (Ok None) at
ended bs at h = ([], [], no_bytes (drop at bs) (drop_all at bs h), ((inr refl, tt), refl))

-- what stands behind the head of a record
payload_part : (bs : List ℕ) (at : ℕ) (x : Content) (more : List ℕ) → drop at bs ≡ bytes_of x ++ more → x.payload ≡ take (length x.payload) (drop (at + 4) bs)
payload_part bs at x more e =
    let tail : drop (at + 4) bs ≡ x.payload ++ more = sym (drop-drop 4 at bs) ∙ ap (drop 4) e in
    sym (take_at x.payload more (length x.payload) refl) ∙ ap (take (length x.payload)) (sym tail)

pub moved : (bs : List ℕ) (at : ℕ) (found : Record) (after : ℕ) → Begins (slice_range bs at (length bs)) at found → after ≡ found.place + 4 + length found.payload.now
    → ReadOn bs at (Ok (Some found)) after
moved bs at found after begun e =
    let h : Begins (drop at bs) at found = subst (λ l. Begins l at found) (left_at bs at) begun in
    let size : ℕ = length (bytes_of h.content) in
    let behind : drop size (drop at bs) ≡ h.more = ap (drop size) h.parts ∙ drop_at (bytes_of h.content) h.more size refl in
    let next = meaning h.more (subst Bytes behind (bytes_drop (drop at bs) size h.below)) in
    let handed : HandedOut bs at h.content found = record { kind = h.kind; place = h.place; payload = h.payload; part = h.payload ∙ payload_part bs at h.content h.more h.parts } in (
      h.content ∷ next.0,
      next.1,
      one_more (drop at bs) h.content h.more next.0 next.1 h.sound h.parts next.2,
      ((inl (omega arith), tt), (handed, omega (arith, e, h.place, ap length h.payload))),
    )
