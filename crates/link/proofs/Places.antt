-- The places of a report, from what it heard.
use Rattle.std.proofs.Common.{◌≡◌, ℕ, zero, suc, ◌+◌, ◌<◌, Bool, true, false, List, [], ◌∷◌, ◌++◌, map, length, get_or, take, set, MatchBool, sym, refl, ap, ◌∙◌, le_of_suc-le-suc, arith}
use Rattle.std.proofs.lemmas.Bool.{and_from, and_parts}
use lib.Seq.{take-set-lt}
use Rattle.std.proofs.lemmas.List.{length-map, length-take, map-append, map-set, map_more, take-map}
use Rattle.std.specs.Cmp.Lexicographic.{pointwise}
use Rattle.link.specs.declared.report.Heard.{Heard}
use Rattle.link.specs.declared.report.Place.{Place}
use Rattle.link.specs.declared.report.Place.TheVariants.{Settled, Gap}
use Rattle.link.specs.Report.{place_in}
use Rattle.link.specs.Sealed.{first_gap}

-- what `f` reads of the first elements, after one of them was written; `g` reads as many
pub read_written : {H X Y : Type 0} (f : H → X) (g : H → Y) (xs : List H) (n i : ℕ) (h : H) → i < length (map g (take n xs)) → map f (take n (set xs i h)) ≡ set (map f (take n xs)) i (f h)
read_written f g xs n i h l =
    let low : i < n = omega (arith, l, length-map (take n xs) g, length-take n xs) in ap (map f) (take-set-lt n xs i h low) ∙ map-set f (take n xs) i h

-- a test of two lists, where the test of two elements decides whether `f` reads the same of both
module _ {H P : Type 0} (f : H → P) {E : H → H → Bool} (decides : (a b : H) → (E a b ≡ true → f a ≡ f b) × (f a ≡ f b → E a b ≡ true)) where
  read_same : (xs ys : List H) → pointwise E xs ys ≡ true → map f xs ≡ map f ys
  read_same [] [] e = refl
  read_same [] (y ∷ ys) e = cc
  read_same (x ∷ xs) [] e = cc
  read_same (x ∷ xs) (y ∷ ys) e =
      let both = and_parts (E x y) (pointwise E xs ys) e in cc ((decides x y).0 both.0, read_same xs ys both.1)

  same_read : (xs ys : List H) → map f xs ≡ map f ys → pointwise E xs ys ≡ true
  same_read [] [] e = refl
  same_read [] (y ∷ ys) e = cc
  same_read (x ∷ xs) [] e = cc
  same_read (x ∷ xs) (y ∷ ys) e = and_from (E x y) (pointwise E xs ys) ((decides x y).1 cc) (same_read xs ys cc)

  pub maps_compared : (xs ys : List H) (r : Bool) → r ≡ pointwise E xs ys → MatchBool r (map f xs ≡ map f ys) (map f xs ≡ map f ys → ⊥)
  maps_compared xs ys true h = read_same xs ys (sym h)
  maps_compared xs ys false h = λ e. cc (h, same_read xs ys e)

-- ---- the places of what was heard, one after the other

first_gap_after : (hs : List Heard) (xs : List ℕ) (i : ℕ) (d : Heard) → i < length hs → take i (map place_in hs) ≡ map Settled xs → place_in (get_or hs i d) ≡ Gap → first_gap (map place_in hs) ≡ i
first_gap_after [] xs i d l c g = absurd (omega arith)
first_gap_after (h ∷ hs) xs zero d l c g = rw g refl
first_gap_after (h ∷ hs) [] (suc i) d l c g = cc
first_gap_after (h ∷ hs) (x ∷ xs) (suc i) d l c g =
    let settled : place_in h ≡ Settled x = cc in
    let tail : take i (map place_in hs) ≡ map Settled xs = cc in rw settled (ap suc (first_gap_after hs xs i d (le_of_suc-le-suc l) tail g))

module _ (shown hs : List Heard) (xs : List ℕ) (i : ℕ) (d : Heard) (all : shown ≡ hs) (within : i < length shown) (before : take i (map place_in hs) ≡ map Settled xs) where
  -- a gap after settled places is the first
  pub gap_is_first : place_in (get_or shown i d) ≡ Gap → (first_gap (map place_in hs) ≡ i) × (i < length (map place_in hs))
  gap_is_first g = rw (← all) (first_gap_after shown xs i d within (rw (sym all) at before) g, omega (arith, length-map shown place_in))

  -- and a settled place adds its message
  pub settled_more : (v : ℕ) → place_in (get_or shown i d) ≡ Settled v → take (i + 1) (map place_in hs) ≡ map Settled (xs ++ v ∷ [])
  settled_more v e =
      rw (← all)
      (take-map place_in (i + 1) shown ∙ map_more place_in shown i d within ∙ ap (λ (p : Place). map place_in (take i shown) ++ p ∷ []) e
      ∙ ap (λ (qs : List Place). qs ++ Settled v ∷ []) (sym (take-map place_in i shown) ∙ rw (sym all) at before) ∙ sym (map-append Settled xs (v ∷ [])))
