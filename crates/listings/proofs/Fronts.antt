-- The first 18 bytes of a line are the line, or stand for nothing, as the line does.
use Rattle.std.proofs.Common.{◌≡◌, ℕ, ◌+◌, ◌<◌, ◌≤◌, Bool, true, false, List, [], ◌∷◌, ◌++◌, length, take, set, sym, ap, ◌∙◌, subst, ⊎_elim, arith, length-append, length-take-le}
use Rattle.std.proofs.lemmas.List.{take_all, take-append-le, take-take, take_more_set}
use Rattle.std.proofs.lemmas.Bool.{cases_lt}
use Rattle.lines.specs.declared.heading.Heading.{Heading}
use Rattle.cyclic.specs.declared.name.Name.{Name}
use Rattle.cyclic.specs.declared.name.Name.TheVariants.{G23, Q31, Q41}
use Rattle.lines.specs.Command.{Stands}
use Rattle.lines.specs.Heading.{heading_text, name_text, mark_text}
use Rattle.lines.proofs.Commands.{command_length}
use Rattle.listings.specs.Partial.{front, FrontTells}

short_front : (line : List ℕ) → length line ≤ 18 → front line ≡ line
short_front line h = take_all 18 line h

long_front : (line : List ℕ) → 18 < length line → length (front line) ≡ 18
long_front line h = length-take-le 18 line (omega arith)

-- what holds of short lines only holds of a line exactly where it holds of its front
module _ (P : List ℕ → Type 0) (short : (line : List ℕ) → P line → length line ≤ 17) where
  of_front : (line : List ℕ) → P line → P (front line)
  of_front line p = subst P (sym (short_front line (omega (arith, short line p)))) p

  of_line : (line : List ℕ) → P (front line) → P line
  of_line line p =
      ⊎_elim
      (λ long. absurd (omega (arith, long_front line long, short (front line) p)))
      (λ fits. subst P (short_front line fits) p)
      (cases_lt 18 (length line))

text_length : (n : Name) (p : Bool) → length (name_text n ++ mark_text p) ≤ 17
text_length G23 true = omega arith
text_length G23 false = omega arith
text_length Q31 true = omega arith
text_length Q31 false = omega arith
text_length Q41 true = omega arith
text_length Q41 false = omega arith

name_length : (h : Heading) → length (heading_text h) ≤ 17
name_length h = text_length h.name h.parity

pub front_more : (line : List ℕ) (byte : ℕ) → front (front line ++ byte ∷ []) ≡ front (line ++ byte ∷ [])
front_more line byte =
    ⊎_elim
    (λ long.
    let full = long_front line long in
    let fits : 18 ≤ length (front line) = omega (arith, full) in
    let within : 18 ≤ length line = omega arith in
    take-append-le 18 (front line) (byte ∷ []) fits ∙ take-take 18 18 line (omega arith) ∙ sym (take-append-le 18 line (byte ∷ []) within))
    (λ fits. ap (λ l. front (l ++ byte ∷ [])) (short_front line fits))
    (cases_lt 18 (length line))

pub front_tells : FrontTells
front_tells =
    record {
      more = front_more;
      commands = λ line c. of_front (λ l. Stands l c) (λ l. command_length l c) line;
      no_others = λ line c. of_line (λ l. Stands l c) (λ l. command_length l c) line;
      headings = λ line h. of_front (λ l. l ≡ heading_text h) (λ l e. omega (arith, ap length e, name_length h)) line;
      no_more = λ line h. of_line (λ l. l ≡ heading_text h) (λ l e. omega (arith, ap length e, name_length h)) line;
    }

-- one byte more is kept while there is room, and none after that
module _ (bytes : List ℕ) (n byte : ℕ) (size : length bytes ≡ 18) where
  kept_length : n ≤ 18 → length (take n bytes) ≡ n
  kept_length h = length-take-le n bytes (omega arith)

  pub kept_more : n < 18 → take (n + 1) (set bytes n byte) ≡ take 18 (take n bytes ++ byte ∷ [])
  kept_more h =
      let inside : n < length bytes = omega arith in
      let long = kept_length (omega arith) in
      take_more_set bytes n byte inside ∙ sym (take_all 18 (take n bytes ++ byte ∷ []) (omega (arith, long, length-append (take n bytes) (byte ∷ []))))

  pub kept_full : n ≤ 18 → 18 ≤ n → take n bytes ≡ take 18 (take n bytes ++ byte ∷ [])
  kept_full most h =
      let long = kept_length most in
      let within : 18 ≤ length (take n bytes) = omega (arith, long) in
      sym (take-append-le 18 (take n bytes) (byte ∷ []) within ∙ take_all 18 (take n bytes) (omega (arith, long)))
