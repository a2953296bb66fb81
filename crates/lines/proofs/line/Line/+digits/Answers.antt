use Rattle.std.proofs.Common.{◌≡◌, ℕ, ◌/◌, ◌%◌, ◌≤◌, [], ◌∷◌, ◌++◌, length, ap, ◌∙◌, arith}
use Rattle.std.proofs.lemmas.List.{length-append}
use Rattle.lines.specs.Number.{base_number, digit, text_of}
use Rattle.lines.proofs.Numbers.{above_less, count_more, last_behind, last_alone}
use Rattle.lines.proofs.line.Line.+digits.Goals as goal
use Rattle.lines.proofs.line.Line.+digits.Goals.{then-number-radix, else-number-radix, After-digit_char}

pub digits-requires : goal.digits-requires
digits-requires t c =
    let b = base_number c.args.base in
    let x = c.args.number in
    let many = c.radix.ensures in
    let two : 2 ≤ b = omega (arith, many.value, many.range) in
    let high : b ≤ x = omega (arith, many.value, c.if-number-radix.true) in
    rw c.above.ensures (
      omega (arith, c.decreases, above_less b x two high),
      omega (arith, c.requires, length-append c.args.self.now (text_of b x), length-append c.args.self.now (text_of b (x / b)), count_more b x two high),
    )

-- on both ways the text ends with the digit that comes
whole : (t : ℕ) (c : After-digit_char t) → c.self.inside.text.items ++ digit (c.args.number % base_number c.args.base) ∷ [] ≡ c.args.self.now ++ text_of (base_number c.args.base) c.args.number
whole t c =
    let b = base_number c.args.base in
    let x = c.args.number in
    let many = c.radix.ensures in
    let two : 2 ≤ b = omega (arith, many.value, many.range) in
    elim c.if-number-radix.branch [
      | then-number-radix w ↦
          last_behind b x two c.args.self.now c.self.inside.text.items (omega (arith, many.value, w.if-number-radix.true))
          (c.self.view_is ∙ w.self-is ∙ w.digits.ensures ∙ ap (λ (d : ℕ). c.args.self.now ++ text_of b d) w.above.ensures)
      | else-number-radix w ↦
          last_alone b x two c.args.self.now c.self.inside.text.items (omega (arith, many.value, w.if-number-radix.false)) (c.self.view_is ∙ w.self-is)
    ]

pub push-requires : goal.push-requires
push-requires t c =
    let long = ap length (whole t (goal.at.push-requires t c).After-digit_char) in
    (omega arith, omega (arith, c.requires, long, length-append c.self.inside.text.items (digit (c.args.number % base_number c.args.base) ∷ [])))

pub returns : goal.returns
returns t c =
    let at = (goal.at.returns t c).After-digit_char in
    let b = base_number c.args.base in
    let is : c.digit_char.result ≡ digit (c.args.number % b) = c.digit_char.ensures ∙ ap digit c.last.ensures in
    c.push.ensures.items ∙ ap (λ (d : ℕ). c.self.inside.text.items ++ d ∷ []) is ∙ whole t at
