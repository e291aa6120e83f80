use Rattle.std.proofs.Common.{◌≡◌, ◌+◌, ◌/◌, ◌%◌, List, ℕ, [], ◌∷◌, decimal, sym, ap, ◌∙◌, arith}
use Rattle.std.proofs.lemmas.Fmt.{decimal_digit, decimal_step}
use Rattle.text.specs.Texts.{grown}
use Rattle.text.proofs.Grown.{grown_twice}
use Rattle.text.proofs.text.Text.+push_number.Goals as goal
use Rattle.text.proofs.text.Text.+push_number.Goals.{then-number-ge10, else-number-ge10}

pub returns : goal.returns
returns g t c =
    let room = g.row.ROOM in
    let n = c.args.number in
    let digit = (48 + n % 10) ∷ [] in
    let before = c.args.self.now in
    elim c.if-number-ge10.branch [
      | then-number-ge10 w ↦
          c.push.ensures
          ∙ ap (λ (x : List ℕ). grown room x digit) (w.self-is ∙ w.push_number.ensures)
          ∙ grown_twice room before (decimal (n / 10)) digit
          ∙ ap (grown room before) (sym (decimal_step n (omega arith) (omega arith)))
      | else-number-ge10 w ↦
          let same : n % 10 ≡ n = omega arith in
          c.push.ensures
          ∙ ap (λ (x : List ℕ). grown room x digit) w.self-is
          ∙ ap (λ m. grown room before ((48 + m) ∷ [])) same
          ∙ ap (grown room before) (sym (decimal_digit n (omega arith)))
    ]
