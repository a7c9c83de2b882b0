use Rattle.std.proofs.Common.{◌≡◌, ◌+◌, ◌/◌, ◌%◌, [], ◌∷◌, ◌++◌, length, decimal, sym, ap, ◌∙◌, append_assoc, arith, length-append}
use Rattle.std.proofs.lemmas.Fmt.{decimal_digit, decimal_step}
use Rattle.answer.proofs.Wrote.{step_length}
use Rattle.answer.proofs.text.Text.+number.Goals as goal
use Rattle.answer.proofs.text.Text.+number.Goals.{then-n-ge10, else-n-ge10}

pub number-requires : goal.number-requires
number-requires t c = (omega arith, omega (arith, step_length c.args.n c.if-n-ge10.true (omega arith)))

pub put-requires : goal.put-requires
put-requires t c = elim c.if-n-ge10.branch [
  | then-n-ge10 w ↦
      omega (arith, step_length c.args.n w.if-n-ge10.true (omega arith), ap length w.self-is, ap length w.number.ensures, length-append c.args.self.now (decimal (c.args.n / 10)))
  | else-n-ge10 w ↦ omega (arith, ap length w.self-is, ap length (decimal_digit c.args.n w.if-n-ge10.false))
]

pub returns : goal.returns
returns t c =
    let n = c.args.n in
    let old = c.args.self.now in
    let last = (48 + n % 10) ∷ [] in
    c.put.ensures ∙
    elim c.if-n-ge10.branch [
      | then-n-ge10 w ↦
          ap (λ x. x ++ last) (w.self-is ∙ w.number.ensures)
          ∙ append_assoc old (decimal (n / 10)) last
          ∙ ap (λ x. old ++ x) (sym (decimal_step n w.if-n-ge10.true (omega arith)))
      | else-n-ge10 w ↦
          let m : n % 10 ≡ n = omega (arith, w.if-n-ge10.false) in
          ap (λ x. x ++ last) w.self-is ∙ ap (λ d. old ++ (48 + d) ∷ []) m ∙ ap (λ x. old ++ x) (sym (decimal_digit n w.if-n-ge10.false))
    ]
