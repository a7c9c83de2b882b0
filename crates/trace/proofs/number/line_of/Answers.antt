use Rattle.std.proofs.Common.{◌≡◌, ℕ, ◌-◌, get_or, ap, ◌∙◌, inl, rules, arith}
use Rattle.trace.proofs.Numbering.{line_in_outside, line_in_at}
use Rattle.trace.proofs.number.line_of.Goals as goal

pub returns-in_default : goal.returns-in_default
returns-in_default c = line_in_outside c.args.table.now c.args.k (inl (omega arith))

pub returns : goal.returns
returns c =
    let t = c.args.table.now in
    let read : c.map_or.result ≡ get_or t c.in-Some.i 0 = search rules in
    let i : c.in-Some.i ≡ c.args.k - 1 = omega (arith, c.in-Some.ensures) in
    read ∙ ap (λ (j : ℕ). get_or t j 0) i ∙ line_in_at t c.args.k (omega arith)
