use Rattle.std.proofs.Common.{◌≡◌, ℕ, ◌-◌, ◌*◌, leb, length, take, drop, ap, ◌∙◌, rules, arith}
use Rattle.std.proofs.lemmas.Bool.{and_parts, leb-true}
use Rattle.lines.specs.Format.{line_of, line_at, reaches}
use Rattle.lines.proofs.Parts.{line_part, some_where}
use Rattle.lines.proofs.read.line_at.Goals as goal

pub returns : goal.returns
returns c =
    let bs = c.args.trace.now in
    let k = c.args.k in
    some_where c.then.result (reaches bs k) _ (line_at bs k) (c.then.ensures.variant ∙ c.has_line.ensures) c.then.ensures.some
    (λ b l p.
    let e : l ≡ line_of (take (24 * k - (24 * k - 24)) (drop (24 * k - 24) bs)) = search rules in
    let low = leb-true 1 k (and_parts (leb 1 k) (leb (24 * k) (length bs)) b).0 in
    let o : 24 * k - 24 ≡ 24 * (k - 1) = omega arith in
    e ∙ ap (λ (n : ℕ). line_of (take (24 * k - n) (drop n bs))) o ∙ line_part bs k low)
