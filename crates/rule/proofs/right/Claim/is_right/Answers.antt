use Rattle.std.proofs.Common.{sym, ◌∙◌}
use Rattle.rule.proofs.Law.{passes_law}
use Rattle.rule.proofs.right.Claim.is_right.Goals as goal

pub returns : goal.returns
returns c =
    let d = passes_law c.args.self.trace.now c.args.self.atoms c.args.self.last c.args.k in
    (λ t. d.0 (sym c.passes.ensures ∙ t), λ r. c.passes.ensures ∙ d.1 r)
