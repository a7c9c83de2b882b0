use Rattle.std.proofs.Common.{◌∙◌, rules}
use Rattle.script.proofs.Phrases.{alone_one, alone_none}
use Rattle.script.proofs.request.budget.Goals as goal

pub returns-in-len1 : goal.returns-in-len1
returns-in-len1 c = c.number.ensures ∙ alone_one (λ x. x.now) c.args.rest.now _ (search rules)

pub returns-in_default : goal.returns-in_default
returns-in_default c = alone_none (λ x. x.now) c.args.rest.now (λ e. search rules)

pub returns-in_default-2 : goal.returns-in_default-2
returns-in_default-2 c = alone_none (λ x. x.now) c.args.rest.now (λ e. search rules)
