use Rattle.std.proofs.Common.{◌∙◌, rules}
use Rattle.std.proofs.lemmas.Result.{IfOk-weaker}
use Rattle.script.proofs.Phrases.{asks_none, asks_first}
use Rattle.script.proofs.request.understood.Goals as goal

pub returns-in-empty : goal.returns-in-empty
returns-in-empty c = asks_none (λ x. x.now) c.args.words.now (search rules)

pub returns-in-len1-up : goal.returns-in-len1-up
returns-in-len1-up c = IfOk-weaker c.asked.result _ _ (λ q e. e ∙ asks_first (λ x. x.now) c.args.words.now _ _ (search rules) c.verb_of.ensures) c.asked.ensures
