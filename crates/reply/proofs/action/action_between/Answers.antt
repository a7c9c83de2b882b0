use Rattle.std.proofs.Common.{◌≡◌, ◌∙◌, rules}
use Rattle.reply.specs.Actions.{action_of}
use Rattle.reply.proofs.Namings.{names_settings, none_named}
use Rattle.reply.proofs.action.action_between.Goals as goal

pub returns-then-made-gt0 : goal.returns-then-made-gt0
returns-then-made-gt0 c =
    let is : c.setting.result ≡ action_of c.args.before.now c.args.after.now c.args.made c.args.size c.args.last = search rules in
    record { value = is; settings = names_settings c.args.before.now c.args.after.now c.args.made _ _ _ is }

is_none : (c : goal.After-from_residual) → c.from_residual.result ≡ action_of c.args.before.now c.args.after.now c.args.made c.args.size c.args.last
is_none c = c.from_residual.ensures ∙ none_named c.args.before.now c.args.after.now c.args.made c.args.size c.args.last c.if-made-gt0.true c.in_err-atom.ensures

pub returns-in_err-atom-clause-value : goal.returns-in_err-atom-clause-value
returns-in_err-atom-clause-value c = is_none c

pub returns-in_err-atom-clause-settings : goal.returns-in_err-atom-clause-settings
returns-in_err-atom-clause-settings c = names_settings c.args.before.now c.args.after.now c.args.made _ _ _ (is_none c)
