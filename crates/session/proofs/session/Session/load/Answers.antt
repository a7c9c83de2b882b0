use Rattle.std.proofs.Common.{◌≡◌, ℕ, Err, Result, ap, ◌∙◌, rules}
use Rattle.clause.specs.declared.refusal.Refusal.{Refusal}
use Rattle.clause.specs.Refusals.{Told, told, answer}
use Rattle.session.specs.Steps.{after}
use Rattle.session.proofs.Loading.{load_sound, load_fault}
use Rattle.session.proofs.session.Session.load.Goals as goal

pub returns-in_err-heading-clause-made : goal.returns-in_err-heading-clause-made
returns-in_err-heading-clause-made g c =
    let h = g.S.ClauseStore.held c.args.self.now.store.now in
    let e : c.from_residual-in_err-heading.result ≡ Err c.in_err-heading.field-0.0 = search rules in
    ap (λ (r : Result ℕ Refusal). after {X = Result ℕ Told} h c.args.self.now.search (answer r)) e
    ∙ load_fault (g.S.ClauseStore.held c.args.self.now.store.now) c.args.self.now.search c.args.text.now c.in_ok-check_opened.ensures (told c.in_err-heading.field-0.0) c.in_err-heading.ensures

pub returns-clause-made : goal.returns-clause-made
returns-clause-made g c =
    load_sound (g.S.ClauseStore.held c.args.self.now.store.now) c.args.self.now.search c.args.text.now c.in_ok-check_opened.ensures c.in_ok-heading.heading _ c.in_ok-heading.ensures c.load_checked.ensures.made
