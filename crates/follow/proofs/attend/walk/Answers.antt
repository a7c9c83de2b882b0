use Rattle.std.proofs.Common.{◌≡◌, suc, ◌+◌, ◌-◌, is_err, sym, refl, ap, ◌∙◌, arith}
use native.Mathlib.Nat.{sub-zero}
use Rattle.std.proofs.lemmas.Result.{err_from_is_err_and, IfOk-from_err}
use Rattle.follow.specs.Sessions.{walked}
use Rattle.follow.proofs.Walks.{walk_on, walk_ends, walk_done}
use Rattle.follow.proofs.attend.walk.Goals as goal

pub loop-init : goal.loop-init
loop-init g c = (ap (λ b. walked b (g.S.ClauseStore.held c.args.session.now.store.now) c.args.session.now.search c.args.items) (sub-zero c.args.most), refl)

pub returns-in_err-items : goal.returns-in_err-items
returns-in_err-items g c = record {
  named = c.walk_once-answer.ensures.named ∙ c.loop.invariant.1;
  made = IfOk-from_err _ _ (ap is_err (err_from_is_err_and c.from_residual.result c.from_residual.ensures.1).1);
}

pub returns-then-not-is_spent : goal.returns-then-not-is_spent
returns-then-not-is_spent g c =
    let left : c.args.most - c.loop.counter ≡ suc (c.args.most - (c.loop.counter + 1)) = omega arith in
    record {
      named = c.walk_once-answer.ensures.named ∙ c.loop.invariant.1;
      made = walk_ends (g.S.ClauseStore.held c.loop.session.store.now) _ c.loop.session.search _ _ c.walk_once-answer.ensures.made _ _ c.loop.items c.in_ok-items.items left c.in_ok-items.ensures (sym c.if-not-is_spent.ensures) ∙ c.loop.invariant.0;
    }

pub loop-preserved : goal.loop-preserved
loop-preserved g c =
    let left : c.args.most - c.loop.counter ≡ suc (c.args.most - (c.loop.counter + 1)) = omega arith in (
      walk_on (g.S.ClauseStore.held c.loop.session.store.now) _ c.loop.session.search _ _ c.walk_once-answer.ensures.made _ _ c.loop.items c.in_ok-items.items left c.in_ok-items.ensures (sym c.if-not-is_spent.ensures) ∙ c.loop.invariant.0,
      c.walk_once-answer.ensures.named ∙ c.loop.invariant.1,
    )

pub returns : goal.returns
returns g c = record {
  named = c.loop.invariant.1;
  made = walk_done (g.S.ClauseStore.held c.loop.session.store.now) c.loop.session.search (c.args.most - c.loop.counter) c.loop.items (omega arith) ∙ c.loop.invariant.0;
}
