use Rattle.std.proofs.Common.{◌<◌, ◌∙◌, arith}
use Rattle.clause.specs.Refusals.{told}
use Rattle.session.proofs.Running.{runs_unopened, runs_refuted, runs_satisfied, runs_spent, runs_step, runs_stopped}
use Rattle.session.proofs.session.Session.steps.Goals as goal

pub returns-in-Unopened-default-default : goal.returns-in-Unopened-default-default
returns-in-Unopened-default-default g c = record {
  named = c.loop-self.invariant.1;
  made = runs_unopened (g.S.ClauseStore.held c.loop-self.self.store.now) c.loop-self.self.search c.loop-self.made c.loop-self.left _
      c.in-Unopened-default-default.is-0
      ∙ c.loop-self.invariant.0;
}

pub returns-in-Refuted-default-default : goal.returns-in-Refuted-default-default
returns-in-Refuted-default-default g c = record {
  named = c.loop-self.invariant.1;
  made = runs_refuted (g.S.ClauseStore.held c.loop-self.self.store.now) c.loop-self.self.search c.loop-self.made c.loop-self.left _ _
      c.in-Refuted-default-default.is-0
      ∙ c.loop-self.invariant.0;
}

pub returns-in_default-None-default : goal.returns-in_default-None-default
returns-in_default-None-default g c = record {
  named = c.loop-self.invariant.1;
  made = runs_satisfied (g.S.ClauseStore.held c.loop-self.self.store.now) c.loop-self.self.search c.loop-self.made
      (record { opened = c.in_default-None-default.not-Unopened-0; unrefuted = c.in_default-None-default.not-Refuted-0 })
      c.first_false-found.result c.first_false-found.ensures c.loop-self.left c.satisfy.new.self c.in_default-None-default.is-1 c.satisfy.ensures
      ∙ c.loop-self.invariant.0;
}

pub returns-in_default-Some-eq0 : goal.returns-in_default-Some-eq0
returns-in_default-Some-eq0 g c = record {
  named = c.loop-self.invariant.1;
  made = runs_spent (g.S.ClauseStore.held c.loop-self.self.store.now) c.loop-self.self.search c.loop-self.made
      (record { opened = c.in_default-Some-eq0.not-Unopened-0; unrefuted = c.in_default-Some-eq0.not-Refuted-0 })
      c.first_false-found.result c.first_false-found.ensures c.loop-self.left _ (omega arith) c.in_default-Some-eq0.is-1
      ∙ c.loop-self.invariant.0;
}

pub returns-in-Err : goal.returns-in-Err
returns-in-Err g c =
    let z : 0 < c.loop-self.left = omega arith in
    record {
      named = c.act.ensures.named ∙ c.loop-self.invariant.1;
      made = runs_stopped (g.S.ClauseStore.held c.loop-self.self.store.now) c.loop-self.self.search c.loop-self.made
          (record { opened = c.in_default-Some-default.not-Unopened-0; unrefuted = c.in_default-Some-default.not-Refuted-0 })
          c.first_false-found.result c.first_false-found.ensures c.loop-self.left
          c.in_default-Some-default.k (g.S.ClauseStore.held c.act.new.self.store.now) c.act.new.self.search (told c.in-Err.e)
          z c.in_default-Some-default.is-1 c.in-Err.ensures.made
          ∙ c.loop-self.invariant.0;
    }

pub loop-self-preserved : goal.loop-self-preserved
loop-self-preserved g c =
    let z : 0 < c.loop-self.left = omega arith in (
      runs_step (g.S.ClauseStore.held c.loop-self.self.store.now) c.loop-self.self.search c.loop-self.made
          (record { opened = c.in_default-Some-default.not-Unopened-0; unrefuted = c.in_default-Some-default.not-Refuted-0 })
          c.first_false-found.result c.first_false-found.ensures c.loop-self.left
          c.in_default-Some-default.k (g.S.ClauseStore.held c.act.new.self.store.now) c.act.new.self.search c.in-Ok.step
          c.counted-made.result
          z c.in_default-Some-default.is-1 c.in-Ok.ensures.made c.counted-made.ensures
          ∙ c.loop-self.invariant.0,
      c.act.ensures.named ∙ c.loop-self.invariant.1,
    )
