use Rattle.std.proofs.Common.{◌≡◌, [], ◌∷◌, ◌++◌, vec_items, sym, ◌∙◌, rules}
use Rattle.script.proofs.Gathered.{none_yet, one_more, no_literal, no_more}
use Rattle.script.proofs.request.read_literals.Goals as goal

pub loop-w-init : goal.loop-w-init
loop-w-init c = none_yet (λ x. x.now) c.args.words.now _ c.new-literals.ensures.items

pub returns-in_default : goal.returns-in_default
returns-in_default c = sym (c.loop-w.invariant ∙ no_literal (λ x. x.now) c.args.words.now c.loop-w.w-index _ c.loop-w-test.true _ _ c.literal.ensures c.in_default.is)

pub loop-w-preserved : goal.loop-w-preserved
loop-w-preserved c =
    let pushed : vec_items c.push.new.self ≡ vec_items c.loop-w.literals ++ (c.in-Some.l ∷ []) = search rules in
    c.loop-w.invariant ∙
    one_more (λ x. x.now) c.args.words.now c.loop-w.w-index _ c.loop-w-test.true _ _ c.literal.ensures c.in-Some.l c.in-Some.is _ pushed

pub returns : goal.returns
returns c = sym (c.loop-w.invariant ∙ no_more (λ x. x.now) c.args.words.now c.loop-w.w-index _ c.loop-w-test.false)
