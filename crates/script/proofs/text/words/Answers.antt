use Rattle.std.proofs.Common.{sym, ap, ◌∙◌}
use Rattle.std.proofs.lemmas.Bool.{eqb-true, eqb-false}
use Rattle.std.specs.Str.Iter.{split_text, split_has_more, split_pattern}
use Rattle.script.proofs.Cuts.{none_yet, skipped, taken, no_more}
use Rattle.script.proofs.text.words.Goals as goal

pub loop-piece-init : goal.loop-piece-init
loop-piece-init c =
    let is = c.into_iter-piece-iterator.ensures.into_iter_gives in
    let split = c.split-piece-items.ensures in
    none_yet c.args.line.now _ c.into_iter-piece-iterator.result c.new-words.ensures.items (ap split_pattern is ∙ split.pattern) (ap split_text is ∙ split.text) (ap split_has_more is ∙ split.has_more)

pub loop-piece-preserved-then-is_empty : goal.loop-piece-preserved-then-is_empty
loop-piece-preserved-then-is_empty c =
    skipped _ _ c.loop-piece.piece-iterator c.next.new.self c.loop-piece.invariant c.in-Some.piece c.in-Some.ensures.steps (eqb-true _ 0 (sym c.is_empty.ensures ∙ c.if-is_empty.true))

pub loop-piece-preserved : goal.loop-piece-preserved
loop-piece-preserved c =
    taken _ _ c.loop-piece.piece-iterator c.next.new.self c.loop-piece.invariant c.in-Some.piece _ c.in-Some.ensures.steps (eqb-false _ 0 (sym c.is_empty.ensures ∙ c.if-is_empty.false)) c.in_ok-push.ensures.items

pub returns : goal.returns
returns c = no_more _ _ c.loop-piece.piece-iterator c.next.new.self c.loop-piece.invariant c.in-None.ensures.steps
