use Rattle.std.proofs.Common.{◌≡◌, ℕ, ◌+◌, sym, ap, ◌∙◌, arith}
use Rattle.std.specs.Iterator.Adapters.{enumerate_count, enumerate_source}
use Rattle.std.specs.Str.Iter.{split_text, split_has_more, split_pattern}
use Rattle.std.specs.Option.{option_map}
use Rattle.script.specs.Scripts.{line_as, line_of}
use Rattle.script.proofs.Scripting.{none_yet, next_is, skipped, taken, no_more}
use Rattle.script.proofs.text.read_script.Goals as goal

pub loop-i-init : goal.loop-i-init
loop-i-init c =
    let is = c.into_iter-i-iterator.ensures.into_iter_gives in
    let from = ap enumerate_source is ∙ c.enumerate-i-items.ensures.source in
    let split = c.split.ensures in
    none_yet c.args.script.now _ _ (enumerate_source c.into_iter-i-iterator.result) c.new-lines.ensures.items (ap enumerate_count is ∙ c.enumerate-i-items.ensures.count)
    (ap split_pattern from ∙ split.pattern) (ap split_text from ∙ split.text) (ap split_has_more from ∙ split.has_more)

pub loop-i-preserved-in_default : goal.loop-i-preserved-in_default
loop-i-preserved-in_default c =
    let steps = c.in-Some.ensures.steps in
    let here : c.in-Some.i + 1 ≡ enumerate_count c.next.new.self = omega (arith, steps.1, steps.2) in
    let up = next_is (enumerate_count c.loop-i.i-iterator) (enumerate_count c.next.new.self) steps.2 (omega (arith, steps.1, steps.3)) in
    skipped _ _ _ _ (enumerate_source c.loop-i.i-iterator) (enumerate_source c.next.new.self) c.loop-i.invariant up c.in-Some.line steps.0
    (sym (ap (option_map line_as) c.in_default.is) ∙ c.in_ok-read.ensures ∙ ap (λ (k : ℕ). line_of k c.in-Some.line.now) here)

pub loop-i-preserved : goal.loop-i-preserved
loop-i-preserved c =
    let steps = c.in-Some.ensures.steps in
    let here : c.in-Some.i + 1 ≡ enumerate_count c.next.new.self = omega (arith, steps.1, steps.2) in
    let up = next_is (enumerate_count c.loop-i.i-iterator) (enumerate_count c.next.new.self) steps.2 (omega (arith, steps.1, steps.3)) in
    taken _ _ _ _ (enumerate_source c.loop-i.i-iterator) (enumerate_source c.next.new.self) c.loop-i.invariant up c.in-Some.line c.in-Some-2.read _ steps.0
    (sym (ap (option_map line_as) c.in-Some-2.is) ∙ c.in_ok-read.ensures ∙ ap (λ (k : ℕ). line_of k c.in-Some.line.now) here) c.in_ok-push.ensures.items

pub returns : goal.returns
returns c =
    no_more _ _ _ (enumerate_source c.loop-i.i-iterator) (enumerate_source c.next.new.self) c.loop-i.invariant c.in-None.ensures.steps.0
