use Rattle.std.proofs.Common.{◌≡◌, ◌+◌, ◌<◌, ℕ, length, get_or, ap, sym, ◌∙◌, zero-add, rules, arith, length-drop}
use Rattle.std.proofs.lemmas.List.{take_rest}
use Rattle.dimacs.specs.Preface.{lead}
use Rattle.dimacs.proofs.Lead.{one_turn, at_line, at_word}
use Rattle.dimacs.proofs.preface.heading_place.Goals as goal

pub loop-at-init : goal.loop-at-init
loop-at-init c =
    (c.lead-at.ensures.within, one_turn c.args.text.now 0 c.lead-at.result (sym (zero-add _)) (c.lead-at.ensures.value ∙ sym (zero-add _)))

pub loop-at-preserved : goal.loop-at-preserved
loop-at-preserved c =
    let t = c.args.text.now in
    let at = c.loop-at.at in
    let e = c.lead-at-in-loop-at in
    let l : at < length t = search rules in
    let h : get_or t at 0 ≡ 10 = search rules in
    let rest = take_rest t (at + 1) in
    let long = ap length rest in
    (omega (arith, length-drop (at + 1) t), one_turn t (at + 1) (at + 1 + e.result) (omega (arith, c.loop-at.invariant.1, at_line t at l h)) (ap (λ (n : ℕ). at + 1 + n) (e.ensures.value ∙ ap lead rest)))

pub returns : goal.returns
returns c =
    let t = c.args.text.now in
    let at = c.loop-at.at in
    let z = at_word t at (λ l h. search rules) in
    record { value = omega (arith, c.loop-at.invariant.1, z); within = c.loop-at.invariant.0 }
