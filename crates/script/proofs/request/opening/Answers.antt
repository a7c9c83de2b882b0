use Rattle.std.proofs.Common.{◌≡◌, true, false, [], get_or, codes, sym, ◌∙◌, rules}
use Rattle.std.specs.Str.{bytes_eq}
use Rattle.std.proofs.lemmas.Slice.Eq.{bytes_eq-Decides}
use Rattle.std.proofs.lemmas.Bool.{cond-true, cond-false}
use Rattle.script.specs.Requests.{lends}
use Rattle.script.proofs.Phrases.{opens_three, opens_none}
use Rattle.script.proofs.request.opening.Goals as goal
use Rattle.script.proofs.request.opening.Goals.{in_default-via-then-rest-lt3, in_default-via-in-len3+else-eq, in_default-via-else-rest-lt3+else-rest-lt4}

pub returns-in_default : goal.returns-in_default
returns-in_default c =
    elim c.in_default.branch [
      | in_default-via-then-rest-lt3 w ↦ opens_none (λ x. x.now) c.args.rest.now (λ e. search rules)
      | in_default-via-in-len3+else-eq w ↦ let other : bytes_eq (get_or c.args.rest.now 2 (record { ref_ptr = (0, 0); now = [] })).now (codes "row") ≡ false = search (rules, bytes_eq-Decides) in
          sym (opens_three (λ x. x.now) c.args.rest.now _ (search rules) ∙ cond-false _ _ _ other)
      | in_default-via-else-rest-lt3+else-rest-lt4 w ↦ opens_none (λ x. x.now) c.args.rest.now (λ e. search rules)
    ]

pub returns-in-len3 : goal.returns-in-len3
returns-in-len3 c =
    let row : bytes_eq (get_or c.args.rest.now 2 (record { ref_ptr = (0, 0); now = [] })).now (codes "row") ≡ true = search (rules, bytes_eq-Decides) in
    c.lent.ensures ∙ (λ i. lends (c.number.ensures i) (c.number-in-len3.ensures i)) ∙
    sym (opens_three (λ x. x.now) c.args.rest.now _ (search rules) ∙ cond-true _ _ _ row)
