use Rattle.std.proofs.Common.{◌≡◌, ℕ, suc, ◌≤◌, List, length, get_or, None, Option, sym, ◌∙◌, rules}
use Rattle.std.proofs.lemmas.List.{get_or_past}
use Rattle.session.specs.Searching.{reason_in}
use Rattle.session.proofs.search.reason_in.Goals as goal

none_first : (rs : List (Option ℕ)) (p : ℕ) → p ≡ 0 → None ≡ reason_in rs p
unfolding reason_in
none_first rs p e = rw e

none_past : (rs : List (Option ℕ)) (p i : ℕ) → p ≡ suc i → length rs ≤ i → None ≡ reason_in rs p
unfolding reason_in
none_past rs p i e l = rw e (sym (get_or_past rs i None l))

some_at : (rs : List (Option ℕ)) (p i : ℕ) → p ≡ suc i → get_or rs i None ≡ reason_in rs p
unfolding reason_in
some_at rs p i e = rw e

pub returns-in_err-index : goal.returns-in_err-index
returns-in_err-index c = c.from_residual.ensures ∙ none_first c.args.reasons.now c.args.atom (search rules)

pub returns-in_err-get : goal.returns-in_err-get
returns-in_err-get c = c.from_residual-in_err-get.ensures ∙ none_past c.args.reasons.now c.args.atom c.in_ok-index.index (search rules) (search rules)

pub returns : goal.returns
returns c =
    let e : c.args.atom ≡ suc c.in_ok-index.index = search rules in
    let v : c.in_ok-get.field-0.now ≡ get_or c.args.reasons.now c.in_ok-index.index None = search rules in
    v ∙ some_at c.args.reasons.now c.args.atom c.in_ok-index.index e
