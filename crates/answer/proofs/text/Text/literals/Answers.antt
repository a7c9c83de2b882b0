use Rattle.std.proofs.Common.{◌≡◌, ℕ, zero, suc, ◌<◌, ◌+◌, ◌-◌, Bool, ◌++◌, sym, ap, ◌∙◌, append-nil, append_assoc, arith}
use Rattle.clause.specs.Words.{at}
use Rattle.answer.specs.Printed.{literals, literal_field}
use Rattle.answer.proofs.text.Text.literals.Goals as goal

one_more : (a v : ℕ) (b : Bool) → 0 < a → b ≡ at v a → literals (a - 1) v ++ literal_field a b ≡ literals (a + 1 - 1) v
unfolding literals
one_more zero v b h e = absurd (omega arith)
one_more (suc k) v b h e =
    let down : suc k - 1 ≡ k = omega arith in
    let up : suc k + 1 - 1 ≡ suc k = omega arith in
    ap (λ n. literals n v ++ literal_field (suc k) b) down ∙ ap (λ x. literals k v ++ literal_field (suc k) x) e ∙ ap (λ n. literals n v) (sym up)

pub loop-atom-init : goal.loop-atom-init
unfolding literals
loop-atom-init c = (sym (append-nil c.args.self.now), omega arith)

pub loop-atom-preserved : goal.loop-atom-preserved
loop-atom-preserved c =
    let a = c.loop-atom.atom in
    let v = c.args.valuation in (
      c.literal.ensures.value
          ∙ ap (λ t. t ++ literal_field a c.stands.result) c.loop-atom.invariant.0
          ∙ append_assoc c.args.self.now (literals (a - 1) v) (literal_field a c.stands.result)
          ∙ ap (λ t. c.args.self.now ++ t) (one_more a v c.stands.result (omega arith) c.stands.ensures),
      omega (arith, c.literal.ensures.bound, c.loop-atom.invariant.1),
    )
