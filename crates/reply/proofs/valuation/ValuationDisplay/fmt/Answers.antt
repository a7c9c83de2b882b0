use Rattle.std.proofs.Common.{◌≡◌, ℕ, ℤ, List, [], ◌∷◌, ◌++◌, ◌+◌, ◌-◌, min, refl, ap, ◌∙◌, arith, rules}
use Rattle.std.proofs.Output.{has_written_append, has_written_of_eq, writes_in_calls_nil}
use lib.Utf8.{encode}
use Rattle.std.specs.Fmt.{signed_decimal}
use Rattle.clause.specs.Texts.{in_order, spelled}
use Rattle.clause.proofs.Ordered.{step}
use Rattle.clause.proofs.Spaces.{space_before, some_before, one_literal}
use Rattle.reply.specs.Texts.{true_at}
use Rattle.reply.proofs.valuation.ValuationDisplay.fmt.Goals as goal

pub loop-atom-init : goal.loop-atom-init
unfolding in_order
loop-atom-init g c = (refl, ([], (refl, refl)), λ p. record { wrote = writes_in_calls_nil _ _; plain = p })

pub loop-atom-preserved : goal.loop-atom-preserved
unfolding encode
loop-atom-preserved g c =
    let f : ℕ → List ℤ = λ a. true_at c.args.self.now.word a ∷ [] in
    let l = c.literal-literal.result in
    let ls = in_order f (c.loop-atom.atom - 1) in
    let more : ls ++ (l ∷ []) ≡ in_order f (c.loop-atom.atom + 1 - 1) = ap (λ k. ls ++ (k ∷ [])) c.literal-literal.ensures ∙ step f c.loop-atom.atom (omega arith) in
    let before = c.loop-atom.invariant in
    let text : spelled ls ++ (c.loop-atom.space.now ++ signed_decimal l) ≡ spelled (in_order f (c.loop-atom.atom + 1 - 1)) =
    ap (λ s. spelled ls ++ (s ++ signed_decimal l)) before.0 ∙ one_literal ls l ∙ ap spelled more in
    (some_before ls l ∙ ap space_before more, (32 ∷ [], (refl, refl)), λ p. has_written_of_eq _ _ _ _ _ text (has_written_append _ _ _ _ _ _ (before.2 p) (search rules)))

pub returns-clause-writes : goal.returns-clause-writes
returns-clause-writes g c =
    let f : ℕ → List ℤ = λ a. true_at c.args.self.now.word a ∷ [] in
    let last : c.loop-atom.atom - 1 ≡ min c.args.self.now.atoms 64 = omega arith in
    λ p _. has_written_of_eq _ _ _ _ _ (ap (λ k. spelled (in_order f k)) last) (c.loop-atom.invariant.2 p)
