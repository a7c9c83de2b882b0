use Rattle.std.proofs.Common.{◌≡◌, ℕ, ℤ, List, [], ◌∷◌, ◌++◌, ◌+◌, ◌-◌, refl, sym, ap, ◌∙◌, arith, rules}
use Rattle.std.proofs.Output.{has_written_append, has_written_of_eq, writes_in_calls_nil}
use lib.Utf8.{encode}
use Rattle.std.specs.Option.{option_to_list}
use Rattle.std.specs.Fmt.{signed_decimal}
use Rattle.clause.specs.Texts.{literal_at, in_order, spelled}
use Rattle.clause.proofs.Ordered.{step, skipped}
use Rattle.clause.proofs.Spaces.{space_before, some_before, one_literal}
use Rattle.clause.proofs.text.ClauseDisplay.fmt.Goals as goal

pub loop-atom-init : goal.loop-atom-init
unfolding in_order
loop-atom-init g c = (refl, ([], (refl, refl)), λ p. record { wrote = writes_in_calls_nil _ _; plain = p })

pub loop-atom-preserved-in_default : goal.loop-atom-preserved-in_default
loop-atom-preserved-in_default g c =
    let f : ℕ → List ℤ = λ a. option_to_list (literal_at c.args.self.now a) in
    let same = skipped f c.loop-atom.atom _ (omega arith) refl (ap option_to_list (sym c.literal.ensures ∙ c.in_default.is)) in
    let before = c.loop-atom.invariant in
    (before.0 ∙ ap space_before same, before.1, λ p. has_written_of_eq _ _ _ _ _ (ap spelled same) (before.2 p))

pub loop-atom-preserved : goal.loop-atom-preserved
unfolding encode
loop-atom-preserved g c =
    let f : ℕ → List ℤ = λ a. option_to_list (literal_at c.args.self.now a) in
    let l = c.in-Some.literal in
    let ls = in_order f (c.loop-atom.atom - 1) in
    let here : f c.loop-atom.atom ≡ l ∷ [] = ap option_to_list (sym c.literal.ensures ∙ c.in-Some.is) in
    let more : ls ++ (l ∷ []) ≡ in_order f (c.loop-atom.atom + 1 - 1) = ap (λ ks. ls ++ ks) (sym here) ∙ step f c.loop-atom.atom (omega arith) in
    let before = c.loop-atom.invariant in
    let text : spelled ls ++ (c.loop-atom.space.now ++ signed_decimal l) ≡ spelled (in_order f (c.loop-atom.atom + 1 - 1)) =
    ap (λ s. spelled ls ++ (s ++ signed_decimal l)) before.0 ∙ one_literal ls l ∙ ap spelled more in
    (some_before ls l ∙ ap space_before more, (32 ∷ [], (refl, refl)), λ p. has_written_of_eq _ _ _ _ _ text (has_written_append _ _ _ _ _ _ (before.2 p) (search rules)))

pub returns-clause-writes : goal.returns-clause-writes
returns-clause-writes g c =
    let f : ℕ → List ℤ = λ a. option_to_list (literal_at c.args.self.now a) in
    let last : c.loop-atom.atom - 1 ≡ 64 = omega arith in
    λ p _. has_written_of_eq _ _ _ _ _ (ap (λ k. spelled (in_order f k)) last) (c.loop-atom.invariant.2 p)
