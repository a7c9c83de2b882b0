use Rattle.std.proofs.Common.{◌≡◌, ◌-◌, [], ◌∷◌}
use denote.Shadow.{shadow}
use denote.Text.{Utf8}
use Rattle.std.specs.Fmt.{HasWritten, IsPlainFormatter}
use Rattle.clause.specs.Texts.{in_order, spelled}
use Rattle.clause.proofs.Spaces.{space_before}
use Rattle.reply.specs.Texts.{true_at}
use Rattle.reply.proofs.valuation.ValuationDisplay.fmt.Given as goal

abbrev pub invariant-loop-atom : goal.invariant-loop-atom
invariant-loop-atom g l =
    (l.space ≡ space_before (in_order (λ a. true_at l.self.word a ∷ []) (l.atom - 1)))
    × shadow (Utf8 l.space)
    × (IsPlainFormatter l.initial.f → HasWritten g.W.Write.write_str_gives l.initial.f (spelled (in_order (λ a. true_at l.self.word a ∷ []) (l.atom - 1))) l.f)
