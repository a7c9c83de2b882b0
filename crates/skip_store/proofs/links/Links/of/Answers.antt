use Rattle.std.proofs.Common.{get_or, sym, ap, ◌∙◌, arith}
use Rattle.skip_store.proofs.Spots.{link_head, link_entry}
use Rattle.skip_store.proofs.links.Links.of.Goals as goal

pub returns-then-j-eq0 : goal.returns-then-j-eq0
returns-then-j-eq0 c = sym (link_head _ _ _ _ c.if-j-eq0.true)

pub returns-else-j-eq0 : goal.returns-else-j-eq0
returns-else-j-eq0 c = ap (λ i. get_or c.args.self.now.lent.now i 0) c.seat.ensures.value ∙ sym (link_entry _ _ _ _ (omega arith))
