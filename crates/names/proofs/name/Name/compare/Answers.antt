use Rattle.std.proofs.Common.{◌∙◌}
use Rattle.std.proofs.lemmas.Cmp.{ranked}
use Rattle.names.specs.Keyed.{padded, keyed}
use Rattle.names.specs.Names.{spelled}
use Rattle.names.proofs.Ranks.{by_ranks, order_law}
use Rattle.names.proofs.name.Name.compare.Goals as goal

pub returns : goal.returns
returns c =
    let s = c.args.self.now in
    let o = c.args.other.now in
    let r = ranked _ _ c.compare_bytes.result (c.compare_bytes.ensures ∙ keyed s.bytes o.bytes s.len o.len s.full o.full (padded s.bytes s.len s.good s.padded) (padded o.bytes o.len o.good o.padded)) in
    record { order = by_ranks (spelled s) (spelled o) c.compare_bytes.result s.good o.good r; ranks = r; law = order_law }
