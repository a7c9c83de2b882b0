use Rattle.std.proofs.Common.{◌≡◌, ℕ, ◌+◌, ◌<◌, length, get_or, ◌∙◌, rules}
use Rattle.std.proofs.iter.runs.Made.{chains}
use Rattle.std.proofs.iter.runs.Sources.{ranges}
use Rattle.std.specs.List.{count_by}
use Rattle.trace_check.proofs.Counting.{given_at, givens_are}
use Rattle.trace_check.proofs.trailer.given_lines.Goals as goal

pub returns : goal.returns
returns c =
    let bs = c.args.trace.now in
    let run = c.count.ensures.runs in
    let filtered = c.filter.ensures.runs run.0 run.0.seen run.1 in
    let from = filtered.0 in
    let n : c.count.result ≡ count_by (given_at bs) from.items = search (rules, chains) in
    let l : length from.items ≡ c.args.last = search (rules, ranges) in
    let at : (i : ℕ) → i < length from.items → get_or from.items i 0 ≡ 1 + i = λ i h. search (rules, ranges) in
    n ∙ givens_are bs c.args.last from.items c.requires l at
