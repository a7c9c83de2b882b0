use Rattle.std.proofs.Common.{ℕ, ◌+◌, ◌*◌, cond, ap, ◌∙◌, subst, arith}
use Rattle.lines.specs.Bytes.{wrote as put}
use Rattle.lines.specs.Format.{line_bytes, trailer_bytes}
use Rattle.rule.specs.Tests.{is_bare}
use Rattle.session.specs.declared.search.Search.{Search}
use Rattle.trace.specs.Marks.{marked}
use Rattle.trace.specs.Lines.{order, chosen, trailer_for}
use Rattle.trace.specs.Tables.{Table, by_table}
use Rattle.trace.proofs.Numbering.{table_none}
use Rattle.trace.proofs.Writing.{trace_count, trace_put}
use Rattle.trace.proofs.put.Marked.put_trace.Goals as goal

pub number-requires : goal.number-requires
number-requires g c = (omega arith, (omega arith, (omega arith, table_none 16384)))

pub returns : goal.returns
returns g c =
    let es = (g.S.ClauseStore.held c.args.self.now.session.now.store.now).entries in
    let ms = c.args.self.now.marks.now in
    let ks = chosen ms es in
    let o = c.args.buffer.now in
    let d = c.put_entries-entries in
    let n = c.args.self.now.session.now.search.atoms in
    let table = c.number.new.table in
    let l = c.renumber-line.result in
    let tab : Table ks table = subst (λ (k : ℕ). Table (order (marked ms) k) table) c.count.ensures.value c.number.ensures in
    let is = c.renumber-line.ensures ∙ ap (by_table table) (c.entry_line.ensures ∙ c.requires.empty) in
    let p = c.put_end.ensures.bytes
    ∙ ap (λ (s : Search). put (put d.new.buffer (24 * d.result.lines) (line_bytes l)) (24 * (d.result.lines + 1))
    (trailer_bytes (trailer_for s.atoms (d.result.lines + 1) (d.result.given + cond (is_bare l) 1 0)))) c.search.ensures in
    record {
      bytes = trace_put es ks o d.new.buffer c.put_end.new.buffer n c.args.last.first c.args.last.second d.result.lines d.result.given table l
          tab d.ensures.wrote d.ensures.lines d.ensures.given is p;
      count = c.put_end.ensures.count ∙ trace_count es ks o d.new.buffer c.put_end.new.buffer n c.args.last.first c.args.last.second d.result.lines d.result.given table l
          tab d.ensures.wrote d.ensures.lines d.ensures.given is p;
    }
