use Rattle.std.proofs.Common.{◌≡◌, ℕ, ◌&&◌, Bool, true, List, take, sym, ap, ◌∙◌, eqb, rules, arith}
use Rattle.std.proofs.lemmas.Bool.{both_ways, and_parts, eqb-true, eq-eqb}
use Rattle.lines.specs.Bytes.{number_at}
use Rattle.lines.specs.Format.{trailer_of, tail, Ends}
use Rattle.lines.proofs.Parts.{half_read, match_where}
use Rattle.lines.proofs.read.trailer.Goals as goal
use Rattle.lines.proofs.read.trailer.Goals.{then-is_marked, else-is_marked}

both : (x y : Bool) → x ≡ true → y ≡ true → x && y ≡ true
both x y e f = grind arith

pub returns : goal.returns
returns c =
    let bs = c.args.trace.now in
    let part = c.in_ok-part.part.now in
    let e : part ≡ tail bs = c.in_ok-part.ensures.cases.1.same in
    let closed = half_read part 20 c.bytes.ensures c.from_be_bytes-closed.ensures ∙ ap (λ (x : List ℕ). number_at x 20 4) e in
    let test : c.if-is_marked.then ≡ c.is_marked.result && eqb c.from_be_bytes-closed.result 0 =
    elim c.if-is_marked.branch [
      | then-is_marked w ↦ let k = w.then-is in let m = w.if-is_marked.true in grind arith
      | else-is_marked w ↦ let k = w.then-is in let m = w.if-is_marked.false in grind arith
    ] in
    match_where c.then.result _ _ (λ t. Ends bs t) (c.then.ensures.variant ∙ test) c.then.ensures.some
    (λ f t s. both_ways _ f
    (both c.is_marked.result (eqb c.from_be_bytes-closed.result 0) (c.is_marked.ensures.1 (ap (take 4) e ∙ s.marked)) (eq-eqb _ 0 (closed ∙ s.closed))))
    (λ b t p.
    let h = and_parts c.is_marked.result _ b in
    let n : t ≡ trailer_of part = search rules in
    record {
      long = c.in_ok-part.ensures.cases.0;
      marked = ap (take 4) (sym e) ∙ c.is_marked.ensures.0 h.0;
      numbers = ap trailer_of (sym e) ∙ sym n;
      closed = sym closed ∙ eqb-true _ 0 h.1;
    })
