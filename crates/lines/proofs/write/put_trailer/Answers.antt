use Rattle.std.proofs.Common.{ℕ, ◌+◌, List, length, take, sym, ◌∙◌, subst, ap, arith}
use Rattle.std.proofs.lemmas.Bool.{leb-true}
use Rattle.lines.specs.Bytes.{wrote}
use Rattle.lines.specs.Format.{Ends}
use Rattle.lines.proofs.Back.{trailer_back}
use Rattle.lines.proofs.write.put_trailer.Goals as goal

pub returns-clause-back : goal.returns-clause-back
returns-clause-back c = λ r.
    let bs = c.args.out.now in
    let t = c.args.trailer in
    let room = leb-true (t.distance + 24) (length bs) r in
    let P : List ℕ → Type 0 = λ x. Ends (take (t.distance + 24) x) t in
    let written = c.put.ensures ∙ ap (λ (x : List ℕ). wrote bs t.distance x) c.trailer_bytes.ensures in
    subst P (sym written) (trailer_back bs t room (omega arith) (omega arith) (omega arith) (omega arith))
