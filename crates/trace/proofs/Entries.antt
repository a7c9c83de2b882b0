-- Entries by their number.
use Rattle.std.proofs.Common.{◌≡◌, ℕ, zero, suc, List, [], ◌∷◌, get_or, Some, None, Option, refl, ap, ◌∙◌, arith}
use Rattle.std.specs.List.{slice_get}
use Rattle.std.specs.Option.{unwrap_or}
use Rattle.clause.specs.declared.words.Clause.{Clause}
use Rattle.clause.specs.Clauses.{Literals, lits}
use Rattle.store.specs.declared.entry.Entry.{Entry}
use Rattle.store.specs.Held.{blank, entry_at}
use Rattle.lines.specs.declared.line.Line.{Line}
use Rattle.trace.specs.Marks.{entry_of}
use Rattle.trace.specs.Lines.{as_line}

nth_some : (es : List Entry) (i : ℕ) (e : Entry) → Some e ≡ slice_get es i → e ≡ get_or es i blank
nth_some [] i e p = absurd (let z : ◌≡◌ {A = ℕ} 0 1 = cc in omega arith)
nth_some (x ∷ es) zero e p = cc
nth_some (x ∷ es) (suc i) e p = nth_some es i e p

nth_none : (es : List Entry) (i : ℕ) → None ≡ slice_get es i → blank ≡ get_or es i blank
nth_none [] i p = refl
nth_none (x ∷ es) zero p = absurd (let z : ◌≡◌ {A = ℕ} 0 1 = cc in omega arith)
nth_none (x ∷ es) (suc i) p = nth_none es i p

pub is_entry : (es : List Entry) (k : ℕ) (e : Entry) → Some e ≡ entry_at es k → e ≡ entry_of es k
is_entry es zero e p = absurd (let z : ◌≡◌ {A = ℕ} 0 1 = cc in omega arith)
is_entry es (suc k) e p = nth_some es k e p

pub no_entry : (es : List Entry) (k : ℕ) → None ≡ entry_at es k → blank ≡ entry_of es k
no_entry es zero p = refl
no_entry es (suc k) p = nth_none es k p

-- the line of entry k, or that of the empty clause
pub line_or : (es : List Entry) (k : ℕ) (o : Option Entry) (d : Entry) → o ≡ entry_at es k → as_line d ≡ as_line blank → as_line (unwrap_or o d) ≡ as_line (entry_of es k)
line_or es k (Some x) d e f = ap as_line (is_entry es k x e)
line_or es k None d e f = f ∙ ap as_line (no_entry es k e)

pub line_none : (c : Clause) (e : Entry) → lits c ≡ record { pos = 0; neg = 0 } → e ≡ record { clause = c; first = 0; second = 0 } → as_line e ≡ as_line blank
line_none c e l d =
    let line : Literals → Line = λ x. record { positive = x.pos; negative = x.neg; first = 0; second = 0 } in
    ap as_line d ∙ ap line l
