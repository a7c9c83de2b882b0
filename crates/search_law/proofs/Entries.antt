-- One entry more, and the entry that a step acts on.
use Rattle.std.proofs.Common.{◌≡◌, ℕ, ◌+◌, ◌<◌, ◌≤◌, true, false, eqb, List, [], ◌∷◌, ◌++◌, length, Some, None, sym, refl, ap, ◌∙◌, subst, ⊎_elim, arith}
use Rattle.std.proofs.lemmas.List.{get_or_push, get_or_append_left, length_push}
use Rattle.std.proofs.lemmas.Bool.{cases_lt, and_parts, eqb-true, eq-eqb, and_from}
use Rattle.clause.specs.declared.words.Clause.{Clause}
use Rattle.clause.specs.Clauses.{lits, makes, top, same}
use Rattle.clause.proofs.Ranks.{rank_top}
use Rattle.store.specs.declared.entry.Entry.{Entry}
use Rattle.store.specs.Held.{Pick, blank, clause_at, find_from}
use Rattle.store.proofs.Finds.{find_from_lem, none_found}
use Rattle.store.proofs.Leasts.{First}

module _ (es : List Entry) (e : Entry) where
  -- what holds of each and of one more
  pub push_each : (P : Clause → Type 0) → ((i : ℕ) → i < length es → P (clause_at es i)) → P e.clause → (i : ℕ) → i < length (es ++ (e ∷ [])) → P (clause_at (es ++ (e ∷ [])) i)
  push_each P h d i l =
      let n = length_push es e in
      ⊎_elim
      (λ z. subst (λ (x : Entry). P x.clause) (sym (get_or_append_left es (e ∷ []) blank i z)) (h i z))
      (λ z. subst (λ (x : Entry). P x.clause) (sym (get_or_push es e blank i (omega arith))) d)
      (cases_lt i (length es))

  -- an entry keeps its place
  pub push_old : (i : ℕ) → i < length es → clause_at (es ++ (e ∷ [])) i ≡ clause_at es i
  push_old i l = ap (λ (x : Entry). x.clause) (get_or_append_left es (e ∷ []) blank i l)

  pub push_new : clause_at (es ++ (e ∷ [])) (length es) ≡ e.clause
  push_new = ap (λ (x : Entry). x.clause) (get_or_push es e blank (length es) refl)

  -- a clause that was not held has the next number
  pub find_push : (n : ℕ) → find_from n es e.clause ≡ None → find_from n (es ++ (e ∷ [])) e.clause ≡ Some (n + length es)
  find_push n q =
      let m = length_push es e in
      find_from_lem n (es ++ (e ∷ [])) e.clause (length es) (omega arith)
      (ap (λ (c : Clause). same c e.clause) push_new ∙ self e.clause)
      (λ j l. ap (λ (c : Clause). same c e.clause) (push_old j l) ∙ none_found n es e.clause q j l)
    where
      self : (c : Clause) → same c c ≡ true
      self c = and_from _ _ (eq-eqb c.positive c.positive refl) (eq-eqb c.negative c.negative refl)

-- the first false clause has the lowest highest atom of the false ones
pub first_top : (es : List Entry) (v : ℕ) (p : Pick) → (r : First 1 es v p) → (i : ℕ) → i < length es → makes v (lits (clause_at es i)) ≡ false
    → top (lits (clause_at es r.index)) ≤ top (lits (clause_at es i))
first_top es v p r i l f = rank_top 64 (lits (clause_at es r.index)) (lits (clause_at es i)) (r.least i l f)

-- clauses with the same literals
pub same_lits : (c d : Clause) → same c d ≡ true → lits c ≡ lits d
same_lits c d t =
    let q = and_parts (eqb c.positive d.positive) (eqb c.negative d.negative) t in
    let x = eqb-true c.positive d.positive q.0 in
    let y = eqb-true c.negative d.negative q.1 in
    cc
