-- A walk over words meets no fault exactly where they spell clauses.
use Rattle.std.proofs.Common.{◌≡◌, ℕ, ◌+◌, ◌-◌, ◌<◌, ◌≤◌, false, eqb, ◌⊎◌, List, [], ◌∷◌, ◌++◌, map, length, ℤ, pos, negsuc, nat_abs, Some, None, Ok, Err, codes, Option, Result, sym, refl, ap, ◌∙◌, subst, inl, inr, ⊎_elim, arith}
use Rattle.std.specs.List.{flat_map}
use Rattle.std.specs.Fmt.{signed_decimal}
use Rattle.std.proofs.lemmas.Fmt.{decimal_digit}
use Rattle.std.proofs.lemmas.Bool.{cases_Bool, cond-true, cond-false, eqb-true, eq-eqb, ne_eqb}
use Rattle.clause.specs.declared.words.Clause.{Clause}
use Rattle.clause.specs.Clauses.{lits, top}
use Rattle.clause.specs.Reading.{clear, outside, grown}
use Rattle.clause.specs.Refusals.{Told}
use Rattle.dimacs.specs.declared.body.Scan.{Scan}
use Rattle.dimacs.specs.Words.{Piece}
use Rattle.dimacs.specs.Numbers.{literal}
use Rattle.dimacs.specs.Body.{going, at_literal, grows, step}
use Rattle.dimacs.specs.Walk.{stepped, walk}
use Rattle.dimacs.proofs.Courses.{Ends, Goes, Taken, taken, at_end, inside}
use Rattle.dimacs_law.specs.Grammar.{spelled, MakeAll}
use Rattle.dimacs_law.proofs.Numerals.{lit_some, lit_spell}
use Rattle.dimacs_law.proofs.Sets.{Becomes, in_range, makes_from, makes_becomes, makes_full}

abbrev pub bytes : List Piece → List (List ℕ)
bytes ws = map (λ (w : Piece). w.1) ws

none_some : {X Y : Type 0} {e : Y} → ◌≡◌ {A = Option Y} (Some e) None → X
none_some p = absurd (let z : ◌≡◌ {A = ℕ} 0 1 = cc in let f : ⊥ = omega arith in f)

-- the word 0
zero_word : signed_decimal (pos 0) ≡ codes "0"
zero_word = decimal_digit 0 (omega arith)

is_zero : (l : ℤ) → nat_abs l ≡ 0 → l ≡ pos 0
is_zero (pos n) e = ap pos e
is_zero (negsuc n) e = absurd (omega arith)

end_word : (w : List ℕ) (l : ℤ) → literal w ≡ Some l → nat_abs l ≡ 0 → w ≡ codes "0"
end_word w l e z = lit_some w l (omega arith) e ∙ ap signed_decimal (is_zero l z) ∙ zero_word

literal_word : (n : ℕ) (w : List ℕ) (l : ℤ) → n ≤ 64 → literal w ≡ Some l → outside n (nat_abs l) ≡ false → w ≡ signed_decimal l
literal_word n w l h e f = let r = (in_range n l f).1 in lit_some w l (omega arith) e

-- ---- from a walk to clauses

-- what is left of a text from inside a clause: the rest of that clause, and the clauses after it
record Left (end : ℕ) (s : Scan) (ws : List Piece) : Type 0 where
  rest : List ℤ
  clause : Clause
  later : List (List ℤ)
  clauses : List Clause
  count : length later + 1 ≡ s.left
  becomes : Becomes s.atoms s.clause rest clause
  full : top (lits clause) ≡ 0 → ⊥
  make : MakeAll s.atoms later clauses
  spells : bytes ws ≡ spelled rest ++ flat_map spelled later
  gives : (walk end s ws).clauses ≡ clause ∷ clauses

record Over (end : ℕ) (s : Scan) (ws : List Piece) : Type 0 where
  none : s.left ≡ 0
  empty : bytes ws ≡ []
  gives : (walk end s ws).clauses ≡ []

abbrev Rest : ℕ → Scan → List Piece → Type 0
Rest end s ws = Over end s ws ⊎ Left end s ws

-- a word that ends a clause
ended : (end : ℕ) (s : Scan) (w : Piece) (ws : List Piece) → Ends s (going s (s.left - 1) clear) → step s w ≡ Ok (going s (s.left - 1) clear) → w.1 ≡ codes "0" → Rest end (going s (s.left - 1) clear) ws → Left end s (w ∷ ws)
ended end s w ws e q z (inl o) =
    let t : Scan = going s (s.left - 1) clear in
    let h = e.some in
    let k : s.left - 1 ≡ 0 = o.none in
    record {
      rest = [];
      clause = s.clause;
      later = [];
      clauses = [];
      count = omega arith;
      becomes = refl;
      full = e.full;
      make = tt;
      spells = ap (λ (x : List ℕ). x ∷ bytes ws) z ∙ ap (λ (x : List (List ℕ)). codes "0" ∷ x) o.empty;
      gives = ap (λ (r : Result Scan Told). (stepped s r (λ t. walk end t ws)).clauses) q ∙ (at_end s t _ e).0 ∙ ap (λ (x : List Clause). s.clause ∷ x) o.gives;
    }
ended end s w ws e q z (inr y) =
    let t : Scan = going s (s.left - 1) clear in
    let h = e.some in
    let k : length y.later + 1 ≡ s.left - 1 = y.count in
    record {
      rest = [];
      clause = s.clause;
      later = y.rest ∷ y.later;
      clauses = y.clause ∷ y.clauses;
      count = omega arith;
      becomes = refl;
      full = e.full;
      make = (makes_from s.atoms y.clause y.rest y.becomes y.full, y.make);
      spells = ap (λ (x : List ℕ). x ∷ bytes ws) z ∙ ap (λ (x : List (List ℕ)). codes "0" ∷ x) y.spells;
      gives = ap (λ (r : Result Scan Told). (stepped s r (λ t. walk end t ws)).clauses) q ∙ (at_end s t _ e).0 ∙ ap (λ (x : List Clause). s.clause ∷ x) y.gives;
    }

-- a word that goes into one
went : (end : ℕ) (s : Scan) (w : Piece) (ws : List Piece) (l : ℤ) (c : Clause) → Goes s (going s s.left c) l → grown s.clause l (nat_abs l) ≡ Some c → step s w ≡ Ok (going s s.left c) → w.1 ≡ signed_decimal l → Rest end (going s s.left c) ws → Left end s (w ∷ ws)
went end s w ws l c g m q z (inl o) = let h = g.some in let k : s.left ≡ 0 = o.none in absurd (omega arith)
went end s w ws l c g m q z (inr y) = record {
  rest = l ∷ y.rest;
  clause = y.clause;
  later = y.later;
  clauses = y.clauses;
  count = y.count;
  becomes = (g.fits, (c, m, y.becomes));
  full = y.full;
  make = y.make;
  spells = ap (λ (x : List ℕ). x ∷ bytes ws) z ∙ ap (λ (x : List (List ℕ)). signed_decimal l ∷ x) y.spells;
  gives = ap (λ (r : Result Scan Told). (stepped s r (λ t. walk end t ws)).clauses) q ∙ (inside s _ l _ g).0 ∙ y.gives;
}

one_word : (end : ℕ) (s t : Scan) (w : Piece) (ws : List Piece) → s.atoms ≤ 64 → step s w ≡ Ok t → Taken s t w → Rest end t ws → Left end s (w ∷ ws)
one_word end s t w ws h q k r = go k.way
  where
    go : ((nat_abs k.lit ≡ 0) × Ends s t) ⊎ ((nat_abs k.lit ≡ 0 → ⊥) × Goes s t k.lit) → Left end s (w ∷ ws)
    go (inl (z, e)) =
        let u : Scan = going s (s.left - 1) clear in
        ended end s w ws (subst (Ends s) e.then e) (q ∙ ap Ok e.then) (end_word w.1 k.lit k.word z) (subst (λ (x : Scan). Rest end x ws) e.then r)
    go (inr (z, g)) =
        went end s w ws k.lit g.clause (subst (λ (x : Scan). Goes s x k.lit) g.then g) g.grown_to (q ∙ ap Ok g.then)
        (literal_word s.atoms w.1 k.lit h k.word g.fits) (subst (λ (x : Scan). Rest end x ws) g.then r)

forth : (end : ℕ) (ws : List Piece) (s : Scan) → s.atoms ≤ 64 → (walk end s ws).fault ≡ None → Rest end s ws
forth end [] s h e = inl record {
  none = ⊎_elim (λ z. eqb-true _ 0 z) (λ z. none_some (sym (cond-false (eqb s.left 0) _ _ z) ∙ e)) (cases_Bool (eqb s.left 0));
  empty = refl;
  gives = refl;
}
forth end (w ∷ ws) s h e = go (step s w) refl (λ t. forth end ws t) e
  where
    same_atoms : (t : Scan) → Taken s t w → t.atoms ≡ s.atoms
    same_atoms t k = ⊎_elim
        (λ (p : (nat_abs k.lit ≡ 0) × Ends s t). ap (λ (x : Scan). x.atoms) p.1.then)
        (λ (p : (nat_abs k.lit ≡ 0 → ⊥) × Goes s t k.lit). ap (λ (x : Scan). x.atoms) p.1.then)
        k.way

    go : (r : Result Scan Told) → step s w ≡ r → ((t : Scan) → t.atoms ≤ 64 → (walk end t ws).fault ≡ None → Rest end t ws)
        → (stepped s r (λ t. walk end t ws)).fault ≡ None → Rest end s (w ∷ ws)
    go (Err x) q ih e = none_some e
    go (Ok t) q ih e =
        let k = taken s t w q in
        inr (one_word end s t w ws h q k (ih t (subst (λ (n : ℕ). n ≤ 64) (sym (same_atoms t k)) h) e))

-- ---- and back

step_end : (s : Scan) (w : Piece) → 0 < s.left → (top (lits s.clause) ≡ 0 → ⊥) → w.1 ≡ codes "0" → step s w ≡ Ok (going s (s.left - 1) clear)
step_end s w h f z =
    let l : literal w.1 ≡ Some (pos 0) = ap literal (z ∙ sym zero_word) ∙ lit_spell (pos 0) (omega arith) in
    cond-false (eqb s.left 0) _ _ (ne_eqb _ 0 (λ e. omega arith)) ∙ ap (at_literal s w.0) l ∙ cond-false (eqb (top (lits s.clause)) 0) _ _ (ne_eqb _ 0 f)

step_lit : (s : Scan) (w : Piece) (l : ℤ) (c : Clause) → s.atoms ≤ 64 → 0 < s.left → outside s.atoms (nat_abs l) ≡ false → grown s.clause l (nat_abs l) ≡ Some c → w.1 ≡ signed_decimal l → step s w ≡ Ok (going s s.left c)
step_lit s w l c k h f g z =
    let r = in_range s.atoms l f in
    let some = r.0 in
    let small = r.1 in
    let e : literal w.1 ≡ Some l = ap literal z ∙ lit_spell l (omega arith) in
    cond-false (eqb s.left 0) _ _ (ne_eqb _ 0 (λ e. omega arith)) ∙ ap (at_literal s w.0) e ∙ cond-false (eqb (nat_abs l) 0) _ _ (ne_eqb _ 0 (λ e. omega arith)) ∙
    cond-false (outside s.atoms (nat_abs l)) _ _ f ∙ ap (grows s w.0) g

-- a walk without a fault that gives just those clauses
record Clean (end : ℕ) (s : Scan) (ws : List Piece) (cs : List Clause) : Type 0 where
  fault : (walk end s ws).fault ≡ None
  gives : (walk end s ws).clauses ≡ cs

on_end : (end : ℕ) (s : Scan) (w : Piece) (ws : List Piece) (cs : List Clause) → 0 < s.left → (top (lits s.clause) ≡ 0 → ⊥) → w.1 ≡ codes "0" → Clean end (going s (s.left - 1) clear) ws cs → Clean end s (w ∷ ws) (s.clause ∷ cs)
on_end end s w ws cs h f z c =
    let q = step_end s w h f z in
    record {
      fault = ap (λ (r : Result Scan Told). (stepped s r (λ t. walk end t ws)).fault) q ∙ c.fault;
      gives = ap (λ (r : Result Scan Told). (stepped s r (λ t. walk end t ws)).clauses) q ∙ (at_end s (going s (s.left - 1) clear) _ (record { some = h; full = f; then = refl })).0 ∙ ap (λ (x : List Clause). s.clause ∷ x) c.gives;
    }

on_lit : (end : ℕ) (s : Scan) (w : Piece) (ws : List Piece) (l : ℤ) (x : Clause) (cs : List Clause) → s.atoms ≤ 64 → 0 < s.left → outside s.atoms (nat_abs l) ≡ false → grown s.clause l (nat_abs l) ≡ Some x → w.1 ≡ signed_decimal l → Clean end (going s s.left x) ws cs → Clean end s (w ∷ ws) cs
on_lit end s w ws l x cs k h f g z c =
    let q = step_lit s w l x k h f g z in
    record {
      fault = ap (λ (r : Result Scan Told). (stepped s r (λ t. walk end t ws)).fault) q ∙ c.fault;
      gives = ap (λ (r : Result Scan Told). (stepped s r (λ t. walk end t ws)).clauses) q ∙ (inside s (going s s.left x) l _ (record { some = h; fits = f; clause = x; grown_to = g; then = refl })).0 ∙ c.gives;
    }

cons_parts : (w x : List ℕ) (ws xs : List (List ℕ)) → ◌≡◌ {A = List (List ℕ)} (w ∷ ws) (x ∷ xs) → (w ≡ x) × (ws ≡ xs)
cons_parts w x ws xs p = (cc, cc)

no_cons : {X : Type 0} (x : List ℕ) (xs : List (List ℕ)) → ◌≡◌ {A = List (List ℕ)} [] (x ∷ xs) → X
no_cons x xs p = absurd (let z : ◌≡◌ {A = ℕ} 0 1 = cc in let f : ⊥ = omega arith in f)

-- nothing is left
over : (end : ℕ) (ws : List Piece) (s : Scan) → s.left ≡ 0 → bytes ws ≡ [] → Clean end s ws []
over end [] s e p = record { fault = cond-true (eqb s.left 0) _ _ (eq-eqb _ 0 e); gives = refl }
over end (w ∷ ws) s e p = no_cons _ _ (sym p)

back : (end : ℕ) (ws : List Piece) (s : Scan) (ls : List ℤ) (lss : List (List ℤ)) (c : Clause) (cs : List Clause) → s.atoms ≤ 64 → s.left ≡ length lss + 1
    → Becomes s.atoms s.clause ls c → (top (lits c) ≡ 0 → ⊥) → MakeAll s.atoms lss cs → bytes ws ≡ spelled ls ++ flat_map spelled lss → Clean end s ws (c ∷ cs)
back end [] s [] lss c cs h n b f m p = no_cons _ _ p
back end [] s (l ∷ ls) lss c cs h n b f m p = no_cons _ _ p
back end (w ∷ ws) s [] [] c [] h n b f m p =
    let q = cons_parts w.1 (codes "0") (bytes ws) [] p in
    let g : top (lits s.clause) ≡ 0 → ⊥ = λ e. f (ap (λ (x : Clause). top (lits x)) (sym b) ∙ e) in
    subst (λ (x : Clause). Clean end s (w ∷ ws) (x ∷ [])) b (on_end end s w ws [] (omega arith) g q.0 (over end ws (going s (s.left - 1) clear) (let z : s.left - 1 ≡ 0 = omega arith in z) q.1))
back end (w ∷ ws) s [] [] c (d ∷ cs) h n b f m p = absurd m
back end (w ∷ ws) s [] (ls ∷ lss) c [] h n b f m p = absurd m
back end (w ∷ ws) s [] (ls ∷ lss) c (d ∷ cs) h n b f m p =
    let q = cons_parts w.1 (codes "0") (bytes ws) (spelled ls ++ flat_map spelled lss) p in
    let g : top (lits s.clause) ≡ 0 → ⊥ = λ e. f (ap (λ (x : Clause). top (lits x)) (sym b) ∙ e) in
    subst (λ (x : Clause). Clean end s (w ∷ ws) (x ∷ d ∷ cs)) b (on_end end s w ws (d ∷ cs) (omega arith) g q.0
    (back end ws (going s (s.left - 1) clear) ls lss d cs h (let z : s.left - 1 ≡ length lss + 1 = omega arith in z) (makes_becomes s.atoms ls d h m.0) (makes_full s.atoms ls d h m.0) m.1 q.1))
back end (w ∷ ws) s (l ∷ ls) lss c cs h n (o, (x, g, b)) f m p =
    let q = cons_parts w.1 (signed_decimal l) (bytes ws) (spelled ls ++ flat_map spelled lss) p in
    on_lit end s w ws l x (c ∷ cs) h (omega arith) o g q.0 (back end ws (going s s.left x) ls lss c cs h n b f m q.1)

-- ---- whole bodies

-- the clauses after a heading
pub record Body (end : ℕ) (s : Scan) (ws : List Piece) : Type 0 where
  pub literals : List (List ℤ)
  pub count : length literals ≡ s.left
  pub make : MakeAll s.atoms literals (walk end s ws).clauses
  pub spells : bytes ws ≡ flat_map spelled literals

pub body_spelled : (end : ℕ) (ws : List Piece) (s : Scan) → s.atoms ≤ 64 → s.clause ≡ clear → (walk end s ws).fault ≡ None → Body end s ws
body_spelled end ws s h c e = go (forth end ws s h e)
  where
    go : Rest end s ws → Body end s ws
    go (inl o) = record { literals = []; count = sym o.none; make = subst (MakeAll s.atoms []) (sym o.gives) tt; spells = o.empty }
    go (inr y) = record {
      literals = y.rest ∷ y.later;
      count = let k = y.count in omega arith;
      make = subst (MakeAll s.atoms (y.rest ∷ y.later)) (sym y.gives)
          (makes_from s.atoms y.clause y.rest (subst (λ (x : Clause). Becomes s.atoms x y.rest y.clause) c y.becomes) y.full, y.make);
      spells = y.spells;
    }

pub spelled_body : (end : ℕ) (ws : List Piece) (s : Scan) (lss : List (List ℤ)) (cs : List Clause) → s.atoms ≤ 64 → s.clause ≡ clear → s.left ≡ length lss → MakeAll s.atoms lss cs → bytes ws ≡ flat_map spelled lss
    → ((walk end s ws).fault ≡ None) × ((walk end s ws).clauses ≡ cs)
spelled_body end ws s [] [] h c n m p = let o = over end ws s n p in (o.fault, o.gives)
spelled_body end ws s [] (d ∷ cs) h c n m p = absurd m
spelled_body end ws s (ls ∷ lss) [] h c n m p = absurd m
spelled_body end ws s (ls ∷ lss) (d ∷ cs) h c n m p =
    let o = back end ws s ls lss d cs h (omega arith) (subst (λ (x : Clause). Becomes s.atoms x ls d) (sym c) (makes_becomes s.atoms ls d h m.0)) (makes_full s.atoms ls d h m.0) m.1 p in
    (o.fault, o.gives)
