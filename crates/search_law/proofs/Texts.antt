-- The clauses of a text have atoms, none above those of the session, and do not depend on the bound.
use Rattle.std.proofs.Common.{◌≡◌, ℕ, ◌-◌, ◌≤◌, min, false, eqb, ltb, List, [], ◌∷◌, length, ℤ, nat_abs, Some, None, Ok, Err, codes, Option, Result, sym, refl, ap, ◌∙◌, subst, ⊎_elim, arith}
use Rattle.std.proofs.lemmas.Bool.{cases_Bool, cond-true, cond-false, or_parts, or_from, ltb-false, le-ltb}
use Rattle.std.specs.List.{AllByRecursion}
use Rattle.clause.specs.declared.words.Clause.{Clause}
use Rattle.clause.specs.Clauses.{lits, top}
use Rattle.clause.specs.Reading.{outside, clear}
use Rattle.clause.specs.Refusals.{Told}
use Rattle.dimacs.specs.declared.body.Scan.{Scan}
use Rattle.dimacs.specs.declared.heading.Count.TheVariants.{Atoms, Clauses}
use Rattle.dimacs.specs.declared.heading.Heading.{Heading}
use Rattle.dimacs.specs.Numbers.{numeral, capped}
use Rattle.dimacs.specs.Words.{Piece}
use Rattle.dimacs.specs.Preface.{after_preface}
use Rattle.dimacs.specs.Body.{going, step}
use Rattle.dimacs.specs.Heading.{onward, expecting, within, counting, headed}
use Rattle.dimacs.specs.Walk.{stepped, walk, begun, Parsed, accepted, body, parse_words, early_in}
use Rattle.dimacs.proofs.Courses.{no_ok, Ends, Goes, some_left, taken, at_end, inside, early_parse}
use Rattle.search_law.proofs.Literals.{Both, grown_in, nothing_in, ordinary_from}
use Rattle.search_law.specs.Law.{Ordinary}
use Rattle.search_law.specs.Texts.{ClauseLaw, BoundLaw}

abbrev AllOrdinary : ℕ → List Clause → Type 0
AllOrdinary n cs = AllByRecursion (λ (c : Clause). Ordinary n (lits c)) cs

-- what a word adds to the clauses of a walk that goes on with the words ws
module _ (n end : ℕ) (ws : List Piece) (s t : Scan) (l : s.atoms ≤ n) (f : Both s.atoms (lits s.clause))
    (ih : (t : Scan) → t.atoms ≤ n → Both t.atoms (lits t.clause) → AllOrdinary n (walk end t ws).clauses) where
  ends_ordinary : Ends s t → AllOrdinary n (stepped s (Ok t) (λ x. walk end x ws)).clauses
  ends_ordinary e =
      let z = e.full in
      subst (AllOrdinary n) (sym (at_end s t (walk end t ws).clauses e).0) (
        ordinary_from s.atoms n s.clause l f (some_left (top (lits s.clause)) z),
        subst (λ (x : Scan). AllOrdinary n (walk end x ws).clauses) (sym e.then) (ih (going s (s.left - 1) clear) l (nothing_in s.atoms)),
      )

  goes_ordinary : (i : ℤ) → Goes s t i → AllOrdinary n (stepped s (Ok t) (λ x. walk end x ws)).clauses
  goes_ordinary i g =
      subst (AllOrdinary n) (sym (inside s t i (walk end t ws).clauses g).0)
      (subst (λ (x : Scan). AllOrdinary n (walk end x ws).clauses) (sym g.then)
      (ih (going s s.left g.clause) l (grown_in s.atoms s.clause g.clause i (nat_abs i) g.fits g.grown_to f)))

-- the clauses of a walk that begins with at most n atoms
walk_ordinary : (n end : ℕ) (ws : List Piece) (s : Scan) → s.atoms ≤ n → Both s.atoms (lits s.clause) → AllOrdinary n (walk end s ws).clauses
walk_ordinary n end [] s l f = tt
walk_ordinary n end (w ∷ ws) s l f = go (step s w) refl (λ t. walk_ordinary n end ws t)
  where
    go : (r : Result Scan Told) → step s w ≡ r → ((t : Scan) → t.atoms ≤ n → Both t.atoms (lits t.clause) → AllOrdinary n (walk end t ws).clauses)
        → AllOrdinary n (stepped s r (λ t. walk end t ws)).clauses
    go (Err x) q ih = tt
    go (Ok t) q ih = ⊎_elim
        (λ (p : (nat_abs (taken s t w q).lit ≡ 0) × Ends s t). ends_ordinary n end ws s t l f ih p.1)
        (λ (p : (nat_abs (taken s t w q).lit ≡ 0 → ⊥) × Goes s t (taken s t w q).lit). goes_ordinary n end ws s t l f ih (taken s t w q).lit p.1)
        (taken s t w q).way

-- what was read
same_read : {X : Type 0} (x y : X) (ws rest : List Piece) → ◌≡◌ {A = Result (X × List Piece) Told} (Ok (x, ws)) (Ok (y, rest)) → x ≡ y
same_read {X} x y ws rest e = let q : ◌≡◌ {A = X × List Piece} (x, ws) (y, rest) = cc in ap (λ (p : X × List Piece). p.0) q

-- a reading that went on
record Went {X Y : Type 0} (r : Result (X × List Piece) Told) (f : X → List Piece → Result Y Told) (y : Y) : Type 0 where
  read : X
  rest : List Piece
  is : r ≡ Ok (read, rest)
  then : f read rest ≡ Ok y

went_on : {X Y : Type 0} (r : Result (X × List Piece) Told) (f : X → List Piece → Result Y Told) (y : Y) → onward r f ≡ Ok y → Went r f y
went_on (Ok p) f y e = record { read = p.0; rest = p.1; is = refl; then = e }
went_on (Err x) f y e = no_ok e

-- the count of atoms, which another bound may keep too
record Count (n end : ℕ) (ws : List Piece) (a : ℕ) (rest : List Piece) : Type 0 where
  within_bound : a ≤ n
  other : (m : ℕ) → a ≤ m → counting (Atoms m) end ws ≡ Ok (a, rest)

inside_of : (n m k : ℕ) → outside n k ≡ false → k ≤ m → (k ≤ n) × (outside m k ≡ false)
inside_of n m k f l =
    let q = or_parts (eqb k 0) (ltb (min n 64) k) f in
    let u = ltb-false (min n 64) k q.1 in
    (omega arith, or_from (eqb k 0) (ltb (min m 64) k) q.0 (le-ltb (min m 64) k (omega arith)))

count_atoms : (n end : ℕ) (ws : List Piece) (a : ℕ) (rest : List Piece) → counting (Atoms n) end ws ≡ Ok (a, rest) → Count n end ws a rest
count_atoms n end [] a rest e = no_ok e
count_atoms n end (w ∷ ws) a rest e = go (capped (numeral w.1)) refl e
  where
    go : (o : Option ℕ) → capped (numeral w.1) ≡ o → within (Atoms n) w.0 o ws ≡ Ok (a, rest) → Count n end (w ∷ ws) a rest
    go None q e = no_ok e
    go (Some k) q e = ⊎_elim
        (λ t. no_ok (sym (cond-true (outside n k) _ _ t) ∙ e))
        (λ f. let g : ◌≡◌ {A = Result (ℕ × List Piece) Told} (Ok (k, ws)) (Ok (a, rest)) = sym (cond-false (outside n k) _ _ f) ∙ e in
        let z = same_read k a ws rest g in
        record {
          within_bound = let u = (inside_of n k k f (omega arith)).0 in omega arith;
          other = λ m l. ap (λ (o : Option ℕ). within (Atoms m) w.0 o ws) q ∙ cond-false (outside m k) _ _ (inside_of n m k f (omega arith)).1 ∙ g;
        })
        (cases_Bool (outside n k))

record Heads (n end : ℕ) (ws : List Piece) (h : Heading) (rest : List Piece) : Type 0 where
  within_bound : h.atoms ≤ n
  other : (m : ℕ) → h.atoms ≤ m → headed m end ws ≡ Ok (h, rest)

-- the heading after its first, second and third word
abbrev third : ℕ → ℕ → List Piece → Result (Heading × List Piece) Told
third end a ws = onward (counting Clauses end ws) (λ m ws. Ok (record { atoms = a; clauses = m }, ws))

abbrev second : ℕ → ℕ → Unit {0} → List Piece → Result (Heading × List Piece) Told
second n end _ ws = onward (counting (Atoms n) end ws) (third end)

abbrev first : ℕ → ℕ → Unit {0} → List Piece → Result (Heading × List Piece) Told
first n end _ ws = onward (expecting (codes "cnf") end ws) (second n end)

heads : (n end : ℕ) (ws : List Piece) (h : Heading) (rest : List Piece) → headed n end ws ≡ Ok (h, rest) → Heads n end ws h rest
heads n end ws h rest e =
    let p = went_on (expecting (codes "p") end ws) (first n end) (h, rest) e in
    let q = went_on (expecting (codes "cnf") end p.rest) (second n end) (h, rest) p.then in
    let a = went_on (counting (Atoms n) end q.rest) (third end) (h, rest) q.then in
    let m = went_on (counting Clauses end a.rest) (λ m ws. Ok (record { atoms = a.read; clauses = m }, ws)) (h, rest) a.then in
    let c = count_atoms n end q.rest a.read a.rest a.is in
    let z = ap (λ (x : Heading). x.atoms) (same_read (record { atoms = a.read; clauses = m.read }) h m.rest rest m.then) in
    let l = c.within_bound in
    record {
      within_bound = omega arith;
      other = λ k u.
          ap (λ r. onward r (first k end)) p.is ∙ ap (λ r. onward r (second k end)) q.is ∙ ap (λ r. onward r (third end)) (c.other k (omega arith)) ∙ a.then;
    }

pub clause_law : ClauseLaw
clause_law n bs p e =
    subst (AllOrdinary n) (early_parse n bs p e) (go (headed n (length bs) (after_preface bs)) refl)
  where
    go : (r : Result (Heading × List Piece) Told) → headed n (length bs) (after_preface bs) ≡ r → AllOrdinary n (early_in (length bs) r)
    go (Err x) q = tt
    go (Ok (h, ws)) q = walk_ordinary n (length bs) ws (begun h) (heads n (length bs) (after_preface bs) h ws q).within_bound (nothing_in h.atoms)

pub bound_law : BoundLaw
bound_law n m bs p e l = ⊎_elim
    (λ t. no_ok (sym (cond-true (ltb 1048576 (length bs)) _ _ t) ∙ e))
    (λ f. let b : parse_words n (length bs) (after_preface bs) ≡ Ok p = sym (cond-false (ltb 1048576 (length bs)) _ _ f) ∙ e in
    let w = went_on (headed n (length bs) (after_preface bs)) (body (length bs)) p b in
    let a = ap (λ (x : Parsed). x.atoms) (body_atoms (length bs) w.read w.rest p w.then) in
    cond-false (ltb 1048576 (length bs)) _ _ f
    ∙ ap (λ r. onward r (body (length bs))) ((heads n (length bs) (after_preface bs) w.read w.rest w.is).other m (omega arith))
    ∙ w.then)
    (cases_Bool (ltb 1048576 (length bs)))
  where
    body_atoms : (end : ℕ) (h : Heading) (ws : List Piece) (p : Parsed) → body end h ws ≡ Ok p → record { atoms = h.atoms; clauses = (walk end (begun h) ws).clauses } ≡ p
    body_atoms end h ws p e = go (walk end (begun h) ws).fault e
      where
        go : (o : Option Told) → accepted h.atoms (walk end (begun h) ws).clauses o ≡ Ok p → record { atoms = h.atoms; clauses = (walk end (begun h) ws).clauses } ≡ p
        go None e = cc
        go (Some x) e = no_ok e
