-- What each word of a walk does, and how many clauses a walk without a fault gives.
use Rattle.std.proofs.Common.{◌≡◌, ℕ, ◌+◌, ◌-◌, ◌<◌, false, eqb, ltb, ◌⊎◌, List, [], ◌∷◌, length, ℤ, nat_abs, Some, None, Ok, Err, Option, Result, sym, refl, ap, ◌∙◌, inl, inr, ⊎_elim, arith}
use Rattle.std.proofs.lemmas.Bool.{cases_Bool, cond-true, cond-false, eqb-true, eqb-false, lt-ltb, le-ltb}
use Rattle.clause.specs.declared.words.Clause.{Clause}
use Rattle.clause.specs.Clauses.{lits, top}
use Rattle.clause.specs.Reading.{clear, outside, grown}
use Rattle.clause.specs.Refusals.{Told}
use Rattle.dimacs.specs.declared.body.Scan.{Scan}
use Rattle.dimacs.specs.declared.heading.Heading.{Heading}
use Rattle.dimacs.specs.Numbers.{literal}
use Rattle.dimacs.specs.Words.{Piece}
use Rattle.dimacs.specs.Preface.{after_preface}
use Rattle.dimacs.specs.Body.{going, grows, at_literal, step}
use Rattle.dimacs.specs.Heading.{onward, headed}
use Rattle.dimacs.specs.Walk.{finished, stepped, walk, begun, accepted, body, Parsed, parse, counts, early, early_in, none}

pub no_ok : {X Y : Type 0} {e : Told} {t : Y} → ◌≡◌ {A = Result Y Told} (Err e) (Ok t) → X
no_ok p = absurd (let z : ◌≡◌ {A = ℕ} 0 1 = cc in let f : ⊥ = omega arith in f)

-- a word that is no fault ended a clause, or went into it
pub record Ends (s t : Scan) : Type 0 where
  pub some : 0 < s.left
  pub full : top (lits s.clause) ≡ 0 → ⊥
  pub then : t ≡ going s (s.left - 1) clear

pub record Goes (s t : Scan) (l : ℤ) : Type 0 where
  pub some : 0 < s.left
  pub fits : outside s.atoms (nat_abs l) ≡ false
  pub clause : Clause
  pub grown_to : grown s.clause l (nat_abs l) ≡ Some clause
  pub then : t ≡ going s s.left clause

-- what a literal was, where the word is no fault
pub record Taken (s t : Scan) (w : Piece) : Type 0 where
  pub lit : ℤ
  pub word : literal w.1 ≡ Some lit
  pub way : ((nat_abs lit ≡ 0) × Ends s t) ⊎ ((nat_abs lit ≡ 0 → ⊥) × Goes s t lit)

same_ok : {s t : Scan} → ◌≡◌ {A = Result Scan Told} (Ok s) (Ok t) → t ≡ s
same_ok p = cc

grown_ok : (s t : Scan) (place : ℕ) (l : ℤ) (o : Option Clause) → 0 < s.left → outside s.atoms (nat_abs l) ≡ false → grown s.clause l (nat_abs l) ≡ o → grows s place o ≡ Ok t → Goes s t l
grown_ok s t place l None h f g p = no_ok p
grown_ok s t place l (Some c) h f g p = record { some = h; fits = f; clause = c; grown_to = g; then = same_ok p }

went : (s t : Scan) (w : Piece) (o : Option ℤ) → 0 < s.left → literal w.1 ≡ o → at_literal s w.0 o ≡ Ok t → Taken s t w
went s t w None h k p = no_ok p
went s t w (Some l) h k p = record {
  lit = l;
  word = k;
  way = ⊎_elim
      (λ z. inl (
        eqb-true _ 0 z,
        ⊎_elim
            (λ e. no_ok (sym (cond-true (eqb (top (lits s.clause)) 0) _ _ e) ∙ sym (cond-true (eqb (nat_abs l) 0) _ _ z) ∙ p))
            (λ e. record { some = h; full = eqb-false _ 0 e; then = same_ok (sym (cond-false (eqb (top (lits s.clause)) 0) _ _ e) ∙ sym (cond-true (eqb (nat_abs l) 0) _ _ z) ∙ p) })
            (cases_Bool (eqb (top (lits s.clause)) 0)),
      ))
      (λ z. inr (
        eqb-false _ 0 z,
        ⊎_elim
            (λ e. no_ok (sym (cond-true (outside s.atoms (nat_abs l)) _ _ e) ∙ sym (cond-false (eqb (nat_abs l) 0) _ _ z) ∙ p))
            (λ e. grown_ok s t w.0 l (grown s.clause l (nat_abs l)) h e refl (sym (cond-false (outside s.atoms (nat_abs l)) _ _ e) ∙ sym (cond-false (eqb (nat_abs l) 0) _ _ z) ∙ p))
            (cases_Bool (outside s.atoms (nat_abs l))),
      ))
      (cases_Bool (eqb (nat_abs l) 0));
}

pub some_left : (n : ℕ) → (n ≡ 0 → ⊥) → 0 < n
some_left n h = omega arith

pub taken : (s t : Scan) (w : Piece) → step s w ≡ Ok t → Taken s t w
taken s t w p = ⊎_elim
    (λ z. no_ok (sym (cond-true (eqb s.left 0) _ _ z) ∙ p))
    (λ z. went s t w (literal w.1) (some_left s.left (eqb-false _ 0 z)) refl (sym (cond-false (eqb s.left 0) _ _ z) ∙ p))
    (cases_Bool (eqb s.left 0))

-- what the walk finishes at a word
pub at_end : (s t : Scan) (cs : List Clause) → Ends s t → (finished s t cs ≡ s.clause ∷ cs) × (t.left + 1 ≡ s.left)
at_end s t cs e =
    let l : t.left ≡ s.left - 1 = ap (λ (x : Scan). x.left) e.then in
    let h = e.some in
    (cond-true (ltb t.left s.left) _ _ (lt-ltb _ _ (omega arith)), omega arith)

pub inside : (s t : Scan) (l : ℤ) (cs : List Clause) → Goes s t l → (finished s t cs ≡ cs) × (t.left ≡ s.left)
inside s t l cs g =
    let e : t.left ≡ s.left = ap (λ (x : Scan). x.left) g.then in
    (cond-false (ltb t.left s.left) _ _ (le-ltb _ _ (omega arith)), e)

pub walk_count : (end : ℕ) (ws : List Piece) (s : Scan) → (walk end s ws).fault ≡ None → length (walk end s ws).clauses ≡ s.left
walk_count end [] s e = ⊎_elim
    (λ z. sym (eqb-true _ 0 z))
    (λ z. let q = sym (cond-false (eqb s.left 0) _ _ z) ∙ e in absurd (let z : ◌≡◌ {A = ℕ} 0 1 = cc in let f : ⊥ = omega arith in f))
    (cases_Bool (eqb s.left 0))
walk_count end (w ∷ ws) s e = go (step s w) refl (λ t. walk_count end ws t) e
  where
    go : (r : Result Scan Told) → step s w ≡ r → ((t : Scan) → (walk end t ws).fault ≡ None → length (walk end t ws).clauses ≡ t.left)
        → (stepped s r (λ t. walk end t ws)).fault ≡ None → length (stepped s r (λ t. walk end t ws)).clauses ≡ s.left
    go (Err x) q ih e = absurd (let z : ◌≡◌ {A = ℕ} 0 1 = cc in let f : ⊥ = omega arith in f)
    go (Ok t) q ih e =
        let k : length (walk end t ws).clauses ≡ t.left = ih t e in
        ⊎_elim
        (λ (p : (nat_abs (taken s t w q).lit ≡ 0) × Ends s t). let a = at_end s t (walk end t ws).clauses p.1 in let b = ap length a.0 in omega (arith, b, a.1))
        (λ (p : (nat_abs (taken s t w q).lit ≡ 0 → ⊥) × Goes s t (taken s t w q).lit). let a = inside s t (taken s t w q).lit (walk end t ws).clauses p.1 in let b = ap length a.0 in omega (arith, b, a.1))
        (taken s t w q).way

-- a text that was walked over without a fault
pub check_ok : (n : ℕ) (bs : List ℕ) (h : Heading) (ws : List Piece) → ltb 1048576 (length bs) ≡ false → headed n (length bs) (after_preface bs) ≡ Ok (h, ws)
    → (walk (length bs) (begun h) ws).fault ≡ None → Ok h ≡ counts (parse n bs)
check_ok n bs h ws small head none =
    let c : length (walk (length bs) (begun h) ws).clauses ≡ h.clauses = walk_count (length bs) ws (begun h) none in
    sym (ap counts (cond-false (ltb 1048576 (length bs)) _ _ small ∙ ap (λ r. onward r (body (length bs))) head ∙ ap (accepted h.atoms (walk (length bs) (begun h) ws).clauses) none)
    ∙ ap (λ (k : ℕ). Ok (record { atoms = h.atoms; clauses = k })) c)

-- a heading that a reader of the text has taken
pub record Headed (n : ℕ) (bs : List ℕ) (h : Heading) (ws : List Piece) : Type 0 where
  pub first : List ℕ
  pub all : List Piece
  pub text : first ≡ bs
  pub words : all ≡ after_preface bs
  pub read : Ok (h, ws) ≡ headed n (length first) all

pub headed_is : (n : ℕ) (bs : List ℕ) (h : Heading) (ws : List Piece) → Headed n bs h ws → headed n (length bs) (after_preface bs) ≡ Ok (h, ws)
headed_is n bs h ws r = let t = r.text in let w = r.words in let e = r.read in cc

pub walked_none : (bs t : List ℕ) (h : Heading) (s : Scan) (ws : List Piece) → t ≡ bs → s ≡ begun h → None ≡ (walk (length t) s ws).fault → (walk (length bs) (begun h) ws).fault ≡ None
walked_none bs t h s ws e f p = sym (p ∙ ap (λ (x : List ℕ). (walk (length x) s ws).fault) e ∙ ap (λ (x : Scan). (walk (length bs) x ws).fault) f)

-- a scan of no clause gives none
pub none_comes : (end : ℕ) (ws : List Piece) → (walk end none ws).clauses ≡ []
none_comes end [] = refl
none_comes end (w ∷ ws) = refl

pub none_left : (end : ℕ) (ws : List Piece) (s : Scan) → s ≡ none → (walk end s ws).clauses ≡ []
none_left end ws s e = ap (λ (x : Scan). (walk end x ws).clauses) e ∙ none_comes end ws

-- the clauses before the first fault of a text that has none are its clauses
early_body : (end : ℕ) (r : Result (Heading × List Piece) Told) (p : Parsed) → onward r (body end) ≡ Ok p → early_in end r ≡ p.clauses
early_body end (Err e) p q = no_ok q
early_body end (Ok (h, ws)) p q = go (walk end (begun h) ws).fault q
  where
    go : (o : Option Told) → accepted h.atoms (walk end (begun h) ws).clauses o ≡ Ok p → (walk end (begun h) ws).clauses ≡ p.clauses
    go None q = ap (λ (x : Parsed). x.clauses) (same_parsed q)
      where
        same_parsed : {x y : Parsed} → ◌≡◌ {A = Result Parsed Told} (Ok x) (Ok y) → x ≡ y
        same_parsed q = cc
    go (Some e) q = no_ok q

pub early_parse : (n : ℕ) (bs : List ℕ) (p : Parsed) → parse n bs ≡ Ok p → early n bs ≡ p.clauses
early_parse n bs p q = ⊎_elim
    (λ t. no_ok (sym (cond-true (ltb 1048576 (length bs)) _ _ t) ∙ q))
    (λ f. early_body (length bs) (headed n (length bs) (after_preface bs)) p (sym (cond-false (ltb 1048576 (length bs)) _ _ f) ∙ q))
    (cases_Bool (ltb 1048576 (length bs)))

-- a text whose numbers are told is accepted, and they are its numbers
pub counted : (r : Result Parsed Told) (h : Heading) → Ok h ≡ counts r → (p : Parsed) × (r ≡ Ok p) × (h ≡ record { atoms = p.atoms; clauses = length p.clauses })
counted (Ok p) h e = (p, refl, cc)
counted (Err x) h e = no_ok (sym e)

-- no clause comes before a fault in the next word
pub fault_next : (end : ℕ) (s : Scan) (w : Piece) (ws all : List Piece) (e : Told) → all ≡ w ∷ ws → Err e ≡ step s w → (walk end s all).clauses ≡ []
fault_next end s w ws all e p q = ap (λ (l : List Piece). (walk end s l).clauses) p ∙ ap (λ (r : Result Scan Told). (stepped s r (λ t. walk end t ws)).clauses) (sym q)

-- what a heading leaves to come
pub early_fault : (end : ℕ) (s : Scan) (ws : List Piece) (r : Result (Heading × List Piece) Told) (e : Told) → s ≡ none → Err e ≡ r → (walk end s ws).clauses ≡ early_in end r
early_fault end s ws r e p q = none_left end ws s p ∙ ap (early_in end) q

pub early_is : (n : ℕ) (bs t u : List ℕ) (all ws : List Piece) (s : Scan) → t ≡ bs → u ≡ t → all ≡ after_preface bs
    → (walk (length t) s ws).clauses ≡ early_in (length t) (headed n (length t) all) → (walk (length u) s ws).clauses ≡ early n bs
early_is n bs t u all ws s p q a e = cc
