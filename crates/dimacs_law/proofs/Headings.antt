-- A heading is read exactly where words spell one.
use Rattle.std.proofs.Common.{◌≡◌, ℕ, ◌≤◌, min, false, eqb, ltb, List, [], ◌∷◌, Some, None, Ok, Err, codes, decimal, Option, Result, sym, refl, ap, ◌∙◌, subst, ⊎_elim, arith}
use Rattle.std.specs.Str.{bytes_eq}
use Rattle.std.proofs.lemmas.Slice.Eq.{bytes_eq-Decides}
use Rattle.std.proofs.lemmas.Bool.{cases_Bool, cond-true, cond-false, ltb-false, le-ltb, or_parts}
use Rattle.clause.specs.Reading.{outside}
use Rattle.clause.specs.Refusals.{Told}
use Rattle.dimacs.specs.declared.heading.Count.{Count}
use Rattle.dimacs.specs.declared.heading.Count.TheVariants.{Atoms, Clauses}
use Rattle.dimacs.specs.declared.heading.Heading.{Heading}
use Rattle.dimacs.specs.Numbers.{numeral, capped}
use Rattle.dimacs.specs.Words.{Piece}
use Rattle.dimacs.specs.Heading.{onward, expecting, beyond, within, counting, headed}
use Rattle.dimacs.proofs.Courses.{no_ok}
use Rattle.dimacs_law.proofs.Numerals.{number_some, number_decimal}
use Rattle.dimacs_law.proofs.Walks.{bytes}

pub same_ok : {X : Type 0} {x y : X} → ◌≡◌ {A = Result X Told} (Ok x) (Ok y) → x ≡ y
same_ok p = cc

-- a word in front
record Front (ws : List Piece) (b : List ℕ) (rest : List Piece) : Type 0 where
  word : Piece
  is : ws ≡ word ∷ rest
  spells : word.1 ≡ b

spells_front : (ws rest : List Piece) (b : List ℕ) → Front ws b rest → bytes ws ≡ b ∷ bytes rest
spells_front ws rest b f = ap bytes f.is ∙ ap (λ (x : List ℕ). x ∷ bytes rest) f.spells

pub onward_ok : {X Y : Type 0} (r : Result (X × List Piece) Told) (f : X → List Piece → Result Y Told) (y : Y) → onward r f ≡ Ok y → (p : X × List Piece) × (r ≡ Ok p) × (f p.0 p.1 ≡ Ok y)
onward_ok (Ok p) f y e = (p, refl, e)
onward_ok (Err x) f y e = no_ok e

expecting_ok : (t : List ℕ) (end : ℕ) (ws : List Piece) (p : Unit {0} × List Piece) → expecting t end ws ≡ Ok p → Front ws t p.1
expecting_ok t end [] p e = no_ok e
expecting_ok t end (w ∷ ws) p e = ⊎_elim
    (λ y. record {
      word = w;
      is = ap (λ (x : Unit {0} × List Piece). w ∷ x.1) (same_ok (sym (cond-true (bytes_eq w.1 t) _ _ y) ∙ e));
      spells = (bytes_eq-Decides w.1 t).0 y;
    })
    (λ n. no_ok (sym (cond-false (bytes_eq w.1 t) _ _ n) ∙ e))
    (cases_Bool (bytes_eq w.1 t))

expecting_is : (t : List ℕ) (end : ℕ) (ws : List Piece) (w : Piece) → w.1 ≡ t → expecting t end (w ∷ ws) ≡ Ok (tt, ws)
expecting_is t end ws w e = cond-true (bytes_eq w.1 t) _ _ ((bytes_eq-Decides w.1 t).1 e)

-- a count in its range is small
small : (c : Count) (k : ℕ) → beyond c k ≡ false → k ≤ 16384
small (Atoms n) k e = let f = ltb-false (min n 64) k (or_parts (eqb k 0) (ltb (min n 64) k) e).1 in grind arith
small Clauses k e = ltb-false 16384 k e

record Counted (c : Count) (ws : List Piece) (k : ℕ) (rest : List Piece) : Type 0 where
  front : Front ws (decimal k) rest
  fits : beyond c k ≡ false

counting_ok : (c : Count) (end : ℕ) (ws : List Piece) (p : ℕ × List Piece) → counting c end ws ≡ Ok p → Counted c ws p.0 p.1
counting_ok c end [] p e = no_ok e
counting_ok c end (w ∷ ws) p e = go (capped (numeral w.1)) refl e
  where
    go : (o : Option ℕ) → capped (numeral w.1) ≡ o → within c w.0 o ws ≡ Ok p → Counted c (w ∷ ws) p.0 p.1
    go None q e = no_ok e
    go (Some k) q e = ⊎_elim
        (λ y. no_ok (sym (cond-true (beyond c k) _ _ y) ∙ e))
        (λ n.
        let i : ◌≡◌ {A = ℕ × List Piece} (k, ws) p = same_ok (sym (cond-false (beyond c k) _ _ n) ∙ e) in
        subst (λ (x : ℕ × List Piece). Counted c (w ∷ ws) x.0 x.1) i
        (record { front = record { word = w; is = refl; spells = number_some w.1 k (small c k n) q }; fits = n }))
        (cases_Bool (beyond c k))

counting_is : (c : Count) (end : ℕ) (ws : List Piece) (w : Piece) (k : ℕ) → beyond c k ≡ false → w.1 ≡ decimal k → counting c end (w ∷ ws) ≡ Ok (k, ws)
counting_is c end ws w k f e =
    ap (λ (o : Option ℕ). within c w.0 o ws) (ap (λ (b : List ℕ). capped (numeral b)) e ∙ number_decimal k (small c k f)) ∙ cond-false (beyond c k) _ _ f

-- the words of a heading, before those of the clauses
abbrev pub front : ℕ → ℕ → List (List ℕ) → List (List ℕ)
front a m bs = codes "p" ∷ codes "cnf" ∷ decimal a ∷ decimal m ∷ bs

pub record Spelled (n : ℕ) (h : Heading) (ws rest : List Piece) : Type 0 where
  pub spells : bytes ws ≡ front h.atoms h.clauses (bytes rest)
  pub atoms : outside n h.atoms ≡ false
  pub clauses : h.clauses ≤ 16384

pub headed_spelled : (n end : ℕ) (ws : List Piece) (h : Heading) (rest : List Piece) → headed n end ws ≡ Ok (h, rest) → Spelled n h ws rest
headed_spelled n end ws h rest e =
    let (p, pr, e1) = onward_ok (expecting (codes "p") end ws) _ (h, rest) e in
    let (q, qr, e2) = onward_ok (expecting (codes "cnf") end p.1) _ (h, rest) e1 in
    let (a, ar, e3) = onward_ok (counting (Atoms n) end q.1) _ (h, rest) e2 in
    let (m, mr, e4) = onward_ok (counting Clauses end a.1) _ (h, rest) e3 in
    let i : ◌≡◌ {A = Heading × List Piece} (record { atoms = a.0; clauses = m.0 }, m.1) (h, rest) = same_ok e4 in
    let ca = counting_ok (Atoms n) end q.1 a ar in
    let cm = counting_ok Clauses end a.1 m mr in
    subst (λ (x : Heading × List Piece). Spelled n x.0 ws x.1) i (record {
      spells = spells_front ws p.1 (codes "p") (expecting_ok (codes "p") end ws p pr)
          ∙ ap (λ (x : List (List ℕ)). codes "p" ∷ x) (spells_front p.1 q.1 (codes "cnf") (expecting_ok (codes "cnf") end p.1 q qr))
          ∙ ap (λ (x : List (List ℕ)). codes "p" ∷ codes "cnf" ∷ x) (spells_front q.1 a.1 (decimal a.0) ca.front)
          ∙ ap (λ (x : List (List ℕ)). codes "p" ∷ codes "cnf" ∷ decimal a.0 ∷ x) (spells_front a.1 m.1 (decimal m.0) cm.front);
      atoms = ca.fits;
      clauses = small Clauses m.0 cm.fits;
    })

-- the pieces of words
pub uncons : (ws : List Piece) (b : List ℕ) (bs : List (List ℕ)) → bytes ws ≡ b ∷ bs → (w : Piece) × ((rest : List Piece) × ((ws ≡ w ∷ rest) × (w.1 ≡ b) × (bytes rest ≡ bs)))
uncons [] b bs e = absurd (let z : ◌≡◌ {A = ℕ} 0 1 = cc in let f : ⊥ = omega arith in f)
uncons (w ∷ ws) b bs e = (w, (ws, (refl, cc, cc)))

pub spelled_headed : (n end : ℕ) (ws : List Piece) (a m : ℕ) (bs : List (List ℕ)) → bytes ws ≡ front a m bs → outside n a ≡ false → m ≤ 16384
    → (rest : List Piece) × (headed n end ws ≡ Ok (record { atoms = a; clauses = m }, rest)) × (bytes rest ≡ bs)
spelled_headed n end ws a m bs e f g =
    let (p, (ws1, (i1, s1, e1))) = uncons ws (codes "p") _ e in
    let (q, (ws2, (i2, s2, e2))) = uncons ws1 (codes "cnf") _ e1 in
    let (x, (ws3, (i3, s3, e3))) = uncons ws2 (decimal a) _ e2 in
    let (y, (ws4, (i4, s4, e4))) = uncons ws3 (decimal m) _ e3 in
    let F4 : ℕ → ℕ → List Piece → Result (Heading × List Piece) Told = λ k j ws. Ok (record { atoms = k; clauses = j }, ws) in
    let F3 : ℕ → List Piece → Result (Heading × List Piece) Told = λ k ws. onward (counting Clauses end ws) (F4 k) in
    let F2 : Unit {0} → List Piece → Result (Heading × List Piece) Told = λ _ ws. onward (counting (Atoms n) end ws) F3 in
    let F1 : Unit {0} → List Piece → Result (Heading × List Piece) Told = λ _ ws. onward (expecting (codes "cnf") end ws) F2 in
    let r1 : expecting (codes "p") end ws ≡ Ok (tt, ws1) = ap (expecting (codes "p") end) i1 ∙ expecting_is (codes "p") end ws1 p s1 in
    let r2 : expecting (codes "cnf") end ws1 ≡ Ok (tt, ws2) = ap (expecting (codes "cnf") end) i2 ∙ expecting_is (codes "cnf") end ws2 q s2 in
    let r3 : counting (Atoms n) end ws2 ≡ Ok (a, ws3) = ap (counting (Atoms n) end) i3 ∙ counting_is (Atoms n) end ws3 x a f s3 in
    let r4 : counting Clauses end ws3 ≡ Ok (m, ws4) = ap (counting Clauses end) i4 ∙ counting_is Clauses end ws4 y m (le-ltb 16384 m g) s4 in (
      ws4,
      ap (λ (r : Result (Unit {0} × List Piece) Told). onward r F1) r1 ∙ ap (λ (r : Result (Unit {0} × List Piece) Told). onward r F2) r2 ∙
          ap (λ (r : Result (ℕ × List Piece) Told). onward r F3) r3 ∙ ap (λ (r : Result (ℕ × List Piece) Told). onward r (F4 a)) r4,
      e4,
    )
