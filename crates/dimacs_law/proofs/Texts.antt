-- A text is accepted exactly where it is comment lines and then words that spell a heading and its clauses.
use Rattle.std.proofs.Common.{◌≡◌, ℕ, suc, ◌+◌, ◌<◌, ◌≤◌, false, eqb, ltb, List, [], ◌∷◌, ◌++◌, length, drop, pos, Some, None, Ok, codes, Option, Result, sym, refl, ap, ◌∙◌, subst, ⊎_elim, append_assoc, arith, length-append}
use Rattle.std.specs.List.{flat_map, AllByRecursion}
use Rattle.std.proofs.ByRecursion.{All-weaker}
use Rattle.std.proofs.lemmas.List.{drop_at, drop_all}
use Rattle.std.proofs.lemmas.Bool.{cases_Bool, cond-true, cond-false, le-ltb}
use Rattle.std.proofs.lemmas.Bool.Decides.{nat_tests}
use Rattle.clause.specs.Refusals.{Told}
use Rattle.clause.specs.declared.words.Clause.{Clause}
use Rattle.dimacs.specs.declared.heading.Heading.{Heading}
use Rattle.dimacs.specs.Runs.{blank}
use Rattle.dimacs.specs.Words.{Piece, words}
use Rattle.dimacs.specs.Preface.{Where, start, middle, after, preface, after_preface}
use Rattle.dimacs.specs.Heading.{onward, headed}
use Rattle.dimacs.specs.Walk.{walk, begun, Parsed, accepted, body, parse}
use Rattle.dimacs.proofs.Courses.{no_ok}
use Rattle.dimacs_law.specs.Cut.{Blanks, Cut}
use Rattle.dimacs_law.specs.Lines.{line, Skipped, Opens, Unopened}
use Rattle.dimacs_law.specs.Grammar.{spelled, Accepted, TextsAreSpelled}
use Rattle.dimacs_law.proofs.Cuts.{over_blanks, words_are_the_cut}
use Rattle.dimacs_law.proofs.Lines.{bare_blank, skip_lines, preface_is_lines}
use Rattle.dimacs_law.proofs.Sets.{in_range, not_outside}
use Rattle.dimacs_law.proofs.Walks.{bytes, Body, body_spelled, spelled_body}
use Rattle.dimacs_law.proofs.Headings.{same_ok, onward_ok, front, Spelled, headed_spelled, spelled_headed}

-- the words after the preface are those after its lines
after_lines : (bs j gap y : List ℕ) → bs ≡ j ++ (gap ++ y) → Blanks gap → preface start bs ≡ length j + length gap → after_preface bs ≡ words (length j) (gap ++ y)
after_lines bs j gap y e h p =
    let l : length (j ++ gap) ≡ length j + length gap = length-append j gap in
    let d : drop (length j + length gap) bs ≡ y = ap (drop (length j + length gap)) (e ∙ sym (append_assoc j gap y)) ∙ drop_at (j ++ gap) y (length j + length gap) l in
    ap (λ (k : ℕ). words k (drop k bs)) p ∙ ap (words (length j + length gap)) d ∙ sym (over_blanks (length j) gap y h)

-- ---- from an accepted text to its form

record Read (n : ℕ) (bs : List ℕ) (p : Parsed) : Type 0 where
  heading : Heading
  rest : List Piece
  head : headed n (length bs) (after_preface bs) ≡ Ok (heading, rest)
  fault : (walk (length bs) (begun heading) rest).fault ≡ None
  is : p ≡ record { atoms = heading.atoms; clauses = (walk (length bs) (begun heading) rest).clauses }

read_ok : (n : ℕ) (bs : List ℕ) (p : Parsed) → length bs ≤ 1048576 → parse n bs ≡ Ok p → Read n bs p
read_ok n bs p h e =
    let ((hd, rest), q, b) = onward_ok (headed n (length bs) (after_preface bs)) (body (length bs)) p (sym (cond-false (ltb 1048576 (length bs)) _ _ (le-ltb _ _ h)) ∙ e) in
    go hd rest q (walk (length bs) (begun hd) rest).fault refl b
  where
    go : (hd : Heading) (rest : List Piece) → headed n (length bs) (after_preface bs) ≡ Ok (hd, rest) → (o : Option Told) → (walk (length bs) (begun hd) rest).fault ≡ o
        → accepted hd.atoms (walk (length bs) (begun hd) rest).clauses o ≡ Ok p → Read n bs p
    go hd rest q None f b = record { heading = hd; rest = rest; head = q; fault = f; is = sym (same_ok b) }
    go hd rest q (Some x) f b = no_ok b

module _ (n : ℕ) (bs : List ℕ) (p : Parsed) (r : Read n bs p) (small : n ≤ 64) where
  spelled_head : Spelled n r.heading (after_preface bs) r.rest
  spelled_head = headed_spelled n (length bs) (after_preface bs) r.heading r.rest r.head

  range : (0 < r.heading.atoms) × (r.heading.atoms ≤ n)
  range = in_range n (pos r.heading.atoms) spelled_head.atoms

  read_body : Body (length bs) (begun r.heading) r.rest
  read_body = let k = range.1 in body_spelled (length bs) r.rest (begun r.heading) (let z : r.heading.atoms ≤ 64 = omega arith in z) refl r.fault

  formed : (o : Opens bs (preface start bs)) → Accepted n bs (record { atoms = r.heading.atoms; clauses = (walk (length bs) (begun r.heading) r.rest).clauses })
  formed o =
      let j : List ℕ = flat_map line o.lines in
      let ws : List Piece = words (length j) (o.gap ++ o.rest) in
      let same : after_preface bs ≡ ws = after_lines bs j o.gap o.rest o.whole (All-weaker _ _ bare_blank o.gap o.bare) o.place in
      let b = read_body in
      let count : r.heading.clauses ≡ length b.literals = sym b.count in
      let k = spelled_head.clauses in
      record {
        lines = o.lines;
        rest = o.gap ++ o.rest;
        whole = o.whole;
        skipped = o.skipped;
        words = ws;
        cut = (words_are_the_cut (length j) (o.gap ++ o.rest)).0;
        literals = b.literals;
        spells = ap bytes (sym same) ∙ spelled_head.spells ∙ ap (front r.heading.atoms r.heading.clauses) b.spells ∙ ap (λ (m : ℕ). front r.heading.atoms m (flat_map spelled b.literals)) count;
        clauses = b.make;
        some = range.0;
        most = range.1;
        count = omega (arith, k, count);
      }

  -- a text without a word has no heading
  wordless : Unopened bs → preface start bs ≡ length bs → ⊥
  wordless u e =
      let none : after_preface bs ≡ [] = ap (λ (k : ℕ). words k (drop k bs)) e ∙ ap (words (length bs)) (drop_all (length bs) bs (omega arith)) in
      no_ok (ap (headed n (length bs)) (sym none) ∙ r.head)

  accepted_form : Accepted n bs p
  accepted_form = subst (Accepted n bs) (sym r.is) (⊎_elim formed (λ u. absurd (wordless u ((preface_is_lines bs).1 u))) (preface_is_lines bs).2)

-- ---- and back

-- blanks before a p
over_gap : (gap y : List ℕ) → Blanks gap → (preface start (gap ++ 112 ∷ y) ≡ length gap) × (preface middle (gap ++ 112 ∷ y) ≡ length gap)
over_gap [] y h = (refl, refl)
over_gap (b ∷ gap) y h =
    let ih = over_gap gap y h.1 in
    let t = h.0 in
    let f : eqb b 99 ≡ false = grind (arith, nat_tests) in
    let next : preface (after b middle) (gap ++ 112 ∷ y) ≡ length gap = ⊎_elim
    (λ y'. ap (λ (w : Where). preface w (gap ++ 112 ∷ y)) (cond-true (eqb b 10) start middle y') ∙ ih.0)
    (λ n. ap (λ (w : Where). preface w (gap ++ 112 ∷ y)) (cond-false (eqb b 10) start middle n) ∙ ih.1)
    (cases_Bool (eqb b 10)) in
    let m : preface middle (b ∷ (gap ++ 112 ∷ y)) ≡ suc (length gap) = cond-true (blank b) _ _ h.0 ∙ ap suc next in
    (cond-false (eqb b 99) _ _ f ∙ m, m)

heading_words : (bs : List ℕ) (lines : List (List ℕ)) (rest : List ℕ) (ws : List Piece) (tail : List (List ℕ)) → bs ≡ flat_map line lines ++ rest → AllByRecursion Skipped lines → Cut (length (flat_map line lines)) rest ws
    → bytes ws ≡ codes "p" ∷ tail → after_preface bs ≡ ws
heading_words bs lines rest [] tail e s c b = absurd (let z : ◌≡◌ {A = ℕ} 0 1 = cc in let f : ⊥ = omega arith in f)
heading_words bs lines rest (w ∷ ws) tail e s (y, f, more) b =
    let j : List ℕ = flat_map line lines in
    let is : w.1 ≡ codes "p" = cons_first w.1 (codes "p") (bytes ws) tail b in
    let whole : rest ≡ f.gap ++ 112 ∷ y = f.whole ∙ ap (λ (x : List ℕ). f.gap ++ (x ++ y)) is in
    let place : preface start bs ≡ length j + length f.gap = ap (preface start) e ∙ skip_lines lines rest s ∙ ap (λ (x : List ℕ). length j + preface start x) whole ∙ ap (λ (k : ℕ). length j + k) (over_gap f.gap y f.blanks).0 in
    after_lines bs j f.gap (112 ∷ y) (e ∙ ap (λ (x : List ℕ). j ++ x) whole) f.blanks place ∙ ap (words (length j)) (sym whole) ∙ sym ((words_are_the_cut (length j) rest).1 (w ∷ ws) (y, f, more))
  where
    cons_first : (x z : List ℕ) (xs zs : List (List ℕ)) → ◌≡◌ {A = List (List ℕ)} (x ∷ xs) (z ∷ zs) → x ≡ z
    cons_first x z xs zs p = cc

form_accepted : (n : ℕ) (bs : List ℕ) (p : Parsed) → n ≤ 64 → length bs ≤ 1048576 → Accepted n bs p → parse n bs ≡ Ok p
form_accepted n bs p small short a =
    let m = a.most in
    let same : after_preface bs ≡ a.words = heading_words bs a.lines a.rest a.words _ a.whole a.skipped a.cut a.spells in
    let (rest, head, body_bytes) = spelled_headed n (length bs) a.words p.atoms (length a.literals) (flat_map spelled a.literals) a.spells (not_outside n p.atoms small a.some m) a.count in
    let h : Heading = record { atoms = p.atoms; clauses = length a.literals } in
    let (fault, gives) = spelled_body (length bs) rest (begun h) a.literals p.clauses (let z : p.atoms ≤ 64 = omega arith in z) refl refl a.clauses body_bytes in
    cond-false (ltb 1048576 (length bs)) _ _ (le-ltb _ _ short) ∙
    ap (λ (r : Result (Heading × List Piece) Told). onward r (body (length bs))) (ap (headed n (length bs)) same ∙ head) ∙
    ap (accepted p.atoms (walk (length bs) (begun h) rest).clauses) fault ∙
    ap (λ (cs : List Clause). Ok (record { atoms = p.atoms; clauses = cs })) gives

pub texts_are_spelled : TextsAreSpelled
texts_are_spelled n bs p small short = (λ e. accepted_form n bs p (read_ok n bs p short e) small, form_accepted n bs p small short)
