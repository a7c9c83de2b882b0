-- What stands before the heading are comment lines and blanks.
use Rattle.std.proofs.Common.{◌≡◌, ℕ, suc, ◌+◌, ◌<◌, true, false, eqb, ◌⊎◌, List, [], ◌∷◌, ◌++◌, length, sym, refl, ap, ◌∙◌, subst, inl, inr, ⊎_elim, append_assoc, append-nil, add-zero, suc-add, zero-add, arith, length-append}
use Rattle.std.specs.List.{flat_map, AllByRecursion}
use Rattle.std.proofs.ByRecursion.{All-push}
use Rattle.std.proofs.lemmas.Bool.{cases_Bool, cond-true, cond-false, eqb-true, both_ways}
use Rattle.std.proofs.lemmas.Bool.Decides.{nat_tests}
use Rattle.dimacs.specs.Runs.{blank, in_line, indent}
use Rattle.dimacs.specs.Words.{is_comment}
use Rattle.dimacs.specs.Preface.{Where, start, middle, comment, preface}
use Rattle.dimacs_law.specs.Lines.{line, Bare, Comment, Skipped, Begins, Opens, Unopened, PrefaceIsLines}

-- ---- over the bytes of a line

over_comment : (l bs : List ℕ) → AllByRecursion (λ b. in_line b ≡ true) l → preface comment (l ++ bs) ≡ length l + preface comment bs
over_comment [] bs h = sym (zero-add _)
over_comment (b ∷ l) bs h =
    let t = h.0 in
    let f : eqb b 10 ≡ false = grind (arith, nat_tests) in
    ap (λ (w : Where). suc (preface w (l ++ bs))) (cond-false (eqb b 10) start comment f) ∙ ap suc (over_comment l bs h.1) ∙ sym (suc-add _ _)

-- an indent is a blank that ends no line, and no c
pub bare_blank : (b : ℕ) → indent b ≡ true → blank b ≡ true
bare_blank b h = grind (arith, nat_tests)

bare_inside : (b : ℕ) → indent b ≡ true → eqb b 10 ≡ false
bare_inside b h = grind (arith, nat_tests)

bare_plain : (b : ℕ) → indent b ≡ true → eqb b 99 ≡ false
bare_plain b h = grind (arith, nat_tests)

step_bare : (b : ℕ) (bs : List ℕ) → indent b ≡ true → preface middle (b ∷ bs) ≡ suc (preface middle bs)
step_bare b bs h = cond-true (blank b) _ _ (bare_blank b h) ∙ ap (λ (w : Where). suc (preface w bs)) (cond-false (eqb b 10) start middle (bare_inside b h))

over_bare : (l bs : List ℕ) → Bare l → preface middle (l ++ bs) ≡ length l + preface middle bs
over_bare [] bs h = sym (zero-add _)
over_bare (b ∷ l) bs h = step_bare b (l ++ bs) h.0 ∙ ap suc (over_bare l bs h.1) ∙ sym (suc-add _ _)

-- but for comments, a line's start is as its middle
as_middle : (b : ℕ) (bs : List ℕ) → eqb b 99 ≡ false → preface start (b ∷ bs) ≡ preface middle (b ∷ bs)
as_middle b bs h = cond-false (eqb b 99) _ _ h

in_comment : (b : ℕ) (bs : List ℕ) → eqb b 99 ≡ true → preface start (b ∷ bs) ≡ suc (preface comment bs)
in_comment b bs h = cond-true (eqb b 99) _ _ h

skip_line : (l bs : List ℕ) → Skipped l → preface start (l ++ 10 ∷ bs) ≡ suc (length l + preface start bs)
skip_line [] bs (inl c) = absurd (both_ways false refl c.first)
skip_line (b ∷ l) bs (inl c) =
    in_comment b (l ++ 10 ∷ bs) c.first ∙ ap suc (over_comment l (10 ∷ bs) c.inside.1) ∙ (let e : suc (length l + suc (preface start bs)) ≡ suc (suc (length l) + preface start bs) = omega arith in e)
skip_line [] bs (inr h) = ap suc (sym (zero-add _))
skip_line (b ∷ l) bs (inr h) =
    as_middle b (l ++ 10 ∷ bs) (bare_plain b h.0) ∙ over_bare (b ∷ l) (10 ∷ bs) h ∙ (let e : suc (length l) + suc (preface start bs) ≡ suc (suc (length l) + preface start bs) = omega arith in e)

skip_last : (l : List ℕ) → Skipped l → preface start l ≡ length l
skip_last [] s = refl
skip_last (b ∷ l) (inl c) =
    in_comment b l c.first ∙ ap suc (ap (preface comment) (sym (append-nil l)) ∙ over_comment l [] c.inside.1 ∙ add-zero (length l))
skip_last (b ∷ l) (inr h) =
    as_middle b l (bare_plain b h.0) ∙ ap (preface middle) (sym (append-nil (b ∷ l))) ∙ over_bare (b ∷ l) [] h ∙ add-zero (length (b ∷ l))

at_word : (gap rest : List ℕ) → Bare gap → Begins gap rest → preface start (gap ++ rest) ≡ length gap
at_word gap [] h s = absurd s
at_word [] (b ∷ bs) h s =
    let f : eqb b 99 ≡ false = ⊎_elim (λ t. let z = s.1 t in absurd (omega arith)) (λ f. f) (cases_Bool (eqb b 99)) in
    as_middle b bs f ∙ cond-false (blank b) _ _ s.0
at_word (g ∷ gap) (b ∷ bs) h s =
    as_middle g (gap ++ (b ∷ bs)) (bare_plain g h.0) ∙ over_bare (g ∷ gap) (b ∷ bs) h ∙ ap (λ (n : ℕ). length (g ∷ gap) + n) (cond-false (blank b) _ _ s.0) ∙ add-zero _

-- ---- over lines

line_first : (l j bs : List ℕ) → (line l ++ j) ++ bs ≡ l ++ 10 ∷ (j ++ bs)
line_first l j bs = append_assoc (line l) j bs ∙ append_assoc l (10 ∷ []) (j ++ bs)

line_length : (l j : List ℕ) → length (line l ++ j) ≡ suc (length l + length j)
line_length l j = length-append (line l) j ∙ (let e = length-append l (10 ∷ []) in let g : length (line l) + length j ≡ suc (length l + length j) = omega (arith, e) in g)

pub skip_lines : (ls : List (List ℕ)) (bs : List ℕ) → AllByRecursion Skipped ls → preface start (flat_map line ls ++ bs) ≡ length (flat_map line ls) + preface start bs
skip_lines [] bs h = sym (zero-add _)
skip_lines (l ∷ ls) bs h =
    let j : List ℕ = flat_map line ls in
    let ih = skip_lines ls bs h.1 in
    ap (preface start) (line_first l j bs) ∙ skip_line l (j ++ bs) h.0 ∙
    (let n = line_length l j in let e : suc (length l + preface start (j ++ bs)) ≡ length (line l ++ j) + preface start bs = omega (arith, ih, n) in e)

opens_at : (bs : List ℕ) (k : ℕ) → Opens bs k → preface start bs ≡ k
opens_at bs k o =
    ap (preface start) o.whole ∙ skip_lines o.lines (o.gap ++ o.rest) o.skipped ∙
    ap (λ (n : ℕ). length (flat_map line o.lines) + n) (at_word o.gap o.rest o.bare o.begins) ∙ sym o.place

unopened_at : (bs : List ℕ) → Unopened bs → preface start bs ≡ length bs
unopened_at bs u =
    ap (preface start) u.whole ∙ skip_lines u.lines u.last u.skipped ∙
    ap (λ (n : ℕ). length (flat_map line u.lines) + n) (skip_last u.last u.end) ∙ sym (ap length u.whole ∙ length-append (flat_map line u.lines) u.last)

-- ---- every text is lines, and then a word or the end

abbrev Outcome : List ℕ → ℕ → Type 0
Outcome bs k = Opens bs k ⊎ Unopened bs

moved : (bs cs : List ℕ) (k m : ℕ) → bs ≡ cs → k ≡ m → Outcome bs k → Outcome cs m
moved bs cs k m e f o = subst (λ (l : List ℕ). Outcome l m) e (subst (Outcome bs) f o)

-- one line more in front
new_line : (l bs : List ℕ) (k : ℕ) → Skipped l → Outcome bs k → Outcome (l ++ 10 ∷ bs) (length l + suc k)
new_line l bs k s (inl o) =
    let j : List ℕ = flat_map line o.lines in
    let n = line_length l j in
    let p = o.place in
    inl record {
      lines = l ∷ o.lines;
      gap = o.gap;
      rest = o.rest;
      whole = ap (λ (x : List ℕ). l ++ 10 ∷ x) o.whole ∙ sym (line_first l j (o.gap ++ o.rest));
      skipped = (s, o.skipped);
      bare = o.bare;
      begins = o.begins;
      place = omega (arith, n, p);
    }
new_line l bs k s (inr u) = inr record {
  lines = l ∷ u.lines;
  last = u.last;
  whole = ap (λ (x : List ℕ). l ++ 10 ∷ x) u.whole ∙ sym (line_first l (flat_map line u.lines) u.last);
  skipped = (s, u.skipped);
  end = u.end;
}

-- what is read so far of a line
abbrev SoFar : Where → List ℕ → Type 0
SoFar start l = l ≡ []
SoFar middle l = Bare l × (0 < length l)
SoFar comment l = Comment l

so_skipped : (w : Where) (l : List ℕ) → SoFar w l → Skipped l
so_skipped start l s = inr (subst Bare (sym s) tt)
so_skipped middle l s = inr s.0
so_skipped comment l s = inl s

line_ends : (w : Where) (bs : List ℕ) → preface w (10 ∷ bs) ≡ suc (preface start bs)
line_ends start bs = refl
line_ends middle bs = refl
line_ends comment bs = refl

is_bare : (b : ℕ) → blank b ≡ true → eqb b 10 ≡ false → indent b ≡ true
is_bare b h f = grind (arith, nat_tests)

is_inside : (b : ℕ) → eqb b 10 ≡ false → in_line b ≡ true
is_inside b f = grind (arith, nat_tests)

still_comment : (l : List ℕ) (b : ℕ) → is_comment l ≡ true → is_comment (l ++ b ∷ []) ≡ true
still_comment [] b h = absurd (both_ways false refl h)
still_comment (x ∷ l) b h = h

longer : (l bs : List ℕ) (b k m : ℕ) → k ≡ suc m → Outcome ((l ++ b ∷ []) ++ bs) (length (l ++ b ∷ []) + m) → Outcome (l ++ b ∷ bs) (length l + k)
longer l bs b k m e o = let n = length-append l (b ∷ []) in moved _ _ _ _ (append_assoc l (b ∷ []) bs) (omega (arith, n, e)) o

word_here : (gap : List ℕ) (b : ℕ) (bs : List ℕ) (k : ℕ) → Bare gap → Begins gap (b ∷ bs) → k ≡ 0 → Outcome (gap ++ b ∷ bs) (length gap + k)
word_here gap b bs k h s e = inl record { lines = []; gap = gap; rest = b ∷ bs; whole = refl; skipped = tt; bare = h; begins = s; place = omega (arith, e) }

from : (bs : List ℕ) (w : Where) (l : List ℕ) → SoFar w l → Outcome (l ++ bs) (length l + preface w bs)
from [] w l s = inr record { lines = []; last = l; whole = append-nil l; skipped = tt; end = so_skipped w l s }
from (b ∷ bs) w l s = go w s (from bs)
  where
    Ahead : Type 0
    Ahead = (w : Where) (l : List ℕ) → SoFar w l → Outcome (l ++ bs) (length l + preface w bs)

    ended : (w : Where) → SoFar w l → Ahead → eqb b 10 ≡ true → Outcome (l ++ b ∷ bs) (length l + preface w (b ∷ bs))
    ended w s ih y =
        let P : ℕ → Type 0 = λ x. Outcome (l ++ x ∷ bs) (length l + preface w (x ∷ bs)) in
        subst P (sym (eqb-true b 10 y))
        (moved _ _ _ _ refl (ap (λ (n : ℕ). length l + n) (sym (line_ends w bs))) (new_line l bs (preface start bs) (so_skipped w l s) (moved _ _ _ _ refl (zero-add _) (ih start [] refl))))

    blank_more : (k : ℕ) → Bare l → Ahead → eqb b 10 ≡ false → blank b ≡ true → k ≡ preface middle (b ∷ bs) → Outcome (l ++ b ∷ bs) (length l + k)
    blank_more k h ih f y e =
        let i = is_bare b y f in
        let n = length-append l (b ∷ []) in
        longer l bs b k (preface middle bs) (e ∙ step_bare b bs i) (ih middle (l ++ b ∷ []) (All-push _ l b h i, omega (arith, n)))

    go : (w : Where) → SoFar w l → Ahead → Outcome (l ++ b ∷ bs) (length l + preface w (b ∷ bs))
    go start s ih = ⊎_elim
        (ended start s ih)
        (λ f. ⊎_elim
        (λ y.
        let c : Comment (l ++ b ∷ []) = subst (λ (x : List ℕ). Comment (x ++ b ∷ [])) (sym s) (record { first = y; inside = (is_inside b f, tt) }) in
        longer l bs b _ (preface comment bs) (in_comment b bs y) (ih comment (l ++ b ∷ []) c))
        (λ n. ⊎_elim
        (λ y. blank_more _ (subst Bare (sym s) tt) ih f y (as_middle b bs n))
        (λ x. word_here l b bs _ (subst Bare (sym s) tt) (x, λ t. absurd (both_ways _ n t)) (as_middle b bs n ∙ cond-false (blank b) _ _ x))
        (cases_Bool (blank b)))
        (cases_Bool (eqb b 99)))
        (cases_Bool (eqb b 10))
    go middle s ih = ⊎_elim
        (ended middle s ih)
        (λ f. ⊎_elim
        (λ y. blank_more _ s.0 ih f y refl)
        (λ x. word_here l b bs _ s.0 (x, λ _. s.1) (cond-false (blank b) _ _ x))
        (cases_Bool (blank b)))
        (cases_Bool (eqb b 10))
    go comment s ih = ⊎_elim
        (ended comment s ih)
        (λ f.
        let c : Comment (l ++ b ∷ []) = record { first = still_comment l b s.first; inside = All-push _ l b s.inside (is_inside b f) } in
        longer l bs b _ (preface comment bs) (ap (λ (w : Where). suc (preface w bs)) (cond-false (eqb b 10) start comment f)) (ih comment (l ++ b ∷ []) c))
        (cases_Bool (eqb b 10))

pub preface_is_lines : PrefaceIsLines
preface_is_lines bs = (opens_at bs, unopened_at bs, moved_there)
  where
    moved_there : Outcome bs (preface start bs)
    moved_there = moved _ _ _ _ refl (zero-add _) (from bs start [] refl)
