-- The words of a text are the one way to cut it.
use Rattle.std.proofs.Common.{◌≡◌, ℕ, suc, ◌+◌, ◌<◌, true, List, [], ◌∷◌, ◌++◌, length, sym, refl, ap, ◌∙◌, subst, ⊎_elim, append_assoc, append-nil, add-zero, arith, length-append}
use Rattle.std.proofs.ByRecursion.{All-push}
use Rattle.std.proofs.lemmas.Bool.{cases_Bool, cond-true, cond-false}
use Rattle.dimacs.specs.Runs.{blank}
use Rattle.dimacs.specs.Words.{Piece, ended, scan, words}
use Rattle.dimacs_law.specs.Cut.{Blanks, Letters, Stops, First, Cut, WordsAreTheCut}

-- reading over blanks, over a word, and to its end
pub over_blanks : (at : ℕ) (gap bs : List ℕ) → Blanks gap → words at (gap ++ bs) ≡ words (at + length gap) bs
over_blanks at [] bs h = ap (λ k. words k bs) (sym (add-zero at))
over_blanks at (b ∷ gap) bs h =
    cond-true (blank b) _ _ h.0 ∙ over_blanks (at + 1) gap bs h.1 ∙
    ap (λ k. words k bs) (let e : (at + 1) + length gap ≡ at + suc (length gap) = omega arith in e)

over_letters : (start at : ℕ) (v w bs : List ℕ) → Letters w → scan start v at (w ++ bs) ≡ scan start (v ++ w) (at + length w) bs
over_letters start at v [] bs h = ap (λ l. scan start l at bs) (sym (append-nil v)) ∙ ap (λ k. scan start (v ++ []) k bs) (sym (add-zero at))
over_letters start at v (b ∷ w) bs h =
    cond-false (blank b) _ _ h.0 ∙ over_letters start (at + 1) (v ++ b ∷ []) w bs h.1 ∙
    ap (λ l. scan start l ((at + 1) + length w) bs) (append_assoc v (b ∷ []) w) ∙
    ap (λ k. scan start (v ++ (b ∷ w)) k bs) (let e : (at + 1) + length w ≡ at + suc (length w) = omega arith in e)

at_stop : (start at : ℕ) (w bs : List ℕ) → Stops bs → scan start w at bs ≡ ended start w (words at bs)
at_stop start at w [] h = refl
at_stop start at w (b ∷ bs) h = cond-true (blank b) _ _ h ∙ ap (ended start w) (sym (cond-true (blank b) _ _ h))

ended_some : (start : ℕ) (w : List ℕ) (ws : List Piece) → 0 < length w → ended start w ws ≡ (start, w) ∷ ws
ended_some start [] ws h = absurd (omega arith)
ended_some start (b ∷ w) ws h = refl

first_word : (at : ℕ) (bs : List ℕ) (w : Piece) (rest : List ℕ) → First at bs w rest → words at bs ≡ w ∷ words (w.0 + length w.1) rest
first_word at bs w rest f =
    let here : at + length f.gap ≡ w.0 = sym f.place in
    ap (words at) f.whole ∙ over_blanks at f.gap (w.1 ++ rest) f.blanks ∙
    ap (λ k. words k (w.1 ++ rest)) here ∙ over_letters w.0 w.0 [] w.1 rest f.letters ∙
    at_stop w.0 (w.0 + length w.1) w.1 rest f.stops ∙ ended_some w.0 w.1 _ f.some

only : (ws : List Piece) (at : ℕ) (bs : List ℕ) → Cut at bs ws → ws ≡ words at bs
only [] at bs h = sym (ap (words at) (sym (append-nil bs)) ∙ over_blanks at bs [] h)
only (w ∷ ws) at bs (rest, f, more) = ap (λ l. w ∷ l) (only ws (w.0 + length w.1) rest more) ∙ sym (first_word at bs w rest f)

-- a blank more in front
cut_blank : (ws : List Piece) (at b : ℕ) (bs : List ℕ) → blank b ≡ true → Cut (at + 1) bs ws → Cut at (b ∷ bs) ws
cut_blank [] at b bs h c = (h, c)
cut_blank (w ∷ ws) at b bs h (rest, f, more) = (
  rest,
  record {
    gap = b ∷ f.gap;
    whole = ap (λ l. b ∷ l) f.whole;
    blanks = (h, f.blanks);
    some = f.some;
    letters = f.letters;
    stops = f.stops;
    place = omega (arith, f.place);
  },
  more,
)

begun : (start : ℕ) (w rest : List ℕ) → 0 < length w → Letters w → Stops rest → First start (w ++ rest) (start, w) rest
begun start w rest h l s = record { gap = []; whole = refl; blanks = tt; some = h; letters = l; stops = s; place = sym (add-zero start) }

mutual_cut : (bs : List ℕ) → ((at : ℕ) → Cut at bs (words at bs)) × ((start : ℕ) (w : List ℕ) → 0 < length w → Letters w → Cut start (w ++ bs) (scan start w (start + length w) bs))
mutual_cut [] = (λ at. tt, λ start w h l. subst (Cut start (w ++ [])) (sym (ended_some start w [] h)) ([], begun start w [] h l tt, tt))
mutual_cut (b ∷ bs) =
    let ih = mutual_cut bs in
    ⊎_elim
    (λ y. (
      λ at. subst (Cut at (b ∷ bs)) (sym (cond-true (blank b) _ _ y)) (cut_blank _ at b bs y (ih.0 (at + 1))),
      λ start w h l.
          let at : ℕ = start + length w in
          subst (Cut start (w ++ (b ∷ bs))) (sym (cond-true (blank b) _ _ y ∙ ended_some start w _ h))
          (b ∷ bs, begun start w (b ∷ bs) h l y, cut_blank _ at b bs y (ih.0 (at + 1))),
    ))
    (λ n. (
      λ at. subst (Cut at (b ∷ bs)) (sym (cond-false (blank b) _ _ n)) (ih.1 at (b ∷ []) (omega arith) (n, tt)),
      λ start w h l.
          let longer : length (w ++ (b ∷ [])) ≡ length w + 1 = length-append w (b ∷ []) in
          let same : start + length (w ++ (b ∷ [])) ≡ (start + length w) + 1 = omega (arith, longer) in
          subst (Cut start (w ++ (b ∷ bs))) (sym (cond-false (blank b) _ _ n))
          (subst (λ t. Cut start t (scan start (w ++ (b ∷ [])) ((start + length w) + 1) bs)) (append_assoc w (b ∷ []) bs)
          (subst (λ k. Cut start ((w ++ (b ∷ [])) ++ bs) (scan start (w ++ (b ∷ [])) k bs)) same
          (ih.1 start (w ++ (b ∷ [])) (omega (arith, longer)) (All-push _ w b l n)))),
    ))
    (cases_Bool (blank b))

pub words_are_the_cut : WordsAreTheCut
words_are_the_cut at bs = ((mutual_cut bs).0 at, λ ws c. only ws at bs c)
