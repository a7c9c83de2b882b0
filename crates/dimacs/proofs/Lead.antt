-- What one line adds to what stands before the heading.
use Rattle.std.proofs.Common.{◌≡◌, ℕ, suc, ◌+◌, ◌<◌, Bool, true, false, cond, eqb, List, [], ◌∷◌, length, get_or, drop, sym, refl, ap, ◌∙◌, ⊎_elim, suc-add, zero-add, one-add, arith}
use Rattle.std.specs.List.{prefix_len}
use Rattle.std.proofs.lemmas.Bool.{cases_Bool, cases_lt, cond-true, cond-false, eq-eqb, ne_eqb}
use Rattle.std.proofs.lemmas.List.{drop-drop, at_drop_more, at_drop_all}
use Rattle.std.proofs.lemmas.Bool.Decides.{nat_tests}
use Rattle.dimacs.specs.Runs.{blank, in_line, indent}
use Rattle.dimacs.specs.Preface.{Where, start, middle, comment, preface, lead}

-- what stands before the heading, from a word or the end of a line on
pub tail : List ℕ → ℕ
tail [] = 0
tail (b ∷ bs) = cond (eqb b 10) (suc (preface start bs)) 0

-- p passes over the bytes that w goes on over
module _ (p : ℕ → Bool) (w : Where) (none : preface w [] ≡ 0)
    (on : (b : ℕ) (bs : List ℕ) → p b ≡ true → preface w (b ∷ bs) ≡ suc (preface w bs))
    (off : (b : ℕ) (bs : List ℕ) → p b ≡ false → preface w (b ∷ bs) ≡ tail (b ∷ bs)) where
  over : (bs : List ℕ) → preface w bs ≡ prefix_len p bs + tail (drop (prefix_len p bs) bs)
  unfolding tail
  over [] = none
  over (b ∷ bs) = ⊎_elim
      (λ y.
      let one : prefix_len p (b ∷ bs) ≡ suc (prefix_len p bs) = cond-true (p b) _ _ y ∙ one-add _ in
      on b bs y ∙ ap suc (over bs) ∙ sym (suc-add _ _) ∙ ap (λ n. n + tail (drop n (b ∷ bs))) (sym one))
      (λ n.
      let zero' : prefix_len p (b ∷ bs) ≡ 0 = cond-false (p b) _ _ n in
      off b bs n ∙ sym (zero-add _) ∙ ap (λ k. k + tail (drop k (b ∷ bs))) (sym zero'))
      (cases_Bool (p b))

in_comment : (bs : List ℕ) → preface comment bs ≡ prefix_len in_line bs + tail (drop (prefix_len in_line bs) bs)
unfolding tail
in_comment = over in_line comment refl
    (λ b bs y. ap (λ w. suc (preface w bs)) (cond-false (eqb b 10) start comment (grind (arith, nat_tests))))
    (λ b bs n. let t : eqb b 10 ≡ true = grind (arith, nat_tests) in ap (λ w. suc (preface w bs)) (cond-true (eqb b 10) start comment t) ∙ sym (cond-true (eqb b 10) _ _ t))

in_middle : (bs : List ℕ) → preface middle bs ≡ prefix_len indent bs + tail (drop (prefix_len indent bs) bs)
unfolding tail
in_middle = over indent middle refl
    (λ b bs y.
    let t : blank b ≡ true = grind (arith, nat_tests) in
    let f : eqb b 10 ≡ false = grind (arith, nat_tests) in
    cond-true (blank b) _ _ t ∙ ap (λ w. suc (preface w bs)) (cond-false (eqb b 10) start middle f))
    (λ b bs n. ⊎_elim
    (λ t.
    let u : blank b ≡ true = grind (arith, nat_tests) in
    cond-true (blank b) _ _ u ∙ ap (λ w. suc (preface w bs)) (cond-true (eqb b 10) start middle t) ∙ sym (cond-true (eqb b 10) _ _ t))
    (λ f. let u : blank b ≡ false = grind (arith, nat_tests) in cond-false (blank b) _ _ u ∙ sym (cond-false (eqb b 10) _ _ f))
    (cases_Bool (eqb b 10)))

pub one_line : (bs : List ℕ) → preface start bs ≡ lead bs + tail (drop (lead bs) bs)
unfolding tail
one_line [] = refl
one_line (b ∷ bs) = ⊎_elim
    (λ y.
    let i : in_line b ≡ true = grind (arith, nat_tests) in
    let one : prefix_len in_line (b ∷ bs) ≡ suc (prefix_len in_line bs) = cond-true (in_line b) _ _ i ∙ one-add _ in
    let is : lead (b ∷ bs) ≡ suc (prefix_len in_line bs) = ap (λ (p : ℕ → Bool). prefix_len p (b ∷ bs)) (cond-true (eqb b 99) in_line indent y) ∙ one in
    cond-true (eqb b 99) _ _ y ∙ ap suc (in_comment bs) ∙ sym (suc-add _ _) ∙ ap (λ n. n + tail (drop n (b ∷ bs))) (sym is))
    (λ n.
    let is : lead (b ∷ bs) ≡ prefix_len indent (b ∷ bs) = ap (λ (p : ℕ → Bool). prefix_len p (b ∷ bs)) (cond-false (eqb b 99) in_line indent n) in
    cond-false (eqb b 99) _ _ n ∙ in_middle (b ∷ bs) ∙ ap (λ k. k + tail (drop k (b ∷ bs))) (sym is))
    (cases_Bool (eqb b 99))

-- a line that begins at place a, and whose first word or end is at e
pub one_turn : (t : List ℕ) (a e : ℕ) → preface start t ≡ a + preface start (drop a t) → e ≡ a + lead (drop a t) → preface start t ≡ e + tail (drop e t)
one_turn t a e before is =
    let k : ℕ = lead (drop a t) in
    let line : preface start (drop a t) ≡ k + tail (drop (a + k) t) = one_line (drop a t) ∙ ap (λ l. k + tail l) (drop-drop k a t) in
    let moved : tail (drop (a + k) t) ≡ tail (drop e t) = ap (λ m. tail (drop m t)) (sym is) in
    omega (arith, before, is, line, moved)

pub at_line : (t : List ℕ) (e : ℕ) → e < length t → get_or t e 0 ≡ 10 → tail (drop e t) ≡ 1 + preface start (drop (e + 1) t)
unfolding tail
at_line t e l h = at_drop_more tail t e 0 l ∙ cond-true (eqb (get_or t e 0) 10) _ _ (eq-eqb _ 10 h) ∙ omega arith

-- no line ends there: it is a word, or the end of the text
pub at_word : (t : List ℕ) (e : ℕ) → (e < length t → get_or t e 0 ≡ 10 → ⊥) → tail (drop e t) ≡ 0
unfolding tail
at_word t e h = ⊎_elim
    (λ l. at_drop_more tail t e 0 l ∙ cond-false (eqb (get_or t e 0) 10) _ _ (ne_eqb _ 10 (h l)))
    (λ g. at_drop_all tail t e g)
    (cases_lt e (length t))
