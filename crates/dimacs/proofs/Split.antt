-- What one call of the reader takes off the words of a text.
use Rattle.std.proofs.Common.{◌≡◌, ℕ, zero, suc, ◌+◌, ◌-◌, ◌<◌, ◌≤◌, List, [], ◌∷◌, ◌++◌, length, take, drop, sym, refl, ap, ◌∙◌, subst, ⊎_elim, append_assoc, append-nil, add-zero, one-add, arith, length-drop, length-take}
use Rattle.std.proofs.lemmas.List.{drop-drop, take_rest}
use Rattle.std.specs.List.{prefix_len}
use Rattle.std.proofs.lemmas.Bool.{cases_Bool, cond-true, cond-false, not_from_true, not_from_false}
use Rattle.dimacs.specs.Runs.{blank, in_word}
use Rattle.dimacs.specs.Words.{Piece, ended, scan, words}

-- blanks in front move the place and nothing else
pub past_blanks : (at : ℕ) (bs : List ℕ) → words at bs ≡ words (at + prefix_len blank bs) (drop (prefix_len blank bs) bs)
past_blanks at [] = ap (λ n. words n []) (sym (add-zero at))
past_blanks at (b ∷ bs) = ⊎_elim
    (λ y.
    let one : prefix_len blank (b ∷ bs) ≡ suc (prefix_len blank bs) = cond-true (blank b) _ _ y ∙ one-add _ in
    cond-true (blank b) _ _ y ∙ past_blanks (at + 1) bs ∙
    ap (λ n. words n (drop (prefix_len blank bs) bs)) (let e : (at + 1) + prefix_len blank bs ≡ at + suc (prefix_len blank bs) = omega arith in e) ∙
    ap (λ n. words (at + n) (drop n (b ∷ bs))) (sym one))
    (λ n.
    let none : prefix_len blank (b ∷ bs) ≡ 0 = cond-false (blank b) _ _ n in
    ap (λ k. words k (b ∷ bs)) (sym (add-zero at)) ∙ ap (λ n. words (at + n) (drop n (b ∷ bs))) (sym none))
    (cases_Bool (blank b))

-- where a word is being read, its other bytes are those up to the next blank
pub to_end : (start : ℕ) (w : List ℕ) (at : ℕ) (bs : List ℕ) → scan start w at bs ≡ ended start (w ++ take (prefix_len in_word bs) bs) (words (at + prefix_len in_word bs) (drop (prefix_len in_word bs) bs))
to_end start w at [] = ap (λ l. ended start l []) (sym (append-nil w))
to_end start w at (b ∷ bs) = ⊎_elim
    (λ y.
    let none : prefix_len in_word (b ∷ bs) ≡ 0 = cond-false (in_word b) _ _ (not_from_true (blank b) y) in
    let F : ℕ → List Piece = λ n. ended start (w ++ take n (b ∷ bs)) (words (at + n) (drop n (b ∷ bs))) in
    let back : words (at + 0) (b ∷ bs) ≡ words (at + 1) bs = ap (λ k. words k (b ∷ bs)) (add-zero at) ∙ cond-true (blank b) _ _ y in
    cond-true (blank b) _ _ y ∙ ap (λ l. ended start l (words (at + 1) bs)) (sym (append-nil w)) ∙ ap (ended start (w ++ [])) (sym back) ∙ ap F (sym none))
    (λ n.
    let one : prefix_len in_word (b ∷ bs) ≡ suc (prefix_len in_word bs) = cond-true (in_word b) _ _ (not_from_false (blank b) n) ∙ one-add _ in
    let k : ℕ = prefix_len in_word bs in
    let F : ℕ → List Piece = λ n. ended start (w ++ take n (b ∷ bs)) (words (at + n) (drop n (b ∷ bs))) in
    let shift : (at + 1) + k ≡ at + suc k = omega arith in
    cond-false (blank b) _ _ n ∙ to_end start (w ++ b ∷ []) (at + 1) bs ∙
    ap (λ l. ended start l (words ((at + 1) + k) (drop k bs))) (append_assoc w (b ∷ []) (take k bs)) ∙
    ap (λ m. ended start (w ++ (b ∷ take k bs)) (words m (drop k bs))) shift ∙ ap F (sym one))
    (cases_Bool (blank b))

-- after the blanks in front there is none
clean : (bs : List ℕ) → prefix_len blank (drop (prefix_len blank bs) bs) ≡ 0
clean [] = refl
clean (b ∷ bs) = ⊎_elim
    (λ y.
    let one : prefix_len blank (b ∷ bs) ≡ suc (prefix_len blank bs) = cond-true (blank b) _ _ y ∙ one-add _ in
    subst (λ n. prefix_len blank (drop n (b ∷ bs)) ≡ 0) (sym one) (clean bs))
    (λ n.
    let none : prefix_len blank (b ∷ bs) ≡ 0 = cond-false (blank b) _ _ n in
    subst (λ k. prefix_len blank (drop k (b ∷ bs)) ≡ 0) (sym none) none)
    (cases_Bool (blank b))

-- bytes that begin with neither a blank nor a byte of a word are none
over : (bs : List ℕ) → prefix_len blank bs ≡ 0 → prefix_len in_word bs ≡ 0 → bs ≡ []
over [] h k = refl
over (b ∷ bs) h k = absurd (⊎_elim
    (λ y. let one : prefix_len blank (b ∷ bs) ≡ 1 + prefix_len blank bs = cond-true (blank b) _ _ y in let f : ⊥ = omega arith in f)
    (λ n. let one : prefix_len in_word (b ∷ bs) ≡ 1 + prefix_len in_word bs = cond-true (in_word b) _ _ (not_from_false (blank b) n) in let f : ⊥ = omega arith in f)
    (cases_Bool (blank b)))

ended_some : (start : ℕ) (w : List ℕ) (ws : List Piece) → 0 < length w → ended start w ws ≡ (start, w) ∷ ws
ended_some start [] ws h = absurd (omega arith)
ended_some start (b ∷ w) ws h = refl

take_nil : (n : ℕ) → take {A = ℕ} n [] ≡ []
take_nil zero = refl
take_nil (suc n) = refl

-- the word that is next in t from place a on lies from s to e
pub record Next (t : List ℕ) (a s e : ℕ) : Type 0 where
  pub starts : s ≡ a + prefix_len blank (drop a t)
  pub ends : e ≡ s + prefix_len in_word (drop s t)
  pub within : e ≤ length t

-- so it is where j blanks and then k bytes of a word are counted
pub next_from : (t : List ℕ) (a j k : ℕ) → a ≤ length t → j ≡ prefix_len blank (take (length t - a) (drop a t)) → j ≤ length (take (length t - a) (drop a t))
    → k ≡ prefix_len in_word (take (length t - (a + j)) (drop (a + j) t)) → k ≤ length (take (length t - (a + j)) (drop (a + j) t)) → Next t a (a + j) (a + j + k)
next_from t a j k h e l f m =
    let x = take_rest t a in
    let y = take_rest t (a + j) in
    record {
      starts = ap (λ (n : ℕ). a + n) (e ∙ ap (prefix_len blank) x);
      ends = ap (λ (n : ℕ). a + j + n) (f ∙ ap (prefix_len in_word) y);
      within = omega (arith, ap length x, ap length y, length-drop a t, length-drop (a + j) t);
    }

module _ {t : List ℕ} {a s e : ℕ} (n : Next t a s e) where
  step : words a (drop a t) ≡ ended s (take (e - s) (drop s t)) (words e (drop e t))
  step =
      let j : ℕ = prefix_len blank (drop a t) in
      let k : ℕ = prefix_len in_word (drop s t) in
      let front : words a (drop a t) ≡ words s (drop s t) =
      past_blanks a (drop a t) ∙ ap (words (a + j)) (drop-drop j a t) ∙ ap (λ m. words m (drop m t)) (sym n.starts) in
      let long : k ≡ e - s = omega (arith, n.ends) in
      front ∙ to_end s [] s (drop s t) ∙ ap (λ l. ended s (take k (drop s t)) (words (s + k) l)) (drop-drop k s t) ∙
      ap (λ m. ended s (take k (drop s t)) (words m (drop m t))) (sym n.ends) ∙
      ap (λ m. ended s (take m (drop s t)) (words e (drop e t))) long

  pub none_left : s ≡ e → (words a (drop a t) ≡ []) × (words e (drop e t) ≡ [])
  none_left same =
      let j : ℕ = prefix_len blank (drop a t) in
      let rest : drop s t ≡ drop j (drop a t) = ap (λ m. drop m t) n.starts ∙ sym (drop-drop j a t) in
      let no-blank : prefix_len blank (drop s t) ≡ 0 = ap (prefix_len blank) rest ∙ clean (drop a t) in
      let no_word : prefix_len in_word (drop s t) ≡ 0 = omega (arith, n.ends) in
      let empty : drop s t ≡ [] = over (drop s t) no-blank no_word in
      let at_end : drop e t ≡ [] = ap (λ m. drop m t) (sym same) ∙ empty in
      (step ∙ ap (λ l. ended s (take (e - s) l) (words e (drop e t))) empty ∙ ap (λ l. ended s (take (e - s) []) (words e l)) at_end ∙ ap (λ l. ended s l []) (take_nil (e - s)), ap (words e) at_end)

  pub one_more : (s ≡ e → ⊥) → words a (drop a t) ≡ (s, take (e - s) (drop s t)) ∷ words e (drop e t)
  one_more other =
      step ∙ ended_some s _ _ (simp (length-take, length-drop) (omega (arith, n.ends, n.within)))
