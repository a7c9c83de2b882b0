-- A word put after a text, with a space between.
use Rattle.std.proofs.Common.{◌≡◌, ℕ, false, cond, eqb, List, [], ◌∷◌, ◌++◌, is_ok, IfOk, Ok, Err, Result, sym, ap, ◌∙◌, append_assoc}
use Rattle.std.proofs.lemmas.Bool.{cond-false}
use Rattle.script.specs.Lines.{spaced_at}

-- a space and a word were put after a, unless memory failed
pub put_word : {E : Type 0} (r : Result (Unit {0}) E) (a m z w : List ℕ) (i : ℕ) → eqb i 0 ≡ false → m ≡ a ++ (32 ∷ []) → z ≡ cond (is_ok r) (m ++ w) m → IfOk r (λ _. z ≡ a ++ spaced_at i w)
put_word (Ok u) a m z w i n e p = p ∙ ap (λ l. l ++ w) e ∙ append_assoc a (32 ∷ []) w ∙ ap (λ l. a ++ l) (sym (cond-false (eqb i 0) w (32 ∷ w) n))
put_word (Err y) a m z w i n e p = tt
