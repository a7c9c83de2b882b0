-- Literals gathered word by word.
use Rattle.std.proofs.Common.{◌≡◌, ℕ, ◌+◌, ◌<◌, ◌≤◌, List, [], ◌∷◌, ◌++◌, map, length, get_or, drop, ℤ, Some, None, Option, sym, refl, ap, ◌∙◌, append_assoc, append-nil}
use Rattle.std.proofs.lemmas.List.{at_drop_more, at_drop_all}
use Rattle.script.specs.Numbers.{literal}
use Rattle.script.specs.Requests.{literals, before}

-- those read before, and then the others, where all are literals
abbrev pub onto : List ℤ → Option (List ℤ) → Option (List ℤ)
onto ls (Some ks) = Some (ls ++ ks)
onto ls None = None

onto_none : (o : Option (List ℤ)) → o ≡ onto [] o
onto_none (Some ks) = refl
onto_none None = refl

onto_before : (ls : List ℤ) (l : ℤ) (o : Option (List ℤ)) → onto ls (before (Some l) o) ≡ onto (ls ++ l ∷ []) o
onto_before ls l (Some ks) = ap Some (sym (append_assoc ls (l ∷ []) ks))
onto_before ls l None = refl

module _ {W : Type 0} (f : W → List ℕ) (ws : List W) where
  pub none_yet : (ls : List ℤ) → ls ≡ [] → literals (map f ws) ≡ onto ls (literals (map f ws))
  none_yet ls e = onto_none (literals (map f ws)) ∙ ap (λ ks. onto ks (literals (map f ws))) (sym e)

  module _ (i : ℕ) (d : W) (h : i < length ws) (ls : List ℤ) (o : Option ℤ) (read : o ≡ literal (f (get_or ws i d))) where
    next : onto ls (literals (map f (drop i ws))) ≡ onto ls (before o (literals (map f (drop (i + 1) ws))))
    unfolding literals
    next = at_drop_more (λ xs. onto ls (literals (map f xs))) ws i d h ∙ ap (λ x. onto ls (before x (literals (map f (drop (i + 1) ws))))) (sym read)

    pub one_more : (l : ℤ) → o ≡ Some l → (ks : List ℤ) → ks ≡ ls ++ l ∷ [] → onto ls (literals (map f (drop i ws))) ≡ onto ks (literals (map f (drop (i + 1) ws)))
    one_more l e ks p =
        let rest = literals (map f (drop (i + 1) ws)) in
        next ∙ ap (λ x. onto ls (before x rest)) e ∙ onto_before ls l rest ∙ ap (λ x. onto x rest) (sym p)

    pub no_literal : o ≡ None → onto ls (literals (map f (drop i ws))) ≡ None
    no_literal e = next ∙ ap (λ x. onto ls (before x (literals (map f (drop (i + 1) ws))))) e

  pub no_more : (i : ℕ) (ls : List ℤ) → length ws ≤ i → onto ls (literals (map f (drop i ws))) ≡ Some ls
  unfolding literals
  no_more i ls h = at_drop_all (λ xs. onto ls (literals (map f xs))) ws i h ∙ ap Some (append-nil ls)
