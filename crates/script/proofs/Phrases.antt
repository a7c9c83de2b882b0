-- The words of a request, by how many there are.
use Rattle.std.proofs.Common.{◌≡◌, ℕ, ◌-◌, ◌<◌, cond, List, [], ◌∷◌, map, length, get_or, take, drop, None, codes, Option, refl, ap, ◌∙◌, arith}
use Rattle.std.specs.Str.{bytes_eq}
use Rattle.std.proofs.lemmas.List.{take_rest}
use Rattle.script.specs.declared.request.Verb.{Verb}
use Rattle.script.specs.Numbers.{number}
use Rattle.script.specs.Requests.{alone, opens, lends, asks, asks_for, keyword}

module _ {W : Type 0} (f : W → List ℕ) where
  pub alone_one : (ws : List W) (d : W) → length ws ≡ 1 → number (f (get_or ws 0 d)) ≡ alone (map f ws)
  unfolding alone
  alone_one [] d e = absurd (omega arith)
  alone_one (w ∷ []) d e = refl
  alone_one (w ∷ x ∷ ws) d e = absurd (omega arith)

  pub alone_none : (ws : List W) → (length ws ≡ 1 → ⊥) → None ≡ alone (map f ws)
  unfolding alone
  alone_none [] n = refl
  alone_none (w ∷ []) n = absurd (n refl)
  alone_none (w ∷ x ∷ ws) n = refl

  pub opens_three : (ws : List W) (d : W) → length ws ≡ 3 → opens (map f ws) ≡ cond (bytes_eq (f (get_or ws 2 d)) (codes "row")) (lends (number (f (get_or ws 0 d))) (number (f (get_or ws 1 d)))) None
  unfolding opens
  opens_three [] d e = absurd (omega arith)
  opens_three (n ∷ []) d e = absurd (omega arith)
  opens_three (n ∷ p ∷ []) d e = absurd (omega arith)
  opens_three (n ∷ p ∷ k ∷ []) d e = refl
  opens_three (n ∷ p ∷ k ∷ x ∷ ws) d e = absurd (omega arith)

  pub opens_none : (ws : List W) → (length ws ≡ 3 → ⊥) → None ≡ opens (map f ws)
  unfolding opens
  opens_none [] h = refl
  opens_none (n ∷ []) h = refl
  opens_none (n ∷ p ∷ []) h = refl
  opens_none (n ∷ p ∷ k ∷ []) h = absurd (h refl)
  opens_none (n ∷ p ∷ k ∷ x ∷ ws) h = refl

  pub asks_none : (ws : List W) → length ws ≡ 0 → None ≡ asks (map f ws)
  asks_none [] e = refl
  asks_none (w ∷ ws) e = absurd (omega arith)

  rest_of : (ws : List W) (d : W) → 0 < length ws → asks_for (keyword (f (get_or ws 0 d))) (map f (drop 1 ws)) ≡ asks (map f ws)
  rest_of [] d h = absurd (omega arith)
  rest_of (w ∷ ws) d h = refl

  pub asks_first : (ws : List W) (d : W) (v : Option Verb) → 0 < length ws → v ≡ keyword (f (get_or ws 0 d)) → asks_for v (map f (take (length ws - 1) (drop 1 ws))) ≡ asks (map f ws)
  asks_first ws d v h e = ap (λ rest. asks_for v (map f rest)) (take_rest ws 1) ∙ ap (λ u. asks_for u (map f (drop 1 ws))) e ∙ rest_of ws d h
