-- Literals joined by spaces, one by one.
use Rattle.std.proofs.Common.{◌≡◌, ℕ, List, [], ◌∷◌, ◌++◌, map, ℤ, refl, ap, ◌∙◌, append_assoc}
use Rattle.std.specs.List.{join_with_byte}
use Rattle.std.specs.Fmt.{signed_decimal}
use Rattle.clause.specs.Texts.{spelled}

-- what stands between the literals that are written and the next one
abbrev pub space_before : List ℤ → List ℕ
space_before [] = []
space_before (l ∷ ls) = 32 ∷ []

pub some_before : (ls : List ℤ) (k : ℤ) → 32 ∷ [] ≡ space_before (ls ++ k ∷ [])
some_before [] k = refl
some_before (l ∷ ls) k = refl

after_some : (y : List ℕ) (ys : List (List ℕ)) (x : List ℕ) → join_with_byte 32 (y ∷ ys) ++ (32 ∷ x) ≡ join_with_byte 32 (y ∷ ys ++ x ∷ [])
after_some y [] x = refl
after_some y (z ∷ ys) x = append_assoc y (32 ∷ join_with_byte 32 (z ∷ ys)) (32 ∷ x) ∙ ap (λ l. y ++ (32 ∷ l)) (after_some z ys x)

mapped : (ls : List ℤ) (k : ℤ) → map signed_decimal ls ++ (signed_decimal k ∷ []) ≡ map signed_decimal (ls ++ k ∷ [])
mapped [] k = refl
mapped (l ∷ ls) k = ap (λ r. signed_decimal l ∷ r) (mapped ls k)

pub one_literal : (ls : List ℤ) (k : ℤ) → spelled ls ++ (space_before ls ++ signed_decimal k) ≡ spelled (ls ++ k ∷ [])
one_literal [] k = refl
one_literal (l ∷ ls) k = after_some (signed_decimal l) (map signed_decimal ls) (signed_decimal k) ∙ ap (λ r. join_with_byte 32 (signed_decimal l ∷ r)) (mapped ls k)
