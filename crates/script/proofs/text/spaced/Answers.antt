use Rattle.std.proofs.Common.{◌≡◌, ℕ, List, [], ◌∷◌, ◌++◌, map, refl, ap, ◌∙◌, append-nil}
use Rattle.std.proofs.lemmas.Result.{IfOk-weaker}
use Rattle.std.specs.List.{join_by, join_with_byte, flat_map}
use Rattle.script.proofs.text.spaced.Goals as goal

joined_from : {X : Type 0} (f : X → List ℕ) (x : X) (xs : List X) → f x ++ flat_map (λ y. (32 ∷ []) ++ f y) xs ≡ join_with_byte 32 (f x ∷ map f xs)
joined_from f x [] = append-nil (f x)
joined_from f x (y ∷ ys) = ap (λ l. f x ++ (32 ∷ l)) (joined_from f y ys)

joined : {X : Type 0} (f : X → List ℕ) (xs : List X) → join_by f (32 ∷ []) xs ≡ join_with_byte 32 (map f xs)
joined f [] = refl
joined f (x ∷ xs) = joined_from f x xs

pub returns : goal.returns
returns c = IfOk-weaker c.joined.result _ _ (λ s e. e ∙ joined (λ x. x.now) c.args.words.now) c.joined.ensures
