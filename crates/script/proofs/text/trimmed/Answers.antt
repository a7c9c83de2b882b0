use Rattle.std.proofs.Common.{◌≡◌, ℕ, eqb, List, [], ◌∷◌, ◌++◌, Option, Some, None, Bor, MatchOption, sym, refl, ap, ◌∙◌, ⊎_elim, arith}
use Rattle.std.specs.Option.{unwrap_or}
use Rattle.std.proofs.lemmas.Str.Pattern.{strip_suffix_char}
use Rattle.std.proofs.lemmas.Bool.{cases_Bool, cond-false, eqb-true}
use Rattle.script.specs.Lines.{trimmed}
use Rattle.script.proofs.text.trimmed.Goals as goal

cut_end : (front : List ℕ) → front ≡ trimmed (front ++ 13 ∷ [])
unfolding trimmed
cut_end [] = refl
cut_end (b ∷ []) = refl
cut_end (b ∷ x ∷ front) = ap (λ l. b ∷ l) (cut_end (x ∷ front))

no_end : (bs : List ℕ) → ((front : List ℕ) → bs ≡ front ++ 13 ∷ [] → ⊥) → bs ≡ trimmed bs
unfolding trimmed
no_end [] n = refl
no_end (b ∷ []) n = ⊎_elim
    (λ y. absurd (n [] (ap (λ a. a ∷ []) (eqb-true b 13 y))))
    (λ f. sym (cond-false (eqb b 13) _ _ f))
    (cases_Bool (eqb b 13))
no_end (b ∷ x ∷ bs) n = ap (λ l. b ∷ l) (no_end (x ∷ bs) (λ front e. n (b ∷ front) (ap (λ l. b ∷ l) e)))

cut : (o : Option (Bor (List ℕ))) (line : Bor (List ℕ)) → MatchOption o ((front : List ℕ) → line.now ≡ front ++ 13 ∷ [] → ⊥) (λ x. line.now ≡ x.now ++ 13 ∷ []) → (unwrap_or o line).now ≡ trimmed line.now
cut (Some x) line h = cut_end x.now ∙ sym (ap trimmed h)
cut None line h = no_end line.now h

pub returns : goal.returns
returns c =
    ap (λ (x : Bor (List ℕ)). x.now) c.unwrap_or.ensures
    ∙ cut c.strip_suffix.result c.args.line (strip_suffix_char 13 c.args.line.now _ c.strip_suffix.ensures.cases (omega arith))
