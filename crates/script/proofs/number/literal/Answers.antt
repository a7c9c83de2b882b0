use Rattle.std.proofs.Common.{◌≡◌, ℕ, true, false, eqb, List, [], ◌∷◌, sym, refl, ap, ◌∙◌, ⊎_elim, rules, arith}
use Rattle.std.specs.Option.{option_map}
use Rattle.std.proofs.lemmas.Str.Pattern.{strip_prefix_char}
use Rattle.std.proofs.lemmas.Option.{MatchOption-at_some, MatchOption-at_none}
use Rattle.std.proofs.lemmas.Bool.{cases_Bool, cond-false, eqb-true}
use Rattle.script.specs.Numbers.{literal, number, signed}
use Rattle.script.proofs.number.literal.Goals as goal

with_minus : (w rest : List ℕ) → w ≡ 45 ∷ rest → option_map (signed true) (number rest) ≡ literal w
unfolding literal
with_minus w rest e = sym (ap literal e)

without_minus : (w : List ℕ) → ((rest : List ℕ) → w ≡ 45 ∷ rest → ⊥) → option_map (signed false) (number w) ≡ literal w
unfolding literal
without_minus [] f = refl
without_minus (b ∷ w) f = ⊎_elim
    (λ y. absurd (f w (ap (λ a. a ∷ w) (eqb-true b 45 y))))
    (λ n. sym (cond-false (eqb b 45) _ _ n))
    (cases_Bool (eqb b 45))

pub returns-in-Some : goal.returns-in-Some
returns-in-Some c =
    let strip = strip_prefix_char 45 c.args.word.now _ c.strip_prefix.ensures.cases (omega arith) in
    let signs : c.map.result ≡ option_map (signed true) c.number.result = search rules in
    signs ∙ ap (option_map (signed true)) c.number.ensures ∙ with_minus _ _ (MatchOption-at_some _ _ _ c.in-Some.is strip)

pub returns-in-None : goal.returns-in-None
returns-in-None c =
    let strip = strip_prefix_char 45 c.args.word.now _ c.strip_prefix.ensures.cases (omega arith) in
    let signs : c.map-in-None.result ≡ option_map (signed false) c.number-in-None.result = search rules in
    signs ∙ ap (option_map (signed false)) c.number-in-None.ensures ∙ without_minus _ (MatchOption-at_none _ _ c.in-None.is strip)
