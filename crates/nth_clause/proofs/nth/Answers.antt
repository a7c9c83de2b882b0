use Rattle.std.proofs.Common.{sym, ap, ◌∙◌, Some, None, Option, MatchOption, IsSome, refl}
use Rattle.clause.specs.declared.words.Clause.{Clause}
use Rattle.clause.specs.Words.{at}
use Rattle.nth_clause.proofs.Numbered.{apart_at, in_order}
use Rattle.nth_clause.proofs.nth.Goals as goal

is_there : (r : Option Clause) (P : Type 0) (Q : Clause → Type 0) → MatchOption r P Q → (P → ⊥) → IsSome r
is_there None P Q m n = absurd (n m)
is_there (Some c) P Q m n = refl

-- no atom has two digits
pub unwrap-requires : goal.unwrap-requires
unwrap-requires c =
    is_there _ _ _ c.of_words.ensures.atoms
    (λ s. apart_at 21 c.args.k s.0
    (ap (λ w. at w s.0) (sym c.word-positive.ensures.value) ∙ s.1)
    (ap (λ w. at w s.0) (sym c.word-negative.ensures.value) ∙ s.2))

pub returns-clause-order : goal.returns-clause-order
returns-clause-order c = in_order
