use Rattle.std.proofs.Common.{◌≡◌, ℕ, Bool, true, false, T, Some, None, Option, sym, refl, ap, ◌∙◌, arith}
use native.Mathlib.Nat.{ℕ_set}
use lib.Bits.{bit_and}
use Rattle.std.proofs.lemmas.Bool.{eqb-false}
use Rattle.clause.specs.declared.words.Clause.{Clause}
use Rattle.clause.specs.Clauses.{clause_of, clause_if}
use Rattle.clause.proofs.Truths.{shares_word}
use Rattle.clause.proofs.words.Clause.of_words.Goals as goal

made : (p n : ℕ) (b : Bool) (f : T b → bit_and p n ≡ 0) (h : bit_and p n ≡ 0) → b ≡ true
    → ◌≡◌ {A = Option Clause} (Some (record { positive = p; negative = n; apart = h })) (clause_if p n b f)
made p n true f h e =
    let make : bit_and p n ≡ 0 → Option Clause = λ q. Some (record { positive = p; negative = n; apart = q })
    in ap make (ℕ_set _ _ h (f tt))
made p n false f h e = cc

none : (p n : ℕ) (b : Bool) (f : T b → bit_and p n ≡ 0) → b ≡ false → ◌≡◌ {A = Option Clause} None (clause_if p n b f)
none p n true f e = cc
none p n false f e = refl

pub returns-then-are_apart : goal.returns-then-are_apart
unfolding clause_of
returns-then-are_apart c = record { value = made _ _ _ _ _ (sym c.are_apart.ensures ∙ c.if-are_apart.true); atoms = refl }

pub returns-else-are_apart : goal.returns-else-are_apart
unfolding clause_of
returns-else-are_apart c =
    let e = sym c.are_apart.ensures ∙ c.if-are_apart.false in
    record {
      value = none _ _ _ _ e;
      atoms = shares_word c.args.positive c.args.negative (omega arith) (eqb-false _ _ e);
    }
