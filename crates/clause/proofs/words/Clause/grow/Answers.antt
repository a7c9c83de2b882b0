use Rattle.std.proofs.Common.{◌≡◌, ℕ, Bool, true, false, ℤ, pos, negsuc, sym, ap, ◌∙◌, arith, to_z-of_z, w32, SFits, to_z, of_z}
use lib.Bits.{bit_or}
use lib.Signed.{lt_z}
use Rattle.std.proofs.lemmas.Bool.{ltb-true}
use Rattle.clause.specs.declared.words.Clause.{Clause}
use Rattle.clause.specs.Clauses.{clause_of}
use Rattle.clause.specs.Reading.{grown}
use Rattle.clause.specs.Words.{one, with_atom}
use Rattle.clause.proofs.words.Clause.grow.Goals as goal

negative : (c : Clause) (l : ℤ) (a w : ℕ) → w ≡ one a → lt_z l (pos 0) ≡ true → clause_of (record { pos = c.positive; neg = bit_or c.negative w }) ≡ grown c l a
unfolding grown with_atom
negative c (pos n) a w e t = absurd (omega (arith, ltb-true n 0 t))
negative c (negsuc n) a w e t = rw e

positive : (c : Clause) (l : ℤ) (a w : ℕ) → w ≡ one a → lt_z l (pos 0) ≡ false → clause_of (record { pos = bit_or c.positive w; neg = c.negative }) ≡ grown c l a
unfolding grown with_atom
positive c (pos n) a w e t = rw e
positive c (negsuc n) a w e t = cc

signed : (l : ℤ) (b : Bool) → SFits w32 l → lt_z (to_z w32 (of_z w32 l)) (pos 0) ≡ b → lt_z l (pos 0) ≡ b
signed l b f e = ap (λ (z : ℤ). lt_z z (pos 0)) (sym (to_z-of_z f)) ∙ e

pub returns-then-literal-lt0 : goal.returns-then-literal-lt0
returns-then-literal-lt0 c =
    c.of_words.ensures.value
    ∙ negative c.args.self.now c.args.literal c.args.atom _ c.word_of-word.ensures (signed _ _ c.ranges.literal c.if-literal-lt0.true)

pub returns-else-literal-lt0 : goal.returns-else-literal-lt0
returns-else-literal-lt0 c =
    c.of_words-else-literal-lt0.ensures.value
    ∙ positive c.args.self.now c.args.literal c.args.atom _ c.word_of-word.ensures (signed _ _ c.ranges.literal c.if-literal-lt0.false)
