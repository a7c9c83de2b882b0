use Rattle.std.proofs.Common.{◌≡◌, ℕ, Some, None, Option, sym, ap, ◌∙◌, subst, MatchOption}
use lib.Bits.{bit_and, bit_or, bit_xor}
use Rattle.clause.specs.declared.words.Clause.{Clause}
use Rattle.clause.specs.Clauses.{Literals, clause_of, joined, lits, top, Shares, Clashes, Resolves}
use Rattle.clause.specs.Words.{at, one, without}
use Rattle.clause.proofs.Truths.{joined_pos, joined_neg}
use Rattle.clause.proofs.words.Clause.resolve.Goals as goal

joins : (r c : Literals) (p q x y : ℕ) → p ≡ q → x ≡ bit_xor r.pos (bit_and r.pos (one p)) → y ≡ bit_xor c.neg (bit_and c.neg (one p))
    → ◌≡◌ {A = Literals} (record { pos = bit_or x c.pos; neg = bit_or r.neg y }) (joined r c q)
unfolding joined without
joins r c p q x y z e f = rw (e, f, z)

by_atoms : (r c : Literals) (p : ℕ) (o : Option Clause) → MatchOption o (Shares (joined r c p).pos (joined r c p).neg) (λ d. lits d ≡ joined r c p)
    → MatchOption o (Clashes r c p) (λ d. Resolves r c p (lits d))
by_atoms r c p None s = (s.0, sym (joined_pos r c p s.0) ∙ s.1, sym (joined_neg r c p s.0) ∙ s.2)
by_atoms r c p (Some d) e = record {
  positives = λ a. ap (λ (x : Literals). at x.pos a) e ∙ joined_pos r c p a;
  negatives = λ a. ap (λ (x : Literals). at x.neg a) e ∙ joined_neg r c p a;
}

pub returns : goal.returns
returns c =
    let r = lits c.args.self.now in
    let d = lits c.args.other.now in
    let e = joins r d c.highest-p.result (top d) c.take_out.result c.take_out-2.result c.highest-p.ensures.value c.take_out.ensures c.take_out-2.ensures in
    record {
      value = c.of_words.ensures.value ∙ ap clause_of e;
      atoms = by_atoms r d (top d) c.of_words.result
          (subst (λ (j : Literals). MatchOption c.of_words.result (Shares j.pos j.neg) (λ x. lits x ≡ j)) e c.of_words.ensures.atoms);
    }
