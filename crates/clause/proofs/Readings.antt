-- What a reading of literals does next.
use Rattle.std.proofs.Common.{◌≡◌, ℕ, zero, suc, ◌+◌, ◌<◌, ◌≤◌, min, Bool, true, false, cond, ◌||◌, eqb, ltb, List, [], ◌∷◌, length, get_or, drop, ℤ, pos, negsuc, nat_abs, IfOk, Some, None, Ok, Err, Option, Result, sym, refl, ap, ◌∙◌, arith}
use Rattle.std.proofs.lemmas.Bool.{or_parts, eqb-false}
use Rattle.clause.specs.Words.{at, with_atom}
use Rattle.clause.specs.Clauses.{Literals, lits}
use Rattle.clause.specs.declared.refusal.Refusal.{Refusal}
use Rattle.clause.proofs.Bits.{at_with, at_zero}
use Rattle.clause.proofs.Truths.{clause_words}
use Rattle.std.proofs.lemmas.List.{drop_more, drop_all}
use Rattle.clause.specs.declared.words.Clause.{Clause}
use Rattle.clause.specs.Refusals.{Told, refused, answer}
use Rattle.clause.specs.Reading.{reads, reads_on, outside, grown, clear, is_plus, is_minus, some_plus, some_minus, Lists}

module _ (n i : ℕ) (c : Clause) (ls : List ℤ) where
  pub reads_end : length ls ≤ i → Ok c ≡ reads n i c (drop i ls)
  unfolding reads
  reads_end l = rw (drop_all i ls l)

  module _ (l : ℤ) (h : i < length ls) (e : l ≡ get_or ls i (pos 0)) where
    front : drop i ls ≡ l ∷ drop (i + 1) ls
    front = drop_more ls i (pos 0) h ∙ ap (λ (x : ℤ). x ∷ drop (i + 1) ls) (sym e)

    pub reads_out : (a : ℕ) → a ≡ nat_abs l → outside n a ≡ true → Err (refused 6 i) ≡ reads n i c (drop i ls)
    unfolding reads
    reads_out a q t = rw (front, ← q, t)

    pub reads_both : (a : ℕ) → a ≡ nat_abs l → outside n a ≡ false → grown c l a ≡ None → Err (refused 7 i) ≡ reads n i c (drop i ls)
    unfolding reads
    reads_both a q t g = rw (front, ← q, t, g)

    pub reads_next : (a : ℕ) (d : Clause) → a ≡ nat_abs l → outside n a ≡ false → grown c l a ≡ Some d → reads n (i + 1) d (drop (i + 1) ls) ≡ reads n i c (drop i ls)
    unfolding reads
    reads_next a d q t g = rw (front, ← q, t, g)

-- ---- which literals the clause read has

-- d has the literals of c, and those of ls
record Joins (c d : Clause) (ls : List ℤ) : Type 0 where
  plus : (a : ℕ) → 0 < a → at d.positive a ≡ at c.positive a || some_plus a ls
  minus : (a : ℕ) → 0 < a → at d.negative a ≡ at c.negative a || some_minus a ls

one_more : (c d : Clause) (l : ℤ) → 0 < nat_abs l → grown c l (nat_abs l) ≡ Some d
    → (a : ℕ) → (at d.positive a ≡ at c.positive a || is_plus a l) × (at d.negative a ≡ at c.negative a || is_minus a l)
unfolding grown
one_more c d (pos n) z e a =
    let w = clause_words (record { pos = with_atom c.positive n; neg = c.negative }) d e in
    (ap (λ (x : Literals). at x.pos a) w ∙ at_with c.positive n a z, ap (λ (x : Literals). at x.neg a) w ∙ none (at c.negative a))
  where
    none : (b : Bool) → b ≡ b || false
    none true = refl
    none false = refl
one_more c d (negsuc n) z e a =
    let w = clause_words (record { pos = c.positive; neg = with_atom c.negative (suc n) }) d e in
    (ap (λ (x : Literals). at x.pos a) w ∙ none (at c.positive a), ap (λ (x : Literals). at x.neg a) w ∙ at_with c.negative (suc n) a z)
  where
    none : (b : Bool) → b ≡ b || false
    none true = refl
    none false = refl

not_outside : (n a : ℕ) → outside n a ≡ false → 0 < a
not_outside n a e = let h = eqb-false a 0 (or_parts (eqb a 0) (ltb (min n 64) a) e).0 in pos_of a h
  where
    pos_of : (a : ℕ) → (a ≡ 0 → ⊥) → 0 < a
    pos_of zero h = absurd (h refl)
    pos_of (suc a) h = omega arith

or_assoc : (x y z : Bool) → (x || y) || z ≡ x || (y || z)
or_assoc true y z = refl
or_assoc false y z = refl

reads_joins : (n i : ℕ) (c d : Clause) (ls : List ℤ) → reads n i c ls ≡ Ok d → Joins c d ls
unfolding reads some_plus some_minus
reads_joins n i c d [] e =
    let q : c ≡ d = cc in
    record { plus = λ a z. rw q (none (at d.positive a)); minus = λ a z. rw q (none (at d.negative a)) }
  where
    none : (b : Bool) → b ≡ b || false
    none true = refl
    none false = refl
reads_joins n i c d (l ∷ ls) e = go (outside n (nat_abs l)) refl (grown c l (nat_abs l)) refl (λ x. reads_joins n (i + 1) x d ls) e
  where
    go : (b : Bool) → outside n (nat_abs l) ≡ b → (o : Option Clause) → grown c l (nat_abs l) ≡ o
        → ((x : Clause) → reads n (i + 1) x ls ≡ Ok d → Joins x d ls)
        → ◌≡◌ {A = Result Clause Told} (cond b (Err (refused 6 i)) (reads_on (λ x. reads n (i + 1) x ls) i o)) (Ok d) → Joins c d (l ∷ ls)
    go true q o p ih e = let z : ◌≡◌ {A = ℕ} 0 1 = cc in absurd (omega arith)
    go false q None p ih e = let z : ◌≡◌ {A = ℕ} 0 1 = cc in absurd (omega arith)
    go false q (Some x) p ih e =
        let j = ih x e in
        let m = one_more c x l (not_outside n (nat_abs l) q) p in
        record {
          plus = λ a z. j.plus a z ∙ ap (λ (b : Bool). b || some_plus a ls) (m a).0 ∙ or_assoc (at c.positive a) (is_plus a l) (some_plus a ls);
          minus = λ a z. j.minus a z ∙ ap (λ (b : Bool). b || some_minus a ls) (m a).1 ∙ or_assoc (at c.negative a) (is_minus a l) (some_minus a ls);
        }

pub reads_lists : (n : ℕ) (ls : List ℤ) (r : Result Clause Refusal) → answer r ≡ reads n 0 clear ls → IfOk r (λ c. Lists ls (lits c))
reads_lists n ls (Err x) e = tt
reads_lists n ls (Ok d) e =
    let j = reads_joins n 0 clear d ls (sym e) in
    record {
      plus = λ a z. j.plus a z ∙ ap (λ (b : Bool). b || some_plus a ls) (at_zero a);
      minus = λ a z. j.minus a z ∙ ap (λ (b : Bool). b || some_minus a ls) (at_zero a);
    }
