-- A clause that literals are put into one after the other has only atoms of the session.
use Rattle.std.proofs.Common.{◌≡◌, ℕ, ◌+◌, ◌^◌, ◌<◌, ◌≤◌, min, Bool, true, false, cond, eqb, ltb, List, [], ◌∷◌, ℤ, pos, negsuc, nat_abs, Some, None, Ok, Err, Option, Result, sym, refl, ◌∙◌, subst, ⊎_elim, arith, lit<}
use Rattle.std.proofs.lemmas.Bool.{or_parts, or_cases, eqb-true, eqb-false, ltb-false, both_ways}
use Rattle.clause.specs.declared.words.Clause.{Clause}
use Rattle.clause.specs.Words.{at, with_atom}
use Rattle.clause.specs.Clauses.{Literals, lits, top}
use Rattle.clause.specs.Reading.{reads, reads_on, outside, grown, clear}
use Rattle.clause.specs.Refusals.{Told, refused}
use Rattle.clause.proofs.Bits.{at_with, at_zero, with_fits}
use Rattle.clause.proofs.Truths.{clause_words, top_has}
use Rattle.search_law.specs.Law.{Ordinary}

-- a word of 64 bits without atoms above n
pub record Fits (n w : ℕ) : Type 0 where
  pub word : w < 2 ^ 64
  pub atoms : (a : ℕ) → at w a ≡ true → a ≤ n

abbrev pub Both : ℕ → Literals → Type 0
Both n c = Fits n c.pos × Fits n c.neg

with_in : (n w a : ℕ) → outside n a ≡ false → Fits n w → Fits n (with_atom w a)
with_in n w a o f =
    let q = or_parts (eqb a 0) (ltb (min n 64) a) o in
    let l = ltb-false (min n 64) a q.1 in
    let n0 = eqb-false a 0 q.0 in
    let z : 0 < a = omega arith in
    record {
      word = with_fits w a (omega arith) f.word;
      atoms = λ b t. ⊎_elim (λ y. f.atoms b y) (λ y. let e = eqb-true b a y in omega arith) (or_cases (at w b) (eqb b a) (sym (at_with w a b z) ∙ t));
    }

pub grown_in : (n : ℕ) (c d : Clause) (l : ℤ) (a : ℕ) → outside n a ≡ false → grown c l a ≡ Some d → Both n (lits c) → Both n (lits d)
unfolding grown
grown_in n c d (pos k) a o e f =
    let w = clause_words (record { pos = with_atom c.positive a; neg = c.negative }) d e in
    subst (Both n) (sym w) (with_in n c.positive a o f.0, f.1)
grown_in n c d (negsuc k) a o e f =
    let w = clause_words (record { pos = c.positive; neg = with_atom c.negative a }) d e in
    subst (Both n) (sym w) (f.0, with_in n c.negative a o f.1)

reads_in : (n i : ℕ) (c d : Clause) (ls : List ℤ) → reads n i c ls ≡ Ok d → Both n (lits c) → Both n (lits d)
unfolding reads
reads_in n i c d [] e f = let q : c ≡ d = cc in subst (λ (x : Clause). Both n (lits x)) q f
reads_in n i c d (l ∷ ls) e f = go (outside n (nat_abs l)) refl (grown c l (nat_abs l)) refl (λ x. reads_in n (i + 1) x d ls) e
  where
    go : (b : Bool) → outside n (nat_abs l) ≡ b → (o : Option Clause) → grown c l (nat_abs l) ≡ o
        → ((x : Clause) → reads n (i + 1) x ls ≡ Ok d → Both n (lits x) → Both n (lits d))
        → ◌≡◌ {A = Result Clause Told} (cond b (Err (refused 6 i)) (reads_on (λ x. reads n (i + 1) x ls) i o)) (Ok d) → Both n (lits d)
    go true q o p ih e = let z : ◌≡◌ {A = ℕ} 0 1 = cc in absurd (omega arith)
    go false q None p ih e = let z : ◌≡◌ {A = ℕ} 0 1 = cc in absurd (omega arith)
    go false q (Some x) p ih e = ih x e (grown_in n c x l (nat_abs l) q p f)

pub nothing_in : (n : ℕ) → Both n (lits clear)
nothing_in n = (none, none)
  where
    none : Fits n 0
    none = record { word = lit< tt; atoms = λ a t. absurd (both_ways _ (at_zero a) t) }

-- a clause with atoms up to m is one of a session with at least so many
pub ordinary_from : (m n : ℕ) (c : Clause) → m ≤ n → Both m (lits c) → 0 < top (lits c) → Ordinary n (lits c)
ordinary_from m n c l f z =
    let x : top (lits c) ≤ m = ⊎_elim (f.0.atoms (top (lits c))) (f.1.atoms (top (lits c))) (or_cases (at c.positive (top (lits c))) (at c.negative (top (lits c))) (top_has 64 (lits c) z)) in
    record { some = z; within = omega arith; pos_fits = f.0.word; neg_fits = f.1.word }

pub reads_ordinary : (n : ℕ) (c : Clause) (ls : List ℤ) → reads n 0 clear ls ≡ Ok c → 0 < top (lits c) → Ordinary n (lits c)
reads_ordinary n c ls e z = ordinary_from n n c (omega arith) (reads_in n 0 clear c ls e (nothing_in n)) z
