-- Sets of literals, their truth under a valuation, and their highest atom.
use Rattle.std.specs.Prelude.{◌≡◌, ℕ, zero, suc, ◌^◌, ◌<◌, Bool, true, false, cond, not, ◌&&◌, ◌||◌, T, Some, None, Option, ◌==◌, bit_and, bit_or}
use Rattle.std.proofs.Common.{eqb→eq}
use Rattle.clause.specs.declared.words.Clause.{Clause}
use Rattle.clause.specs.Words.{at, without}

-- a set of literals by the words of its positive and of its negative atoms
pub record Literals : Type 0 where
  pub pos : ℕ
  pub neg : ℕ

abbrev pub lits : Clause → Literals
lits c = record { pos = c.positive; neg = c.negative }

-- the literal of c at atom a is true where v is the word of the true atoms
abbrev pub lit : ℕ → Literals → ℕ → Bool
lit v c a = (at c.pos a && at v a) || (at c.neg a && not (at v a))

-- c has the atom a, in some sign
abbrev pub has : Literals → ℕ → Bool
has c a = at c.pos a || at c.neg a

-- a literal of c is true, looking at atoms 1 to k
unfoldable pub makes_to : ℕ → ℕ → Literals → Bool
makes_to zero v c = false
makes_to (suc k) v c = lit v c (suc k) || makes_to k v c

-- v makes c true
abbrev pub makes : ℕ → Literals → Bool
makes v c = makes_to 64 v c

-- the highest atom of c among 1 to k, 0 where it has none
unfoldable pub top_to : ℕ → Literals → ℕ
top_to zero c = zero
top_to (suc k) c = cond (has c (suc k)) (suc k) (top_to k c)

-- the highest atom of c, 0 for the empty clause
abbrev pub top : Literals → ℕ
top c = top_to 64 c

-- both words fit in 64 bits, as those of every clause in a program do
abbrev pub Words : Clause → Type 0
Words c = (c.positive < 2 ^ 64) × (c.negative < 2 ^ 64)

abbrev pub clause_if : (p n : ℕ) (b : Bool) → (T b → bit_and p n ≡ 0) → Option Clause
clause_if p n true f = Some (record { positive = p; negative = n; apart = f tt })
clause_if p n false f = None

-- the clause of two words, or nothing where they share an atom
unfoldable pub clause_of : Literals → Option Clause
clause_of c = clause_if c.pos c.neg (bit_and c.pos c.neg == 0) (eqb→eq (bit_and c.pos c.neg) 0)

-- r without the atom p joined with c without its negation
unfoldable pub joined : Literals → Literals → ℕ → Literals
joined r c p = record { pos = bit_or (without r.pos p) c.pos; neg = bit_or r.neg (without c.neg p) }

-- the resolvent of r and c at the highest atom of c, or nothing where an atom would stand in both signs
abbrev pub resolvent : Clause → Clause → Option Clause
resolvent r c = clause_of (joined (lits r) (lits c) (top (lits c)))

-- atom a stands positive, or negative, in r without p joined with c without its negation
abbrev pub positive_in : Literals → Literals → ℕ → ℕ → Bool
positive_in r c p a = (at r.pos a && not (a == p)) || at c.pos a

abbrev pub negative_in : Literals → Literals → ℕ → ℕ → Bool
negative_in r c p a = at r.neg a || (at c.neg a && not (a == p))

-- d has just those literals
pub record Resolves (r c : Literals) (p : ℕ) (d : Literals) : Type 0 where
  pub positives : (a : ℕ) → at d.pos a ≡ positive_in r c p a
  pub negatives : (a : ℕ) → at d.neg a ≡ negative_in r c p a

-- an atom would stand in both signs
abbrev pub Clashes : Literals → Literals → ℕ → Type 0
Clashes r c p = (a : ℕ) × (positive_in r c p a ≡ true) × (negative_in r c p a ≡ true)

-- the two clauses have the same literals
abbrev pub same : Clause → Clause → Bool
same c d = c.positive == d.positive && c.negative == d.negative

-- an atom stands in both words
abbrev pub Shares : ℕ → ℕ → Type 0
Shares p n = (a : ℕ) × (at p a ≡ true) × (at n a ≡ true)
