-- Literals read into a clause.
use Rattle.std.specs.Prelude.{◌≡◌, ℕ, suc, ◌+◌, ◌<◌, min, Bool, false, cond, ◌||◌, List, [], ◌∷◌, ℤ, pos, negsuc, Some, None, Ok, Err, Option, Result, ◌==◌, nat_lt, unsigned_abs, refl}
use Rattle.clause.specs.Words.{at, with_atom}
use Rattle.clause.specs.declared.words.Clause.{Clause}
use Rattle.clause.specs.Clauses.{Literals, clause_of}
use Rattle.clause.specs.Refusals.{Told, refused}

-- the empty clause
abbrev pub clear : Clause
clear = record { positive = 0; negative = 0; apart = refl }

-- a is none of the atoms 1 to n, nor above 64
abbrev pub outside : ℕ → ℕ → Bool
outside n a = a == 0 || nat_lt (min n 64) a

-- c and the literal l, of atom a, or nothing where the atom would stand in both signs
unfoldable pub grown : Clause → ℤ → ℕ → Option Clause
grown c (pos _) a = clause_of (record { pos = with_atom c.positive a; neg = c.negative })
grown c (negsuc _) a = clause_of (record { pos = c.positive; neg = with_atom c.negative a })

abbrev pub reads_on : (Clause → Result Clause Told) → ℕ → Option Clause → Result Clause Told
reads_on go i (Some c) = go c
reads_on go i None = Err (refused 7 i)

-- the clause of c and the literals ls, of which the first has the index i, or the refusal of the first faulty one
unfoldable pub reads : ℕ → ℕ → Clause → List ℤ → Result Clause Told
reads n i c [] = Ok c
reads n i c (l ∷ ls) =
    cond (outside n (unsigned_abs l)) (Err (refused 6 i)) (reads_on (λ d. reads n (i + 1) d ls) i (grown c l (unsigned_abs l)))

-- a literal is the atom a, or its negation
abbrev pub is_plus : ℕ → ℤ → Bool
is_plus a (pos n) = a == n
is_plus a (negsuc n) = false

abbrev pub is_minus : ℕ → ℤ → Bool
is_minus a (pos n) = false
is_minus a (negsuc n) = a == suc n

-- one of the literals is
unfoldable pub some_plus : ℕ → List ℤ → Bool
some_plus a [] = false
some_plus a (l ∷ ls) = is_plus a l || some_plus a ls

unfoldable pub some_minus : ℕ → List ℤ → Bool
some_minus a [] = false
some_minus a (l ∷ ls) = is_minus a l || some_minus a ls

-- c is the set of the literals ls
pub record Lists (ls : List ℤ) (c : Literals) : Type 0 where
  pub plus : (a : ℕ) → 0 < a → at c.pos a ≡ some_plus a ls
  pub minus : (a : ℕ) → 0 < a → at c.neg a ≡ some_minus a ls
