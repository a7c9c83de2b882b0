-- What is printed of a clause: its literals in order of atoms, with one space between each two.
use Rattle.std.specs.Prelude.{ℕ, zero, suc, cond, List, [], ◌++◌, map, ℤ, pos, neg_ℤ, Some, None, Option}
use Rattle.std.specs.List.{join_with_byte}
use Rattle.std.specs.Option.{option_to_list}
use Rattle.std.specs.Fmt.{signed_decimal}
use Rattle.clause.specs.declared.words.Clause.{Clause}
use Rattle.clause.specs.Words.{at}

-- the literal of c at atom a, if it has one
abbrev pub literal_at : Clause → ℕ → Option ℤ
literal_at c a = cond (at c.positive a) (Some (pos a)) (cond (at c.negative a) (Some (neg_ℤ (pos a))) None)

-- the literals that f gives for atoms 1 to k, in order of atoms
unfoldable pub in_order : (ℕ → List ℤ) → ℕ → List ℤ
in_order f zero = []
in_order f (suc k) = in_order f k ++ f (suc k)

-- the literals of c
abbrev pub literals_of : Clause → List ℤ
literals_of c = in_order (λ a. option_to_list (literal_at c a)) 64

-- literals with one space between each two
abbrev pub spelled : List ℤ → List ℕ
spelled ls = join_with_byte 32 (map signed_decimal ls)
