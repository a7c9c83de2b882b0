-- The tests on words that decide the rule.
use Rattle.std.specs.Prelude.{ℕ, Bool, false, cond, not, ◌&&◌, ◌||◌, List, Some, None, Option, ◌==◌, bit_and, bit_or, bit_xor, count_ones, nat_le, nat_lt}
use Rattle.clause.specs.declared.words.Clause.{Clause}
use Rattle.clause.specs.Clauses.{Literals, lits, clause_of, top}
use Rattle.lines.specs.declared.line.Line.{Line}
use Rattle.lines.specs.Format.{literals, line_at, line_number}

-- both numbers are 0
abbrev pub is_bare : Line → Bool
is_bare l = l.first == 0 && l.second == 0

-- j is the number of a line before line k
abbrev pub is_earlier : ℕ → ℕ → Bool
is_earlier j k = nat_le 1 j && nat_lt j k

-- l is r and c joined, without the atoms of m
abbrev pub is_joined : ℕ → Literals → Literals → Literals → Bool
is_joined m r c l = l.pos == bit_xor (bit_or r.pos c.pos) m && l.neg == bit_xor (bit_or r.neg c.neg) m

-- just one atom cancels between r and c, and l is the two joined without it
abbrev pub resolves : Literals → Literals → Literals → Bool
resolves r c l = cond (count_ones (bit_and r.pos c.neg) == 1) (is_joined (bit_and r.pos c.neg) r c l) false

-- both numbers name earlier lines
abbrev pub are_earlier : Line → ℕ → Bool
are_earlier l k = is_earlier l.first k && is_earlier l.second k

-- l is derived, as line k
abbrev pub is_derived : List ℕ → ℕ → Line → Bool
is_derived bs k l =
    cond (are_earlier l k) (resolves (literals (line_at bs l.first)) (literals (line_at bs l.second)) (literals l)) false

abbrev pub within_of : ℕ → Option Clause → Option Clause
within_of n (Some c) = cond (nat_lt n (top (lits c))) None (Some c)
within_of n None = None

-- the clause of a line, or nothing where an atom stands in both signs or is above n
abbrev pub clause_within : ℕ → Line → Option Clause
clause_within n l = within_of n (clause_of (literals l))

-- l is given, where b says whether it is empty, or derived, as line k
abbrev pub stands_as : List ℕ → ℕ → Line → Bool → Bool
stands_as bs k l b = (is_bare l && not b) || is_derived bs k l

abbrev pub alike : Bool → Bool → Bool
alike x y = cond x y (not y)

-- l passes as line k, by its clause: it is empty just if it is the last, and given or derived
abbrev pub passes_as : List ℕ → ℕ → ℕ → Line → Option Clause → Bool
passes_as bs last k l (Some c) = cond (alike (top (lits c) == 0) (k == last)) (stands_as bs k l (top (lits c) == 0)) false
passes_as bs last k l None = false

abbrev pub passes_of : List ℕ → ℕ → ℕ → ℕ → Option Line → Bool
passes_of bs n last k (Some l) = passes_as bs last k l (clause_within n l)
passes_of bs n last k None = false

-- line k passes every test
abbrev pub passes : List ℕ → ℕ → ℕ → ℕ → Bool
passes bs n last k = passes_of bs n last k (line_number bs k)
