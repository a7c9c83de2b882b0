-- The order of clauses: the highest atom that two clauses treat differently decides.
use Rattle.std.specs.Prelude.{◌≡◌, ℕ, zero, suc, ◌+◌, ◌*◌, ◌^◌, ◌<◌, ◌≤◌, cond}
use Rattle.std.specs.declared.cmp.Ordering.{Ordering}
use Rattle.std.specs.Ordering.{MatchOrdering, nat_cmp, on, then_cmp}
use Rattle.clause.specs.Words.{at}
use Rattle.clause.specs.Clauses.{Literals, lits}
use Rattle.clause.specs.declared.words.Clause.{Clause}
use Rattle.clause.specs.declared.order.Treatment.{Treatment}

-- how c treats atom a: absent 0, positive 1, negative 2
abbrev pub treats : Literals → ℕ → ℕ
treats c a = cond (at c.pos a) 1 (cond (at c.neg a) 2 0)

-- the same of the answer of the code
abbrev pub treated : Treatment → ℕ
treated Treatment.Absent = 0
treated Treatment.Positive = 1
treated Treatment.Negative = 2

-- the number of c in base 4, with one digit for each of the atoms 1 to k
unfoldable pub rank_to : ℕ → Literals → ℕ
rank_to zero c = 0
rank_to (suc k) c = treats c (suc k) * 4 ^ k + rank_to k c

-- where c stands in the order of clauses
abbrev pub rank : Literals → ℕ
rank c = rank_to 64 c

-- c comes before d: at some atom p it has the lower treatment, and they treat all atoms above p alike
pub record Before (c d : Literals) : Type 0 where
  pub atom : ℕ
  pub within : atom ≤ 64
  pub lower : treats c atom < treats d atom
  pub alike : (a : ℕ) → a ≤ 64 → atom < a → treats c a ≡ treats d a

-- they treat every atom alike
abbrev pub Alike : Literals → Literals → Type 0
Alike c d = (a : ℕ) → a ≤ 64 → treats c a ≡ treats d a

-- the answer of a comparison, by atoms
abbrev pub Decided : Literals → Literals → Ordering → Type 0
Decided c d o = MatchOrdering o (Before c d) (Alike c d) (Before d c)

-- the same answer, by the numbers of the clauses
abbrev pub Compares : ℕ → ℕ → Ordering → Type 0
Compares m n o = MatchOrdering o (m < n) (m ≡ n) (n < m)

-- the comparison as one function of two clauses: by their numbers; the words decide only between numbers of more than 64 bits, which no program has
abbrev pub clause_cmp : Clause → Clause → Ordering
clause_cmp = then_cmp (on (λ c. rank (lits c)) nat_cmp) (then_cmp (on (λ c. c.positive) nat_cmp) (on (λ c. c.negative) nat_cmp))
