-- What a check knows of its trace, and what its calls answer.
use Rattle.std.specs.Prelude.{◌≡◌, ℕ, ◌+◌, ◌-◌, ◌<◌, ◌≤◌, Bool, false, cond, ◌⊎◌, List, Some, None, Ok, Err, Option, Result, nat_lt}
use Rattle.clause.specs.Refusals.{Told, refused}
use Rattle.rule.specs.Rule.{Right}
use Rattle.trace_check.specs.declared.fault.Fault.{Fault}
use Rattle.trace_check.specs.declared.fault.Fault.TheVariants.{Trailer, Line}
use Rattle.trace_check.specs.Trailers.{Ended}

-- each of the lines 1 to t is right
unfoldable pub Upto : List ℕ → ℕ → ℕ → ℕ → Type 0
Upto bs n last t = (k : ℕ) → 1 ≤ k → k ≤ t → Right bs n last k

-- the trailer is wrong
abbrev pub Unended : List ℕ → Type 0
Unended bs = (n last : ℕ) → Ended bs n last → ⊥

-- the trace is sound: its trailer agrees, every line keeps the rule, and the last alone is empty
pub record Sound (bs : List ℕ) : Type 0 where
  pub n : ℕ
  pub last : ℕ
  pub ended : Ended bs n last
  pub lines : Upto bs n last last

-- the trailer is right, and line k is the first that is wrong
pub record FirstWrong (bs : List ℕ) (k : ℕ) : Type 0 where
  pub n : ℕ
  pub last : ℕ
  pub ended : Ended bs n last
  pub low : 1 ≤ k
  pub high : k ≤ last
  pub before : Upto bs n last (k - 1)
  pub wrong : Right bs n last k → ⊥

-- the trailer is right, and so are the first t lines, which are not all
pub record Partial (bs : List ℕ) (t : ℕ) : Type 0 where
  pub n : ℕ
  pub last : ℕ
  pub ended : Ended bs n last
  pub fewer : t < last
  pub lines : Upto bs n last t

-- what a check that took t lines knows of its trace
abbrev pub Stands : List ℕ → ℕ → ℕ → ℕ → Option Fault → Type 0
Stands bs n last t None = Ended bs n last × Upto bs n last t
Stands bs n last t (Some Trailer) = Unended bs
Stands bs n last t (Some Line) = (t < last) × Ended bs n last × Upto bs n last t × (Right bs n last (t + 1) → ⊥)

-- how the fault of a check that took t lines is refused
abbrev pub fault_told : ℕ → Fault → Told
fault_told t Trailer = refused 15 0
fault_told t Line = refused 16 (t + 1)

-- a new check: no line taken, and a fault just if the trailer is wrong
abbrev pub Opened : List ℕ → ℕ → ℕ → ℕ → Option Fault → Type 0
Opened bs n last t None = (t ≡ 0) × Ended bs n last
Opened bs n last t (Some Trailer) = (t ≡ 0) × (n ≡ 0) × (last ≡ 0) × Unended bs
Opened bs n last t (Some Line) = ⊥

-- there is a line to take
abbrev pub waiting : ℕ → ℕ → Option Fault → Bool
waiting last t (Some f) = false
waiting last t None = nat_lt t last

-- one take: the lines taken and the fault before, those after, and the answer
abbrev pub Took : List ℕ → ℕ → ℕ → ℕ → Option Fault → ℕ → Option Fault → Result ℕ Told → Type 0
Took bs n last t (Some f) t' f' r = (t' ≡ t) × (f' ≡ Some f) × (r ≡ Err (fault_told t f))
Took bs n last t None t' f' r =
    (last ≤ t → (t' ≡ t) × (f' ≡ None) × (r ≡ Ok t))
    × (t < last → Right bs n last (t + 1) → (t' ≡ t + 1) × (f' ≡ None) × (r ≡ Ok (t + 1)))
    × (t < last → (Right bs n last (t + 1) → ⊥) → (t' ≡ t) × (f' ≡ Some Line) × (r ≡ Err (refused 16 (t + 1))))

-- the answer of a closed check: its fault, or 17 where it was closed before its last line, or sound
abbrev pub judgement : ℕ → ℕ → Option Fault → Result (Unit {0}) Told
judgement last t (Some f) = Err (fault_told t f)
judgement last t None = cond (nat_lt t last) (Err (refused 17 t)) (Ok tt)

-- what the answer of a check that took t lines says of its trace
abbrev pub Means : List ℕ → ℕ → Result (Unit {0}) Told → Type 0
Means bs t (Ok u) = (s : Sound bs) × (t ≡ s.last)
Means bs t (Err e) = ((e ≡ refused 15 0) × Unended bs) ⊎ (((e ≡ refused 16 (t + 1)) × FirstWrong bs (t + 1)) ⊎ ((e ≡ refused 17 t) × Partial bs t))

-- the outcome of a trace that is taken whole: sound, a wrong trailer, or the first wrong line
abbrev pub Outcome : List ℕ → Result (Unit {0}) Told → Type 0
Outcome bs (Ok u) = Sound bs
Outcome bs (Err e) = ((e ≡ refused 15 0) × Unended bs) ⊎ ((k : ℕ) × (e ≡ refused 16 k) × FirstWrong bs k)
