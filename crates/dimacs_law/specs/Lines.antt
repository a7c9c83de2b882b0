-- What stands before the heading of a text, said without a way to find it.
use Rattle.std.specs.Prelude.{◌≡◌, ℕ, ◌+◌, ◌<◌, true, false, ◌⊎◌, List, [], ◌∷◌, ◌++◌, length, ◌==◌}
use Rattle.std.specs.List.{flat_map, AllByRecursion}
use Rattle.dimacs.specs.Runs.{blank, in_line, indent}
use Rattle.dimacs.specs.Words.{is_comment}
use Rattle.dimacs.specs.Preface.{preface, start}

-- a line, which 0A hex ends
abbrev pub line : List ℕ → List ℕ
line l = l ++ 10 ∷ []

-- the blanks of a line
abbrev pub Bare : List ℕ → Type 0
Bare l = AllByRecursion (λ b. indent b ≡ true) l

-- a line whose first byte is c
pub record Comment (l : List ℕ) : Type 0 where
  pub first : is_comment l ≡ true
  pub inside : AllByRecursion (λ b. in_line b ≡ true) l

-- a line that is not the heading's
abbrev pub Skipped : List ℕ → Type 0
Skipped l = Comment l ⊎ Bare l

-- a word begins here, after a gap in its line: at the line's start it does not begin with c
abbrev pub Begins : List ℕ → List ℕ → Type 0
Begins gap [] = ⊥
Begins gap (b ∷ bs) = (blank b ≡ false) × ((b == 99) ≡ true → 0 < length gap)

-- the first word of bs outside comments begins at place k
pub record Opens (bs : List ℕ) (k : ℕ) : Type 0 where
  pub lines : List (List ℕ)
  pub gap : List ℕ
  pub rest : List ℕ
  pub whole : bs ≡ flat_map line lines ++ (gap ++ rest)
  pub skipped : AllByRecursion Skipped lines
  pub bare : Bare gap
  pub begins : Begins gap rest
  pub place : k ≡ length (flat_map line lines) + length gap

-- all of bs are comments and blanks; the last line may lack its end
pub record Unopened (bs : List ℕ) : Type 0 where
  pub lines : List (List ℕ)
  pub last : List ℕ
  pub whole : bs ≡ flat_map line lines ++ last
  pub skipped : AllByRecursion Skipped lines
  pub end : Skipped last

-- every text is one or the other, and what stands before its heading is as long as that says
abbrev pub PrefaceIsLines : Type 0
PrefaceIsLines = (bs : List ℕ) →
    ((k : ℕ) → Opens bs k → preface start bs ≡ k) × (Unopened bs → preface start bs ≡ length bs) × (Opens bs (preface start bs) ⊎ Unopened bs)
