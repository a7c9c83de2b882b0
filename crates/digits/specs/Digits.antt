-- Numbers as decimal digits write them.
use Rattle.std.specs.Prelude.{ℕ, ◌+◌, ◌-◌, ◌*◌, min, cond, List, [], ◌∷◌, Some, None, Option}
use Rattle.std.specs.Char.{is_ascii_digit}
use Rattle.std.specs.Option.{option_map}

-- the number that digits write after n, or nothing where a byte is no digit
abbrev pub reads : ℕ → List ℕ → Option ℕ
reads n [] = Some n
reads n (b ∷ bs) = cond (is_ascii_digit b) (reads (n * 10 + (b - 48)) bs) None

-- a number above the bound is read as the bound
abbrev pub at_most : ℕ → Option ℕ → Option ℕ
at_most m o = option_map (λ n. min n m) o
