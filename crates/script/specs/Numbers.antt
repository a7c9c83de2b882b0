-- Numbers and literals as words of a script write them.
use Rattle.std.specs.Prelude.{ℕ, ◌-◌, ◌^◌, min, Bool, true, false, cond, List, [], ◌∷◌, length, ℤ, pos, neg_ℤ, None, Option, ◌==◌}
use Rattle.std.specs.Option.{option_map}
pub use Rattle.digits.specs.Digits.{reads}

-- what lies beyond the range is read as the largest
abbrev pub capped : Option ℕ → Option ℕ
capped o = option_map (λ n. min n (2 ^ 32 - 1)) o

-- digits, none or more, as a number of 32 bits
unfoldable pub digits : List ℕ → Option ℕ
digits w = capped (reads 0 w)

-- a number has one digit at least
abbrev pub number : List ℕ → Option ℕ
number w = cond (length w == 0) None (digits w)

-- the literal of that sign and atom, within 32 bits with a sign
abbrev pub signed : Bool → ℕ → ℤ
signed true a = neg_ℤ (pos (min a (2 ^ 31)))
signed false a = pos (min a (2 ^ 31 - 1))

-- a number that may have one minus before it
unfoldable pub literal : List ℕ → Option ℤ
literal [] = None
literal (b ∷ bs) = cond (b == 45) (option_map (signed true) (number bs)) (option_map (signed false) (number (b ∷ bs)))
