-- The numbers of a text.
use Rattle.std.specs.Prelude.{ℕ, min, Bool, true, false, cond, List, [], ◌∷◌, ℤ, pos, neg_ℤ, Some, None, Option, ◌==◌}
use Rattle.std.specs.Option.{option_map}
pub use Rattle.digits.specs.Digits.{reads}
use Rattle.dimacs.specs.Words.{minus, unsigned}

-- a number is 0, or digits without a leading zero
abbrev pub numeral : List ℕ → Option ℕ
numeral [] = None
numeral (b ∷ []) = reads 0 (b ∷ [])
numeral (b ∷ c ∷ bs) = cond (b == 48) None (reads 0 (b ∷ c ∷ bs))

-- a number that passes every range stands for all greater ones
abbrev pub capped : Option ℕ → Option ℕ
capped o = option_map (λ n. min n 16385) o

-- a number with its sign: there is no negative 0
abbrev pub with_sign : Bool → ℕ → Option ℤ
with_sign false n = Some (pos n)
with_sign true n = cond (n == 0) None (Some (neg_ℤ (pos n)))

abbrev pub signed : Bool → Option ℕ → Option ℤ
signed m None = None
signed m (Some n) = with_sign m n

-- the literal of a word that is a number, or a minus and a number above 0
abbrev pub literal : List ℕ → Option ℤ
literal w = signed (minus w) (capped (numeral (unsigned w)))
