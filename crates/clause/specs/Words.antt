-- Sets of atoms as words: atom a, from 1, is worth 2 ^ (a - 1).
use Rattle.std.specs.Prelude.{ℕ, zero, suc, ◌/◌, ◌%◌, ◌^◌, Bool, false, ◌==◌, bit_and, bit_or, bit_xor}

-- atom a stands in the word w
unfoldable pub at : ℕ → ℕ → Bool
at w zero = false
at w (suc k) = w / 2 ^ k % 2 == 1

-- the word of the one atom a
unfoldable pub one : ℕ → ℕ
one zero = 0
one (suc k) = 2 ^ k

-- w with the atom a
unfoldable pub with_atom : ℕ → ℕ → ℕ
with_atom w a = bit_or w (one a)

-- w without the atom a
unfoldable pub without : ℕ → ℕ → ℕ
without w a = bit_xor w (bit_and w (one a))

-- the atoms of w from 1 to a
unfoldable pub upto : ℕ → ℕ → ℕ
upto w a = w % 2 ^ a
