-- Numbers in bytes, most significant byte first.
use Rattle.std.specs.Prelude.{ℕ, zero, suc, ◌+◌, ◌*◌, ◌/◌, ◌%◌, ◌^◌, List, [], ◌∷◌, ◌++◌, length, take, drop, slice_index}

-- the number that the k bytes from place i on write
unfoldable pub number_at : List ℕ → ℕ → ℕ → ℕ
number_at bs i zero = 0
number_at bs i (suc k) = number_at bs i k * 256 + slice_index bs (i + k)

-- the k bytes that write n
unfoldable pub bytes_of : ℕ → ℕ → List ℕ
bytes_of zero n = []
bytes_of (suc k) n = (n / 256 ^ k % 256) ∷ bytes_of k n

-- bs with the bytes from place i on replaced by new; those before and beyond stay
unfoldable pub wrote : List ℕ → ℕ → List ℕ → List ℕ
wrote bs i new = take i bs ++ (new ++ drop (i + length new) bs)
