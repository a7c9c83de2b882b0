-- Kinds of bytes.
use Rattle.std.specs.Prelude.{ℕ, Bool, not, ◌||◌, ◌==◌}

-- the bytes 20, 09 and 0A hex separate words
abbrev pub blank : ℕ → Bool
blank b = b == 32 || (b == 9 || b == 10)

abbrev pub in_word : ℕ → Bool
in_word b = not (blank b)

abbrev pub in_line : ℕ → Bool
in_line b = not (b == 10)

abbrev pub indent : ℕ → Bool
indent b = b == 32 || b == 9
