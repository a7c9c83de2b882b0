-- When the trailer of a trace is right.
use Rattle.std.specs.Prelude.{◌≡◌, ℕ, zero, suc, ◌+◌, ◌-◌, ◌/◌, ◌%◌, ◌≤◌, Bool, cond, ◌&&◌, List, length, ◌==◌, nat_le}
use Rattle.lines.specs.declared.line.Trailer.{Trailer}
use Rattle.lines.specs.Format.{line_at, Ends}
use Rattle.rule.specs.Tests.{is_bare}

-- how many of the lines 1 to k have both numbers 0
unfoldable pub givens : List ℕ → ℕ → ℕ
givens bs zero = 0
givens bs (suc k) = givens bs k + cond (is_bare (line_at bs (suc k))) 1 0

-- the trailer is right, over the atoms 1 to n and for so many lines: the length, the numbers, the mark and the 0 agree
pub record Ended (bs : List ℕ) (n last : ℕ) : Type 0 where
  pub long : 48 ≤ length bs
  pub short : length bs ≤ 393264
  pub whole : length bs % 24 ≡ 0
  pub some : 1 ≤ n
  pub few : n ≤ 64
  pub count : last ≡ (length bs - 24) / 24
  pub trailer : Ends bs (record { atoms = n; distance = length bs - 24; last = last; given = givens bs last })

-- the tests of the length, of the atoms, and of the other numbers
abbrev pub sized : ℕ → Bool
sized m = nat_le 48 m && nat_le m 393264 && m % 24 == 0

abbrev pub counted : ℕ → Bool
counted n = nat_le 1 n && nat_le n 64

abbrev pub agrees : Trailer → ℕ → ℕ → Bool
agrees t d g = t.distance == d && t.last == d / 24 && t.given == g
