-- Lines and trailer of a trace, read from bytes and written as bytes.
use Rattle.std.specs.Prelude.{◌≡◌, ℕ, ◌+◌, ◌-◌, ◌*◌, ◌≤◌, Bool, cond, ◌&&◌, List, [], ◌∷◌, ◌++◌, length, take, drop, Some, None, Ok, Err, Option, Result, nat_le}
use Rattle.clause.specs.Clauses.{Literals}
use Rattle.clause.specs.Refusals.{Told, refused}
use Rattle.lines.specs.declared.line.Line.{Line}
use Rattle.lines.specs.declared.line.Trailer.{Trailer}
use Rattle.lines.specs.Bytes.{number_at, bytes_of, wrote}

-- the literals of a line
abbrev pub literals : Line → Literals
literals l = record { pos = l.positive; neg = l.negative }

-- the line whose bytes begin at place o
unfoldable pub line_from : List ℕ → ℕ → Line
line_from bs o = record {
  positive = number_at bs o 8;
  negative = number_at bs (o + 8) 8;
  first = number_at bs (o + 16) 4;
  second = number_at bs (o + 20) 4;
}

-- the line that 24 bytes write
unfoldable pub line_of : List ℕ → Line
line_of bs = line_from bs 0

-- line k, from 1
unfoldable pub line_at : List ℕ → ℕ → Line
line_at bs k = line_from bs (24 * (k - 1))

-- the bytes reach to the end of line k; there is no line 0
abbrev pub reaches : List ℕ → ℕ → Bool
reaches bs k = nat_le 1 k && nat_le (24 * k) (length bs)

-- line k, or nothing where the bytes do not reach so far
abbrev pub line_number : List ℕ → ℕ → Option Line
line_number bs k = cond (reaches bs k) (Some (line_at bs k)) None

-- the 24 bytes that write a line
unfoldable pub line_bytes : Line → List ℕ
line_bytes l = bytes_of 8 l.positive ++ bytes_of 8 l.negative ++ bytes_of 4 l.first ++ bytes_of 4 l.second

-- bs with line k written, or as they were where they do not reach so far
abbrev pub with_line : List ℕ → ℕ → Line → List ℕ
with_line bs k l = cond (reaches bs k) (wrote bs (24 * (k - 1)) (line_bytes l)) bs

-- the bytes that every trailer begins with
abbrev pub mark : List ℕ
mark = 0x42 ∷ 0x41 ∷ 0x43 ∷ 0x4B ∷ []

-- the numbers of a trailer in its 24 bytes
unfoldable pub trailer_of : List ℕ → Trailer
trailer_of bs = record {
  atoms = number_at bs 4 4;
  distance = number_at bs 8 4;
  last = number_at bs 12 4;
  given = number_at bs 16 4;
}

-- the last 24 bytes
abbrev pub tail : List ℕ → List ℕ
tail bs = drop (length bs - 24) bs

-- the last 24 bytes are the trailer t: the mark, its numbers, and 0
pub record Ends (bs : List ℕ) (t : Trailer) : Type 0 where
  pub long : 24 ≤ length bs
  pub marked : take 4 (tail bs) ≡ mark
  pub numbers : trailer_of (tail bs) ≡ t
  pub closed : number_at (tail bs) 20 4 ≡ 0

-- the 24 bytes that write a trailer
unfoldable pub trailer_bytes : Trailer → List ℕ
trailer_bytes t = mark ++ bytes_of 4 t.atoms ++ bytes_of 4 t.distance ++ bytes_of 4 t.last ++ bytes_of 4 t.given ++ bytes_of 4 0

-- bs have place for a trailer d bytes behind their start
abbrev pub has_room : List ℕ → ℕ → Bool
has_room bs d = nat_le (d + 24) (length bs)

-- bs with the trailer written as far behind line 1 as it says, or as they were where it finds no room there
abbrev pub with_trailer : List ℕ → Trailer → List ℕ
with_trailer bs t = cond (has_room bs t.distance) (wrote bs t.distance (trailer_bytes t)) bs

-- the answer of a write: refused with 12 where the bytes are too few
abbrev pub fitted : Bool → Result (Unit {0}) Told
fitted b = cond b (Ok tt) (Err (refused 12 0))
