-- Words byte by byte.
use Rattle.std.proofs.Common.{◌≡◌, ℕ, zero, suc, ◌<◌, ◌≤◌, true, ◌&&◌, leb, List, [], ◌∷◌, length, get_or, arith}
use Rattle.std.proofs.lemmas.Bool.{and_parts, leb-true}
use Rattle.names.specs.Bytes.{visible, visibles, is_name}

-- every byte of w lies in the range of a digit, and none is 0
abbrev pub Digits : List ℕ → Type 0
Digits w = (k : ℕ) → k < length w → (0 < get_or w k 0) × (get_or w k 0 < 256)

pub digits : (w : List ℕ) → visibles w ≡ true → Digits w
digits [] e k l = absurd (omega arith)
digits (b ∷ bs) e zero l =
    let p = and_parts (leb 0x21 b) (leb b 0x7e) (and_parts (visible b) (visibles bs) e).0 in
    (omega (arith, leb-true 0x21 b p.0), omega (arith, leb-true b 0x7e p.1))
digits (b ∷ bs) e (suc k) l = digits bs (and_parts (visible b) (visibles bs) e).1 k (omega arith)

-- what a name is
pub record Named (w : List ℕ) : Type 0 where
  pub some : 1 ≤ length w
  pub short : length w ≤ 16
  pub digits : Digits w

pub named : (w : List ℕ) → is_name w ≡ true → Named w
named w e =
    let p = and_parts (leb 1 (length w)) (leb (length w) 16 && visibles w) e in
    let q = and_parts (leb (length w) 16) (visibles w) p.1 in
    record { some = leb-true 1 (length w) p.0; short = leb-true (length w) 16 q.0; digits = digits w q.1 }
