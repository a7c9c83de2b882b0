-- Laws of the bytes of numbers: a part of a slice, and one write after another.
use Rattle.std.specs.Prelude.{IfSome, MatchOption, is_some}
use Rattle.std.proofs.Common.{Bool, true, false, cond, Some, None, Option, ◌≡◌, ℕ, zero, suc, ◌+◌, ◌-◌, ◌*◌, ◌/◌, ◌%◌, ◌<◌, ◌≤◌, List, [], ◌∷◌, ◌++◌, length, get_or, take, drop, sym, refl, ap, ◌∙◌, ap₂, add-zero, add_assoc, div-one, arith, rules}
use Rattle.std.proofs.lemmas.List.{get_or-take, get_or-drop, drop-drop}
use borrow.Rule.Slice.PartMut.{put_mid}
use Rattle.lines.specs.Bytes.{number_at, bytes_of, wrote}
use Rattle.lines.specs.declared.line.Line.{Line}
use Rattle.lines.specs.declared.line.Trailer.{Trailer}
use Rattle.lines.specs.Format.{line_of, line_from, line_at, line_bytes, mark, trailer_bytes}
use Rattle.std.specs.Int.{w32, w64, from_be_bytes}

-- A number that lies inside a part is the one that lies there in the whole.
pub number_at_part : (bs : List ℕ) (o m i k : ℕ) → i + k ≤ m → number_at (take m (drop o bs)) i k ≡ number_at bs (o + i) k
unfolding number_at
number_at_part bs o m i zero h = refl
number_at_part bs o m i (suc k) h =
    let l : i + k < m = omega arith in
    let r : i + k ≤ m = omega arith in
    ap₂ (λ (x y : ℕ). x * 256 + y) (number_at_part bs o m i k r)
    (get_or-take m (drop o bs) (i + k) 0 l ∙ get_or-drop o bs (i + k) 0 ∙ ap (λ (x : ℕ). get_or bs x 0) (sym (add_assoc o i k)))

-- what a write of bytes into a part leaves, and what the library's `to_be_bytes` answers
pub put_mid_wrote : (bs : List ℕ) (o k : ℕ) (x : List ℕ) → length x ≡ k → put_mid o ((o + k) - o) bs x ≡ wrote bs o x
unfolding wrote
put_mid_wrote bs o k x e =
    let n : (o + k) - o ≡ length x = omega arith in
    ap (λ (z : List ℕ). take o bs ++ (x ++ z)) (ap (λ (m : ℕ). drop m (drop o bs)) n ∙ drop-drop (length x) o bs)

pub eight : (w : ℕ) → bytes_of 8 w ≡ (w / 72057594037927936 % 256) ∷ (w / 281474976710656 % 256) ∷ (w / 1099511627776 % 256) ∷ (w / 4294967296 % 256) ∷ (w / 16777216 % 256) ∷ (w / 65536 % 256) ∷ (w / 256 % 256) ∷ (w % 256) ∷ []
unfolding bytes_of
eight w = rw div-one

pub four : (w : ℕ) → bytes_of 4 w ≡ (w / 16777216 % 256) ∷ (w / 65536 % 256) ∷ (w / 256 % 256) ∷ (w % 256) ∷ []
unfolding bytes_of
four w = rw div-one

pub length_bytes_of : (k w : ℕ) → length (bytes_of k w) ≡ k
unfolding bytes_of
length_bytes_of zero w = refl
length_bytes_of (suc k) w = ap suc (length_bytes_of k w)

-- The line in a part of 24 bytes is the one that begins there in the whole.
pub line_part : (bs : List ℕ) (k : ℕ) → 1 ≤ k → line_of (take (24 * k - 24 * (k - 1)) (drop (24 * (k - 1)) bs)) ≡ line_at bs k
unfolding line_of line_from line_at
line_part bs k h =
    let o : ℕ = 24 * (k - 1) in
    let m : ℕ = 24 * k - 24 * (k - 1) in
    let e : m ≡ 24 = omega arith in
    let part : (i j : ℕ) → i + j ≤ 24 → number_at (take m (drop o bs)) i j ≡ number_at bs (o + i) j =
    λ i j l. number_at_part bs o m i j (omega arith) in
    let z : o + 0 ≡ o = add-zero o in
    λ i. record {
      positive = (part 0 8 (omega arith) ∙ ap (λ (x : ℕ). number_at bs x 8) z) i;
      negative = part 8 8 (omega arith) i;
      first = part 16 4 (omega arith) i;
      second = part 20 4 (omega arith) i;
    }

-- what the library's `from_be_bytes` makes of a part
eight_read : (xs : List ℕ) → from_be_bytes w64 xs ≡ number_at xs 0 8
unfolding number_at
eight_read xs = search rules

four_read : (xs : List ℕ) → from_be_bytes w32 xs ≡ number_at xs 0 4
unfolding number_at
four_read xs = search rules

pub word_read : (bs : List ℕ) (o : ℕ) {xs : List ℕ} {n : ℕ} → xs ≡ take 8 (drop o bs) → n ≡ from_be_bytes w64 xs → n ≡ number_at bs o 8
word_read bs o {xs} e f =
    f ∙ eight_read xs ∙ ap (λ (ys : List ℕ). number_at ys 0 8) e ∙ number_at_part bs o 8 0 8 (omega arith) ∙ ap (λ (n : ℕ). number_at bs n 8) (add-zero o)

pub half_read : (bs : List ℕ) (o : ℕ) {xs : List ℕ} {n : ℕ} → xs ≡ take 4 (drop o bs) → n ≡ from_be_bytes w32 xs → n ≡ number_at bs o 4
half_read bs o {xs} e f =
    f ∙ four_read xs ∙ ap (λ (ys : List ℕ). number_at ys 0 4) e ∙ number_at_part bs o 4 0 4 (omega arith) ∙ ap (λ (n : ℕ). number_at bs n 4) (add-zero o)

-- 24 bytes, written over one part after another
abbrev pub blank : List ℕ
blank = 0 ∷ 0 ∷ 0 ∷ 0 ∷ 0 ∷ 0 ∷ 0 ∷ 0 ∷ 0 ∷ 0 ∷ 0 ∷ 0 ∷ 0 ∷ 0 ∷ 0 ∷ 0 ∷ 0 ∷ 0 ∷ 0 ∷ 0 ∷ 0 ∷ 0 ∷ 0 ∷ 0 ∷ []

-- a write after others
pub over : (o : ℕ) {b c d x y : List ℕ} → c ≡ d → x ≡ y → b ≡ wrote c o x → b ≡ wrote d o y
over o e f g = g ∙ ap₂ (λ (s t : List ℕ). wrote s o t) e f

pub line_written : (l : Line) → wrote (wrote (wrote (wrote blank 0 (bytes_of 8 l.positive)) 8 (bytes_of 8 l.negative)) 16 (bytes_of 4 l.first)) 20 (bytes_of 4 l.second) ≡ line_bytes l
unfolding wrote bytes_of line_bytes
line_written l = refl

pub trailer_written : (t : Trailer) → wrote (wrote (wrote (wrote (wrote blank 0 mark) 4 (bytes_of 4 t.atoms)) 8 (bytes_of 4 t.distance)) 12 (bytes_of 4 t.last)) 16 (bytes_of 4 t.given) ≡ trailer_bytes t
unfolding wrote bytes_of trailer_bytes
trailer_written t = refl

-- an option that is something just where b holds, and then x
pub some_where : {A : Type 0} (r : Option A) (b : Bool) (P : A → Type 0) (x : A) → is_some r ≡ b → IfSome r P → (b ≡ true → (y : A) → P y → y ≡ x)
    → r ≡ cond b (Some x) None
some_where {A} (Some y) b P x e p h = ap Some (h (sym e) y p) ∙ ap (λ (t : Bool). cond t (Some x) None) e
some_where {A} None b P x e p h = ap (λ (t : Bool). cond t (Some x) None) e

-- an option that is something just where b holds, by both cases
pub match_where : {A : Type 0} (r : Option A) (b : Bool) (P Q : A → Type 0) {N : Type 0} → is_some r ≡ b → IfSome r P → (b ≡ false → N) → (b ≡ true → (y : A) → P y → Q y)
    → MatchOption r N Q
match_where (Some y) b P Q e p f t = t (sym e) y p
match_where None b P Q e p f t = f (sym e)
