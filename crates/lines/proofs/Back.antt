-- What is read where a number or a line was written, and elsewhere.
use Rattle.std.proofs.Common.{◌≡◌, ℕ, zero, suc, ◌+◌, ◌-◌, ◌*◌, ◌/◌, ◌%◌, ◌^◌, ◌<◌, ◌≤◌, List, [], ◌∷◌, ◌++◌, length, get_or, take, drop, sym, refl, ap, ◌∙◌, subst, ap₂, append_assoc, add-zero, add_assoc, mod-eq_of_lt, mul_assoc, mul_comm, add-mul, pow-suc, zero-add, arith, length-append}
use native.Mathlib.Nat.{mod-one}
use lib.Arith.{mod-mul}
use Rattle.std.proofs.lemmas.List.{get_or-take, get_or-drop, get_or_append_left, get_or-append_right, length-take-le, append-nil, take_at, drop_at}
use Rattle.lines.specs.Bytes.{number_at, bytes_of, wrote}
use Rattle.lines.specs.declared.line.Trailer.{Trailer}
use Rattle.lines.specs.Format.{line_from, line_at, line_bytes, mark, tail, trailer_of, trailer_bytes, Ends}
use Rattle.lines.specs.declared.line.Line.{Line}
use Rattle.lines.proofs.Parts.{length_bytes_of}

-- a number is that of its bytes
pub number_at_same : (cs bs : List ℕ) (i j k : ℕ) → ((m : ℕ) → m < k → get_or cs (i + m) 0 ≡ get_or bs (j + m) 0) → number_at cs i k ≡ number_at bs j k
unfolding number_at
number_at_same cs bs i j zero h = refl
number_at_same cs bs i j (suc k) h =
    ap₂ (λ (x y : ℕ). x * 256 + y) (number_at_same cs bs i j k (λ m l. h m (omega arith))) (h k (omega arith))

number_at_cons : (x : ℕ) (xs : List ℕ) (k : ℕ) → number_at (x ∷ xs) 0 (suc k) ≡ x * 256 ^ k + number_at xs 0 k
unfolding number_at
number_at_cons x xs zero = omega arith
number_at_cons x xs (suc k) =
    ap₂ (λ (a b : ℕ). a * 256 + b) (number_at_cons x xs k) (ap (λ (m : ℕ). get_or (x ∷ xs) m 0) (zero-add (suc k)) ∙ ap (λ (m : ℕ). get_or xs m 0) (sym (zero-add k)))
    ∙ omega (arith, add-mul (x * 256 ^ k) (number_at xs 0 k) 256, mul_assoc x (256 ^ k) 256, ap (λ (m : ℕ). x * m) (pow-suc 256 k))

pow_pos : (k : ℕ) → 0 < 256 ^ k
pow_pos zero = omega arith
pow_pos (suc k) = omega (arith, pow-suc 256 k, pow_pos k)

low_bytes : (k w : ℕ) → number_at (bytes_of k w) 0 k ≡ w % 256 ^ k
unfolding number_at bytes_of
low_bytes zero w = sym (mod-one w)
low_bytes (suc k) w =
    number_at_cons (w / 256 ^ k % 256) (bytes_of k w) k ∙ ap (λ (m : ℕ). w / 256 ^ k % 256 * 256 ^ k + m) (low_bytes k w)
    ∙ sym (mod-mul w {m = 256} {c = 256 ^ k} (omega arith) (pow_pos k)) ∙ ap (λ (m : ℕ). w % m) (mul_comm 256 (256 ^ k) ∙ sym (pow-suc 256 k))

-- the bytes that write w write it
pub word_of_bytes : (k w : ℕ) → w < 256 ^ k → number_at (bytes_of k w) 0 k ≡ w
word_of_bytes k w h = low_bytes k w ∙ mod-eq_of_lt h

-- ---- bytes after a write

module _ (bs : List ℕ) (o : ℕ) (x : List ℕ) (fits : o + length x ≤ length bs) where
  front : length (take o bs) ≡ o
  front = length-take-le o bs (omega arith)

  pub put_before : (j : ℕ) → j < o → get_or (wrote bs o x) j 0 ≡ get_or bs j 0
  unfolding wrote
  put_before j h = get_or_append_left (take o bs) (x ++ drop (o + length x) bs) 0 j (omega (arith, front)) ∙ get_or-take o bs j 0 h

  pub put_inside : (m : ℕ) → m < length x → get_or (wrote bs o x) (o + m) 0 ≡ get_or x m 0
  unfolding wrote
  put_inside m h =
      get_or-append_right (take o bs) (x ++ drop (o + length x) bs) o (o + m) 0 front (omega arith)
      ∙ ap (λ (k : ℕ). get_or (x ++ drop (o + length x) bs) k 0) (omega arith) ∙ get_or_append_left x (drop (o + length x) bs) 0 m h

  pub put_after : (j : ℕ) → o + length x ≤ j → get_or (wrote bs o x) j 0 ≡ get_or bs j 0
  unfolding wrote
  put_after j h =
      get_or-append_right (take o bs) (x ++ drop (o + length x) bs) o j 0 front (omega arith)
      ∙ get_or-append_right x (drop (o + length x) bs) (length x) (j - o) 0 refl (omega arith)
      ∙ get_or-drop (o + length x) bs (j - o - length x) 0 ∙ ap (λ (k : ℕ). get_or bs k 0) (omega arith)

  pub word_before : (i k : ℕ) → i + k ≤ o → number_at (wrote bs o x) i k ≡ number_at bs i k
  word_before i k h = number_at_same (wrote bs o x) bs i i k (λ m l. put_before (i + m) (omega arith))

  pub word_after : (i k : ℕ) → o + length x ≤ i → number_at (wrote bs o x) i k ≡ number_at bs i k
  word_after i k h = number_at_same (wrote bs o x) bs i i k (λ m l. put_after (i + m) (omega arith))

  pub word_inside : (i k : ℕ) → i + k ≤ length x → number_at (wrote bs o x) (o + i) k ≡ number_at x i k
  word_inside i k h =
      number_at_same (wrote bs o x) x (o + i) i k (λ m l. ap (λ (n : ℕ). get_or (wrote bs o x) n 0) (add_assoc o i m) ∙ put_inside (i + m) (omega arith))

-- a number that stands between others
pub word_between : (xs ys zs : List ℕ) (i k : ℕ) → length xs ≡ i → length ys ≡ k → number_at (xs ++ (ys ++ zs)) i k ≡ number_at ys 0 k
word_between xs ys zs i k e f =
    number_at_same (xs ++ (ys ++ zs)) ys i 0 k
    (λ m l. get_or-append_right xs (ys ++ zs) i (i + m) 0 e (omega arith) ∙ ap (λ (n : ℕ). get_or (ys ++ zs) n 0) (omega arith)
    ∙ get_or_append_left ys zs 0 m (omega arith) ∙ ap (λ (n : ℕ). get_or ys n 0) (sym (zero-add m)))

-- what is read where a line was written
pub line_back : (bs : List ℕ) (o : ℕ) (l : Line) → o + 24 ≤ length bs → l.positive < 2 ^ 64 → l.negative < 2 ^ 64 → l.first < 2 ^ 32 → l.second < 2 ^ 32
    → line_from (wrote bs o (line_bytes l)) o ≡ l
unfolding line_from line_bytes
line_back bs o l h p n f s =
    λ i. record { positive = pos i; negative = neg i; first = first i; second = second i }
  where
    w : List ℕ
    w = bytes_of 8 l.positive

    x : List ℕ
    x = bytes_of 8 l.negative

    y : List ℕ
    y = bytes_of 4 l.first

    z : List ℕ
    z = bytes_of 4 l.second

    lw : length w ≡ 8
    lw = length_bytes_of 8 l.positive

    lx : length x ≡ 8
    lx = length_bytes_of 8 l.negative

    ly : length y ≡ 4
    ly = length_bytes_of 4 l.first

    lz : length z ≡ 4
    lz = length_bytes_of 4 l.second

    all : List ℕ
    all = w ++ x ++ y ++ z

    lall : length all ≡ 24
    lall = omega (arith, length-append (w ++ x ++ y) z, length-append (w ++ x) y, length-append w x, lw, lx, ly, lz)

    inside : (i k : ℕ) → i + k ≤ 24 → number_at (wrote bs o all) (o + i) k ≡ number_at all i k
    inside i k b = word_inside bs o all (omega (arith, lall)) i k (omega (arith, lall))

    pos : number_at (wrote bs o all) o 8 ≡ l.positive
    pos =
        ap (λ (m : ℕ). number_at (wrote bs o all) m 8) (sym (add-zero o)) ∙ inside 0 8 (omega arith)
        ∙ ap (λ (t : List ℕ). number_at t 0 8) (append_assoc (w ++ x) y z ∙ append_assoc w x (y ++ z))
        ∙ word_between [] w (x ++ (y ++ z)) 0 8 refl lw ∙ word_of_bytes 8 l.positive p

    neg : number_at (wrote bs o all) (o + 8) 8 ≡ l.negative
    neg =
        inside 8 8 (omega arith) ∙ ap (λ (t : List ℕ). number_at t 8 8) (append_assoc (w ++ x) y z ∙ append_assoc w x (y ++ z))
        ∙ word_between w x (y ++ z) 8 8 lw lx ∙ word_of_bytes 8 l.negative n

    first : number_at (wrote bs o all) (o + 16) 4 ≡ l.first
    first =
        inside 16 4 (omega arith) ∙ ap (λ (t : List ℕ). number_at t 16 4) (append_assoc (w ++ x) y z)
        ∙ word_between (w ++ x) y z 16 4 (omega (arith, length-append w x, lw, lx)) ly ∙ word_of_bytes 4 l.first f

    second : number_at (wrote bs o all) (o + 20) 4 ≡ l.second
    second =
        inside 20 4 (omega arith) ∙ ap (λ (t : List ℕ). number_at t 20 4) (sym (append_nil_at))
        ∙ word_between (w ++ x ++ y) z [] 20 4 (omega (arith, length-append (w ++ x) y, length-append w x, lw, lx, ly)) lz ∙ word_of_bytes 4 l.second s
      where
        append_nil_at : (w ++ x ++ y) ++ (z ++ []) ≡ all
        append_nil_at = ap (λ (t : List ℕ). (w ++ x ++ y) ++ t) (append-nil z)

-- the same by the line's number
pub line_at_back : (bs : List ℕ) (k : ℕ) (l : Line) → 1 ≤ k → 24 * k ≤ length bs → l.positive < 2 ^ 64 → l.negative < 2 ^ 64 → l.first < 2 ^ 32 → l.second < 2 ^ 32
    → line_at (wrote bs (24 * (k - 1)) (line_bytes l)) k ≡ l
unfolding line_at
line_at_back bs k l low h = line_back bs (24 * (k - 1)) l (omega arith)

-- what is read where a trailer was written
pub trailer_long : (t : Trailer) → length (trailer_bytes t) ≡ 24
unfolding trailer_bytes bytes_of
trailer_long t = refl

trailer_marked : (t : Trailer) → take 4 (trailer_bytes t) ≡ mark
unfolding trailer_bytes bytes_of
trailer_marked t = refl

trailer_closed : (t : Trailer) → number_at (trailer_bytes t) 20 4 ≡ 0
unfolding trailer_bytes bytes_of number_at
trailer_closed t = refl

record Fields (t : Trailer) : Type 0 where
  atoms : number_at (trailer_bytes t) 4 4 ≡ number_at (bytes_of 4 t.atoms) 0 4
  distance : number_at (trailer_bytes t) 8 4 ≡ number_at (bytes_of 4 t.distance) 0 4
  last : number_at (trailer_bytes t) 12 4 ≡ number_at (bytes_of 4 t.last) 0 4
  given : number_at (trailer_bytes t) 16 4 ≡ number_at (bytes_of 4 t.given) 0 4

fields : (t : Trailer) → Fields t
unfolding trailer_bytes bytes_of number_at
fields t = record { atoms = refl; distance = refl; last = refl; given = refl }

trailer_numbers : (t : Trailer) → t.atoms < 2 ^ 32 → t.distance < 2 ^ 32 → t.last < 2 ^ 32 → t.given < 2 ^ 32 → trailer_of (trailer_bytes t) ≡ t
unfolding trailer_of
trailer_numbers t a d l g =
    let f = fields t in
    let atoms = f.atoms ∙ word_of_bytes 4 t.atoms a in
    let distance = f.distance ∙ word_of_bytes 4 t.distance d in
    let last = f.last ∙ word_of_bytes 4 t.last l in
    let given = f.given ∙ word_of_bytes 4 t.given g in
    λ i. record { atoms = atoms i; distance = distance i; last = last i; given = given i }

-- a list ends in the trailer that was put behind its first bytes
pub ends_behind : (xs : List ℕ) (t : Trailer) → t.atoms < 2 ^ 32 → t.distance < 2 ^ 32 → t.last < 2 ^ 32 → t.given < 2 ^ 32 → Ends (xs ++ trailer_bytes t) t
ends_behind xs t a d l g =
    let n : length (xs ++ trailer_bytes t) ≡ length xs + 24 = length-append xs (trailer_bytes t) ∙ ap (λ (m : ℕ). length xs + m) (trailer_long t) in
    let e : tail (xs ++ trailer_bytes t) ≡ trailer_bytes t = drop_at xs (trailer_bytes t) (length (xs ++ trailer_bytes t) - 24) (omega arith) in
    record {
      long = omega arith;
      marked = ap (λ (x : List ℕ). take 4 x) e ∙ trailer_marked t;
      numbers = ap trailer_of e ∙ trailer_numbers t a d l g;
      closed = ap (λ (x : List ℕ). number_at x 20 4) e ∙ trailer_closed t;
    }

-- the first bytes after a write, up to its end
pub wrote_front : (bs : List ℕ) (o : ℕ) (x : List ℕ) (m : ℕ) → o ≤ length bs → m ≡ o + length x → take m (wrote bs o x) ≡ take o bs ++ x
unfolding wrote
wrote_front bs o x m h e =
    let f : length (take o bs ++ x) ≡ m = length-append (take o bs) x ∙ (ap (λ (n : ℕ). n + length x) (length-take-le o bs h) ∙ sym e) in
    ap (take m) (sym (append_assoc (take o bs) x (drop (o + length x) bs))) ∙ take_at (take o bs ++ x) (drop (o + length x) bs) m f

pub trailer_back : (bs : List ℕ) (t : Trailer) → t.distance + 24 ≤ length bs → t.atoms < 2 ^ 32 → t.distance < 2 ^ 32 → t.last < 2 ^ 32 → t.given < 2 ^ 32
    → Ends (take (t.distance + 24) (wrote bs t.distance (trailer_bytes t))) t
trailer_back bs t h a d l g =
    let P : List ℕ → Type 0 = λ x. Ends x t in
    subst P (sym (wrote_front bs t.distance (trailer_bytes t) (t.distance + 24) (omega arith) (ap (λ (m : ℕ). t.distance + m) (sym (trailer_long t)))))
    (ends_behind (take t.distance bs) t a d l g)
