-- The bytes of names with zeros behind them compare as the numbers of the names do: the order of records cites this.
use Rattle.std.specs.Prelude.{◌≡◌, ℕ, zero, suc, ◌+◌, ◌*◌, ◌-◌, ◌^◌, ◌<◌, ◌≤◌, true, ◌&&◌, List, [], ◌∷◌, ◌++◌, length, take, drop, replicate, nat_le, slice_index, refl}
use Rattle.std.proofs.Common.{Ordering, Less, Equal, Greater, sym, ap, ◌∙◌, subst, mul-le-mul_right, add-mul, pow-suc, arith}
use native.Mathlib.Nat.{one-le-pow}
use Rattle.std.specs.Ordering.{MatchOrdering, nat_cmp, ordering_then}
use Rattle.std.specs.Cmp.{ranks}
use Rattle.std.specs.Cmp.Lexicographic.{slice_cmp}
use Rattle.std.proofs.lemmas.Bool.{and_parts, leb-true}
use Rattle.std.proofs.lemmas.Bool.Decides.{nat_tests}
use Rattle.std.proofs.lemmas.List.{take-append-drop}
use Rattle.names.specs.Bytes.{visible, visibles, is_name, worth, rank}

-- every one of the numbers fits a byte
abbrev pub Small : List ℕ → Type 0
Small w = (k : ℕ) → k < length w → slice_index w k < 256

pub later : (b : ℕ) (bs : List ℕ) → Small (b ∷ bs) → Small bs
later b bs d k l = d (suc k) (omega arith)

-- a lower digit in front weighs more than all that follows
pub ahead : (d e m r s : ℕ) → d < e → r < m → d * m + r < e * m + s
ahead d e m r s l b =
    let h : d + 1 ≤ e = omega arith in
    omega (arith, mul-le-mul_right m h, add-mul d 1 m)

pub worth_bound : (k : ℕ) (w : List ℕ) → Small w → worth k w < 256 ^ k
unfolding worth
worth_bound zero w d = omega arith
worth_bound (suc k) [] d = one-le-pow (suc k) 256 (omega arith)
worth_bound (suc k) (b ∷ bs) d =
    let ih = worth_bound k bs (later b bs d) in
    let l : b + 1 ≤ 256 = omega (arith, d 0 (omega arith)) in
    omega (arith, mul-le-mul_right (256 ^ k) l, add-mul b 1 (256 ^ k), pow-suc 256 k)

-- ---- zeros behind a word

worth_zeros : (k j : ℕ) → worth k (replicate j 0) ≡ 0
unfolding worth
worth_zeros zero j = refl
worth_zeros (suc k) zero = refl
worth_zeros (suc k) (suc j) = omega (arith, worth_zeros k j)

worth_padded : (k j : ℕ) (w : List ℕ) → worth k (w ++ replicate j 0) ≡ worth k w
unfolding worth
worth_padded zero j w = refl
worth_padded (suc k) j [] = worth_zeros (suc k) j
worth_padded (suc k) j (b ∷ bs) = ap (λ n. b * 256 ^ k + n) (worth_padded k j bs)

small_padded : (j : ℕ) (w : List ℕ) → visibles w ≡ true → Small (w ++ replicate j 0)
small_padded zero [] e k l = absurd (omega arith)
small_padded (suc j) [] e zero l = omega arith
small_padded (suc j) [] e (suc k) l = small_padded j [] e k (omega arith)
small_padded j (b ∷ bs) e zero l = omega (arith, leb-true b 0x7e (and_parts (nat_le 0x21 b) (nat_le b 0x7e) (and_parts (visible b) (visibles bs) e).0).1)
small_padded j (b ∷ bs) e (suc k) l = small_padded j bs (and_parts (visible b) (visibles bs) e).1 k (omega arith)

-- ---- words of one length

less : (a b : ℕ) → a < b → nat_cmp a b ≡ Less
less a b l = grind (arith, nat_tests)

greater : (a b : ℕ) → b < a → nat_cmp a b ≡ Greater
greater a b l = grind (arith, nat_tests)

alike : (c a b : ℕ) → nat_cmp (c + a) (c + b) ≡ nat_cmp a b
alike c a b = grind (arith, nat_tests)

compares : (k : ℕ) (v w : List ℕ) → length v ≡ k → length w ≡ k → Small v → Small w → slice_cmp nat_cmp v w ≡ nat_cmp (worth k v) (worth k w)
unfolding worth
compares zero [] [] a b f g = refl
compares zero [] (y ∷ ys) a b f g = absurd (omega arith)
compares zero (x ∷ xs) w a b f g = absurd (omega arith)
compares (suc k) [] w a b f g = absurd (omega arith)
compares (suc k) (x ∷ xs) [] a b f g = absurd (omega arith)
compares (suc k) (x ∷ xs) (y ∷ ys) a b f g = first (nat_cmp x y) (ranks x y) (compares k xs ys (omega arith) (omega arith) (later x xs f) (later y ys g))
  where
    first : (o : Ordering) → MatchOrdering o (x < y) (x ≡ y) (y < x) → slice_cmp nat_cmp xs ys ≡ nat_cmp (worth k xs) (worth k ys)
        → ordering_then o (slice_cmp nat_cmp xs ys) ≡ nat_cmp (x * 256 ^ k + worth k xs) (y * 256 ^ k + worth k ys)
    first Less p h = sym (less _ _ (ahead x y (256 ^ k) (worth k xs) (worth k ys) p (worth_bound k xs (later x xs f))))
    first Equal p h = h ∙ sym (alike (x * 256 ^ k) (worth k xs) (worth k ys)) ∙ ap (λ z. nat_cmp (x * 256 ^ k + worth k xs) (z * 256 ^ k + worth k ys)) p
    first Greater p h = sym (greater _ _ (ahead y x (256 ^ k) (worth k ys) (worth k xs) p (worth_bound k ys (later y ys g))))

-- ---- names

-- what is known of the bytes bs of a name of the length n
pub record Padded (bs : List ℕ) (n : ℕ) : Type 0 where
  pub whole : bs ≡ take n bs ++ replicate (16 - n) 0
  pub small : Small bs
  pub worth : worth 16 bs ≡ rank (take n bs)

pub padded : (bs : List ℕ) (n : ℕ) → is_name (take n bs) ≡ true → drop n bs ≡ replicate (16 - n) 0 → Padded bs n
padded bs n e d =
    let p = and_parts (nat_le 1 (length (take n bs))) (nat_le (length (take n bs)) 16 && visibles (take n bs)) e in
    let q = and_parts (nat_le (length (take n bs)) 16) (visibles (take n bs)) p.1 in
    let w : bs ≡ take n bs ++ replicate (16 - n) 0 = sym (take-append-drop n bs) ∙ ap (λ z. take n bs ++ z) d in
    record { whole = w; small = subst Small (sym w) (small_padded (16 - n) (take n bs) q.1); worth = ap (worth 16) w ∙ worth_padded 16 (16 - n) (take n bs) }

pub keyed : (a b : List ℕ) (m n : ℕ) → length a ≡ 16 → length b ≡ 16 → Padded a m → Padded b n → slice_cmp nat_cmp a b ≡ nat_cmp (rank (take m a)) (rank (take n b))
keyed a b m n e f p q = compares 16 a b e f p.small q.small ∙ ap (λ k. nat_cmp k (worth 16 b)) p.worth ∙ ap (nat_cmp (rank (take m a))) q.worth
