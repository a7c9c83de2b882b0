-- The order of the lines, and the table that numbers them.
use Rattle.std.proofs.Common.{◌≡◌, ℕ, zero, suc, ◌+◌, ◌-◌, ◌<◌, ◌≤◌, Bool, true, false, cond, eqb, ◌≢◌, ◌⊎◌, List, [], ◌∷◌, ◌++◌, length, get_or, set, replicate, sym, refl, ap, ◌∙◌, subst, ap₂, ⊎_elim, arith, length-append, get_or-set_other, get_or-set_same}
use Rattle.std.proofs.lemmas.List.{get_or_past, get_or-replicate, length-replicate}
use Rattle.std.proofs.lemmas.Bool.{eq-eqb, ne_eqb, cases_eq, cases_lt, cond-true, cond-false}
use Rattle.lines.specs.declared.line.Line.{Line}
use Rattle.trace.specs.Lines.{order, place_from, place, renumbered}
use Rattle.trace.specs.Tables.{line_in, by_table, Table}

-- ---- the order

pub order_on : (m : ℕ → Bool) (i : ℕ) → m (i + 1) ≡ true → order m (i + 1) ≡ order m i ++ (i + 1) ∷ []
unfolding order
order_on m i t = let s : i + 1 ≡ suc i = omega arith in rw s (cond-true (m (suc i)) (order m i ++ suc i ∷ []) (order m i) (rw s at t))

pub order_off : (m : ℕ → Bool) (i : ℕ) → m (i + 1) ≡ false → order m (i + 1) ≡ order m i
unfolding order
order_off m i t = let s : i + 1 ≡ suc i = omega arith in rw s (cond-false (m (suc i)) (order m i ++ suc i ∷ []) (order m i) (rw s at t))

-- marks that agree up to k give one order
pub order_same : (m n : ℕ → Bool) (k : ℕ) → ((j : ℕ) → j ≤ k → m j ≡ n j) → order m k ≡ order n k
unfolding order
order_same m n zero f = refl
order_same m n (suc k) f = ap₂ (λ (b : Bool) (x : List ℕ). cond b (x ++ suc k ∷ []) x) (f (suc k) (omega arith)) (order_same m n k (λ j l. f j (omega arith)))

-- each of the numbers is one of 1 to n
unfoldable pub Within : ℕ → List ℕ → Type 0
Within n [] = Unit {0}
Within n (x ∷ ks) = (1 ≤ x) × (x ≤ n) × Within n ks

within_up : (n : ℕ) (ks : List ℕ) → Within n ks → Within (suc n) ks
unfolding Within
within_up n [] w = tt
within_up n (x ∷ ks) w = let h : x ≤ n = w.1 in (w.0, omega arith, within_up n ks w.2)

within_push : (n : ℕ) (ks : List ℕ) → Within n ks → Within (suc n) (ks ++ suc n ∷ [])
unfolding Within
within_push n [] w = (omega arith, omega arith, tt)
within_push n (x ∷ ks) w = let h : x ≤ n = w.1 in (w.0, omega arith, within_push n ks w.2)

pub order_within : (m : ℕ → Bool) (k : ℕ) → Within k (order m k)
unfolding Within order
order_within m zero = tt
order_within m (suc k) = go (m (suc k)) (order_within m k)
  where
    go : (b : Bool) → Within k (order m k) → Within (suc k) (cond b (order m k ++ suc k ∷ []) (order m k))
    go true w = within_push k (order m k) w
    go false w = within_up k (order m k) w

-- ---- places

-- one number more leaves the places of the others
pub place_push : (i : ℕ) (ks : List ℕ) (x k : ℕ) → x ≢ k → place_from i (ks ++ x ∷ []) k ≡ place_from i ks k
unfolding place_from
place_push i [] x k n = ap (λ (b : Bool). cond b i 0) (ne_eqb x k n)
place_push i (y ∷ ks) x k n = ap (λ (p : ℕ). cond (eqb y k) i p) (place_push (i + 1) ks x k n)

-- a number that is not among them has no place
pub place_none : (n i : ℕ) (ks : List ℕ) (k : ℕ) → Within n ks → (1 ≤ k → k ≤ n → ⊥) → place_from i ks k ≡ 0
unfolding place_from Within
place_none n i [] k w out = refl
place_none n i (x ∷ ks) k w out =
    let a : 1 ≤ x = w.0 in
    let b : x ≤ n = w.1 in
    ap (λ (t : Bool). cond t i (place_from (i + 1) ks k)) (ne_eqb x k (λ e. out (omega arith) (omega arith))) ∙ place_none n (i + 1) ks k w.2 out

-- a new one has the last place
pub place_last : (n i : ℕ) (ks : List ℕ) (x : ℕ) → Within n ks → n < x → place_from i (ks ++ x ∷ []) x ≡ i + length ks
unfolding place_from Within
place_last n i [] x w l = ap (λ (t : Bool). cond t i 0) (eq-eqb x x refl) ∙ omega arith
place_last n i (y ∷ ks) x w l =
    let b : y ≤ n = w.1 in
    let ih = place_last n (i + 1) ks x w.2 l in
    ap (λ (t : Bool). cond t i (place_from (i + 1) (ks ++ x ∷ []) x)) (ne_eqb y x (λ e. omega arith)) ∙ ih ∙ omega arith

-- ---- the table

pub line_in_outside : (table : List ℕ) (k : ℕ) → (k ≡ 0) ⊎ (length table < k) → 0 ≡ line_in table k
unfolding line_in
line_in_outside table zero h = refl
line_in_outside table (suc k) h = sym (get_or_past table k 0 (⊎_elim (λ e. absurd (omega arith)) (λ l. omega arith) h))

pub line_in_at : (table : List ℕ) (k : ℕ) → (k ≡ 0 → ⊥) → get_or table (k - 1) 0 ≡ line_in table k
unfolding line_in
line_in_at table zero h = absurd (h refl)
line_in_at table (suc k) h = ap (λ (j : ℕ). get_or table j 0) (omega arith)

zeros : (n i : ℕ) → ◌≡◌ {A = ℕ} (get_or (replicate n 0) i 0) 0
zeros n i = ⊎_elim (λ l. get_or-replicate n i 0 0 l) (λ l. get_or_past (replicate n 0) i 0 (let e : length (replicate {A = ℕ} n 0) ≡ n = length-replicate n 0 in omega arith)) (cases_lt i n)

pub table_none : (n : ℕ) → Table [] (replicate n 0)
unfolding Table line_in place_from
table_none n zero = refl
table_none n (suc k) = zeros n k

set_line : (table : List ℕ) (i n k : ℕ) → suc i ≢ k → line_in (set table i n) k ≡ line_in table k
unfolding line_in
set_line table i n zero h = refl
set_line table i n (suc k) h = get_or-set_other table i k n 0 (λ (e : k ≡ i). h (omega arith))

-- the lines numbered so far
pub record Numbered (m : ℕ → Bool) (i count : ℕ) (table : List ℕ) : Type 0 where
  pub numbered : Table (order m i) table
  pub counted : count ≡ length (order m i)
  pub few : count ≤ i

pub numbered_none : (m : ℕ → Bool) (table : List ℕ) → Table [] table → Numbered m 0 0 table
unfolding order
numbered_none m table t = record { numbered = t; counted = refl; few = omega arith }

pub numbered_on : (m : ℕ → Bool) (i count : ℕ) (table : List ℕ) → i < length table → m (i + 1) ≡ true → Numbered m i count table → Numbered m (i + 1) (count + 1) (set table i (count + 1))
unfolding Table line_in
numbered_on m i count table l t d =
    let o = order_on m i t in
    let c = d.counted in
    let f = d.few in
    record { numbered = λ k. at k ∙ ap (λ (ks : List ℕ). place ks k) (sym o); counted = omega (arith, ap length o, length-append (order m i) ((i + 1) ∷ [])); few = omega arith }
  where
    at : (k : ℕ) → line_in (set table i (count + 1)) k ≡ place (order m i ++ (i + 1) ∷ []) k
    at k = ⊎_elim
        (λ (e : i + 1 ≡ k). let s : suc i ≡ i + 1 = omega arith in
        ap (line_in (set table i (count + 1))) (sym (s ∙ e)) ∙ get_or-set_same table i (count + 1) 0 l
        ∙ (let c = d.counted in omega (arith, place_last i 1 (order m i) (i + 1) (order_within m i) (omega arith)))
        ∙ ap (λ (j : ℕ). place (order m i ++ (i + 1) ∷ []) j) e)
        (λ n. set_line table i (count + 1) k (λ e. n (omega arith)) ∙ d.numbered k ∙ sym (place_push 1 (order m i) (i + 1) k n))
        (cases_eq (i + 1) k)

pub numbered_off : (m : ℕ → Bool) (i count : ℕ) (table : List ℕ) → m (i + 1) ≡ false → Numbered m i count table → Numbered m (i + 1) count table
numbered_off m i count table t d =
    let o = order_off m i t in
    let f = d.few in
    record { numbered = subst (λ (ks : List ℕ). Table ks table) (sym o) d.numbered; counted = d.counted ∙ ap length (sym o); few = omega arith }

pub table_is : (ks table : List ℕ) (l : Line) → Table ks table → by_table table l ≡ renumbered ks l
unfolding Table
table_is ks table l t = λ i. record { positive = l.positive; negative = l.negative; first = t l.first i; second = t l.second i }
