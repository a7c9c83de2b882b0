-- The words that are literals are those that spell one.
use Rattle.std.proofs.Common.{◌≡◌, ℕ, zero, suc, ◌+◌, ◌-◌, ◌*◌, ◌^◌, ◌<◌, ◌≤◌, min, Bool, true, false, eqb, List, [], ◌∷◌, get_or, ℤ, pos, negsuc, nat_abs, Some, None, decimal, Option, sym, refl, ap, ◌∙◌, subst, ⊎_elim, arith, rules}
use native.Mathlib.Nat.{min-eq_left, min-eq_right}
use Rattle.std.specs.Char.{is_ascii_digit}
use Rattle.std.specs.Fmt.{signed_decimal}
use Rattle.std.specs.Str.{all_ascii_digits}
use Rattle.std.proofs.lemmas.Str.Parse.{IsNumeralModel, numerals_by_fold}
use Rattle.std.proofs.lemmas.Fmt.{digits_decimal, digits_value-decimal, decimal-digits_value, decimal_digit, first_decimal}
use Rattle.std.proofs.lemmas.Bool.{cases_Bool, cases_lt, cases_eq, cond-true, cond-false, eqb-true, eqb-false, ne_eqb, and_parts, and_from, both_ways}
use Rattle.std.proofs.lemmas.Bool.Decides.{nat_tests}
use Rattle.dimacs.specs.Words.{minus, unsigned}
use Rattle.dimacs.specs.Numbers.{reads, numeral, capped, with_sign, literal}
use Rattle.dimacs.specs.Numbers as numbers

abbrev read_on : ℕ → List ℕ → ℕ
read_on n [] = n
read_on n (c ∷ cs) = read_on (n * 10 + (c - 48)) cs

own : IsNumeralModel (λ ds. all_ascii_digits ds ≡ true) (read_on 0)
own = numerals_by_fold _ (search rules) read_on (search rules)

reads_yes : (n : ℕ) (ds : List ℕ) → all_ascii_digits ds ≡ true → reads n ds ≡ Some (read_on n ds)
reads_yes n [] h = refl
reads_yes n (c ∷ cs) h =
    let p = and_parts (is_ascii_digit c) (all_ascii_digits cs) h in
    cond-true (is_ascii_digit c) _ _ p.0 ∙ reads_yes (n * 10 + (c - 48)) cs p.1

none_some : {X : Type 0} (n : ℕ) → ◌≡◌ {A = Option ℕ} None (Some n) → X
none_some n e = absurd (let z : ◌≡◌ {A = ℕ} 0 1 = cc in let f : ⊥ = omega arith in f)

reads_some : (n : ℕ) (ds : List ℕ) (m : ℕ) → reads n ds ≡ Some m → (all_ascii_digits ds ≡ true) × (read_on n ds ≡ m)
reads_some n [] m e = (refl, cc)
reads_some n (c ∷ cs) m e = ⊎_elim
    (λ y.
    let ih = reads_some (n * 10 + (c - 48)) cs m (sym (cond-true (is_ascii_digit c) _ _ y) ∙ e) in
    (and_from (is_ascii_digit c) (all_ascii_digits cs) y ih.0, ih.1))
    (λ no'. none_some m (sym (cond-false (is_ascii_digit c) _ _ no') ∙ e))
    (cases_Bool (is_ascii_digit c))

pub numeral_some : (w : List ℕ) (n : ℕ) → n < 2 ^ 64 → numeral w ≡ Some n → w ≡ decimal n
numeral_some [] n small e = none_some n e
numeral_some (b ∷ []) n small e =
    let r = reads_some 0 (b ∷ []) n e in
    sym (decimal-digits_value own (b ∷ []) r.0 (omega arith) (λ _. refl) (omega (arith, r.1))) ∙ ap decimal r.1
numeral_some (b ∷ c ∷ bs) n small e = ⊎_elim
    (λ y. none_some n (sym (cond-true (eqb b 48) _ _ y) ∙ e))
    (λ no'.
    let r = reads_some 0 (b ∷ c ∷ bs) n (sym (cond-false (eqb b 48) _ _ no') ∙ e) in
    sym (decimal-digits_value own (b ∷ c ∷ bs) r.0 (omega arith) (λ z. absurd (eqb-false b 48 no' z)) (omega (arith, r.1))) ∙ ap decimal r.1)
    (cases_Bool (eqb b 48))

-- digits whose first is not 0 are a number
plain : (ds : List ℕ) → all_ascii_digits ds ≡ true → 48 < get_or ds 0 0 → numeral ds ≡ Some (read_on 0 ds)
plain [] d h = absurd (omega arith)
plain (b ∷ []) d h = reads_yes 0 (b ∷ []) d
plain (b ∷ c ∷ bs) d h = cond-false (eqb b 48) _ _ (ne_eqb b 48 (λ e. omega arith)) ∙ reads_yes 0 (b ∷ c ∷ bs) d

pub numeral_decimal : (n : ℕ) → n < 2 ^ 64 → numeral (decimal n) ≡ Some n
numeral_decimal n small = ⊎_elim
    (λ z. ap numeral (ap decimal z ∙ decimal_digit 0 (omega arith)) ∙ ap Some (sym z))
    (λ nz.
    plain (decimal n) (digits_decimal own n small) (first_decimal n (omega arith) small) ∙ ap Some (digits_value-decimal own n small))
    (cases_eq n 0)

-- no number begins with a minus
no_minus : (ds : List ℕ) → all_ascii_digits ds ≡ true → minus ds ≡ false
no_minus [] h = refl
no_minus (b ∷ bs) h = let d = (and_parts (is_ascii_digit b) (all_ascii_digits bs) h).0 in grind (arith, nat_tests)

uncap : (o : Option ℕ) (n : ℕ) → n ≤ 16384 → capped o ≡ Some n → o ≡ Some n
uncap None n h e = none_some n e
uncap (Some m) n h e =
    let k : min m 16385 ≡ n = cc in
    ⊎_elim
    (λ l. ap Some (sym (min-eq_left (let q : m ≤ 16385 = omega arith in q)) ∙ k))
    (λ g. absurd (let q = min-eq_right g in let f : ⊥ = omega arith in f))
    (cases_lt m 16385)

-- a number in range is written in decimal
pub number_some : (w : List ℕ) (n : ℕ) → n ≤ 16384 → capped (numeral w) ≡ Some n → w ≡ decimal n
number_some w n h e = numeral_some w n (omega arith) (uncap (numeral w) n h e)

pub number_decimal : (n : ℕ) → n ≤ 16384 → capped (numeral (decimal n)) ≡ Some n
number_decimal n h = ap capped (numeral_decimal n (omega arith)) ∙ ap Some (min-eq_left (let q : n ≤ 16385 = omega arith in q))

with_minus : (w : List ℕ) → minus w ≡ true → w ≡ 45 ∷ unsigned w
with_minus [] m = absurd (both_ways false refl m)
with_minus (b ∷ bs) m = ap (λ (c : ℕ). c ∷ bs) (eqb-true b 45 m) ∙ ap (λ (l : List ℕ). 45 ∷ l) (sym (cond-true (eqb b 45) _ _ m))

without : (w : List ℕ) → minus w ≡ false → w ≡ unsigned w
without w m = sym (cond-false (minus w) _ _ m)

none_lit : {X : Type 0} (l : ℤ) → ◌≡◌ {A = Option ℤ} None (Some l) → X
none_lit l e = absurd (let z : ◌≡◌ {A = ℕ} 0 1 = cc in let f : ⊥ = omega arith in f)

same_lit : (k l : ℤ) → ◌≡◌ {A = Option ℤ} (Some k) (Some l) → k ≡ l
same_lit k l e = cc

negative : (n : ℕ) → with_sign true (suc n) ≡ Some (negsuc n)
negative n = cond-false (eqb (suc n) 0) _ _ (ne_eqb (suc n) 0 (λ z. omega arith))

-- a word that is a literal of an atom in range spells it
pub lit_some : (w : List ℕ) (l : ℤ) → nat_abs l ≤ 16384 → literal w ≡ Some l → w ≡ signed_decimal l
lit_some w l h e = go (minus w) refl (capped (numeral (unsigned w))) refl e
  where
    go : (m : Bool) → minus w ≡ m → (o : Option ℕ) → capped (numeral (unsigned w)) ≡ o → numbers.signed m o ≡ Some l → w ≡ signed_decimal l
    go m p None q e = none_lit l e
    go false p (Some n) q e =
        let is : pos n ≡ l = same_lit (pos n) l e in
        let small : n ≤ 16384 = subst (λ (k : ℤ). nat_abs k ≤ 16384) (sym is) h in
        without w p ∙ number_some (unsigned w) n small q ∙ ap signed_decimal is
    go true p (Some zero) q e = none_lit l e
    go true p (Some (suc n)) q e =
        let is : negsuc n ≡ l = same_lit (negsuc n) l (sym (negative n) ∙ e) in
        let small : suc n ≤ 16384 = subst (λ (k : ℤ). nat_abs k ≤ 16384) (sym is) h in
        with_minus w p ∙ ap (λ (x : List ℕ). 45 ∷ x) (number_some (unsigned w) (suc n) small q) ∙ ap signed_decimal is

pub lit_spell : (l : ℤ) → nat_abs l ≤ 16384 → literal (signed_decimal l) ≡ Some l
lit_spell (pos n) h =
    let m : minus (decimal n) ≡ false = no_minus (decimal n) (digits_decimal own n (omega arith)) in
    ap (λ (x : Bool). numbers.signed x (capped (numeral (unsigned (decimal n))))) m ∙ ap (λ (x : List ℕ). numbers.signed false (capped (numeral x))) (sym (without (decimal n) m)) ∙ ap (numbers.signed false) (number_decimal n h)
lit_spell (negsuc n) h = ap (numbers.signed true) (number_decimal (suc n) h) ∙ negative n
