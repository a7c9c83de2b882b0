-- The tests on words decide the resolution rule.
use Rattle.std.proofs.Common.{◌≡◌, ℕ, zero, suc, ◌<◌, ◌≤◌, Bool, true, false, cond, not, ◌&&◌, ◌||◌, T, eqb, ltb, leb, ◌⊎◌, List, Some, None, Decides, Option, sym, refl, ap, ◌∙◌, inl, inr, ⊎_elim, arith, eqb→eq}
use lib.Bits.{bit_and, bit_or, bit_xor}
use lib.Count.{ones}
use Rattle.std.proofs.lemmas.Bool.{and_parts, cases_Bool, cases_eq, cases_lt, both_ways, eq-eqb, ne_eqb, eqb-true, leb-true, le-leb, ltb-true, lt-ltb}
use Rattle.std.proofs.lemmas.Bool.Decides.{nat_tests}
use Rattle.clause.specs.declared.words.Clause.{Clause}
use Rattle.clause.specs.Words.{at}
use Rattle.clause.specs.Clauses.{Literals, Resolves, Shares, lits, top, clause_of, clause_if}
use Rattle.clause.proofs.Bits.{at_and, at_or, at_xor, at_none}
use Rattle.clause.proofs.Truths.{clause_words, apart_word}
use Rattle.lines.specs.declared.line.Line.{Line}
use Rattle.lines.specs.Format.{literals, line_at, reaches}
use Rattle.rule.specs.Rule.{Cancels, Joined, Given, Earlier, Derived, Right}
use Rattle.rule.specs.Tests.{is_bare, is_earlier, is_joined, resolves, is_derived, within_of, stands_as, alike, passes_as, passes_of, passes}
use Rattle.rule.proofs.Atoms.{same_atoms, shares, single_atom, atom_single}

never : {P : Type 0} → (P → ⊥) → Decides false P
never h = (λ t. absurd (both_ways false refl t), λ p. absurd (h p))

-- ---- resolvents

-- just one atom cancels, and l is the two joined without it
abbrev Resolvent : Literals → Literals → Literals → Type 0
Resolvent r c l = (p : ℕ) × (Cancels r c p) × (Joined r c p l)

-- the one atom of two words is taken out of words that have it
taken_left : (x y z m e : Bool) → m ≡ x && y → m ≡ e → cond (x || z) (not m) m ≡ (x || z) && not e
taken_left x y z m e h k = grind arith

taken_right : (x y z m e : Bool) → m ≡ x && y → m ≡ e → cond (z || y) (not m) m ≡ (z || y) && not e
taken_right x y z m e h k = grind arith

module _ (r c : Literals) (p : ℕ) (same : (a : ℕ) → at (bit_and r.pos c.neg) a ≡ eqb a p) where
  pub pos_joined : (a : ℕ) → at (bit_xor (bit_or r.pos c.pos) (bit_and r.pos c.neg)) a ≡ (at r.pos a || at c.pos a) && not (eqb a p)
  pos_joined a =
      at_xor _ _ a
      ∙ (ap (λ (b : Bool). cond b (not (at (bit_and r.pos c.neg) a)) (at (bit_and r.pos c.neg) a)) (at_or r.pos c.pos a)
      ∙ taken_left (at r.pos a) (at c.neg a) (at c.pos a) _ (eqb a p) (at_and r.pos c.neg a) (same a))

  pub neg_joined : (a : ℕ) → at (bit_xor (bit_or r.neg c.neg) (bit_and r.pos c.neg)) a ≡ (at r.neg a || at c.neg a) && not (eqb a p)
  neg_joined a =
      at_xor _ _ a
      ∙ (ap (λ (b : Bool). cond b (not (at (bit_and r.pos c.neg) a)) (at (bit_and r.pos c.neg) a)) (at_or r.neg c.neg a)
      ∙ taken_right (at r.pos a) (at c.neg a) (at r.neg a) _ (eqb a p) (at_and r.pos c.neg a) (same a))

  pub cancels_at : Cancels r c p
  cancels_at =
      let here = and_parts _ _ (sym (at_and r.pos c.neg p) ∙ same p ∙ eq-eqb p p refl) in
      record {
        positive = here.0;
        negative = here.1;
        alone = λ a x y. eqb-true a p (sym (same a) ∙ at_and r.pos c.neg a ∙ both (at r.pos a) (at c.neg a) x y);
      }
    where
      both : (x y : Bool) → x ≡ true → y ≡ true → x && y ≡ true
      both x y e f = grind arith

pub only_atom : (r c : Literals) (p : ℕ) → Cancels r c p → (a : ℕ) → at (bit_and r.pos c.neg) a ≡ eqb a p
only_atom r c p k a = at_and r.pos c.neg a ∙ ⊎_elim
    (λ e. let x : at r.pos a ≡ true = ap (at r.pos) e ∙ k.positive in
    let y : at c.neg a ≡ true = ap (at c.neg) e ∙ k.negative in
    both (at r.pos a) (at c.neg a) x y ∙ sym (eq-eqb a p e))
    (λ n. apart (at r.pos a) (at c.neg a) (λ x y. n (k.alone a x y)) ∙ sym (ne_eqb a p n))
    (cases_eq a p)
  where
    both : (x y : Bool) → x ≡ true → y ≡ true → x && y ≡ true
    both x y e f = grind arith

    apart : (x y : Bool) → (x ≡ true → y ≡ true → ⊥) → x && y ≡ false
    apart true true h = absurd (h refl refl)
    apart true false h = refl
    apart false y h = refl

some_cancels : (r c : Literals) (p : ℕ) → Cancels r c p → 0 < p
some_cancels r c zero k = absurd (both_ways _ (at_none r.pos 0 refl) k.positive)
some_cancels r c (suc i) k = omega arith

pub resolves_law : (r c l : Literals) → Decides (resolves r c l) (Resolvent r c l)
resolves_law r c l = (there (ones m) refl, back)
  where
    m : ℕ
    m = bit_and r.pos c.neg

    there : (n : ℕ) → ones m ≡ n → cond (eqb n 1) (is_joined m r c l) false ≡ true → Resolvent r c l
    there n e t = ⊎_elim
        (λ one. let s = single_atom m (e ∙ one) in
        let j = and_parts _ _ (sym (ap (λ (b : Bool). cond b (is_joined m r c l) false) (eq-eqb n 1 one)) ∙ t) in
        let pos = eqb-true l.pos _ j.0 in
        let neg = eqb-true l.neg _ j.1 in (
          s.0,
          cancels_at r c s.0 s.2,
          record {
            positives = λ a. ap (λ (w : ℕ). at w a) pos ∙ pos_joined r c s.0 s.2 a;
            negatives = λ a. ap (λ (w : ℕ). at w a) neg ∙ neg_joined r c s.0 s.2 a;
          },
        ))
        (λ other. absurd (both_ways _ (ap (λ (b : Bool). cond b (is_joined m r c l) false) (ne_eqb n 1 other)) t))
        (cases_eq n 1)

    back : Resolvent r c l → resolves r c l ≡ true
    back h =
        let p = h.0 in
        let o = only_atom r c p h.1 in
        let single = atom_single m p (some_cancels r c p h.1) o in
        let pos = same_atoms l.pos _ (λ k. h.2.positives (suc k) ∙ sym (pos_joined r c p o (suc k))) in
        let neg = same_atoms l.neg _ (λ k. h.2.negatives (suc k) ∙ sym (neg_joined r c p o (suc k))) in
        all (eqb (ones m) 1) _ _ (eq-eqb (ones m) 1 single) (eq-eqb l.pos _ pos) (eq-eqb l.neg _ neg)
      where
        all : (x y z : Bool) → x ≡ true → y ≡ true → z ≡ true → cond x (y && z) false ≡ true
        all x y z e f g = grind arith

pub absent : (w a : ℕ) → (at w a ≡ true → ⊥) → at w a ≡ false
absent w a h = ⊎_elim (λ t. absurd (h t)) (λ f. f) (cases_Bool (at w a))

-- the resolvent of two clauses at the atom that cancels is the two joined without it
pub resolvent_joined : (r c d : Literals) (p : ℕ) → Cancels r c p → (Shares r.pos r.neg → ⊥) → (Shares c.pos c.neg → ⊥) → Resolves r c p d → Joined r c p d
resolvent_joined r c d p k x y j = record {
  positives = λ a. j.positives a ∙ ⊎_elim
      (λ e. out (at r.pos a) (at c.pos a) (eqb a p) (eq-eqb a p e) (absent c.pos a (λ t. y (a, t, ap (at c.neg) e ∙ k.negative))))
      (λ n. stays (at r.pos a) (at c.pos a) (eqb a p) (ne_eqb a p n))
      (cases_eq a p);
  negatives = λ a. j.negatives a ∙ ⊎_elim
      (λ e. out' (at r.neg a) (at c.neg a) (eqb a p) (eq-eqb a p e) (absent r.neg a (λ t. x (a, ap (at r.pos) e ∙ k.positive, t))))
      (λ n. stays' (at r.neg a) (at c.neg a) (eqb a p) (ne_eqb a p n))
      (cases_eq a p);
}
  where
    out : (x y e : Bool) → e ≡ true → y ≡ false → (x && not e) || y ≡ (x || y) && not e
    out x y e f g = grind arith

    stays : (x y e : Bool) → e ≡ false → (x && not e) || y ≡ (x || y) && not e
    stays x y e f = grind arith

    out' : (x y e : Bool) → e ≡ true → x ≡ false → x || (y && not e) ≡ (x || y) && not e
    out' x y e f g = grind arith

    stays' : (x y e : Bool) → e ≡ false → x || (y && not e) ≡ (x || y) && not e
    stays' x y e f = grind arith

-- ---- derived and given lines

earlier_law : (j k : ℕ) → Decides (is_earlier j k) (Earlier k j)
earlier_law j k = (
  λ t. let p = and_parts (leb 1 j) (ltb j k) t in (leb-true 1 j p.0, ltb-true j k p.1),
  λ e. both (leb 1 j) (ltb j k) (le-leb 1 j e.0) (lt-ltb j k e.1),
)
  where
    both : (x y : Bool) → x ≡ true → y ≡ true → x && y ≡ true
    both x y e f = grind arith

pub derived_law : (bs : List ℕ) (k : ℕ) (l : Line) → Decides (is_derived bs k l) (Derived bs k l)
derived_law bs k l = (
  λ t. let s = split (is_earlier l.first k) (is_earlier l.second k) _ t in
      let d = res.0 s.2 in
      record { first = (earlier_law l.first k).0 s.0; second = (earlier_law l.second k).0 s.1; atom = d.0; cancels = d.1; joins = d.2 },
  λ d. join (is_earlier l.first k) (is_earlier l.second k) _ ((earlier_law l.first k).1 d.first) ((earlier_law l.second k).1 d.second)
      (res.1 (d.atom, d.cancels, d.joins)),
)
  where
    res : Decides (resolves (literals (line_at bs l.first)) (literals (line_at bs l.second)) (literals l)) (Resolvent (literals (line_at bs l.first)) (literals (line_at bs l.second)) (literals l))
    res = resolves_law (literals (line_at bs l.first)) (literals (line_at bs l.second)) (literals l)

    split : (x y z : Bool) → cond (x && y) z false ≡ true → (x ≡ true) × (y ≡ true) × (z ≡ true)
    split true true true t = (refl, refl, refl)
    split true true false t = absurd (both_ways false refl t)
    split true false z t = absurd (both_ways false refl t)
    split false y z t = absurd (both_ways false refl t)

    join : (x y z : Bool) → x ≡ true → y ≡ true → z ≡ true → cond (x && y) z false ≡ true
    join x y z e f g = grind arith

bare_law : (l : Line) → Decides (is_bare l) ((l.first ≡ 0) × (l.second ≡ 0))
bare_law l = (
  λ t. let p = and_parts (eqb l.first 0) (eqb l.second 0) t in (eqb-true l.first 0 p.0, eqb-true l.second 0 p.1),
  λ e. both (eqb l.first 0) (eqb l.second 0) (eq-eqb l.first 0 e.0) (eq-eqb l.second 0 e.1),
)
  where
    both : (x y : Bool) → x ≡ true → y ≡ true → x && y ≡ true
    both x y e f = grind arith

from_law : (bs : List ℕ) (k : ℕ) (l : Line) (t : ℕ) → t ≡ top (literals l) → Decides (stands_as bs k l (eqb t 0)) (Given l ⊎ Derived bs k l)
from_law bs k l t e = (there, back)
  where
    there : stands_as bs k l (eqb t 0) ≡ true → Given l ⊎ Derived bs k l
    there h = ⊎_elim
        (λ b. ⊎_elim
        (λ z. inr ((derived_law bs k l).0 (right_of (is_bare l) (eqb t 0) (is_derived bs k l) (eq-eqb t 0 z) h)))
        (λ z. let g = (bare_law l).0 b in inl (g.0, g.1, λ m. z (e ∙ m)))
        (cases_eq t 0))
        (λ b. inr ((derived_law bs k l).0 (other_of (is_bare l) (eqb t 0) (is_derived bs k l) b h)))
        (cases_Bool (is_bare l))
      where
        right_of : (x y z : Bool) → y ≡ true → (x && not y) || z ≡ true → z ≡ true
        right_of x y z f g = grind arith

        other_of : (x y z : Bool) → x ≡ false → (x && not y) || z ≡ true → z ≡ true
        other_of x y z f g = grind arith

    back : Given l ⊎ Derived bs k l → stands_as bs k l (eqb t 0) ≡ true
    back (inl g) = left_of (is_bare l) (eqb t 0) (is_derived bs k l) ((bare_law l).1 (g.0, g.1)) (ne_eqb t 0 (λ z. g.2 (sym e ∙ z)))
      where
        left_of : (x y z : Bool) → x ≡ true → y ≡ false → (x && not y) || z ≡ true
        left_of x y z f h = grind arith
    back (inr d) = right_in (is_bare l) (eqb t 0) (is_derived bs k l) ((derived_law bs k l).1 d)
      where
        right_in : (x y z : Bool) → z ≡ true → (x && not y) || z ≡ true
        right_in x y z f = grind arith

-- ---- a line

-- the words of a clause have no atom in common, and words that have none make a clause
apart_of : (l : Literals) (c : Clause) → clause_of l ≡ Some c → Shares l.pos l.neg → ⊥
apart_of l c e s =
    let w = clause_words l c e in
    let f = apart_word c.positive c.negative c.apart s.0 in
    both_ways _ f
    (ap (λ (x : Literals). at x.pos s.0 && at x.neg s.0) w ∙ both (at l.pos s.0) (at l.neg s.0) s.1 s.2)
  where
    both : (x y : Bool) → x ≡ true → y ≡ true → x && y ≡ true
    both x y e f = grind arith

shares_of : (l : Literals) → clause_of l ≡ None → Shares l.pos l.neg
unfolding clause_of
shares_of l e = shares l.pos l.neg (λ z. go (eqb (bit_and l.pos l.neg) 0) (eqb→eq (bit_and l.pos l.neg) 0) (eq-eqb _ 0 z) e)
  where
    go : (b : Bool) (f : T b → bit_and l.pos l.neg ≡ 0) → b ≡ true → clause_if l.pos l.neg b f ≡ None → ⊥
    go true f t n = let z : ◌≡◌ {A = ℕ} 0 1 = cc in omega arith
    go false f t n = both_ways false refl t

module _ (bs : List ℕ) (n last k : ℕ) (there : reaches bs k ≡ true) where
  abbrev l : Line
  l = line_at bs k

  clause_law : (c : Clause) → clause_of (literals l) ≡ Some c → Decides (passes_as bs last k l (within_of n (Some c))) (Right bs n last k)
  clause_law c e = ⊎_elim
      (λ (h : n < top (lits c)). moved (ap (λ (b : Bool). passes_as bs last k l (cond b None (Some c))) (lt-ltb n _ h))
      (never (λ r. let w = r.within in omega (arith, t))))
      (λ (h : top (lits c) ≤ n). moved (ap (λ (b : Bool). passes_as bs last k l (cond b None (Some c))) (ge_ltb n _ h)) (inside h))
      (cases_lt n (top (lits c)))
    where
      t : top (lits c) ≡ top (literals l)
      t = ap top (clause_words (literals l) c e)

      moved : {x y : Bool} {P : Type 0} → x ≡ y → Decides y P → Decides x P
      moved e d = (λ h. d.0 (sym e ∙ h), λ p. e ∙ d.1 p)

      ge_ltb : (a b : ℕ) → b ≤ a → ltb a b ≡ false
      ge_ltb a b h = grind (arith, nat_tests)

      split : (x y z : Bool) → cond (alike x y) z false ≡ true → (x ≡ y) × (z ≡ true)
      split true true true h = (refl, refl)
      split true true false h = absurd (both_ways false refl h)
      split true false z h = absurd (both_ways false refl h)
      split false true z h = absurd (both_ways false refl h)
      split false false true h = (refl, refl)
      split false false false h = absurd (both_ways false refl h)

      join : (x y z : Bool) → x ≡ y → z ≡ true → cond (alike x y) z false ≡ true
      join x y z h g = grind arith

      from : Decides (stands_as bs k l (eqb (top (lits c)) 0)) (Given l ⊎ Derived bs k l)
      from = from_law bs k l (top (lits c)) t

      inside : top (lits c) ≤ n → Decides (passes_as bs last k l (Some c)) (Right bs n last k)
      inside h = (
        λ p. let s = split (eqb (top (lits c)) 0) (eqb k last) _ p in
            record {
              there = there;
              apart = apart_of (literals l) c e;
              within = omega (arith, t);
              from = from.0 s.1;
              ends = (λ z. eqb-true k last (sym s.0 ∙ eq-eqb (top (lits c)) 0 (t ∙ z)), λ z. sym t ∙ eqb-true (top (lits c)) 0 (s.0 ∙ eq-eqb k last z));
            },
        λ r. join (eqb (top (lits c)) 0) (eqb k last) _ (agree r.ends.0 r.ends.1) (from.1 r.from),
      )
        where
          agree : (top (literals l) ≡ 0 → k ≡ last) → (k ≡ last → top (literals l) ≡ 0) → eqb (top (lits c)) 0 ≡ eqb k last
          agree f g = ⊎_elim
              (λ z. eq-eqb _ 0 z ∙ sym (eq-eqb k last (f (sym t ∙ z))))
              (λ z. ne_eqb _ 0 z ∙ sym (ne_eqb k last (λ q. z (t ∙ g q))))
              (cases_eq (top (lits c)) 0)

  line_law : (o : Option Clause) → clause_of (literals l) ≡ o → Decides (passes_as bs last k l (within_of n o)) (Right bs n last k)
  line_law None e = never (λ r. r.apart (shares_of (literals l) e))
  line_law (Some c) e = clause_law c e

pub passes_law : (bs : List ℕ) (n last k : ℕ) → Decides (passes bs n last k) (Right bs n last k)
passes_law bs n last k = go (reaches bs k) refl
  where
    go : (b : Bool) → reaches bs k ≡ b → Decides (passes_of bs n last k (cond b (Some (line_at bs k)) None)) (Right bs n last k)
    go true e = line_law bs n last k e (clause_of (literals (line_at bs k))) refl
    go false e = never (λ r. both_ways _ e r.there)
