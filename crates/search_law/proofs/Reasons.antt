-- The valuation and the reasons after a setting, and after atoms were cleared.
use Rattle.std.proofs.Common.{◌≡◌, ℕ, zero, suc, ◌-◌, ◌<◌, ◌≤◌, true, eqb, leb, ◌≢◌, length, get_or, take, set, replicate, Some, None, Option, sym, refl, ap, ◌∙◌, ⊎_elim, arith, length-append, length-set}
use Rattle.std.proofs.lemmas.List.{get_or-set_same, get_or-set_other, get_or_append_left, get_or-append_right, get_or-take, get_or-replicate, get_or_past, length-take-le, length-replicate}
use Rattle.std.proofs.lemmas.Bool.{cases_lt, or_right, and_parts, eq-eqb, ne_eqb, leb-true, le-leb}
use Rattle.clause.specs.Words.{at, with_atom, upto}
use Rattle.clause.proofs.Bits.{at_with, at_upto}
use Rattle.session.specs.declared.search.Search.{Search}
use Rattle.session.specs.Searching.{reason_in, reason_of, setting, cleared}

-- an atom of a new valuation
pub with_other : (v p a : ℕ) → 0 < p → (a ≡ p → ⊥) → at (with_atom v p) a ≡ at v a
with_other v p a h n = let x = at_with v p a h in let y = ne_eqb a p n in grind arith

pub with_same : (v p : ℕ) → 0 < p → at (with_atom v p) p ≡ true
with_same v p h = at_with v p p h ∙ or_right (at v p) (eqb p p) (eq-eqb p p refl)

pub keep_low : (v h a : ℕ) → a ≤ h → at (upto v h) a ≡ at v a
keep_low v h a l = let x = at_upto v h a in let y = le-leb a h l in grind arith

pub keep_true : (v h a : ℕ) → at (upto v h) a ≡ true → (at v a ≡ true) × (a ≤ h)
keep_true v h a t = let q = and_parts (at v a) (leb a h) (sym (at_upto v h a) ∙ t) in (q.0, leb-true a h q.1)

module _ (s : Search) (full : length s.reasons ≡ 64) where
  pub set_same : (p k : ℕ) → 0 < p → p ≤ 64 → reason_of (setting s p k) p ≡ Some k
  unfolding reason_in setting
  set_same zero k z l = absurd (omega arith)
  set_same (suc i) k z l =
      let e : suc i - 1 ≡ i = omega arith in
      ap (λ (j : ℕ). get_or (set s.reasons j (Some k)) i None) e ∙ get_or-set_same s.reasons i (Some k) None (omega arith)

  pub set_other : (p k q : ℕ) → 0 < p → (q ≡ p → ⊥) → reason_of (setting s p k) q ≡ reason_of s q
  unfolding reason_in setting
  set_other p k zero z n = refl
  set_other p k (suc j) z n = let m : j ≢ p - 1 = λ e. n (omega arith) in get_or-set_other s.reasons (p - 1) j (Some k) None m

  pub set_slots : (p k : ℕ) → length (setting s p k).reasons ≡ 64
  unfolding setting
  set_slots p k = length-set s.reasons (p - 1) (Some k) ∙ full

  pub clear_low : (h q : ℕ) → h ≤ 64 → q ≤ h → reason_of (cleared s h) q ≡ reason_of s q
  unfolding reason_in cleared
  clear_low h zero l m = refl
  clear_low h (suc j) l m =
      let n = length-take-le h s.reasons (omega arith) in
      get_or_append_left (take h s.reasons) (replicate (64 - h) None) None j (omega arith) ∙ get_or-take h s.reasons j None m

  pub clear_high : (h q : ℕ) → h ≤ 64 → h < q → reason_of (cleared s h) q ≡ None
  unfolding reason_in cleared
  clear_high h zero l m = refl
  clear_high h (suc j) l m =
      let n = length-take-le h s.reasons (omega arith) in
      get_or-append_right (take h s.reasons) (replicate (64 - h) None) h j None n (omega arith)
      ∙ ⊎_elim
      (λ z. get_or-replicate (64 - h) (j - h) None None z)
      (λ z. get_or_past (replicate (64 - h) None) (j - h) None (let r = length-replicate {A = Option ℕ} (64 - h) None in omega arith))
      (cases_lt (j - h) (64 - h))

  pub clear_slots : (h : ℕ) → h ≤ 64 → length (cleared s h).reasons ≡ 64
  unfolding cleared
  clear_slots h l =
      let n = length-take-le h s.reasons (omega arith) in
      let m = length-append (take h s.reasons) (replicate (64 - h) None) in
      let r = length-replicate {A = Option ℕ} (64 - h) None in
      omega arith
