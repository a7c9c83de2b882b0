-- An opening without refusal begins with the invariant.
use Rattle.std.proofs.Common.{◌≡◌, ℕ, zero, suc, ◌≤◌, Bool, true, false, cond, eqb, ltb, [], replicate, Some, None, Option, sym, refl, subst, ⊎_elim, arith, lit<}
use Rattle.std.proofs.lemmas.List.{get_or-replicate, get_or_past, length-replicate}
use Rattle.std.proofs.lemmas.Bool.{cases_lt, both_ways, or_parts, eqb-true, ltb-false}
use Rattle.clause.specs.declared.refusal.Refusal.{Refusal}
use Rattle.clause.specs.declared.refusal.Refusal.TheVariants.{AtomCount, NoPlaces, StoreHoldsEntry}
use Rattle.clause.specs.Reading.{outside}
use Rattle.clause.proofs.Bits.{at_zero}
use Rattle.store.specs.Held.{Held, Kept, size}
use Rattle.session.specs.declared.search.Phase.TheVariants.{Undecided}
use Rattle.session.specs.Searching.{fresh, reason_in}
use Rattle.session.specs.Calls.{due, opening}
use Rattle.search_law.specs.Law.{Inv, OpenLaw}

no_reasons : (p : ℕ) → reason_in (replicate 64 None) p ≡ None
unfolding reason_in
no_reasons zero = refl
no_reasons (suc j) = ⊎_elim
    (λ l. get_or-replicate 64 j None None l)
    (λ l. get_or_past (replicate 64 None) j None (let n = length-replicate {A = Option ℕ} 64 None in omega arith))
    (cases_lt j 64)

-- nothing is due
none_due : (x y z : Bool) → ◌≡◌ {A = Option Refusal} (cond x (Some AtomCount) (cond y (Some NoPlaces) (cond z None (Some StoreHoldsEntry)))) None → (x ≡ false) × (z ≡ true)
none_due true y z e = let q : ◌≡◌ {A = ℕ} 0 1 = cc in absurd (omega arith)
none_due false true z e = let q : ◌≡◌ {A = ℕ} 0 1 = cc in absurd (omega arith)
none_due false false true e = (refl, refl)
none_due false false false e = let q : ◌≡◌ {A = ℕ} 0 1 = cc in absurd (omega arith)

begins : (n : ℕ) (h : Held) → Kept h → n ≤ 64 → size h ≡ 0 → Inv [] h (fresh n Undecided)
begins n h k l z = record {
  to = λ v m i q. absurd (omega arith);
  fro = λ v m i q. absurd (omega arith);
  reasons = λ p t. absurd (both_ways _ (at_zero p) t);
  none = λ p t. no_reasons p;
  below = λ i p q. absurd (omega arith);
  ordinary = λ i q. absurd (omega arith);
  says = tt;
  few = l;
  room = k.within;
  limit = k.few;
  fits = lit< tt;
  slots = length-replicate {A = Option ℕ} 64 None;
  entries = omega arith;
  settings = omega arith;
}

-- the store is empty
pub none_held : (n : ℕ) (h : Held) → due n h ≡ None → size h ≡ 0
none_held n h e = eqb-true (size h) 0 (none_due (outside 64 n) (eqb h.places 0) (eqb (size h) 0) e).1

pub open_law : OpenLaw
open_law n h k e =
    let q = none_due (outside 64 n) (eqb h.places 0) (eqb (size h) 0) e in
    let l = ltb-false 64 n (or_parts (eqb n 0) (ltb 64 n) q.0).1 in
    subst (λ (o : Option Refusal). Inv [] h (fresh n (opening o))) (sym e) (begins n h k l (eqb-true (size h) 0 q.1))
