-- The entry that a step acts on.
use Rattle.std.proofs.Common.{◌≡◌, ℕ, suc, ◌<◌, true, false, get_or, Some, None, Option, sym, ap, ◌∙◌, subst, arith}
use Rattle.clause.specs.Words.{at, with_atom}
use Rattle.clause.specs.Clauses.{lits, makes, top}
use Rattle.store.specs.declared.entry.Entry.{Entry}
use Rattle.store.specs.Held.{Held, Pick, size, blank, clause_at, entry_at, least_from, number_of}
use Rattle.store.proofs.Leasts.{Law, least_law}
use Rattle.store.proofs.Meanings.{entry_there}
use Rattle.session.specs.declared.search.Search.{Search}
use Rattle.search_law.proofs.Derivations.{derives}
use Rattle.search_law.proofs.Settings.{set_rises, set_peak}
use Rattle.search_law.specs.Law.{Acts, Derived, DeriveLaw, SettingLaw}
use Rattle.search_law.specs.Models.{peak}

record Target (h : Held) (v k : ℕ) (e : Entry) : Type 0 where
  index : ℕ
  number : k ≡ suc index
  within : index < size h
  is : e ≡ get_or h.entries index blank
  untrue : makes v (lits (clause_at h.entries index)) ≡ false

target : (h : Held) (s : Search) (k : ℕ) (e : Entry) → Acts h s k e → Target h s.valuation k e
target h s k e a = go (least_from 1 h.entries s.valuation) (least_law 1 h.entries s.valuation) a.first
  where
    go : (o : Option Pick) → Law 1 h.entries s.valuation o → number_of o ≡ Some k → Target h s.valuation k e
    go None l q = let z : ◌≡◌ {A = ℕ} 0 1 = cc in absurd (omega arith)
    go (Some p) l q =
        let x : p.number ≡ k = cc in
        let y = l.number in
        let n : k ≡ suc l.index = omega arith in
        let t = sym a.held ∙ ap (entry_at h.entries) n ∙ entry_there h.entries l.index l.within in
        record { index = l.index; number = n; within = l.within; is = same_entry e _ t; untrue = l.untrue }
      where
        same_entry : (x y : Entry) → ◌≡◌ {A = Option Entry} (Some x) (Some y) → x ≡ y
        same_entry x y q = cc

pub derive_law : DeriveLaw
derive_law acc h s I k e a minus =
    let t = target h s k e a in
    subst (λ (n : ℕ). Derived h s n e.clause) (sym t.number)
    (subst (λ (x : Entry). at x.clause.positive (top (lits x.clause)) ≡ false → Derived h s (suc t.index) x.clause) (sym t.is)
    (λ m. derives acc h s I t.index t.within t.untrue m) minus)

pub setting_law : SettingLaw
setting_law acc h s I k e a plus =
    let t = target h s k e a in
    subst (λ (x : Entry). at x.clause.positive (top (lits x.clause)) ≡ true
    → (peak s.valuation < top (lits x.clause)) × (peak (with_atom s.valuation (top (lits x.clause))) ≡ top (lits x.clause))) (sym t.is)
    (λ m. (set_rises acc h s I t.index t.within t.untrue m, set_peak acc h s I t.index t.within t.untrue m)) plus
