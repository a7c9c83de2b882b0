-- A setting is named by the atom that became true and by its reason.
use Rattle.std.proofs.Common.{◌≡◌, ℕ, zero, suc, ◌-◌, ◌<◌, ◌≤◌, true, false, ◌||◌, eqb, ltb, length, get_or, set, Some, None, Option, sym, refl, ap, ◌∙◌, ⊎_elim, arith}
use Rattle.std.proofs.lemmas.List.{get_or-set_same}
use Rattle.std.proofs.lemmas.Bool.{cond-true, cases_Bool, cases_eq, eq-eqb, ne_eqb, lt-ltb, or_right}
use Rattle.clause.specs.Words.{at, with_atom}
use Rattle.clause.proofs.Bits.{at_with}
use Rattle.store.specs.declared.entry.Entry.{Entry}
use Rattle.session.specs.declared.report.Tally.{Tally}
use Rattle.session.specs.declared.search.Search.{Search}
use Rattle.session.specs.Searching.{reason_in, reason_in, reason_of, setting}
use Rattle.reply.specs.declared.action.Action.{Action}
use Rattle.reply.specs.Actions.{gained_to, set_by, set_in, action_of, NamesSettings}
use Rattle.reply.proofs.Gains.{found, absent, old}

module _ (v p : ℕ) (some : 0 < p) (new : at v p ≡ false) where
  here : at (with_atom v p) p ≡ true
  here = at_with v p p some ∙ or_right (at v p) (eqb p p) (eq-eqb p p refl)

  elsewhere : (a : ℕ) → (a ≡ p → ⊥) → at (with_atom v p) a ≡ (at v a || false)
  elsewhere a n = at_with v p a some ∙ ap (λ b. at v a || b) (ne_eqb a p n)

  -- p is the highest atom that is gained
  highest : (k : ℕ) → p ≤ k → gained_to k v (with_atom v p) ≡ p
  highest zero h = absurd (omega arith)
  highest (suc k) h = ⊎_elim
      (λ e. ap (λ n. gained_to n v (with_atom v p)) e ∙ sym (found v (with_atom v p) p some here new))
      (λ n.
      let lower : p ≤ k = omega arith in
      let down : suc k - 1 ≡ k = omega arith in
      let skipped = ⊎_elim
      (old v (with_atom v p) (suc k) (omega arith))
      (λ f. absent v (with_atom v p) (suc k) (omega arith) (elsewhere (suc k) n ∙ ap (λ b. b || false) f))
      (cases_Bool (at v (suc k)))
      in skipped ∙ ap (λ m. gained_to m v (with_atom v p)) down ∙ highest k lower)
      (cases_eq (suc k) p)

  pub gained_is : p ≤ 64 → gained_to 64 v (with_atom v p) ≡ p
  gained_is h = highest 64 h

reason_is : (s : Search) (p k : ℕ) → 0 < p → p ≤ 64 → length s.reasons ≡ 64 → reason_of (setting s p k) p ≡ Some k
unfolding reason_in setting
reason_is s zero k z h l = absurd (omega arith)
reason_is s (suc j) k z h l =
    let down : suc j - 1 ≡ j = omega arith in
    ap (λ i. get_or (set s.reasons i (Some k)) j None) down ∙ get_or-set_same s.reasons j (Some k) None (omega arith)

valuation_is : (s : Search) (p k : ℕ) → (setting s p k).valuation ≡ with_atom s.valuation p
unfolding setting
valuation_is s p k = refl

pub names_settings : (s t : Search) (made : Tally) (size : ℕ) (last : Option Entry) (r : Option Action) → r ≡ action_of s t made size last → NamesSettings s t made r
names_settings s t made size last r is p k z h new l e some =
    let word = ap (λ x. x.valuation) e ∙ valuation_is s p k in
    is ∙ cond-true (ltb 0 made.settings) _ _ (lt-ltb 0 made.settings some) ∙
    ap (λ w. set_in t (gained_to 64 s.valuation w)) word ∙ ap (set_in t) (gained_is s.valuation p z new h) ∙
    ap (set_by p) (ap (λ x. reason_of x p) e ∙ reason_is s p k z h l)

-- where no atom became true, no setting is named
pub none_named : (s t : Search) (made : Tally) (size : ℕ) (last : Option Entry) → 0 < made.settings → gained_to 64 s.valuation t.valuation ≡ 0 → None ≡ action_of s t made size last
unfolding reason_in
none_named s t made size last some e = sym (cond-true (ltb 0 made.settings) _ _ (lt-ltb 0 made.settings some) ∙ ap (set_in t) e)
