-- What the meaning of a store says of its answers.
use Rattle.std.proofs.Common.{◌≡◌, ℕ, zero, suc, ◌<◌, Bool, true, false, cond, List, [], ◌∷◌, ◌++◌, length, get_or, Some, None, Option, sym, refl, ap, ◌∙◌, subst, ⊎_elim, arith, length-append, MatchOption}
use lib.ListN.{get_or-append}
use Rattle.std.proofs.lemmas.Bool.{cases_lt, eq-eqb, and_from}
use Rattle.std.proofs.lemmas.List.{get_or_push}
use Rattle.std.proofs.lemmas.Option.{slice_get-get_or, slice_get_past as nth_past}
use Rattle.clause.specs.declared.words.Clause.{Clause}
use Rattle.clause.specs.Clauses.{lits, makes, same}
use Rattle.clause.specs.Order.{Before}
use Rattle.clause.proofs.Ranks.{rank_before}
use Rattle.store.specs.declared.entry.Entry.{Entry}
use Rattle.store.specs.Held.{Held, Pick, blank, clause_at, entry_at, found, least_from, number_of, after_put_at, pushed, full}
use Rattle.store.specs.Laws.{AllTrue, FirstFalse, LeastFalseLaw, Lacks, Holds, FindLaw, PutLaw}
use Rattle.store.proofs.Finds.{none_found, some_found}
use Rattle.store.proofs.Leasts.{Law, least_law}

-- an entry by its number, as an element of the list
pub record Seen (es : List Entry) (k : ℕ) (e : Entry) : Type 0 where
  pub index : ℕ
  pub number : k ≡ suc index
  pub within : index < length es
  pub is : e ≡ get_or es index blank

some_is : (x y : Entry) → ◌≡◌ {A = Option Entry} (Some x) (Some y) → x ≡ y
some_is x y e = cc

pub entry_seen : (es : List Entry) (k : ℕ) (e : Entry) → entry_at es k ≡ Some e → Seen es k e
entry_seen es zero e q = let z : ◌≡◌ {A = ℕ} 0 1 = cc in absurd (omega arith)
entry_seen es (suc k) e q = ⊎_elim
    (λ l. record { index = k; number = refl; within = l; is = some_is _ _ (sym q ∙ slice_get-get_or es k blank l) })
    (λ l. let n = nth_past es k l in let z : ◌≡◌ {A = ℕ} 0 1 = cc in absurd (omega arith))
    (cases_lt k (length es))

pub entry_there : (es : List Entry) (k : ℕ) → k < length es → entry_at es (suc k) ≡ Some (get_or es k blank)
entry_there es k l = slice_get-get_or es k blank l

-- of every entry by its number, what holds of each element
pub by_number : (P : Clause → Type 0) (es : List Entry) → ((j : ℕ) → j < length es → P (clause_at es j)) → (k : ℕ) (e : Entry) → entry_at es k ≡ Some e → P e.clause
by_number P es h k e q = let s = entry_seen es k e q in subst (λ (x : Entry). P x.clause) (sym s.is) (h s.index s.within)

pub least_false_law : LeastFalseLaw
least_false_law h v = go (least_from 1 h.entries v) (least_law 1 h.entries v)
  where
    go : (o : Option Pick) → Law 1 h.entries v o → MatchOption (number_of o) (AllTrue h v) (FirstFalse h v)
    go None w = by_number (λ c. makes v (lits c) ≡ true) h.entries w
    go (Some p) w =
        let m = w.number in
        let e : p.number ≡ suc w.index = omega arith in
        record {
          entry = get_or h.entries w.index blank;
          is = rw e (entry_there h.entries w.index w.within);
          untrue = w.untrue;
          first = by_number (λ c. makes v (lits c) ≡ false → Before (lits c) (lits (clause_at h.entries w.index)) → ⊥) h.entries
              (λ j l f b. let x = w.least j l f in let y = rank_before _ _ b in omega arith);
        }

pub find_law : FindLaw
find_law h c = go (found h c) refl
  where
    go : (o : Option ℕ) → found h c ≡ o → MatchOption o (Lacks h c) (Holds h c)
    go None e = by_number (λ d. same d c ≡ false) h.entries (none_found 1 h.entries c e)
    go (Some k) e =
        let s = some_found 1 h.entries c k e in
        let n = s.number in
        let z : k ≡ suc s.index = omega arith in
        (get_or h.entries s.index blank, ap (entry_at h.entries) z ∙ entry_there h.entries s.index s.within, s.is)

same_self : (c : Clause) → same c c ≡ true
same_self c = and_from _ _ (eq-eqb c.positive c.positive refl) (eq-eqb c.negative c.negative refl)

pushed_keeps : (es : List Entry) (e : Entry) (k : ℕ) (x : Entry) → entry_at es k ≡ Some x → entry_at (es ++ (e ∷ [])) k ≡ Some x
pushed_keeps es e k x q =
    let s = entry_seen es k x q in
    let n = s.number in
    let w = s.within in
    let l = length-append es (e ∷ []) in
    rw n (entry_there (es ++ (e ∷ [])) s.index (omega arith) ∙ ap (λ (y : Entry). Some y) (get_or-append es (e ∷ []) blank s.index w ∙ sym s.is))

pushed_holds : (h : Held) (e : Entry) → Holds (pushed h e) e.clause (suc (length h.entries))
pushed_holds h e =
    let l = length-append h.entries (e ∷ []) in
    (e, entry_there (h.entries ++ (e ∷ [])) (length h.entries) (omega arith) ∙ ap (λ (y : Entry). Some y) (get_or_push h.entries e blank (length h.entries) refl), same_self e.clause)

-- the store after a put, by what was found and whether it is full
abbrev put_at : Held → Entry → Option ℕ → Bool → Held
put_at h e (Some k) b = h
put_at h e None b = cond b h (pushed h e)

put_is : (h : Held) (e : Entry) (o : Option ℕ) → after_put_at h e o ≡ put_at h e o (full h)
put_is h e (Some k) = refl
put_is h e None = refl

pub put_law : PutLaw
put_law h e =
    let same_after = put_is h e (found h e.clause) in (
      λ k x q. ap (λ (g : Held). entry_at g.entries k) same_after ∙ keeps (found h e.clause) (full h) k x q,
      λ f. let r = holds (found h e.clause) refl (full h) f in (r.0, subst (λ (g : Held). Holds g e.clause r.0) (sym same_after) r.1),
    )
  where
    keeps : (o : Option ℕ) (b : Bool) (k : ℕ) (x : Entry) → entry_at h.entries k ≡ Some x → entry_at (put_at h e o b).entries k ≡ Some x
    keeps (Some j) b k x q = q
    keeps None true k x q = q
    keeps None false k x q = pushed_keeps h.entries e k x q

    holds : (o : Option ℕ) → found h e.clause ≡ o → (b : Bool) → b ≡ false → (k : ℕ) × Holds (put_at h e o b) e.clause k
    holds (Some j) q b f = (j, subst (λ (o : Option ℕ). MatchOption o (Lacks h e.clause) (Holds h e.clause)) q (find_law h e.clause))
    holds None q true f = let z : ◌≡◌ {A = ℕ} 0 1 = cc in absurd (omega arith)
    holds None q false f = (suc (length h.entries), pushed_holds h e)
