-- What a walk along links finds.
use Rattle.std.proofs.Common.{◌≡◌, ℕ, suc, ◌-◌, ◌<◌, ◌≤◌, true, false, ◌≢◌, List, get_or, Ordering, Less, Equal, Greater, is_eq, MatchOption, sym, ap, ◌∙◌, subst, ⊎_elim, arith, rules}
use Rattle.std.specs.Bool.{Decides, then_some}
use Rattle.std.proofs.lemmas.Bool.{cases_lt, both_ways}
use Rattle.clause.specs.declared.words.Clause.{Clause}
use Rattle.clause.specs.Clauses.{lits, same}
use Rattle.std.specs.Cmp.Rules.{comparing}
use Rattle.clause.specs.Order.{rank, Compares, clause_cmp}
use Rattle.store.specs.declared.entry.Entry.{Entry}
use Rattle.store.specs.Held.{blank}
use Rattle.skip_store.specs.Links.{spot_of, spot, Next, Prev, Apart, Lacks, Holds, fails, AllTrue, FirstFalse}
use Rattle.skip_store.proofs.Levels.{on_lowest}
use Rattle.skip_store.proofs.Spots.{spot_entry, spot_head}

-- one place further on both sides
further : (m n : ℕ) (o : Ordering) → Compares m n o → Compares (suc m) (suc n) o
further m n Less h = omega arith
further m n Equal h = ap suc h
further m n Greater h = omega arith

-- how the clause d of entry k compares with c
pub compares : (es : List Entry) (k : ℕ) (c d : Clause) (o : Ordering) → 0 < k → d ≡ (get_or es (k - 1) blank).clause → Compares (rank (lits d)) (rank (lits c)) o → Compares (spot es k) (spot_of c) o
compares es k c d o p e h =
    subst (λ x. Compares x (spot_of c) o) (ap spot_of e ∙ sym (spot_entry es k p)) (further (rank (lits d)) (rank (lits c)) o h)

-- where no entry after the last one before t stands at t, none does
pub lacks : (es : List Entry) (n c prev k : ℕ) → 0 < c → Prev (spot es) n 0 c prev → Next (spot es) n 0 prev k → (0 < k → spot es k ≡ c → ⊥) → Lacks es n c
lacks es n t prev k z p x f m q e =
    let h = spot_head es in
    let d : m ≢ 0 = λ y. let w : spot es m ≡ spot es 0 = ap (spot es) y in omega arith in
    let b = p.before in
    let l = x.least m (omega arith) q (on_lowest m) (omega arith) in
    let a = x.after l.0 in
    let g = p.last k l.0 x.within (on_lowest k) in
    f l.0 (grind arith)

-- ---- along the lowest level, from one entry to the next, k

-- the entries after `from` up to `last` are true
abbrev pub TrueTo : List Entry → ℕ → ℕ → ℕ → ℕ → Type 0
TrueTo es n from v last =
    (last ≤ n) × (spot es from ≤ spot es last) × ((m : ℕ) → 0 < m → m ≤ n → spot es from < spot es m → spot es m ≤ spot es last → fails es v m ≡ false)

module _ (es : List Entry) (n from v last k : ℕ) (apart : Apart (spot es) n) (t : TrueTo es n from v last) (x : Next (spot es) n 0 last k) where
  -- each entry was passed, or stands after the last one
  pub none_false : k ≡ 0 → AllTrue es n from v
  none_false z m p q f = ⊎_elim (λ l. absurd (let y = x.least m p q (on_lowest m) l in omega arith)) (λ l. t.2 m p q f l) (cases_lt (spot es last) (spot es m))

  pub first_false : 0 < k → true ≡ fails es v k → FirstFalse es n from v k
  first_false p u =
      let a = x.after p in
      record {
        some = p;
        within = x.within;
        after = omega (arith, t.1);
        untrue = sym u;
        first = λ m b c f g. ⊎_elim (λ l. (x.least m b c (on_lowest m) l).1) (λ l. absurd (both_ways _ (t.2 m b c f l) g)) (cases_lt (spot es last) (spot es m));
      }

  pub true_more : 0 < k → false ≡ fails es v k → TrueTo es n from v k
  true_more p u =
      let a = x.after p in (
        x.within,
        omega (arith, t.1),
        λ m b c f g. ⊎_elim
            (λ l. let e : m ≡ k = apart m k (c, x.within, (let y = (x.least m b c (on_lowest m) l).1 in omega arith)) in subst (λ j. fails es v j ≡ false) (sym e) (sym u))
            (λ l. t.2 m b c f l)
            (cases_lt (spot es last) (spot es m)),
      )

-- ---- what a comparison says

-- clauses that compare as equal are the same
decides : (c d : Clause) → Decides (same c d) (clause_cmp c d ≡ Equal)
decides = search (comparing, rules)

-- the entry k after the last one before c has c where the two compare as equal, and else no entry has
pub held_or_not : (es : List Entry) (n prev k : ℕ) (c : Clause) (o : Ordering) → Prev (spot es) n 0 (spot_of c) prev → (0 < k) × Next (spot es) n 0 prev k
    → o ≡ clause_cmp (get_or es (k - 1) blank).clause c → Compares (spot es k) (spot_of c) o
    → MatchOption (then_some (is_eq o) k) (Lacks es n (spot_of c)) (λ j. Holds es n c j)
held_or_not es n prev k c Less p x f h = lacks es n (spot_of c) prev k (omega arith) p x.1 (λ _ e. omega arith)
held_or_not es n prev k c Equal p x f h = record { some = x.0; within = x.1.within; is = (decides (get_or es (k - 1) blank).clause c).1 (sym f) }
held_or_not es n prev k c Greater p x f h = lacks es n (spot_of c) prev k (omega arith) p x.1 (λ _ e. omega arith)
