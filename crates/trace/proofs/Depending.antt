-- Marks and lines by the antecedents of the entries.
use Rattle.std.proofs.Common.{◌≡◌, ℕ, zero, suc, ◌+◌, ◌<◌, ◌≤◌, Bool, true, false, cond, ◌≢◌, List, [], ◌∷◌, ◌++◌, length, sym, refl, ap, ◌∙◌, subst, inl, inr, ⊎_elim, arith, length-append}
use Rattle.std.proofs.lemmas.List.{get_or_past}
use Rattle.std.proofs.lemmas.Bool.{cases_lt}
use Rattle.store.specs.declared.entry.Entry.{Entry}
use Rattle.store.specs.Held.{blank}
use Rattle.trace.specs.Marks.{entry_of, marked, marks_of}
use Rattle.trace.specs.Lines.{order, place, written}
use Rattle.trace.specs.Laws.{Antecedent, Reached, Depends, Ordered, MarkLaw, LineLaw}
use Rattle.trace.proofs.Marking.{Marked}
use Rattle.trace.proofs.Computed.{marks_law}
use Rattle.trace.proofs.Numbering.{order_on, order_off, order_within, place_push, place_last}

-- ---- marks

module _ (es : List Entry) (r c : ℕ) (m : ℕ → Bool) (M : Marked es r c m) where
  -- a marked entry is reached
  reached : (d k : ℕ) → 1 ≤ k → k ≤ length es → length es < k + d → m k ≡ true → Depends es r c k
  unfolding Marked
  reached zero k lo hi h t = absurd (omega arith)
  reached (suc d) k lo hi h t = ⊎_elim
      (λ e. (0, e))
      (λ p. let a = p.later in let x = reached d p.user (omega arith) p.held (omega arith) p.written in (suc x.0, (p.user, x.1, p.names)))
      ((M k lo hi).0 t)

  -- only entries have antecedents
  has_antecedent : (u k : ℕ) → 1 ≤ k → Antecedent (entry_of es u) k → (1 ≤ u) × (u ≤ length es)
  has_antecedent zero k lo a = absurd (⊎_elim (λ (e : 0 ≡ k). omega arith) (λ (e : 0 ≡ k). omega arith) a)
  has_antecedent (suc i) k lo a = ⊎_elim
      (λ l. (omega arith, omega arith))
      (λ l. absurd (let q = get_or_past es i blank l in
      ⊎_elim (λ e. let z = ap (λ (x : Entry). x.first) q in omega arith) (λ e. let z = ap (λ (x : Entry). x.second) q in omega arith) a))
      (cases_lt i (length es))

  -- what is reached is marked
  is_marked : Ordered es → (d k : ℕ) → 1 ≤ k → k ≤ length es → Reached es r c d k → m k ≡ true
  unfolding Marked
  is_marked o zero k lo hi p = (M k lo hi).1 (inl p)
  is_marked o (suc d) k lo hi p =
      let u = p.0 in
      let i = has_antecedent u k lo p.2 in
      let b = o u i.0 i.1 in
      let f : (entry_of es u).first < u = b.0 in
      let s : (entry_of es u).second < u = b.1 in
      let l : k < u = ⊎_elim (λ e. omega arith) (λ e. omega arith) p.2 in
      (M k lo hi).1 (inr (record { user = u; later = l; held = i.1; written = is_marked o d u i.0 i.1 p.1; names = p.2 }))

pub mark_law : MarkLaw
mark_law es r c o k lo hi =
    let M = marks_law r c es in
    let m = marked (marks_of es r c) in
    (λ t. reached es r c m M (length es) k lo hi (omega arith) t, λ p. is_marked es r c m M o p.0 k lo hi p.1)

-- ---- lines

module _ (m : ℕ → Bool) where
  pub length_mono : (j k : ℕ) → j ≤ k → length (order m j) ≤ length (order m k)
  unfolding order
  length_mono j zero l = let e : j ≡ 0 = omega arith in rw e (omega arith)
  length_mono j (suc k) l = ⊎_elim
      (λ z. let h = length_mono j k (omega arith) in go (m (suc k)) h)
      (λ z. let e : j ≡ suc k = omega arith in rw e (omega arith))
      (cases_lt j (suc k))
    where
      go : (b : Bool) → length (order m j) ≤ length (order m k) → length (order m j) ≤ length (cond b (order m k ++ suc k ∷ []) (order m k))
      go true h = let e = length-append (order m k) (suc k ∷ []) in omega arith
      go false h = h

  length_on : (i : ℕ) → m (i + 1) ≡ true → length (order m (i + 1)) ≡ length (order m i) + 1
  length_on i t = ap length (order_on m i t) ∙ length-append (order m i) ((i + 1) ∷ [])

  -- the line of a marked entry: as many as there are marked entries up to it
  pub place_is : (n k : ℕ) → 1 ≤ k → k ≤ n → m k ≡ true → place (order m n) k ≡ length (order m k)
  place_is zero k lo hi t = absurd (omega arith)
  place_is (suc i) k lo hi t =
      let s : i + 1 ≡ suc i = omega arith in
      subst (λ (n : ℕ). place (order m n) k ≡ length (order m k)) s
      (⊎_elim (λ l. old (omega arith) (place_is i k lo (omega arith) t)) (λ l. new (omega arith)) (cases_lt k (suc i)))
    where
      old : (i + 1 ≢ k) → place (order m i) k ≡ length (order m k) → place (order m (i + 1)) k ≡ length (order m k)
      old ne ih = step (m (i + 1)) refl
        where
          step : (b : Bool) → m (i + 1) ≡ b → place (order m (i + 1)) k ≡ length (order m k)
          step true e = ap (λ (ks : List ℕ). place ks k) (order_on m i e) ∙ place_push 1 (order m i) (i + 1) k ne ∙ ih
          step false e = ap (λ (ks : List ℕ). place ks k) (order_off m i e) ∙ ih

      new : i + 1 ≡ k → place (order m (i + 1)) k ≡ length (order m k)
      new e =
          let t' : m (i + 1) ≡ true = ap m e ∙ t in
          ap (λ (ks : List ℕ). place ks k) (order_on m i t') ∙ ap (λ (j : ℕ). place (order m i ++ (i + 1) ∷ []) j) (sym e)
          ∙ place_last i 1 (order m i) (i + 1) (order_within m i) (omega arith)
          ∙ omega (arith, length_on i t') ∙ ap (λ (j : ℕ). length (order m j)) e

  pub less : (j k : ℕ) → j < k → m k ≡ true → length (order m j) < length (order m k)
  less j zero l t = absurd (omega arith)
  less j (suc i) l t =
      let s : i + 1 ≡ suc i = omega arith in
      let e = length_on i (ap m s ∙ t) in
      let h = length_mono j i (omega arith) in
      let q = ap (λ (x : ℕ). length (order m x)) s in omega arith

  pub some : (k : ℕ) → 1 ≤ k → m k ≡ true → 1 ≤ length (order m k)
  some k lo t = let h = less 0 k lo t in omega arith

  -- each line is that of a marked entry
  pub record At (n i : ℕ) : Type 0 where
    pub entry : ℕ
    pub low : 1 ≤ entry
    pub high : entry ≤ n
    pub on : m entry ≡ true
    pub at : length (order m entry) ≡ i

  later : (n i : ℕ) → At n i → At (suc n) i
  later n i f = let w = f.high in record { entry = f.entry; low = f.low; high = omega arith; on = f.on; at = f.at }

  pub entry_at : (n i : ℕ) → 1 ≤ i → i ≤ length (order m n) → At n i
  unfolding order
  entry_at zero i lo hi = absurd (omega arith)
  entry_at (suc n) i lo hi = go (entry_at n i lo) (m (suc n)) refl hi
    where
      go : (i ≤ length (order m n) → At n i) → (b : Bool) → m (suc n) ≡ b → i ≤ length (cond b (order m n ++ suc n ∷ []) (order m n)) → At (suc n) i
      go ih true t h =
          let e = length-append (order m n) (suc n ∷ []) in
          ⊎_elim
          (λ l. later n i (ih (omega arith)))
          (λ l. let s : n + 1 ≡ suc n = omega arith in
          let q = length_on n (ap m s ∙ t) in
          let z = ap (λ (x : ℕ). length (order m x)) s in
          record { entry = suc n; low = omega arith; high = omega arith; on = t; at = omega arith })
          (cases_lt i (length (order m n) + 1))
      go ih false t h = later n i (ih h)

pub line_law : LineLaw
unfolding marked
line_law es r c =
    let m = marked (marks_of es r c) in
    let n = length es in
    record {
      there = λ k lo hi t. let p = place_is m n k lo hi t in let a = some m k lo t in let b = length_mono m k n hi in (omega arith, omega arith);
      from = λ i lo hi. let f = entry_at m n i lo hi in
          record { entry = f.entry; some = f.low; held = f.high; on = f.on; at = place_is m n f.entry f.low f.high f.on ∙ f.at };
      rising = rises;
    }
  where
    rises : (j k : ℕ) → j < k → k ≤ length es → marked (marks_of es r c) j ≡ true → marked (marks_of es r c) k ≡ true → place (written es r c) j < place (written es r c) k
    rises zero k l hi s t = absurd (let z : ◌≡◌ {A = ℕ} 0 1 = cc in omega arith)
    rises (suc j) k l hi s t =
        let m = marked (marks_of es r c) in
        let n = length es in
        let p = place_is m n (suc j) (omega arith) (omega arith) s in
        let q = place_is m n k (omega arith) hi t in
        let h = less m (suc j) k l t in omega arith
