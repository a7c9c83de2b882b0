-- Chains of links: where a walk stops, and what one entry more does to them.
use Rattle.std.proofs.Common.{◌≡◌, ℕ, ◌+◌, ◌<◌, ◌≤◌, ◌≢◌, ◌⊎◌, sym, ap, subst, ⊎_elim, arith}
use Rattle.std.proofs.lemmas.Bool.{cases_eq}
use Rattle.skip_store.specs.Links.{On, Next, Prev, Linked, Apart}

-- where the walk on a level stops: there is no next entry, or it does not stand before t
pub stop : (ps : ℕ → ℕ) (s l t j n : ℕ) → Next ps s l j n → j ≤ s → On l j → ps j < t → (n ≡ 0) ⊎ (t ≤ ps n) → Prev ps s l t j
stop ps s l t j n x w o b e = record {
  within = w;
  level = o;
  before = b;
  last = λ m p q r u. let f = x.least m p q r in grind arith;
}

-- a level that a new entry is linked on: its predecessor j leads to it, and it to where its predecessor led
module _ (ps : ℕ → ℕ) (lk lk' : ℕ → ℕ → ℕ) (s l j : ℕ) (on : On l (s + 1)) (was : Linked ps lk s l) (at : Prev ps s l (ps (s + 1)) j)
    (apart : Apart ps s) (new : (m : ℕ) → m ≤ s → ps m ≡ ps (s + 1) → ⊥) (low : (m : ℕ) → ps 0 ≤ ps m)
    (here : lk' j l ≡ s + 1) (there : lk' (s + 1) l ≡ lk j l) (else : (i : ℕ) → i ≤ s → On l i → i ≢ j → lk' i l ≡ lk i l) where
  at_pred : Next ps (s + 1) l j (s + 1)
  at_pred = record {
    within = omega arith;
    level = on;
    after = λ _. at.before;
    least = λ m p q r u. (omega arith, least m p q r u);
  }
    where
      least : (m : ℕ) → 0 < m → m ≤ s + 1 → On l m → ps j < ps m → ps (s + 1) ≤ ps m
      least m p q r u = ⊎_elim (λ e. grind arith) (λ e. let f = at.last m p (omega arith) r in grind arith) (cases_eq m (s + 1))

  at_new : Next ps (s + 1) l (s + 1) (lk j l)
  at_new =
      let x = was j at.within at.level in
      let f = at.last (lk j l) in
      let g = new (lk j l) in
      record {
        within = omega (arith, x.within);
        level = x.level;
        after = λ p. let z = f p x.within x.level in grind arith;
        least = λ m p q r u.
            let f : m ≤ s → ps j < ps m → (0 < lk j l) × (ps (lk j l) ≤ ps m) = λ h. x.least m p h r in
            let b = at.before in
            let n : m ≢ s + 1 = λ e. grind arith in
            f (omega arith) (omega arith);
      }

  at_other : (i : ℕ) → i ≤ s → i ≢ j → On l i → Next ps (s + 1) l i (lk i l)
  at_other i h ne o =
      let x = was i h o in
      record {
        within = omega (arith, x.within);
        level = x.level;
        after = x.after;
        least = λ m p q r u. ⊎_elim (λ e. over m e u) (λ e. x.least m p (omega arith) r u) (cases_eq m (s + 1));
      }
    where
      over : (m : ℕ) → m ≡ s + 1 → ps i < ps m → (0 < lk i l) × (ps (lk i l) ≤ ps m)
      over m e u =
          let x = was i h o in
          let b = at.before in
          let w = at.within in
          let a : ps i ≡ ps j → i ≡ j = λ q. apart i j (h, w, q) in
          let z = low i in
          let lo : ps i ≤ ps j = ⊎_elim (λ c. let y : ps i ≡ ps 0 = ap ps c in omega (arith, low j)) (λ c. let f = at.last i (omega arith) h o in grind arith) (cases_eq i 0) in
          let jp : j ≢ 0 = λ c. let y : ps j ≡ ps 0 = ap ps c in grind arith in
          let st : ps i < ps j = grind arith in
          let g = x.least j (omega arith) w at.level st in
          let y : ps m ≡ ps (s + 1) = ap ps e in
          (g.0, omega arith)

  pub linked_in : Linked ps lk' (s + 1) l
  linked_in i h o =
      ⊎_elim
      (λ e. subst (λ y. Next ps (s + 1) l y (lk' y l)) (sym e) (rw here at_pred))
      (λ n. ⊎_elim
      (λ e. subst (λ y. Next ps (s + 1) l y (lk' y l)) (sym e) (rw there at_new))
      (λ d. let b : i ≤ s = below d in rw (else i b o n) (at_other i b n o))
      (cases_eq i (s + 1)))
      (cases_eq i j)
    where
      below : i ≢ s + 1 → i ≤ s
      below d = omega arith

-- a level that the new entry is not linked on
pub linked_past : (ps : ℕ → ℕ) (lk : ℕ → ℕ → ℕ) (s l : ℕ) → (On l (s + 1) → ⊥) → Linked ps lk s l → Linked ps lk (s + 1) l
linked_past ps lk s l off was j h o =
    let x = was j (below j h o) o in
    record {
      within = omega (arith, x.within);
      level = x.level;
      after = x.after;
      least = λ m p q r u. x.least m p (below m q r) r u;
    }
  where
    below : (m : ℕ) → m ≤ s + 1 → On l m → m ≤ s
    below m q r = let n : m ≢ s + 1 = λ e. off (subst (On l) e r) in omega arith

-- only the places and the links of the s entries count
pub linked_same : (ps ps' : ℕ → ℕ) (lk lk' : ℕ → ℕ → ℕ) (s l : ℕ) → ((m : ℕ) → m ≤ s → ps' m ≡ ps m) → ((m : ℕ) → m ≤ s → On l m → lk' m l ≡ lk m l)
    → Linked ps lk s l → Linked ps' lk' s l
linked_same ps ps' lk lk' s l same samel was j h o =
    let x = was j h o in
    rw (samel j h o) (record {
      within = x.within;
      level = x.level;
      after = λ p. rw (same j h, same (lk j l) x.within) (x.after p);
      least = λ m p q r u.
          let g = x.least m p q r (let a = same j h in let b = same m q in omega arith) in
          (g.0, rw (same m q, same (lk j l) x.within) g.1);
    })

pub prev_same : (ps ps' : ℕ → ℕ) (s l t j : ℕ) → ((m : ℕ) → m ≤ s → ps' m ≡ ps m) → Prev ps s l t j → Prev ps' s l t j
prev_same ps ps' s l t j same p =
    let b = same j p.within in
    record {
      within = p.within;
      level = p.level;
      before = rw b p.before;
      last = λ m a c d e. let f = same m c in let g = p.last m a c d (omega arith) in omega arith;
    }
