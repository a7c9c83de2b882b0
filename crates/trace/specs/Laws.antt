-- What marks and lines are, without a way to compute them.
use Rattle.std.specs.Prelude.{◌≡◌, ℕ, zero, suc, ◌<◌, ◌≤◌, true, ◌⊎◌, ◌↔◌, List, length}
use Rattle.store.specs.declared.entry.Entry.{Entry}
use Rattle.trace.specs.Marks.{entry_of, marked, marks_of}
use Rattle.trace.specs.Lines.{place, written}

-- entry k is an antecedent of e
abbrev pub Antecedent : Entry → ℕ → Type 0
Antecedent e k = (e.first ≡ k) ⊎ (e.second ≡ k)

-- entry k is reached from the empty clause, derived from r and c, over d entries
abbrev pub Reached : List Entry → ℕ → ℕ → ℕ → ℕ → Type 0
Reached es r c zero k = (k ≡ r) ⊎ (k ≡ c)
Reached es r c (suc d) k = (u : ℕ) × Reached es r c d u × Antecedent (entry_of es u) k

-- the empty clause, derived from r and c, depends on entry k
abbrev pub Depends : List Entry → ℕ → ℕ → ℕ → Type 0
Depends es r c k = (d : ℕ) × Reached es r c d k

-- antecedents lie below their entries
abbrev pub Ordered : List Entry → Type 0
Ordered es = (k : ℕ) → 1 ≤ k → k ≤ length es → ((entry_of es k).first < k) × ((entry_of es k).second < k)

-- just the entries that the empty clause depends on are marked
abbrev pub MarkLaw : Type 0
MarkLaw = (es : List Entry) (r c : ℕ) → Ordered es → (k : ℕ) → 1 ≤ k → k ≤ length es → (marked (marks_of es r c) k ≡ true) ↔ Depends es r c k

-- line i is that of a marked entry
pub record From (es : List Entry) (r c i : ℕ) : Type 0 where
  pub entry : ℕ
  pub some : 1 ≤ entry
  pub held : entry ≤ length es
  pub on : marked (marks_of es r c) entry ≡ true
  pub at : place (written es r c) entry ≡ i

-- each marked entry has a line, each line but the last is that of a marked entry, and lines stand in order of arrival
pub record Lined (es : List Entry) (r c : ℕ) : Type 0 where
  pub there : (k : ℕ) → 1 ≤ k → k ≤ length es → marked (marks_of es r c) k ≡ true → (1 ≤ place (written es r c) k) × (place (written es r c) k ≤ length (written es r c))
  pub from : (i : ℕ) → 1 ≤ i → i ≤ length (written es r c) → From es r c i
  pub rising : (j k : ℕ) → j < k → k ≤ length es → marked (marks_of es r c) j ≡ true → marked (marks_of es r c) k ≡ true → place (written es r c) j < place (written es r c) k

abbrev pub LineLaw : Type 0
LineLaw = (es : List Entry) (r c : ℕ) → Lined es r c
