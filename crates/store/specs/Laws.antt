-- What the meaning of a store says of its answers, by entries and atoms.
use Rattle.std.specs.Prelude.{◌≡◌, ℕ, true, false, Some, MatchOption}
use Rattle.clause.specs.declared.words.Clause.{Clause}
use Rattle.clause.specs.Clauses.{lits, makes, same}
use Rattle.clause.specs.Order.{Before}
use Rattle.store.specs.declared.entry.Entry.{Entry}
use Rattle.store.specs.Held.{Held, entry_at, found, least_false, after_put, full}

-- v makes every held clause true
abbrev pub AllTrue : Held → ℕ → Type 0
AllTrue h v = (k : ℕ) (e : Entry) → entry_at h.entries k ≡ Some e → makes v (lits e.clause) ≡ true

-- entry k is false under v, and no held clause that is false comes before it
pub record FirstFalse (h : Held) (v k : ℕ) : Type 0 where
  pub entry : Entry
  pub is : entry_at h.entries k ≡ Some entry
  pub untrue : makes v (lits entry.clause) ≡ false
  pub first : (j : ℕ) (e : Entry) → entry_at h.entries j ≡ Some e → makes v (lits e.clause) ≡ false → Before (lits e.clause) (lits entry.clause) → ⊥

-- least false answers the first false clause, or nothing exactly where every clause is true
abbrev pub LeastFalseLaw : Type 0
LeastFalseLaw = (h : Held) (v : ℕ) → MatchOption (least_false h v) (AllTrue h v) (FirstFalse h v)

-- no entry has the clause c
abbrev pub Lacks : Held → Clause → Type 0
Lacks h c = (k : ℕ) (e : Entry) → entry_at h.entries k ≡ Some e → same e.clause c ≡ false

-- entry k has the clause c
abbrev pub Holds : Held → Clause → ℕ → Type 0
Holds h c k = (e : Entry) × (entry_at h.entries k ≡ Some e) × (same e.clause c ≡ true)

-- find answers the number of an entry with the clause, or nothing exactly where none has it
abbrev pub FindLaw : Type 0
FindLaw = (h : Held) (c : Clause) → MatchOption (found h c) (Lacks h c) (Holds h c)

-- a put keeps every entry and its number, and where a place is free the clause is held afterwards
abbrev pub PutLaw : Type 0
PutLaw = (h : Held) (e : Entry) → ((k : ℕ) (x : Entry) → entry_at h.entries k ≡ Some x → entry_at (after_put h e).entries k ≡ Some x)
    × (full h ≡ false → (k : ℕ) × Holds (after_put h e) e.clause k)
