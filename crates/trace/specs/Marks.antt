-- Marking: which of the held entries the empty clause depends on.
use Rattle.std.specs.Prelude.{ℕ, zero, suc, ◌+◌, Bool, false, cond, ◌&&◌, ◌||◌, List, [], ◌∷◌, ◌==◌, slice_index, slice_index_or}
use Rattle.store.specs.declared.entry.Entry.{Entry}
use Rattle.store.specs.Held.{blank}

-- entry k, from 1; outside the entries the empty clause without antecedents
abbrev pub entry_of : List Entry → ℕ → Entry
entry_of es k = slice_index_or (blank ∷ es) k blank

-- the mark of entry k, from 1, is set
unfoldable pub marked : List ℕ → ℕ → Bool
marked ms zero = false
marked ms (suc i) = slice_index ms i == 1

-- entry k is an antecedent of e
abbrev pub is_antecedent : Entry → ℕ → Bool
is_antecedent e k = e.first == k || e.second == k

-- one of the entries, with these marks, is marked and has the antecedent k
unfoldable pub is_used : List Entry → List ℕ → ℕ → Bool
is_used [] ms k = false
is_used (e ∷ es) [] k = false
is_used (e ∷ es) (b ∷ ms) k = (b == 1 && is_antecedent e k) || is_used es ms k

-- the mark of entry k, before the marks ms of the later entries es: 1 where the empty clause was derived from k, or a marked later entry was, else 0
abbrev pub mark_before : ℕ → ℕ → ℕ → List Entry → List ℕ → List ℕ
mark_before r c k es ms = cond ((k == r || k == c) || is_used es ms k) 1 0 ∷ ms

-- the marks of the entries, of which the first has number k
unfoldable pub marks_from : ℕ → ℕ → ℕ → List Entry → List ℕ
marks_from r c k [] = []
marks_from r c k (e ∷ es) = mark_before r c k es (marks_from r c (k + 1) es)

-- the marks of the entries where the empty clause was derived from entries r and c
unfoldable pub marks_of : List Entry → ℕ → ℕ → List ℕ
marks_of es r c = marks_from r c 1 es
