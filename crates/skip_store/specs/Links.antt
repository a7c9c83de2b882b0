-- A skip list: records by arrival, and on each level a chain of links through them in clause order.
use Rattle.std.specs.Prelude.{◌≡◌, ℕ, zero, suc, ◌-◌, ◌*◌, ◌%◌, ◌^◌, ◌<◌, ◌≤◌, Bool, true, false, not, List, length, take, drop, ◌≢◌, slice_index, slice_index_or, slice_set}
use Rattle.clause.specs.declared.words.Clause.{Clause}
use Rattle.clause.specs.Clauses.{lits, makes, same}
use Rattle.clause.specs.Order.{rank}
use Rattle.clause.specs.Reading.{clear}
use Rattle.store.specs.declared.entry.Entry.{Entry}
use Rattle.store.specs.Held.{Held, blank}

-- e holds nothing: no literal and no antecedent
abbrev pub Vacant : Entry → Type 0
Vacant e = (lits e.clause ≡ lits clear) × (e.first ≡ 0) × (e.second ≡ 0)

-- what the store stands for: the first n records, and p places
abbrev pub held_of : List Entry → ℕ → ℕ → Held
held_of es n p = record { entries = take n es; places = p }

-- where a clause stands in clause order, from 1
abbrev pub spot_of : Clause → ℕ
spot_of c = suc (rank (lits c))

-- where entry j, from 1, stands in clause order; the head, 0, stands before all
unfoldable pub spot : List Entry → ℕ → ℕ
spot es zero = 0
spot es (suc i) = spot_of (slice_index_or es i blank).clause

-- entry j is linked on level l: it ends in at least l zero bits; the head is on every level
unfoldable pub On : ℕ → ℕ → Type 0
On l j = j % 2 ^ l ≡ 0

-- where the link of entry j, from 1, on level l lies: no two lie at the same place, and those of j places lie below 2 * j
unfoldable pub seat : ℕ → ℕ → ℕ
seat j l = 2 * j - 2 ^ l - 1

-- the link of entry j, or of the head, on level l
unfoldable pub link : List ℕ → List ℕ → ℕ → ℕ → ℕ
link head links zero l = slice_index head l
link head links (suc i) l = slice_index links (seat (suc i) l)

-- n is the first of s entries on level l that stands after j, or 0 where none does
pub record Next (ps : ℕ → ℕ) (s l j n : ℕ) : Type 0 where
  pub within : n ≤ s
  pub level : On l n
  pub after : 0 < n → ps j < ps n
  pub least : (m : ℕ) → 0 < m → m ≤ s → On l m → ps j < ps m → (0 < n) × (ps n ≤ ps m)

-- j is the last of s entries on level l, or the head, that stands before t
pub record Prev (ps : ℕ → ℕ) (s l t j : ℕ) : Type 0 where
  pub within : j ≤ s
  pub level : On l j
  pub before : ps j < t
  pub last : (m : ℕ) → 0 < m → m ≤ s → On l m → ps m < t → ps m ≤ ps j

-- each link of level l leads to the next entry on it
abbrev pub Linked : (ℕ → ℕ) → (ℕ → ℕ → ℕ) → ℕ → ℕ → Type 0
Linked ps lk s l = (j : ℕ) → j ≤ s → On l j → Next ps s l j (lk j l)

-- no two of s entries stand at the same place, nor one with the head
abbrev pub Apart : (ℕ → ℕ) → ℕ → Type 0
Apart ps s = (i m : ℕ) → (i ≤ s) × (m ≤ s) × (ps i ≡ ps m) → i ≡ m

-- the first n records of es are linked on 15 levels
abbrev pub Chained : List Entry → List ℕ → List ℕ → ℕ → Type 0
Chained es head links n = (l : ℕ) → l < 15 → Linked (spot es) (link head links) n l

-- n records in es, linked on 15 levels, and p places for them
pub record Sound (es : List Entry) (head links : List ℕ) (n p : ℕ) : Type 0 where
  pub within : n ≤ p
  pub fits : p ≤ length es
  pub room : 2 * p ≤ length links
  pub few : p ≤ 16384
  pub tall : length head ≡ 15
  pub apart : Apart (spot es) n
  pub linked : Chained es head links n

-- the heads and the links once the link of j on level l leads to k
abbrev pub head_after : List ℕ → ℕ → ℕ → ℕ → List ℕ
head_after head zero l k = slice_set head l k
head_after head (suc i) l k = head

abbrev pub links_after : List ℕ → ℕ → ℕ → ℕ → List ℕ
links_after links zero l k = links
links_after links (suc i) l k = slice_set links (seat (suc i) l) k

-- entry k has been joined in on the levels below v, after its predecessors: there they lead to it, and it to where they led; all other links stay
pub record Joins (head links head' links' before : List ℕ) (k v : ℕ) : Type 0 where
  pub tall : length head' ≡ length head
  pub room : length links' ≡ length links
  pub here : (l : ℕ) → l < v → link head' links' (slice_index before l) l ≡ k
  pub there : (l : ℕ) → l < v → link head' links' k l ≡ link head links (slice_index before l) l
  pub else : (i l : ℕ) → i < k → On l i → (l < v → i ≢ slice_index before l) → link head' links' i l ≡ link head links i l
  pub beyond : (p : ℕ) → k ≤ p → drop (2 * p) links' ≡ drop (2 * p) links

-- before has an entry below k, or the head, on each of 15 levels
abbrev pub Earlier : List ℕ → ℕ → Type 0
Earlier before k = (l : ℕ) → l < 15 → (slice_index before l < k) × On l (slice_index before l)

-- no entry stands at t
abbrev pub Lacks : List Entry → ℕ → ℕ → Type 0
Lacks es n t = (m : ℕ) → m ≤ n → spot es m ≢ t

-- entry k has the clause c
pub record Holds (es : List Entry) (n : ℕ) (c : Clause) (k : ℕ) : Type 0 where
  pub some : 0 < k
  pub within : k ≤ n
  pub is : same (slice_index_or es (k - 1) blank).clause c ≡ true

-- before has the predecessors, on each level, of what stands at t
abbrev pub Preds : List Entry → ℕ → ℕ → List ℕ → Type 0
Preds es n t before = (l : ℕ) → l < 15 → Prev (spot es) n l t (slice_index before l)

-- v does not make the clause of entry k true
abbrev pub fails : List Entry → ℕ → ℕ → Bool
fails es v k = not (makes v (lits (slice_index_or es (k - 1) blank).clause))

-- v makes the clauses of all entries after `from` true
abbrev pub AllTrue : List Entry → ℕ → ℕ → ℕ → Type 0
AllTrue es n from v = (m : ℕ) → 0 < m → m ≤ n → spot es from < spot es m → fails es v m ≡ false

-- k is the first entry after `from`, in clause order, whose clause v does not make true
pub record FirstFalse (es : List Entry) (n from v k : ℕ) : Type 0 where
  pub some : 0 < k
  pub within : k ≤ n
  pub after : spot es from < spot es k
  pub untrue : fails es v k ≡ true
  pub first : (m : ℕ) → 0 < m → m ≤ n → spot es from < spot es m → fails es v m ≡ true → spot es k ≤ spot es m
