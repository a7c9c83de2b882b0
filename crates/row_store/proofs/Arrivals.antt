-- The entries in order of arrival, one by one.
use Rattle.std.proofs.Common.{◌≡◌, ℕ, zero, suc, ◌+◌, ◌-◌, ◌<◌, ◌≤◌, List, [], ◌∷◌, ◌++◌, get_or, drop, Some, None, sym, refl, ap, ◌∙◌, ap₂, add-one, arith}
use Rattle.std.proofs.lemmas.List.{drop-drop}
use Rattle.std.proofs.lemmas.Option.{slice_get-get_or, slice_get_past}
use Rattle.store.specs.declared.entry.Entry.{Entry}
use Rattle.store.specs.Held.{entry_at, blank}
use Rattle.row_store.specs.declared.slot.Slot.{Slot}
use Rattle.row_store.specs.Seats.{vacant, entry_of, sitting, arrivals, MakesWay}
use Rattle.row_store.specs.Keeps.{length_arrivals, get_or_arrivals}

-- entry k, from 1
entry_within : (xs : List Slot) (ss : List ℕ) (n k : ℕ) → 0 < k → k ≤ n → entry_at (arrivals xs ss n) k ≡ Some (entry_of (sitting xs ss (k - 1)))
entry_within xs ss n zero z l = absurd (omega arith)
entry_within xs ss n (suc k) z l =
    let e : suc k - 1 ≡ k = omega arith in
    slice_get-get_or (arrivals xs ss n) k blank (omega (arith, length_arrivals xs ss n)) ∙ ap Some (get_or_arrivals xs ss n k blank (omega arith)) ∙ ap (λ j. Some (entry_of (sitting xs ss j))) (sym e)

-- as it is read: the seat s of the index j of the number, and the record x there
pub entry_read : (xs : List Slot) (ss : List ℕ) (n k j s : ℕ) (x : Slot) (e : Entry) → 1 ≤ k → j ≡ k - 1 → j < n → s ≡ get_or ss j 0 → x ≡ get_or xs s vacant → e ≡ entry_of x
    → Some e ≡ entry_at (arrivals xs ss n) k
entry_read xs ss n k j s x e z i l f g h =
    ap Some (h ∙ ap entry_of (g ∙ ap (λ t. get_or xs t vacant) (f ∙ ap (λ m. get_or ss m 0) i))) ∙ sym (entry_within xs ss n k (omega arith) (omega arith))

pub entry_past : (xs : List Slot) (ss : List ℕ) (n k : ℕ) → n < k → entry_at (arrivals xs ss n) k ≡ None
entry_past xs ss n zero l = absurd (omega arith)
entry_past xs ss n (suc k) l = slice_get_past (arrivals xs ss n) k (omega (arith, length_arrivals xs ss n))

pub arrivals_same : (xs ys : List Slot) (ss ts : List ℕ) (n : ℕ) → ((k : ℕ) → k < n → sitting ys ts k ≡ sitting xs ss k) → arrivals ys ts n ≡ arrivals xs ss n
unfolding arrivals
arrivals_same xs ys ss ts zero f = refl
arrivals_same xs ys ss ts (suc n) f =
    ap₂ (λ es x. es ++ (entry_of x ∷ [])) (arrivals_same xs ys ss ts n (λ k l. f k (omega arith))) (f n (omega arith))

pub arrivals_more : (xs ys : List Slot) (ss ts : List ℕ) (n : ℕ) (x : Slot) → ((k : ℕ) → k < n → sitting ys ts k ≡ sitting xs ss k) → sitting ys ts n ≡ x
    → arrivals ys ts (n + 1) ≡ arrivals xs ss n ++ (entry_of x ∷ [])
unfolding arrivals
arrivals_more xs ys ss ts n x f e =
    ap (arrivals ys ts) (add-one n) ∙ ap₂ (λ es x. es ++ (entry_of x ∷ [])) (arrivals_same xs ys ss ts n f) e

pub arrivals_none : (xs : List Slot) (ss : List ℕ) (n : ℕ) → n ≡ 0 → arrivals xs ss n ≡ []
unfolding arrivals
arrivals_none xs ss n e = ap (arrivals xs ss) e

-- ---- seats that make way

-- what lies past the seats in use stays
pub seats_beyond : (ss ts : List ℕ) (n i p : ℕ) → MakesWay ss n i ts → n < p → drop p ts ≡ drop p ss
seats_beyond ss ts n i p w l =
    let e : n + 1 + (p - (n + 1)) ≡ p = omega arith in
    ap (λ k. drop k ts) (sym e) ∙ sym (drop-drop (p - (n + 1)) (n + 1) ts) ∙ ap (drop (p - (n + 1))) w.beyond ∙ drop-drop (p - (n + 1)) (n + 1) ss ∙ ap (λ k. drop k ss) e
