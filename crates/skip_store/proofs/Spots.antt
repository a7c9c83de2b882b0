-- Where entries stand, and where their links lead.
use Rattle.std.proofs.Common.{◌≡◌, ℕ, zero, suc, ◌-◌, ◌^◌, ◌<◌, ◌≤◌, List, length, get_or, set, sym, refl, subst, ⊎_elim, sub-one, arith}
use Rattle.std.proofs.lemmas.List.{get_or-set_same, get_or-set_other}
use Rattle.std.proofs.lemmas.Bool.{cases_eq}
use Rattle.clause.specs.Clauses.{lits}
use Rattle.clause.proofs.Ranks.{rank_bound}
use Rattle.store.specs.declared.entry.Entry.{Entry}
use Rattle.store.specs.Held.{blank}
use Rattle.skip_store.specs.Links.{spot_of, spot, seat, link}

pub link_head : (head links : List ℕ) (j l : ℕ) → j ≡ 0 → link head links j l ≡ get_or head l 0
unfolding link
link_head head links zero l e = refl
link_head head links (suc i) l e = absurd (omega arith)

pub link_entry : (head links : List ℕ) (j l : ℕ) → 0 < j → link head links j l ≡ get_or links (seat j l) 0
unfolding link
link_entry head links zero l e = absurd (omega arith)
link_entry head links (suc i) l e = refl

pub spot_head : (es : List Entry) → spot es 0 ≡ 0
unfolding spot
spot_head es = refl

pub spot_entry : (es : List Entry) (j : ℕ) → 0 < j → spot es j ≡ spot_of (get_or es (j - 1) blank).clause
unfolding spot
spot_entry es zero e = absurd (omega arith)
spot_entry es (suc i) e = rw sub-one refl

pub spot_low : (es : List Entry) (m : ℕ) → spot es 0 ≤ spot es m
unfolding spot
spot_low es m = omega arith

-- the last place in clause order
pub spot_most : (es : List Entry) (j : ℕ) → spot es j ≤ 4 ^ 64
unfolding spot
spot_most es zero = omega arith
spot_most es (suc i) = rank_bound 64 (lits (get_or es i blank).clause)

-- the predecessors on one level more
pub preds_more : (P : ℕ → ℕ → Type 0) (xs : List ℕ) (v x : ℕ) → 0 < v → v ≤ 15 → length xs ≡ 15 → P (v - 1) x
    → ((m : ℕ) → v ≤ m → m < 15 → P m (get_or xs m 0)) → (m : ℕ) → v - 1 ≤ m → m < 15 → P m (get_or (set xs (v - 1) x) m 0)
preds_more P xs v x a b c p f m d e =
    ⊎_elim
    (λ q. subst (λ y. P y (get_or (set xs (v - 1) x) y 0)) (sym q) (let l : v - 1 < length xs = omega arith in rw get_or-set_same p))
    (λ q. rw (get_or-set_other xs (v - 1) m x 0 q) (f m (omega arith) e))
    (cases_eq m (v - 1))
