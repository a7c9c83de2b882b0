-- A sound skip list keeps what every store keeps: the store's ghost member cites this.
use Rattle.std.specs.Prelude.{◌≡◌, ℕ, suc, ◌<◌, ◌≤◌, List, length, take, slice_index_or}
use Rattle.std.proofs.Common.{sym, ap, ◌∙◌, arith}
use Rattle.std.proofs.lemmas.List.{get_or-take, length-take-le}
use Rattle.store.specs.declared.entry.Entry.{Entry}
use Rattle.store.specs.Held.{Kept, clause_at, blank}
use Rattle.store.proofs.Sames.{other_rank}
use Rattle.skip_store.specs.Links.{held_of, spot, spot_of, Apart}

-- the clause of the entry with index i, from 0
pub clause_at_lem : (es : List Entry) (n i : ℕ) → i < n → clause_at (take n es) i ≡ (slice_index_or es i blank).clause
clause_at_lem es n i l = ap (λ (e : Entry). e.clause) (get_or-take n es i blank l)

-- its place in clause order is that of entry i + 1
pub spot_at : (es : List Entry) (n i : ℕ) → i < n → spot es (suc i) ≡ spot_of (clause_at (take n es) i)
unfolding spot
spot_at es n i l = ap spot_of (sym (clause_at_lem es n i l))

pub keeps : (es : List Entry) (n p : ℕ) → n ≤ p → p ≤ length es → p ≤ 16384 → Apart (spot es) n → Kept (held_of es n p)
keeps es n p w f q a =
    let k : length (take n es) ≡ n = length-take-le n es (omega arith) in
    record {
      within = omega arith;
      few = q;
      single = λ i j l h. other_rank (clause_at (take n es) i) (clause_at (take n es) j)
          (λ e. let z : suc i ≡ suc j = a (suc i) (suc j) (omega arith, omega arith, spot_at es n i (omega arith) ∙ ap suc e ∙ sym (spot_at es n j (omega arith))) in omega arith);
    }
