use Rattle.std.proofs.Common.{◌≡◌, ℕ, ◌+◌, List, Ok, refl, ap, ◌∙◌, subst, arith}
use Rattle.row_store.specs.Seats.{MakesWay}
use Rattle.row_store.proofs.Arrivals.{seats_beyond}
use Rattle.row_store.proofs.InOrder.{found_read, found_lacks, put_held, put_refused, same_records, ordered_put, answers_new, after_new}
use Rattle.row_store.proofs.Stores.{ordered}
use Rattle.row_store.proofs.ordered.RowStoreClauseStore.put.Goals as goal

-- the seats after a new record, over the count that the row had
way : (ss ts : List ℕ) (k n i : ℕ) → k ≡ n → MakesWay ss k i ts → MakesWay ss n i ts
way ss ts k n i e w = subst (λ j. MakesWay ss j i ts) e w

pub invariant_of-self-in-New : goal.invariant_of-self-in-New
invariant_of-self-in-New c =
    let o = ordered c.args.self.now in
    let a = c.in-New.ensures.enters in
    let b = a.adds in
    let row = c.enter.new.row in
    let w = ordered_put _ _ _ _ o c.make_way.new.seats c.in-New.i a.slot b.1.within b.2 (omega (arith, a.number, c.size-size.ensures)) (way _ _ _ _ _ c.size-size.ensures c.make_way.ensures)
    c.args.entry a.entry b.0 row.slots.now row.size row.places b.3 b.4 a.places row.fits row.ascends in
    record { benches = w.benches; few = w.few; seated = w.seated; named = w.named; counted = w.counted; returned = w.returned }

pub returns-in-Held : goal.returns-in-Held
returns-in-Held c =
    let o = ordered c.args.self.now in
    let a = c.in-Held.ensures.enters in
    let b = a.adds in
    let row = c.enter.new.row in
    let e = c.args.entry in
    let f = found_read _ _ _ _ o e.clause a.slot c.records.result.now c.in-Held.i c.index-records-i.result c.number.result
    (same_records _ _ _ _ o e row.slots.now row.size row.places b.1 b.2 a.places c.records.result.now c.records.ensures) b.0 (ap (λ y. y.clause) a.entry)
    c.index-records-i.is c.number.ensures in
    let r = put_held _ _ _ _ o e row.slots.now row.size row.places b.1 b.2 a.places c.number.result f in
    record { answers = r.0; after = r.1; slots = a.beyond; seats = refl; lender = (c.enter.ensures.lender, refl) }

pub returns-in-New : goal.returns-in-New
returns-in-New c =
    let o = ordered c.args.self.now in
    let a = c.in-New.ensures.enters in
    let b = a.adds in
    let row = c.enter.new.row in
    let ts = c.make_way.new.seats in
    let number : a.slot.number ≡ c.args.self.now.row.size + 1 = omega (arith, a.number, c.size-size.ensures) in
    let w = way _ _ _ _ c.in-New.i c.size-size.ensures c.make_way.ensures in
    record {
      answers = ap (λ k. Ok (k + 1)) c.size-size.ensures ∙ answers_new _ _ _ _ o ts c.in-New.i a.slot b.1.within b.2 number w c.args.entry a.entry b.0 row.slots.now row.size row.places b.3 b.4 a.places;
      after = after_new _ _ _ _ o ts c.in-New.i a.slot b.1.within b.2 number w c.args.entry a.entry b.0 row.slots.now row.size row.places b.3 b.4 a.places;
      slots = a.beyond;
      seats = seats_beyond _ _ _ _ _ w b.2;
      lender = (c.enter.ensures.lender, refl);
    }

pub returns-in-Full : goal.returns-in-Full
returns-in-Full c =
    let o = ordered c.args.self.now in
    let a = c.in-Full.ensures.enters in
    let b = a.adds in
    let row = c.enter.new.row in
    let r = put_refused _ _ _ _ o c.args.entry row.slots.now row.size row.places b.2 b.3 a.places
    (found_lacks _ _ _ _ o c.args.entry.clause a.slot b.0 (ap (λ y. y.clause) a.entry)) b.1 in
    record { answers = r.0; after = r.1; slots = a.beyond; seats = refl; lender = (c.enter.ensures.lender, refl) }
