use Rattle.std.proofs.Common.{◌<◌, sym, refl, arith}
use Rattle.std.proofs.lemmas.Bool.{eqb-true, eqb-false}
use Rattle.skip_store.proofs.Meaning.{put_held, put_refused, put_new_values}
use Rattle.skip_store.proofs.Props.{in_order}
use Rattle.skip_store.proofs.skips.SkipStoreClauseStore.put.Goals as goal

pub returns-in-Some : goal.returns-in-Some
returns-in-Some c =
    let r = put_held _ _ _ _ _ (in_order c.args.self.now) c.args.entry c.in-Some.k c.in-Some.ensures in
    record { answers = r.0; after = r.1; records = refl; links = refl; lender = (refl, refl) }

pub returns-then-is_full : goal.returns-then-is_full
returns-then-is_full c =
    let r = put_refused _ _ _ _ _ (in_order c.args.self.now) c.args.entry c.in_default.ensures (eqb-true _ _ (sym c.if-is_full.ensures)) in
    record { answers = r.0; after = r.1; records = refl; links = refl; lender = (refl, refl) }

pub returns : goal.returns
returns c =
    let a = c.append.ensures in
    let free : c.args.self.now.size < c.args.self.now.places = let f = eqb-false _ _ (sym c.if-is_full.ensures) in omega arith in
    let r = put_new_values _ _ _ _ _ (in_order c.args.self.now) c.args.entry c.in_default.ensures free _ _ _ a.records a.size a.places in
    record { answers = r.0; after = r.1; records = r.2; links = a.links; lender = a.lender }
