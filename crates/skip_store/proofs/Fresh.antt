-- A list without entries.
use Rattle.std.proofs.Common.{◌≡◌, ℕ, ◌*◌, ◌≤◌, List, length, replicate, refl, subst, arith}
use Rattle.std.proofs.lemmas.List.{get_or-replicate}
use Rattle.store.specs.declared.entry.Entry.{Entry}
use Rattle.skip_store.specs.Links.{spot, link, Next, Sound}
use Rattle.skip_store.proofs.Levels.{on_head}
use Rattle.skip_store.proofs.Spots.{link_head}

pub no_entries : (es : List Entry) (head links : List ℕ) (p : ℕ) → head ≡ replicate 15 0 → p ≤ length es → 2 * p ≤ length links → p ≤ 16384 → Sound es head links 0 p
no_entries es head links p e f r w = rw e (record {
  within = omega arith;
  fits = f;
  room = r;
  few = w;
  tall = refl;
  apart = λ i m q. omega arith;
  linked = λ l q j a o. let z : 0 ≡ j = omega arith in
      subst (λ i. Next (spot es) 0 l i (link (replicate 15 0) links i l)) z (rw (link_head (replicate 15 0) links 0 l refl, get_or-replicate {A = ℕ} 15 l 0 0 q) (first l));
})
  where
    first : (l : ℕ) → Next (spot es) 0 l 0 0
    first l = record {
      within = omega arith;
      level = on_head l;
      after = λ p. absurd (omega arith);
      least = λ m p q r u. absurd (omega arith);
    }
