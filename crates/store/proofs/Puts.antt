-- What a put comes to, by what was found and whether a place is free.
use Rattle.std.proofs.Common.{◌≡◌, ℕ, ◌+◌, length, Some, None, Ok, Err}
use Rattle.std.proofs.lemmas.Bool.{eq-eqb, ne_eqb}
use Rattle.clause.specs.Refusals.{refused}
use Rattle.store.specs.declared.entry.Entry.{Entry}
use Rattle.store.specs.Held.{Held, found, put_answer, after_put, pushed}

module _ (h : Held) (e : Entry) where
  pub put_found : (k : ℕ) → found h e.clause ≡ Some k → (put_answer h e ≡ Ok k) × (after_put h e ≡ h)
  put_found k s = (rw s, rw s)

  pub put_full : found h e.clause ≡ None → length h.entries ≡ h.places → (put_answer h e ≡ Err (refused 10 0)) × (after_put h e ≡ h)
  put_full s l = let t = eq-eqb (length h.entries) h.places l in (rw (s, t), rw (s, t))

  pub put_new : found h e.clause ≡ None → (length h.entries ≡ h.places → ⊥) → (put_answer h e ≡ Ok (length h.entries + 1)) × (after_put h e ≡ pushed h e)
  put_new s l = let t = ne_eqb (length h.entries) h.places l in (rw (s, t), rw (s, t))
