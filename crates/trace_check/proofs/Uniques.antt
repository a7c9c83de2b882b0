-- A trace has only one outcome.
use Rattle.std.proofs.Common.{◌≡◌, ℕ, ◌<◌, ◌≤◌, List, Ok, Err, Result, sym, refl, ap, ◌∙◌, subst, inl, inr, ⊎_elim, arith}
use Rattle.std.proofs.lemmas.Bool.{cases_lt}
use Rattle.clause.specs.Refusals.{Told, refused}
use Rattle.lines.specs.declared.line.Trailer.{Trailer}
use Rattle.rule.specs.Rule.{Right}
use Rattle.trace_check.specs.Trailers.{Ended}
use Rattle.trace_check.specs.Checks.{Upto, Sound, FirstWrong, Outcome}

module _ (bs : List ℕ) where
  same_atoms : (n m last end : ℕ) → Ended bs n last → Ended bs m end → n ≡ m
  same_atoms n m last end e f = ap (λ (t : Trailer). t.atoms) (sym e.trailer.numbers ∙ f.trailer.numbers)

  same_right : (n m last end k : ℕ) → Ended bs n last → Ended bs m end → Right bs n last k → Right bs m end k
  same_right n m last end k e f r =
      let p : last ≡ end = e.count ∙ sym f.count in
      let q = same_atoms n m last end e f in
      subst (λ a. Right bs a end k) q (subst (λ z. Right bs n z k) p r)

  no_wrong : (s : Sound bs) (k : ℕ) → FirstWrong bs k → ⊥
  unfolding Upto
  no_wrong s k w =
      let p : s.last ≡ w.last = s.ended.count ∙ sym w.ended.count in
      w.wrong (same_right s.n w.n s.last w.last k s.ended w.ended (s.lines k w.low (let h : k ≤ w.last = w.high in omega arith)))

  not_earlier : (k j : ℕ) → k < j → FirstWrong bs k → FirstWrong bs j → ⊥
  unfolding Upto
  not_earlier k j l w v = w.wrong (same_right v.n w.n v.last w.last k v.ended w.ended (v.before k w.low (omega arith)))

  same_line : (k j : ℕ) → FirstWrong bs k → FirstWrong bs j → k ≡ j
  same_line k j w v = ⊎_elim
      (λ l. absurd (not_earlier k j l w v))
      (λ g. ⊎_elim (λ l. absurd (not_earlier j k l v w)) (λ h. omega arith) (cases_lt j k))
      (cases_lt k j)

  sound_only : (e : Told) → Sound bs → Outcome bs (Err e) → ⊥
  sound_only e s (inl p) = p.1 s.n s.last s.ended
  sound_only e s (inr p) = no_wrong s p.0 p.2

  same_fault : (e f : Told) → Outcome bs (Err e) → Outcome bs (Err f) → e ≡ f
  same_fault e f (inl p) (inl q) = p.0 ∙ sym q.0
  same_fault e f (inl p) (inr q) = absurd (p.1 q.2.n q.2.last q.2.ended)
  same_fault e f (inr p) (inl q) = absurd (q.1 p.2.n p.2.last p.2.ended)
  same_fault e f (inr p) (inr q) = p.1 ∙ ap (refused 16) (same_line p.0 q.0 p.2 q.2) ∙ sym q.1

  pub one_outcome : (a b : Result (Unit {0}) Told) → Outcome bs a → Outcome bs b → a ≡ b
  one_outcome (Ok u) (Ok v) p q = refl
  one_outcome (Ok u) (Err e) p q = absurd (sound_only e p q)
  one_outcome (Err e) (Ok u) p q = absurd (sound_only e q p)
  one_outcome (Err e) (Err f) p q = ap Err (same_fault e f p q)
