-- What the answers of a check say of its trace.
use Rattle.std.proofs.Common.{◌≡◌, ℕ, ◌+◌, ◌-◌, ◌≤◌, Bool, true, false, cond, ltb, List, is_ok, Some, None, Ok, Err, Decides, Option, Result, sym, refl, ap, ◌∙◌, inl, inr, ⊎_elim, arith}
use Rattle.std.proofs.lemmas.Bool.{both_ways, ltb-true, ltb-false}
use Rattle.clause.specs.declared.refusal.Refusal.{Refusal}
use Rattle.clause.specs.Refusals.{answer, refused}
use Rattle.lines.specs.declared.line.Trailer.{Trailer}
use Rattle.rule.specs.Rule.{Right}
use Rattle.trace_check.specs.declared.fault.Fault.{Fault}
use Rattle.trace_check.specs.declared.fault.Fault.TheVariants.{Trailer as WrongTrailer, Line as WrongLine}
use Rattle.trace_check.specs.Trailers.{Ended}
use Rattle.trace_check.specs.Checks.{Upto, Stands, Sound, FirstWrong, Means, Outcome, judgement, waiting}
use Rattle.trace_check.specs.Meaning.{Refutes}
use Rattle.trace_check.proofs.Soundness.{refutes}

before_next : (bs : List ℕ) (n last t : ℕ) → Upto bs n last t → Upto bs n last (t + 1 - 1)
before_next bs n last t u = let e : t + 1 - 1 ≡ t = omega arith in rw e u

first_wrong : (bs : List ℕ) (n last t : ℕ) → Stands bs n last t (Some WrongLine) → FirstWrong bs (t + 1)
first_wrong bs n last t s =
    let l = s.0 in
    record { n = n; last = last; ended = s.1; low = omega arith; high = omega arith; before = before_next bs n last t s.2; wrong = s.3 }

all_lines : (bs : List ℕ) (n last t : ℕ) → t ≡ last → Upto bs n last t → Upto bs n last last
all_lines bs n last t e u = rw e at u

pub means : (bs : List ℕ) (n last t : ℕ) (f : Option Fault) → t ≤ last → Stands bs n last t f → Means bs t (judgement last t f)
means bs n last t (Some WrongTrailer) l s = inl (refl, s)
means bs n last t (Some WrongLine) l s = inr (inl (refl, first_wrong bs n last t s))
means bs n last t None l s = go (ltb t last) refl
  where
    go : (b : Bool) → ltb t last ≡ b → Means bs t (cond b (Err (refused 17 t)) (Ok tt))
    go true e = inr (inr (refl, record { n = n; last = last; ended = s.0; fewer = ltb-true t last e; lines = s.1 }))
    go false e =
        let h = ltb-false t last e in
        let q : t ≡ last = omega arith in
        (record { n = n; last = last; ended = s.0; lines = all_lines bs n last t q s.1 }, q)

pub ok_refutes : (bs : List ℕ) (t : ℕ) (r : Result (Unit {0}) Refusal) → Means bs t (answer r) → is_ok r ≡ true → Refutes bs
ok_refutes bs t (Ok u) m e = refutes bs m.0
ok_refutes bs t (Err x) m e = absurd (both_ways false refl e)

-- ---- taken whole

pub outcome : (bs : List ℕ) (n last t : ℕ) (f : Option Fault) → t ≤ last → waiting last t f ≡ false → Stands bs n last t f → Outcome bs (judgement last t f)
outcome bs n last t (Some WrongTrailer) l w s = inl (refl, s)
outcome bs n last t (Some WrongLine) l w s = inr (t + 1, refl, first_wrong bs n last t s)
outcome bs n last t None l w s = go (ltb t last) w
  where
    h : last ≤ t
    h = ltb-false t last w

    go : (b : Bool) → b ≡ false → Outcome bs (cond b (Err (refused 17 t)) (Ok tt))
    go true e = absurd (both_ways _ e refl)
    go false e = let q : t ≡ last = omega (arith, h) in record { n = n; last = last; ended = s.0; lines = all_lines bs n last t q s.1 }

same_end : (bs : List ℕ) (n m last end : ℕ) → Ended bs n last → Ended bs m end → (n ≡ m) × (last ≡ end)
same_end bs n m last end e f = (ap (λ (t : Trailer). t.atoms) (sym e.trailer.numbers ∙ f.trailer.numbers), e.count ∙ sym f.count)

moved : (bs : List ℕ) (k n m last end : ℕ) → n ≡ m → last ≡ end → Right bs n last k → Right bs m end k
moved bs k n m last end e f r = rw (e, f) at r

not_both : (bs : List ℕ) (k : ℕ) → Sound bs → FirstWrong bs k → ⊥
unfolding Upto
not_both bs k s w =
    let e = same_end bs s.n w.n s.last w.last s.ended w.ended in
    let l : k ≤ s.last = omega (arith, w.high, e.1) in
    w.wrong (moved bs k s.n w.n s.last w.last e.0 e.1 (s.lines k w.low l))

pub exact : (bs : List ℕ) (r : Result (Unit {0}) Refusal) → Outcome bs (answer r) → Decides (is_ok r) (Sound bs)
exact bs (Ok u) o = (λ t. o, λ s. refl)
exact bs (Err x) o = (λ t. absurd (both_ways false refl t), λ s. absurd (⊎_elim (λ h. h.1 s.n s.last s.ended) (λ h. not_both bs h.0 s h.2) o))

pub whole_refutes : (bs : List ℕ) (r : Result (Unit {0}) Refusal) → Outcome bs (answer r) → is_ok r ≡ true → Refutes bs
whole_refutes bs (Ok u) o t = refutes bs o
whole_refutes bs (Err x) o t = absurd (both_ways false refl t)

-- how many takes can still change a check
abbrev pub left : ℕ → ℕ → Option Fault → ℕ
left last t (Some f) = 0
left last t None = last - t
