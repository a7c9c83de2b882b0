-- What the answer call prints, step by step.
use Rattle.std.proofs.Common.{◌≡◌, ℕ, ◌≤◌, List, [], length, Ok, Err, Result, MatchResult, sym, refl, ap, ◌∙◌, subst, arith}
use Rattle.std.proofs.lemmas.Bool.{le-ltb}
use Rattle.clause.specs.declared.refusal.Refusal.{Refusal}
use Rattle.clause.specs.Refusals.{Told, told}
use Rattle.dimacs.specs.declared.heading.Heading.{Heading}
use Rattle.dimacs.specs.Walk.{Parsed, parse, counts}
use Rattle.store.specs.declared.entry.Entry.{Entry}
use Rattle.store.specs.Held.{Held}
use Rattle.session.specs.declared.search.Search.{Search}
use Rattle.session.specs.Steps.{After}
use Rattle.session.specs.Calls.{opened, load}
use Rattle.answer.specs.Answered.{answered, parsed_as, loaded, faulted, vacant}

-- what a step tells, a text or a refusal that prints as x, told of an equal text
pub moved : (r : Result (Unit {0}) Refusal) (t x y : List ℕ) → x ≡ y → MatchResult r (λ _. t ≡ x) (λ e. (t ≡ []) × (faulted (told e) ≡ x)) → MatchResult r (λ _. t ≡ y) (λ e. (t ≡ []) × (faulted (told e) ≡ y))
moved r t x y e h = subst (λ z. MatchResult r (λ _. t ≡ z) (λ f. (t ≡ []) × (faulted (told f) ≡ z))) e h

pub refused : (r : Result (Unit {0}) Refusal) (f : Refusal) (t y : List ℕ) → r ≡ Err f → t ≡ [] → faulted (told f) ≡ y → MatchResult r (λ _. t ≡ y) (λ e. (t ≡ []) × (faulted (told e) ≡ y))
refused r f t y e n h = subst (λ z. MatchResult z (λ _. t ≡ y) (λ g. (t ≡ []) × (faulted (told g) ≡ y))) (sym e) (n, h)

pub vacant_is : (es : List Entry) (p : ℕ) → es ≡ [] → p ≡ 1024 → ◌≡◌ {A = Held} (record { entries = es; places = p }) vacant
vacant_is es p e q = rw (e, q)

-- a load in a session over an empty store
pub decided : (n : ℕ) (bs : List ℕ) (h : Held) (s : Search) (a : After (Result ℕ Told)) → h ≡ vacant → s ≡ opened n h → a ≡ load h s bs
    → loaded n a ≡ loaded n (load vacant (opened n vacant) bs)
decided n bs h s a e f g =
    ap (loaded n) g
    ∙ ap (λ (t : Search). loaded n (load h t bs)) f
    ∙ ap (λ (k : Held). loaded n (load k (opened n k) bs)) e

module _ (bs : List ℕ) (l : length bs ≤ 32768) where
  read : answered bs ≡ parsed_as bs (parse 64 bs)
  read = rw (le-ltb 32768 (length bs) l)

  pub sound : (d : Heading) → Ok d ≡ counts (parse 64 bs) → loaded d.atoms (load vacant (opened d.atoms vacant) bs) ≡ answered bs
  sound d e = go (parse 64 bs) refl e
    where
      go : (r : Result Parsed Told) → parse 64 bs ≡ r → Ok d ≡ counts r → loaded d.atoms (load vacant (opened d.atoms vacant) bs) ≡ answered bs
      go (Ok p) q e =
          let k : d.atoms ≡ p.atoms = cc in
          ap (λ (n : ℕ). loaded n (load vacant (opened n vacant) bs)) k ∙ sym (read ∙ ap (parsed_as bs) q)
      go (Err t) q e = let z : ◌≡◌ {A = ℕ} 0 1 = cc in absurd (omega arith)

  pub faulty : (t : Told) → Err t ≡ counts (parse 64 bs) → faulted t ≡ answered bs
  faulty t e = go (parse 64 bs) refl e
    where
      go : (r : Result Parsed Told) → parse 64 bs ≡ r → Err t ≡ counts r → faulted t ≡ answered bs
      go (Ok p) q e = let z : ◌≡◌ {A = ℕ} 0 1 = cc in absurd (omega arith)
      go (Err u) q e = let k : t ≡ u = cc in ap faulted k ∙ sym (read ∙ ap (parsed_as bs) q)
