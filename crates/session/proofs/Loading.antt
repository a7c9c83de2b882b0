-- What a load answers, by what the text was found to be.
use Rattle.std.proofs.Common.{◌≡◌, ℕ, ◌-◌, ltb, List, length, Ok, Err, Result, sym, refl, ap, ◌∙◌, arith}
use Rattle.clause.specs.declared.refusal.Refusal.{Refusal}
use Rattle.clause.specs.Refusals.{Told}
use Rattle.dimacs.specs.declared.heading.Heading.{Heading}
use Rattle.dimacs.specs.Walk.{Parsed, parse, counts}
use Rattle.store.specs.Held.{Held}
use Rattle.session.specs.declared.search.Search.{Search}
use Rattle.session.specs.declared.search.Phase.{Phase}
use Rattle.session.specs.declared.search.Phase.TheVariants.{Unopened, Undecided, Satisfied, Refuted}
use Rattle.session.specs.Steps.{After, after}
use Rattle.session.specs.Calls.{load, load_in, load_parsed, load_all}

module _ (h : Held) (s : Search) (bs : List ℕ) (n : (e : Refusal) → s.phase ≡ Unopened e → ⊥) where
  opened : (p : Phase) → ((e : Refusal) → p ≡ Unopened e → ⊥) → load_in h s bs p ≡ load_parsed h s (parse s.atoms bs)
  opened (Unopened e) n = absurd (n e refl)
  opened Undecided n = refl
  opened Satisfied n = refl
  opened (Refuted i j) n = refl

  by_parse : (r : Result Parsed Told) → parse s.atoms bs ≡ r → load h s bs ≡ load_parsed h s r
  by_parse r e = opened s.phase n ∙ ap (load_parsed h s) e

  -- the text has no fault
  pub load_sound : (d : Heading) (a : After (Result ℕ Told)) → Ok d ≡ counts (parse s.atoms bs)
      → ((p : Parsed) → parse s.atoms bs ≡ Ok p → length p.clauses ≡ d.clauses → a ≡ load_all h s p.clauses (ltb (h.places - length h.entries) (length p.clauses)))
      → a ≡ load h s bs
  load_sound d a e f = go (parse s.atoms bs) refl e
    where
      go : (r : Result Parsed Told) → parse s.atoms bs ≡ r → Ok d ≡ counts r → a ≡ load h s bs
      go (Ok p) q e = let k : length p.clauses ≡ d.clauses = cc in f p q k ∙ sym (by_parse (Ok p) q)
      go (Err x) q e = let z : ◌≡◌ {A = ℕ} 0 1 = cc in absurd (omega arith)

  -- it has one
  pub load_fault : (t : Told) → Err t ≡ counts (parse s.atoms bs) → after h s (Err t) ≡ load h s bs
  load_fault t e = go (parse s.atoms bs) refl e
    where
      go : (r : Result Parsed Told) → parse s.atoms bs ≡ r → Err t ≡ counts r → after h s (Err t) ≡ load h s bs
      go (Ok p) q e = let z : ◌≡◌ {A = ℕ} 0 1 = cc in absurd (omega arith)
      go (Err x) q e = let k : t ≡ x = cc in ap (λ (y : Told). after {X = Result ℕ Told} h s (Err y)) k ∙ sym (by_parse (Err x) q)
