-- An add keeps the invariant.
use Rattle.std.proofs.Common.{◌≡◌, ℕ, ◌<◌, Bool, true, false, eqb, List, ℤ, Ok, Err, Result, refl, arith}
use Rattle.std.proofs.lemmas.Bool.{eqb-false}
use Rattle.clause.specs.declared.words.Clause.{Clause}
use Rattle.clause.specs.Clauses.{lits, top}
use Rattle.clause.specs.Reading.{reads, clear}
use Rattle.clause.specs.Refusals.{Told}
use Rattle.store.specs.Held.{Held, found}
use Rattle.session.specs.declared.search.Search.{Search}
use Rattle.session.specs.declared.search.Phase.{Phase}
use Rattle.session.specs.declared.search.Phase.TheVariants.{Unopened, Undecided, Satisfied, Refuted}
use Rattle.session.specs.Steps.{After}
use Rattle.session.specs.Calls.{adding, add_clause, add_read, add_in}
use Rattle.search_law.proofs.Accepts.{Accepts, adding_fine}
use Rattle.search_law.proofs.Literals.{reads_ordinary}
use Rattle.search_law.specs.Law.{Inv, Says, Added, AddLaw}

abbrev AddedOf : List Clause → Held → Search → List ℤ → After (Result ℕ Told) → Type 0
AddedOf acc h s ls a = Added acc h s ls a.held a.search a.answer

module _ (acc : List Clause) (h : Held) (s : Search) (I : Inv acc h s) (ls : List ℤ) where
  module _ (c : Clause) (rd : reads s.atoms 0 clear ls ≡ Ok c) where
    accepted : (h' : Held) (s' : Search) (r : Result ℕ Told) → Accepts acc h s c h' s' r → Added acc h s ls h' s' r
    accepted h' s' (Ok k) x = (x.onward, (c, rd, x.numbered, x.keeps))
    accepted h' s' (Err e) x = (x.0, x.1)

    clause_fine : (b : Bool) → eqb (top (lits c)) 0 ≡ b → AddedOf acc h s ls (add_clause h s c b)
    clause_fine true q = (refl, refl)
    clause_fine false q =
        let z : 0 < top (lits c) = let x = eqb-false (top (lits c)) 0 q in omega arith in
        let a = adding h s c (found h c) in
        accepted a.held a.search a.answer (adding_fine acc h s I c (reads_ordinary s.atoms c ls rd z) (found h c) refl)

  read : (r : Result Clause Told) → reads s.atoms 0 clear ls ≡ r → AddedOf acc h s ls (add_read h s r)
  read (Ok c) e = clause_fine c e (eqb (top (lits c)) 0) refl
  read (Err x) e = (refl, refl)

  opened : (ph : Phase) → Says acc h s.valuation ph → AddedOf acc h s ls (add_in h s ls ph)
  opened (Unopened e) x = absurd x
  opened Undecided x = read (reads s.atoms 0 clear ls) refl
  opened Satisfied x = read (reads s.atoms 0 clear ls) refl
  opened (Refuted i j) x = read (reads s.atoms 0 clear ls) refl

pub add_law : AddLaw
add_law acc h s I ls = opened acc h s I ls s.phase I.says
