-- How the search part of a session changes.
use Rattle.std.specs.Prelude.{◌≡◌, ℕ, zero, suc, ◌-◌, cond, List, ◌++◌, take, replicate, Some, None, Option, slice_index_or, slice_set}
use Rattle.clause.specs.declared.words.Clause.{Clause}
use Rattle.clause.specs.declared.refusal.Refusal.{Refusal}
use Rattle.clause.specs.Clauses.{lits, makes, top}
use Rattle.clause.specs.Words.{with_atom, upto}
use Rattle.session.specs.declared.search.Search.{Search}
use Rattle.session.specs.declared.search.Phase.{Phase}
use Rattle.session.specs.declared.search.Phase.TheVariants.{Unopened, Undecided, Satisfied, Refuted}
use Rattle.session.specs.declared.report.Step.TheVariants.{Setting, Derivation}
use Rattle.session.specs.Reports.{none_made, counted, more}

-- nothing true, nothing counted
abbrev pub fresh : ℕ → Phase → Search
fresh n ph = record { atoms = n; phase = ph; valuation = 0; reasons = replicate 64 None; made = none_made; given = 0 }

-- a session that was not refused at its opening
abbrev pub WasOpened : Phase → Type 0
WasOpened ph = (e : Refusal) → ph ≡ Unopened e → ⊥

-- the reason of atom p, from 1
unfoldable pub reason_in : List (Option ℕ) → ℕ → Option ℕ
reason_in rs zero = None
reason_in rs (suc k) = slice_index_or rs k None

abbrev pub reason_of : Search → ℕ → Option ℕ
reason_of s p = reason_in s.reasons p

-- atom p true with reason k: a setting
unfoldable pub setting : Search → ℕ → ℕ → Search
setting s p k = record {
  atoms = s.atoms;
  phase = s.phase;
  valuation = with_atom s.valuation p;
  reasons = slice_set s.reasons (p - 1) (Some k);
  made = counted s.made Setting;
  given = s.given;
}

-- the atoms above h false, and without reasons
unfoldable pub cleared : Search → ℕ → Search
cleared s h = record {
  atoms = s.atoms;
  phase = s.phase;
  valuation = upto s.valuation h;
  reasons = take h s.reasons ++ replicate (64 - h) None;
  made = s.made;
  given = s.given;
}

-- one step more was made
abbrev pub stepped : Search → Search
stepped s = record {
  atoms = s.atoms;
  phase = s.phase;
  valuation = s.valuation;
  reasons = s.reasons;
  made = counted s.made Derivation;
  given = s.given;
}

-- after a derived clause with the highest atom h was put
abbrev pub derived : Search → ℕ → Search
derived s h = stepped (cleared s h)

abbrev pub in_phase : Search → Phase → Search
in_phase s ph = record {
  atoms = s.atoms;
  phase = ph;
  valuation = s.valuation;
  reasons = s.reasons;
  made = s.made;
  given = s.given;
}

-- the empty clause was derived from entries first and second
abbrev pub refuted : Search → ℕ → ℕ → Search
refuted s first second = stepped (in_phase s (Refuted first second))

-- no held clause is false
abbrev pub satisfied : Search → Search
satisfied s = in_phase s Satisfied

-- a satisfiable verdict is withdrawn
abbrev pub withdrawn : Phase → Phase
withdrawn (Unopened e) = Unopened e
withdrawn Undecided = Undecided
withdrawn Satisfied = Undecided
withdrawn (Refuted i j) = Refuted i j

abbrev pub one_given : Search → Search
one_given s = record {
  atoms = s.atoms;
  phase = withdrawn s.phase;
  valuation = s.valuation;
  reasons = s.reasons;
  made = s.made;
  given = more s.given;
}

-- after a new clause was given: where it is false, the atoms above its highest become false
abbrev pub admitted : Search → Clause → Search
admitted s c = cond (makes s.valuation (lits c)) (one_given s) (cleared (one_given s) (top (lits c)))
