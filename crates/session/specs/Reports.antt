-- How runs are told of: by numbers, and by the steps made.
use Rattle.std.specs.Prelude.{ℕ, ◌+◌, ◌-◌, ◌^◌, min, Ok, Err, Result}
use Rattle.clause.specs.declared.refusal.Refusal.{Refusal}
use Rattle.clause.specs.Refusals.{Told, told}
use Rattle.session.specs.declared.report.Step.{Step}
use Rattle.session.specs.declared.report.Step.TheVariants.{Setting, Derivation}
use Rattle.session.specs.declared.report.Outcome.{Outcome}
use Rattle.session.specs.declared.report.Outcome.TheVariants.{Satisfiable, Unsatisfiable, Stopped}
use Rattle.session.specs.declared.report.Tally.{Tally}
use Rattle.session.specs.declared.report.Report.{Report}

abbrev pub none_made : Tally
none_made = record { settings = 0; derivations = 0 }

-- one more, in 32 bits
abbrev pub more : ℕ → ℕ
more n = min (n + 1) (2 ^ 32 - 1)

abbrev pub counted : Tally → Step → Tally
counted t Setting = record { settings = more t.settings; derivations = t.derivations }
counted t Derivation = record { settings = t.settings; derivations = more t.derivations }

-- the end of a run: a verdict, or the refusal that stopped it
pub data Said : Type 0 where
  satisfiable unsatisfiable : Said
  stopped : Told → Said

abbrev pub said : Outcome → Said
said Satisfiable = satisfiable
said Unsatisfiable = unsatisfiable
said (Stopped e) = stopped (told e)

-- what a run answers
pub record Ended : Type 0 where
  pub outcome : Said
  pub made : Tally

abbrev pub end_of : Report → Ended
end_of r = record { outcome = said r.outcome; made = r.made }

abbrev pub run_answer : Result Report Refusal → Result Ended Told
run_answer (Ok r) = Ok (end_of r)
run_answer (Err e) = Err (told e)
