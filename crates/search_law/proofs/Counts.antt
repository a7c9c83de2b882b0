-- The counts of a session stay far below 32 bits.
use Rattle.std.proofs.Common.{◌≡◌, ℕ, ◌+◌, ◌*◌, ◌^◌, ◌<◌, ◌≤◌, List, mul-le-mul, arith}
use Rattle.clause.specs.declared.words.Clause.{Clause}
use Rattle.store.specs.Held.{Held, size}
use Rattle.session.specs.declared.search.Search.{Search}
use Rattle.session.specs.declared.search.Phase.{Phase}
use Rattle.session.specs.declared.search.Phase.TheVariants.{Unopened, Undecided, Satisfied, Refuted}
use Rattle.session.specs.Reports.{more}
use Rattle.search_law.proofs.Peaks.{peak_atoms}
use Rattle.search_law.specs.Law.{Inv, Exact, last_one, ample, CountLaw, AmpleLaw}

pub more_counts : (n : ℕ) → n < 2 ^ 21 → more n ≡ n + 1
more_counts n l = omega arith

last_le : (ph : Phase) → last_one ph ≤ 1
last_le (Unopened e) = omega arith
last_le Undecided = omega arith
last_le Satisfied = omega arith
last_le (Refuted i j) = omega arith

module _ (acc : List Clause) (h : Held) (s : Search) (I : Inv acc h s) where
  pub few_settings : s.made.settings < 2 ^ 21
  few_settings =
      let x = I.settings in
      let z = I.room in
      let u = I.limit in
      let f = I.few in
      let m : s.atoms * size h ≤ 64 * 16384 = mul-le-mul {n₂ = 64} {m₂ = 16384} f (omega arith) in
      let p = peak_atoms acc h s I in
      omega arith

  few_entries : (s.made.derivations ≤ size h + 1) × (s.given ≤ size h + 1) × (size h ≤ 16384)
  few_entries =
      let y = I.entries in
      let z = I.room in
      let u = I.limit in
      let l = last_le s.phase in
      (omega arith, omega arith, omega arith)

  pub exact : Exact h s
  exact =
      let f = few_entries in
      let d = f.0 in
      let g = f.1 in
      let z = f.2 in
      record {
        settings = I.settings;
        derivations = d;
        given = g;
        next_setting = more_counts s.made.settings few_settings;
        next_derivation = more_counts s.made.derivations (omega arith);
        next_given = more_counts s.given (omega arith);
      }

pub count_law : CountLaw
count_law acc h s I = exact acc h s I

pub ample_law : AmpleLaw
ample_law acc h s I =
    let f = I.few in
    let l = I.limit in
    let m : ample h s ≤ 65 * 16385 = mul-le-mul {n₂ = 65} {m₂ = 16385} (omega arith) (omega arith) in
    omega arith
