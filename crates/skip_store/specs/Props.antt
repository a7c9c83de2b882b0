-- That records are linked is a fact with at most one proof, so that a store can keep it.
use Rattle.std.specs.Prelude.{ℕ, List}
use Rattle.std.specs.Coded.{×_prop, le_prop}
use mathlib.Core.HLevel.{Π_prop}
use native.Mathlib.Nat.{ℕ_set}
use Rattle.store.specs.declared.entry.Entry.{Entry}
use Rattle.skip_store.specs.Links.{spot, link, On, Next, Chained}

next_prop : (ps : ℕ → ℕ) (s l j n : ℕ) → IsProp (Next ps s l j n)
unfolding On
next_prop ps s l j n x y = λ i. record {
  within = le_prop x.within y.within i;
  level = ℕ_set _ _ x.level y.level i;
  after = Π_prop (λ _. le_prop) x.after y.after i;
  least = Π_prop (λ _. Π_prop (λ _. Π_prop (λ _. Π_prop (λ _. Π_prop (λ _. ×_prop le_prop le_prop))))) x.least y.least i;
}

pub chained_prop : (es : List Entry) (head links : List ℕ) (n : ℕ) → IsProp (Chained es head links n)
chained_prop es head links n = Π_prop (λ l. Π_prop (λ _. Π_prop (λ j. Π_prop (λ _. Π_prop (λ _. next_prop (spot es) n l j (link head links j l))))))
