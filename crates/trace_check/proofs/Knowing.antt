-- What a check knows as it takes lines, and that the knowledge comes out again.
use Rattle.std.proofs.Common.{◌≡◌, ℕ, ◌+◌, ◌<◌, List, Some, None, Option, ap, ⊎_elim, arith}
use mathlib.Core.HLevel.{⊥_prop}
use mathlib.Core.List.{is_set}
use mathlib.Core.Logic.{∥∥₁_elim, ∥∥₁_map}
use native.Mathlib.Bridge.{le_prop}
use native.Mathlib.Nat.{ℕ_set}
use Rattle.std.proofs.lemmas.Bool.{cases_Bool, cases_eq, both_ways}
use Rattle.lines.specs.declared.line.Trailer.{Trailer}
use Rattle.rule.specs.Rule.{Right}
use Rattle.rule.specs.Tests.{passes}
use Rattle.rule.proofs.Law.{passes_law}
use Rattle.trace_check.specs.declared.fault.Fault.{Fault}
use Rattle.trace_check.specs.declared.fault.Fault.TheVariants.{Trailer as WrongTrailer, Line as WrongLine}
use Rattle.trace_check.specs.Trailers.{Ended}
use Rattle.trace_check.specs.Checks.{Upto, Stands}

pub upto_none : (bs : List ℕ) (n last : ℕ) → Upto bs n last 0
unfolding Upto
upto_none bs n last k h l = absurd (omega arith)

pub upto_more : (bs : List ℕ) (n last t : ℕ) → Upto bs n last t → Right bs n last (t + 1) → Upto bs n last (t + 1)
unfolding Upto
upto_more bs n last t u r k h l = ⊎_elim (λ e. rw e r) (λ ne. u k h (omega arith)) (cases_eq k (t + 1))

module _ (bs : List ℕ) (n last t : ℕ) where
  pub stands_more : (f : Option Fault) → f ≡ None → Right bs n last (t + 1) → ∥ Stands bs n last t f ∥₁ → ∥ Stands bs n last (t + 1) f ∥₁
  stands_more f e r s = rw e (∥∥₁_map (rw e at s) (λ h. (h.0, upto_more bs n last t h.1 r)))

  pub stands_wrong : (f : Option Fault) → f ≡ None → t < last → (Right bs n last (t + 1) → ⊥) → ∥ Stands bs n last t f ∥₁
      → ∥ Stands bs n last t (Some WrongLine) ∥₁
  stands_wrong f e l r s = ∥∥₁_map (rw e at s) (λ h. (l, h.0, h.1, r))

-- ---- out of the truncation

ended_out : (bs : List ℕ) (n last : ℕ) → ∥ Ended bs n last ∥₁ → Ended bs n last
ended_out bs n last t =
    let number : (f : Trailer → ℕ) (x y : Trailer) → ∥ x ≡ y ∥₁ → f x ≡ f y = λ f x y e. ∥∥₁_elim e (ℕ_set _ _) (λ p. ap f p) in
    let same = ∥∥₁_map t (λ e. e.trailer.numbers) in
    let atoms = number (λ (x : Trailer). x.atoms) _ _ same in
    let distance = number (λ (x : Trailer). x.distance) _ _ same in
    let final = number (λ (x : Trailer). x.last) _ _ same in
    let given = number (λ (x : Trailer). x.given) _ _ same in
    record {
      long = ∥∥₁_elim t le_prop (λ e. e.long);
      short = ∥∥₁_elim t le_prop (λ e. e.short);
      whole = ∥∥₁_elim t (ℕ_set _ _) (λ e. e.whole);
      some = ∥∥₁_elim t le_prop (λ e. e.some);
      few = ∥∥₁_elim t le_prop (λ e. e.few);
      count = ∥∥₁_elim t (ℕ_set _ _) (λ e. e.count);
      trailer = record {
        long = ∥∥₁_elim t le_prop (λ e. e.trailer.long);
        marked = ∥∥₁_elim t (is_set ℕ_set _ _) (λ e. e.trailer.marked);
        numbers = λ i. record { atoms = atoms i; distance = distance i; last = final i; given = given i };
        closed = ∥∥₁_elim t (ℕ_set _ _) (λ e. e.trailer.closed);
      };
    }

right_out : (bs : List ℕ) (n last k : ℕ) → ∥ Right bs n last k ∥₁ → Right bs n last k
right_out bs n last k t =
    let d = passes_law bs n last k in
    ⊎_elim (λ b. d.0 b) (λ b. absurd (∥∥₁_elim t ⊥_prop (λ r. both_ways _ b (d.1 r)))) (cases_Bool (passes bs n last k))

upto_out : (bs : List ℕ) (n last t : ℕ) → ∥ Upto bs n last t ∥₁ → Upto bs n last t
unfolding Upto
upto_out bs n last t u k low high = right_out bs n last k (∥∥₁_map u (λ f. f k low high))

pub stands_out : (bs : List ℕ) (n last t : ℕ) (f : Option Fault) → ∥ Stands bs n last t f ∥₁ → Stands bs n last t f
stands_out bs n last t None s = (ended_out bs n last (∥∥₁_map s (λ h. h.0)), upto_out bs n last t (∥∥₁_map s (λ h. h.1)))
stands_out bs n last t (Some WrongTrailer) s = λ a b e. ∥∥₁_elim s ⊥_prop (λ h. h a b e)
stands_out bs n last t (Some WrongLine) s = (
  ∥∥₁_elim s le_prop (λ h. h.0),
  ended_out bs n last (∥∥₁_map s (λ h. h.1)),
  upto_out bs n last t (∥∥₁_map s (λ h. h.2)),
  λ r. ∥∥₁_elim s ⊥_prop (λ h. h.3 r),
)
