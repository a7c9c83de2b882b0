-- The lowest atom where two valuations differ.
use Rattle.std.proofs.Common.{◌≡◌, ℕ, zero, suc, ◌^◌, ◌<◌, ◌≤◌, Bool, true, false, ◌⊎◌, sym, refl, ◌∙◌, inl, inr, ⊎_elim, arith}
use Rattle.std.proofs.lemmas.Bool.{cases_eq, cases_lt, both_ways}
use Rattle.clause.specs.Words.{at}
use Rattle.clause.proofs.Bits.{same_words}
use Rattle.clause.proofs.Truths.{at_none}
use Rattle.search_law.specs.Law.{LeastLaw}
use Rattle.search_law.specs.Models.{Lower}

-- v and w differ at an atom, and at none below it
pub record Parts (v w : ℕ) : Type 0 where
  pub atom : ℕ
  pub within : atom ≤ 64
  pub unlike : at v atom ≡ at w atom → ⊥
  pub alike : (a : ℕ) → a < atom → at v a ≡ at w a

abbrev AlikeTo : ℕ → ℕ → ℕ → Type 0
AlikeTo k v w = (a : ℕ) → a ≤ k → at v a ≡ at w a

same_bool : (x y : Bool) → (x ≡ y) ⊎ (x ≡ y → ⊥)
same_bool true true = inl refl
same_bool true false = inr (λ e. both_ways true e refl)
same_bool false true = inr (λ e. both_ways false refl e)
same_bool false false = inl refl

parts_to : (k : ℕ) → k ≤ 64 → (v w : ℕ) → AlikeTo k v w ⊎ Parts v w
parts_to zero l v w = inl (λ a m. let z : a ≡ 0 = omega arith in rw z (at_none v ∙ sym (at_none w)))
parts_to (suc k) l v w = ⊎_elim
    (λ h. ⊎_elim
    (λ e. inl (λ a m. ⊎_elim (λ z. rw z e) (λ n. h a (omega arith)) (cases_eq a (suc k))))
    (λ n. inr (record { atom = suc k; within = l; unlike = n; alike = λ a m. h a (omega arith) }))
    (same_bool (at v (suc k)) (at w (suc k))))
    (λ d. inr d)
    (parts_to k (omega arith) v w)

pub parts : (v w : ℕ) → v < 2 ^ 64 → w < 2 ^ 64 → (v ≡ w → ⊥) → Parts v w
parts v w f g n = ⊎_elim (λ h. absurd (n (same_words v w f g h))) (λ d. d) (parts_to 64 (omega arith) v w)

-- each of two would be lower than the other
torn : (v w : ℕ) → Lower v w → Lower w v → ⊥
torn v w l m = ⊎_elim
    (λ e. let x = l.on in let y = m.off in both_ways (at w l.atom) (rw e y) x)
    (λ n. ⊎_elim
    (λ z. both_ways _ l.off (sym (m.alike l.atom z) ∙ l.on))
    (λ z. both_ways _ m.off (sym (l.alike m.atom (omega arith)) ∙ m.on))
    (cases_lt l.atom m.atom))
    (cases_eq l.atom m.atom)

pub least_law : LeastLaw
least_law cs v w l m = ⊎_elim
    (λ e. e)
    (λ n. absurd (torn v w (l.lowest w m.fits m.model n) (m.lowest v l.fits l.model (λ e. n (sym e)))))
    (cases_eq v w)
