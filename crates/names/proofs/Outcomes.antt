-- What a word comes to, and the laws of a table.
use Rattle.std.proofs.Common.{◌≡◌, ℕ, zero, suc, ◌+◌, ◌<◌, ◌≤◌, Bool, true, false, List, [], ◌∷◌, length, get_or, Some, None, Ok, Err, Option, Result, sym, refl, ap, ◌∙◌, subst, inl, inr, arith}
use Rattle.std.proofs.lemmas.List.{length_push, get_or_push, get_or_append_left}
use Rattle.std.proofs.lemmas.Option.{slice_get-get_or, slice_get_past}
use Rattle.std.proofs.lemmas.Bool.{cases_lt, cases_eq}
use Rattle.clause.specs.Refusals.{Told, refused, answer}
use Rattle.clause.specs.declared.refusal.Refusal.{Refusal}
use Rattle.names.specs.Bytes.{is_name}
use Rattle.names.specs.Laws.{InverseLaw, Given, GivenLaw, StaysLaw, RefusedLaw}
use Rattle.names.specs.Tables.{Table, name_at, atom_of, joined, word_answer, after_word, Kept}
use Rattle.names.proofs.Finds.{find_from_lem, some_found}
use Rattle.names.proofs.Gifts.{answer_good, answer_bad, after_good, after_bad, word_found, word_full, word_new}

-- the four ways of a word: it is no name, it has an atom, it finds no place, it is given the next atom
data Outcome (t : Table) (w : List ℕ) : Type 0 where
  bad : word_answer t w ≡ Err (refused 19 0) → after_word t w ≡ t → Outcome t w
  old : (k : ℕ) → atom_of t w ≡ Some k → word_answer t w ≡ Ok k → after_word t w ≡ t → Outcome t w
  shut : word_answer t w ≡ Err (refused 20 0) → after_word t w ≡ t → Outcome t w
  new : (length t.names ≡ t.places → ⊥) → word_answer t w ≡ Ok (length t.names + 1) → after_word t w ≡ joined t w → Outcome t w

outcome : (t : Table) (w : List ℕ) → Outcome t w
outcome t w = go (is_name w) refl (atom_of t w) refl
  where
    go : (b : Bool) → is_name w ≡ b → (o : Option ℕ) → atom_of t w ≡ o → Outcome t w
    go false e o f = bad (answer_bad t w e) (after_bad t w e)
    go true e (Some k) f = let g = word_found t w k f in old k f (answer_good t w e ∙ g.0) (after_good t w e ∙ g.1)
    go true e None f = elim (cases_eq (length t.names) t.places) [
      | inl l ↦ let g = word_full t w f l in shut (answer_good t w e ∙ g.0) (after_good t w e ∙ g.1)
      | inr l ↦ let g = word_new t w f l in new l (answer_good t w e ∙ g.0) (after_good t w e ∙ g.1)
    ]

-- ---- an atom and its name

name_there : (t : Table) (w : List ℕ) (k i : ℕ) → k ≡ 1 + i → i < length t.names → get_or t.names i [] ≡ w → name_at t k ≡ Some w
name_there t w k i e l f =
    let z : k ≡ suc i = omega arith in
    ap (name_at t) z ∙ slice_get-get_or t.names i [] l ∙ ap Some f

record Named (t : Table) (w : List ℕ) (k : ℕ) : Type 0 where
  pub index : ℕ
  pub number : k ≡ 1 + index
  pub within : index < length t.names
  pub is : get_or t.names index [] ≡ w

some_is : (v w : List ℕ) → ◌≡◌ {A = Option (List ℕ)} (Some v) (Some w) → v ≡ w
some_is v w e = cc

named : (t : Table) (w : List ℕ) (k : ℕ) → name_at t k ≡ Some w → Named t w k
named t w zero e = let z : ◌≡◌ {A = ℕ} 0 1 = cc in absurd (omega arith)
named t w (suc k) e = elim (cases_lt k (length t.names)) [
  | inl l ↦ record { index = k; number = omega arith; within = l; is = some_is _ _ (sym (slice_get-get_or t.names k [] l) ∙ e) }
  | inr l ↦ let n = slice_get_past t.names k l in let z : ◌≡◌ {A = ℕ} 0 1 = cc in absurd (omega arith)
]

pub inverse_law : InverseLaw
inverse_law t h w k = (
  λ e. let s = some_found 1 t.names w k e in name_there t w k s.index s.number s.within s.is,
  λ e.
      let s = named t w k e in
      find_from_lem 1 t.names w s.index s.within s.is (λ j l f. h.single j s.index l s.within (f ∙ sym s.is)) ∙ ap Some (sym s.number),
)

-- ---- one word more

ok_is : (j k : ℕ) (r : Result ℕ Told) → r ≡ Ok j → r ≡ Ok k → j ≡ k
ok_is j k r e f = cc

never : (k : ℕ) (d : Told) (r : Result ℕ Told) → r ≡ Err d → r ≡ Ok k → ⊥
never k d r e f = let z : ◌≡◌ {A = ℕ} 0 1 = cc in omega arith

given_at : (t : Table) → Kept t → (w : List ℕ) (k : ℕ) → word_answer t w ≡ Ok k → Given (after_word t w) w (Ok k)
given_at t h w k e = go (outcome t w)
  where
    go : Outcome t w → (1 ≤ k) × (k ≤ 64) × (name_at (after_word t w) k ≡ Some w)
    go (bad a b) = absurd (never k (refused 19 0) (word_answer t w) a e)
    go (shut a b) = absurd (never k (refused 20 0) (word_answer t w) a e)
    go (old j f a b) =
        let q = ok_is j k (word_answer t w) a e in
        let s = some_found 1 t.names w j f in
        let m = s.number in
        let l = s.within in
        (omega arith, omega (arith, h.within, h.few), ap (λ u. name_at u k) b ∙ name_there t w k s.index (omega arith) l s.is)
    go (new f a b) =
        let q = ok_is (length t.names + 1) k (word_answer t w) a e in
        let m : length t.names < t.places = below (length t.names) t.places h.within f in (
          omega arith,
          omega (arith, h.few),
          ap (λ u. name_at u k) b ∙ name_there (joined t w) w k (length t.names) (omega arith) (omega (arith, length_push t.names w)) (get_or_push t.names w [] (length t.names) refl),
        )
      where
        below : (a b : ℕ) → a ≤ b → (a ≡ b → ⊥) → a < b
        below a b l f = elim (cases_lt a b) [ inl q ↦ q | inr q ↦ absurd (f (omega arith)) ]

pub given_law : GivenLaw
given_law t h w = go (word_answer t w) refl
  where
    go : (r : Result ℕ Told) → word_answer t w ≡ r → Given (after_word t w) w r
    go (Ok k) e = given_at t h w k e
    go (Err d) e = tt

-- what an answer tells of the atom that it gives
pub given_told : (t u : Table) (w : List ℕ) (r : Result ℕ Refusal) → Kept t → answer r ≡ word_answer t w → u ≡ after_word t w → Given u w (answer r)
given_told t u w r h e f = subst (λ v. Given v w (answer r)) (sym f) (subst (Given (after_word t w) w) (sym e) (given_law t h w))

joined_stays : (t : Table) (w v : List ℕ) (k : ℕ) → name_at t k ≡ Some v → name_at (joined t w) k ≡ Some v
joined_stays t w v k e =
    let s = named t v k e in
    let l = s.within in
    name_there (joined t w) v k s.index s.number (omega (arith, length_push t.names w)) (get_or_append_left t.names (w ∷ []) [] s.index l ∙ s.is)

pub stays_law : StaysLaw
stays_law t w v k e = go (outcome t w)
  where
    go : Outcome t w → name_at (after_word t w) k ≡ Some v
    go (bad a b) = ap (λ u. name_at u k) b ∙ e
    go (old j f a b) = ap (λ u. name_at u k) b ∙ e
    go (shut a b) = ap (λ u. name_at u k) b ∙ e
    go (new f a b) = ap (λ u. name_at u k) b ∙ joined_stays t w v k e

pub refused_law : RefusedLaw
refused_law t w d e = go (outcome t w)
  where
    go : Outcome t w → after_word t w ≡ t
    go (bad a b) = b
    go (old j f a b) = b
    go (shut a b) = b
    go (new f a b) = absurd (never (length t.names + 1) d (word_answer t w) e a)
