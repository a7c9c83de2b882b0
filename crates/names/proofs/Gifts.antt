-- A table as its calls find and leave it.
use Rattle.std.proofs.Common.{◌≡◌, ℕ, ◌+◌, ◌≤◌, Bool, true, false, cond, List, [], length, get_or, take, Some, None, Option, Ok, Err, Result, sym, refl, ap, ◌∙◌, subst, ap₂, arith}
use Rattle.std.proofs.lemmas.Bool.{eq-eqb, ne_eqb}
use Rattle.std.specs.Result.{result_ok}
use Rattle.clause.specs.declared.refusal.Refusal.{Refusal}
use Rattle.clause.specs.Refusals.{Told, told, refused}
use Rattle.row.specs.declared.Added.{Added}
use Rattle.row.specs.declared.Added.TheVariants.{Held, New, Full}
use Rattle.row.specs.Order.{Ascending, seated}
use Rattle.row.specs.Adds.{Adds}
use Rattle.names.specs.Bytes.{is_name, naming}
use Rattle.names.specs.Names.{spelled, spelling}
use Rattle.names.specs.declared.name.Name.{Name}
use Rattle.names.specs.Slots.{place, table_of}
use Rattle.names.specs.Tables.{Table, atom_of, joined, name_answer, word_answer, after_name, after_word, Kept}
use Rattle.names.specs.declared.slot.NameSlot.{NameSlot}
use Rattle.names.specs.declared.table.NameTable.{NameTable}
use Rattle.names.proofs.Holders.{length_names, names_none}
use Rattle.names.proofs.Numbers.{Numbered, found_none, found_read, numbered_more, names_pushed}

-- the invariant, whole
pub numbered : (t : NameTable) → Numbered t.row.slots.now t.row.size t.row.places
numbered t = record { within = t.row.within; fits = t.row.fits; few = t.few; rising = t.row.ascends; counted = t.counted; seated = t.seated; single = t.single }

abbrev table : List (List ℕ) → ℕ → Table
table vs p = record { names = vs; places = p }

pub table_none : (xs : List NameSlot) (n p q : ℕ) → n ≡ 0 → p ≡ q → table_of xs n p ≡ record { names = []; places = q }
table_none xs n p q e f = ap₂ table (names_none n _ e) f

pub kept_none : (t : Table) (q : ℕ) → t ≡ record { names = []; places = q } → q ≤ 64 → Kept t
kept_none t q e l = subst Kept (sym e) (record { within = omega arith; few = l; good = λ k h. absurd (omega arith); single = λ i j f h. absurd (omega arith) })

-- ---- a word, by what it is

-- what the answer to a word says of it
pub record Good (w v : List ℕ) : Type 0 where
  pub good : is_name w ≡ true
  pub same : v ≡ w

pub word_good : (w v : List ℕ) → Ok v ≡ naming w → Good w v
word_good w v e = go (is_name w) refl e
  where
    go : (b : Bool) → is_name w ≡ b → ◌≡◌ {A = Result (List ℕ) Told} (Ok v) (cond b (Ok w) (Err (refused 19 0))) → Good w v
    go true q e = record { good = q; same = cc }
    go false q e = let z : ◌≡◌ {A = ℕ} 0 1 = cc in absurd (omega arith)

pub record Bad (w : List ℕ) (d : Told) : Type 0 where
  pub bad : is_name w ≡ false
  pub told : d ≡ refused 19 0

pub word_bad : (w : List ℕ) (d : Told) → Err d ≡ naming w → Bad w d
word_bad w d e = go (is_name w) refl e
  where
    go : (b : Bool) → is_name w ≡ b → ◌≡◌ {A = Result (List ℕ) Told} (Err d) (cond b (Ok w) (Err (refused 19 0))) → Bad w d
    go true q e = let z : ◌≡◌ {A = ℕ} 0 1 = cc in absurd (omega arith)
    go false q e = record { bad = q; told = cc }

none_some : {n : Name} → ◌≡◌ {A = Option Name} None (Some n) → ⊥
none_some e = cc

-- the same of the name that a word was read as, or of none
pub name_read : (w : List ℕ) (r : Result Name Refusal) (n : Name) → spelling r ≡ naming w → result_ok r ≡ Some n → Good w (spelled n)
name_read w (Ok m) n e f = let q : m ≡ n = cc in word_good w (spelled n) (ap (λ z. Ok (spelled z)) (sym q) ∙ e)
name_read w (Err d) n e f = absurd (none_some f)

pub name_unread : (w : List ℕ) (r : Result Name Refusal) → spelling r ≡ naming w → result_ok r ≡ None → is_name w ≡ false
name_unread w (Ok m) e f = absurd (none_some (sym f))
name_unread w (Err d) e f = (word_bad w (told d) e).bad

module _ (t : Table) (w : List ℕ) where
  pub answer_bad : is_name w ≡ false → word_answer t w ≡ Err (refused 19 0)
  answer_bad e = rw e

  pub after_bad : is_name w ≡ false → after_word t w ≡ t
  after_bad e = rw e

  pub answer_good : is_name w ≡ true → word_answer t w ≡ name_answer t (atom_of t w)
  answer_good e = rw e

  pub after_good : is_name w ≡ true → after_word t w ≡ after_name t w (atom_of t w)
  after_good e = rw e

  pub word_found : (k : ℕ) → atom_of t w ≡ Some k → (name_answer t (atom_of t w) ≡ Ok k) × (after_name t w (atom_of t w) ≡ t)
  word_found k s = (rw s, rw s)

  pub word_full : atom_of t w ≡ None → length t.names ≡ t.places → (name_answer t (atom_of t w) ≡ Err (refused 20 0)) × (after_name t w (atom_of t w) ≡ t)
  word_full s l = let q = eq-eqb (length t.names) t.places l in (rw (s, q), rw (s, q))

  pub word_new : atom_of t w ≡ None → (length t.names ≡ t.places → ⊥) → (name_answer t (atom_of t w) ≡ Ok (length t.names + 1)) × (after_name t w (atom_of t w) ≡ joined t w)
  word_new s l = let q = ne_eqb (length t.names) t.places l in (rw (s, q), rw (s, q))

-- ---- what an addition of the record x, with the next atom, leaves

module _ (xs : List NameSlot) (n p : ℕ) (o : Numbered xs n p) (x : NameSlot) (num : x.atom ≡ n + 1) (ys : List NameSlot) (m q : ℕ) (stays : q ≡ p) where
  table_same : ys ≡ xs → m ≡ n → table_of ys m q ≡ table_of xs n p
  table_same e f = ap (λ zs. table_of zs m q) e ∙ ap (λ k. table_of xs k q) f ∙ ap (table_of xs n) stays

  numbered_same : ys ≡ xs → m ≡ n → Numbered ys m q
  numbered_same e f = subst (λ zs. Numbered zs m q) (sym e) (subst (λ k. Numbered xs k q) (sym f) (subst (Numbered xs n) (sym stays) o))

  pub numbered_after : (r : Added) → Adds place xs n p x r ys m → q ≤ length ys → Ascending place ys m → Numbered ys m q
  numbered_after (Held i) a f s = numbered_same a.1 a.2
  numbered_after (New i) a f s =
      let fits : p ≤ length (seated xs n i x) = omega (arith, ap length a.3) in
      let ascends : Ascending place (seated xs n i x) (n + 1) = subst (λ k. Ascending place (seated xs n i x) k) a.4 (subst (λ zs. Ascending place zs m) a.3 s) in
      subst (λ zs. Numbered zs m q) (sym a.3) (subst (λ k. Numbered (seated xs n i x) k q) (sym a.4) (subst (Numbered (seated xs n i x) (n + 1)) (sym stays)
      (numbered_more xs n p o i x a.1.within a.2 num fits ascends)))
  numbered_after Full a f s = numbered_same a.2 a.3

  -- the answer and the table, where the name v of x is held, where it is new, and where it finds no place
  abbrev Gift : List ℕ → Result ℕ Told → Type 0
  Gift v r = (r ≡ name_answer (table_of xs n p) (atom_of (table_of xs n p) v)) × (table_of ys m q ≡ after_name (table_of xs n p) v (atom_of (table_of xs n p) v))

  pub gift_held : (i : ℕ) → Adds place xs n p x (Held i) ys m → (ps : List NameSlot) → ps ≡ take m ys → (z : NameSlot) (k : ℕ) → z ≡ get_or ps i z → k ≡ z.atom → Gift (spelled x.name) (Ok k)
  gift_held i a ps e z k r f =
      let s : ps ≡ take n xs = e ∙ ap (take m) a.1 ∙ ap (λ j. take j xs) a.2 in
      let g = word_found (table_of xs n p) (spelled x.name) k (found_read xs n p o x ps i z k s a.0 r f) in
      (sym g.0, table_same a.1 a.2 ∙ sym g.1)

  pub gift_new : (i : ℕ) → Adds place xs n p x (New i) ys m → Gift (spelled x.name) (Ok (n + 1))
  gift_new i a =
      let l = length_names n (take n xs) in
      let g = word_new (table_of xs n p) (spelled x.name) (found_none xs n p o (spelled x.name) a.0) (λ e. omega (arith, a.2)) in (
        ap (λ k. Ok (k + 1)) (sym l) ∙ sym g.0,
        ap (λ zs. table_of zs m q) a.3 ∙ ap (λ k. table_of (seated xs n i x) k q) a.4 ∙ ap (table_of (seated xs n i x) (n + 1)) stays
            ∙ ap (λ vs. table vs p) (names_pushed xs n p o i x a.1.within a.2 num) ∙ sym g.1,
      )

  pub gift_full : Adds place xs n p x Full ys m → Gift (spelled x.name) (Err (refused 20 0))
  gift_full a =
      let g = word_full (table_of xs n p) (spelled x.name) (found_none xs n p o (spelled x.name) a.0) (omega (arith, length_names n (take n xs), a.1, o.within)) in
      (sym g.0, table_same a.2 a.3 ∙ sym g.1)
