-- What each refusal says: its number, its place and its layer.
use Rattle.std.specs.Prelude.{ℕ, cond, ◌&&◌, Ok, Err, Result, ◌==◌, nat_le, List, ◌++◌, codes, decimal}
use Rattle.clause.specs.declared.refusal.Refusal.{Refusal}
use Rattle.clause.specs.declared.refusal.Refusal.TheVariants.{AtomCount, NoPlaces, StoreHoldsEntry, TooLarge, MalformedWord, OutOfRange, BothSigns, NoLiteral, ClauseCount, NoPlaceFree, NoVerdict, TooShort, DerivedBothSigns, BudgetUsedUp, WrongTrailer, WrongLine, ClosedEarly, BadName, NoNamePlace}

pub record Told : Type 0 where
  pub number : ℕ
  pub place : ℕ
  pub layer : ℕ

-- layer 1 is words (5), 2 clauses (6 to 9), 3 the rest
abbrev pub layer_of : ℕ → ℕ
layer_of n = cond (n == 5) 1 (cond (nat_le 6 n && nat_le n 9) 2 3)

abbrev pub refused : ℕ → ℕ → Told
refused n p = record { number = n; place = p; layer = layer_of n }

abbrev pub told : Refusal → Told
told AtomCount = refused 1 0
told NoPlaces = refused 2 0
told StoreHoldsEntry = refused 3 0
told TooLarge = refused 4 0
told (MalformedWord i) = refused 5 i
told (OutOfRange i) = refused 6 i
told (BothSigns i) = refused 7 i
told (NoLiteral i) = refused 8 i
told (ClauseCount i) = refused 9 i
told NoPlaceFree = refused 10 0
told NoVerdict = refused 11 0
told TooShort = refused 12 0
told DerivedBothSigns = refused 13 0
told BudgetUsedUp = refused 14 0
told WrongTrailer = refused 15 0
told (WrongLine i) = refused 16 i
told (ClosedEarly i) = refused 17 i
told BadName = refused 19 0
told NoNamePlace = refused 20 0

-- an answer with its refusal told
abbrev pub answer : {X : Type 0} → Result X Refusal → Result X Told
answer (Ok x) = Ok x
answer (Err e) = Err (told e)

-- what is printed of a refusal
abbrev pub told_text : Told → List ℕ
told_text t = codes "refused " ++ (decimal t.number ++ (codes " at " ++ (decimal t.place ++ (codes " in layer " ++ decimal t.layer))))
