-- What the words of a line ask for.
use Rattle.std.specs.Prelude.{ℕ, cond, List, [], ◌∷◌, length, ℤ, Some, None, vec_items, codes, Option, ◌==◌, nat_le}
use Rattle.std.specs.Option.{option_map}
use Rattle.std.specs.Str.{bytes_eq}
use Rattle.script.specs.declared.request.Request.{Request}
use Rattle.script.specs.declared.request.Request.TheVariants.{Open, Ask}
use Rattle.script.specs.declared.request.Call.{Call}
use Rattle.script.specs.declared.request.Call.TheVariants.{Add, Run, Walk, Show, Counts}
use Rattle.script.specs.declared.request.Verb.{Verb}
use Rattle.script.specs.declared.request.Verb.TheVariants as verb
use Rattle.script.specs.Numbers.{number, literal}

-- a request by its values: a session of n atoms over p records, the literals of a clause, a budget
pub data Asked : Type 0 where
  opened : ℕ → ℕ → Asked
  added : List ℤ → Asked
  ran walked : ℕ → Asked
  shown counted : Asked

abbrev pub called : Call → Asked
called (Add ls) = added (vec_items ls)
called (Run b) = ran b
called (Walk b) = walked b
called Show = shown
called Counts = counted

abbrev pub value_of : Request → Asked
value_of (Open n p) = opened n p
value_of (Ask c) = called c

-- a request, or nothing where a line is none
abbrev pub meant : Option Request → Option Asked
meant o = option_map value_of o

-- the first word says what is asked for
abbrev pub keyword : List ℕ → Option Verb
keyword w =
    cond (bytes_eq w (codes "open")) (Some verb.Open)
    (cond (bytes_eq w (codes "add")) (Some verb.Add)
    (cond (bytes_eq w (codes "run")) (Some verb.Run)
    (cond (bytes_eq w (codes "walk")) (Some verb.Walk)
    (cond (bytes_eq w (codes "show")) (Some verb.Show)
    (cond (bytes_eq w (codes "counts")) (Some verb.Counts) None)))))

-- n atoms over p lent records, at most 20,000
abbrev pub lends : Option ℕ → Option ℕ → Option Asked
lends (Some n) (Some p) = cond (nat_le p 20000) (Some (opened n p)) None
lends (Some n) None = None
lends None p = None

-- after open: two numbers and the kind of the store, of which there is one
unfoldable pub opens : List (List ℕ) → Option Asked
opens [] = None
opens (n ∷ []) = None
opens (n ∷ p ∷ []) = None
opens (n ∷ p ∷ k ∷ []) = cond (bytes_eq k (codes "row")) (lends (number n) (number p)) None
opens (n ∷ p ∷ k ∷ x ∷ ws) = None

abbrev pub before : Option ℤ → Option (List ℤ) → Option (List ℤ)
before (Some l) (Some ls) = Some (l ∷ ls)
before (Some l) None = None
before None ls = None

-- the literals of the words, where all are literals
unfoldable pub literals : List (List ℕ) → Option (List ℤ)
literals [] = Some []
literals (w ∷ ws) = before (literal w) (literals ws)

-- after add: literals, none or more
abbrev pub adds : List (List ℕ) → Option Asked
adds ws = option_map added (literals ws)

-- after run and walk: one number
unfoldable pub alone : List (List ℕ) → Option ℕ
alone [] = None
alone (b ∷ []) = number b
alone (b ∷ x ∷ ws) = None

-- after show and counts: nothing
abbrev pub nothing : Asked → List (List ℕ) → Option Asked
nothing q ws = cond (length ws == 0) (Some q) None

abbrev pub asks_for : Option Verb → List (List ℕ) → Option Asked
asks_for (Some verb.Open) ws = opens ws
asks_for (Some verb.Add) ws = adds ws
asks_for (Some verb.Run) ws = option_map ran (alone ws)
asks_for (Some verb.Walk) ws = option_map walked (alone ws)
asks_for (Some verb.Show) ws = nothing shown ws
asks_for (Some verb.Counts) ws = nothing counted ws
asks_for None ws = None

-- the request of a line's words, or nothing where they are none
abbrev pub asks : List (List ℕ) → Option Asked
asks [] = None
asks (w ∷ ws) = asks_for (keyword w) ws
