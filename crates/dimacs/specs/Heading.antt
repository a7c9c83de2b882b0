-- The heading of a text, word by word.
use Rattle.std.specs.Prelude.{ℕ, Bool, cond, List, [], ◌∷◌, Some, None, Ok, Err, codes, Option, Result, nat_lt}
use Rattle.std.specs.Str.{bytes_eq}
use Rattle.clause.specs.declared.refusal.Refusal.{Refusal}
use Rattle.clause.specs.Reading.{outside}
use Rattle.clause.specs.Refusals.{Told, told, refused}
use Rattle.dimacs.specs.declared.heading.Count.{Count}
use Rattle.dimacs.specs.declared.heading.Count.TheVariants.{Atoms, Clauses}
use Rattle.dimacs.specs.declared.heading.Heading.{Heading}
use Rattle.dimacs.specs.Numbers.{numeral, capped}
use Rattle.dimacs.specs.Words.{Piece}

-- an answer, and the words that follow what was read for it
abbrev pub leaving : {X : Type 0} → Result X Refusal → List Piece → Result (X × List Piece) Told
leaving (Ok x) ws = Ok (x, ws)
leaving (Err e) ws = Err (told e)

-- a fault stays, and else the reading goes on
abbrev pub onward : {X Y : Type 0} → Result (X × List Piece) Told → (X → List Piece → Result Y Told) → Result Y Told
onward (Ok p) f = f p.0 p.1
onward (Err e) f = Err e

-- a given word; a text without it ends too soon
abbrev pub expecting : List ℕ → ℕ → List Piece → Result (Unit {0} × List Piece) Told
expecting text end [] = Err (refused 5 end)
expecting text end (w ∷ ws) = cond (bytes_eq w.1 text) (Ok (tt, ws)) (Err (refused 5 w.0))

-- atoms are from 1 to the lesser of n and 64, clauses at most 16,384
abbrev pub beyond : Count → ℕ → Bool
beyond (Atoms n) k = outside n k
beyond Clauses k = nat_lt 16384 k

abbrev pub within : Count → ℕ → Option ℕ → List Piece → Result (ℕ × List Piece) Told
within c place None ws = Err (refused 5 place)
within c place (Some k) ws = cond (beyond c k) (Err (refused 6 place)) (Ok (k, ws))

-- a number of the heading
abbrev pub counting : Count → ℕ → List Piece → Result (ℕ × List Piece) Told
counting c end [] = Err (refused 5 end)
counting c end (w ∷ ws) = within c w.0 (capped (numeral w.1)) ws

-- the heading, of at most n atoms, and the words after it
abbrev pub headed : ℕ → ℕ → List Piece → Result (Heading × List Piece) Told
headed n end ws =
    onward (expecting (codes "p") end ws) (λ _ ws. onward (expecting (codes "cnf") end ws) (λ _ ws.
    onward (counting (Atoms n) end ws) (λ a ws. onward (counting Clauses end ws) (λ m ws.
    Ok (record { atoms = a; clauses = m }, ws)))))
