-- What a name is made of.
use Rattle.std.specs.Prelude.{ℕ, List, take, Ok, Err, Result}
use Rattle.clause.specs.declared.refusal.Refusal.{Refusal}
use Rattle.clause.specs.Refusals.{Told, told}
use Rattle.names.specs.declared.name.Name.{Name}

-- the bytes of the name n
abbrev pub spelled : Name → List ℕ
spelled n = take n.len n.bytes

-- an answer with its name spelled and its refusal told
abbrev pub spelling : Result Name Refusal → Result (List ℕ) Told
spelling (Ok n) = Ok (spelled n)
spelling (Err e) = Err (told e)
