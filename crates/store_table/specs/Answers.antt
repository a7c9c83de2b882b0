-- What a store answers to a request of a table, and what it holds afterwards.
use Rattle.std.specs.Prelude.{ℕ, Some, None, Ok, Err, Option, Result}
use Rattle.clause.specs.declared.words.Clause.{Clause}
use Rattle.clause.specs.Clauses.{clause_of}
use Rattle.clause.specs.Refusals.{Told}
use Rattle.store.specs.declared.entry.Entry.{Entry}
use Rattle.store.specs.Held.{Held, size, entry_at, found, put_answer, after_put, least_false}
use Rattle.store_table.specs.declared.request.Words.{Words}
use Rattle.store_table.specs.declared.request.Request.{Request}
use Rattle.store_table.specs.declared.request.Answer.{Answer}
use Rattle.store_table.specs.declared.request.Request.TheVariants as asks
use Rattle.store_table.specs.declared.request.Answer.TheVariants.{Count, Number, Nothing, Refused, Holds, NoClause}

-- the clause of the words, or nothing where they share an atom
abbrev pub clause_in : Words → Option Clause
clause_in w = clause_of (record { pos = w.positive; neg = w.negative })

-- the words of a clause
abbrev pub words_of : Clause → Words
words_of c = record { positive = c.positive; negative = c.negative }

-- a number, or nothing
abbrev pub number_answer : Option ℕ → Answer
number_answer (Some k) = Number k
number_answer None = Nothing

-- an entry, or nothing
abbrev pub entry_answer : Option Entry → Answer
entry_answer (Some e) = Holds (words_of e.clause) e.first e.second
entry_answer None = Nothing

-- the number of a clause that was put, or why it was refused
abbrev pub puts_answer : Result ℕ Told → Answer
puts_answer (Ok k) = Number k
puts_answer (Err t) = Refused t.number

abbrev pub finds_in : Held → Option Clause → Answer
finds_in h (Some c) = number_answer (found h c)
finds_in h None = NoClause

abbrev pub entry_from : Clause → ℕ → ℕ → Entry
entry_from c first second = record { clause = c; first = first; second = second }

abbrev pub puts_in : Held → Option Clause → ℕ → ℕ → Answer
puts_in h (Some c) first second = puts_answer (put_answer h (entry_from c first second))
puts_in h None first second = NoClause

abbrev pub leaves_in : Held → Option Clause → ℕ → ℕ → Held
leaves_in h (Some c) first second = after_put h (entry_from c first second)
leaves_in h None first second = h

-- what a store that holds h answers
abbrev pub answered : Held → Request → Answer
answered h asks.Size = Count (size h)
answered h asks.Places = Count h.places
answered h (asks.Entry k) = entry_answer (entry_at h.entries k)
answered h (asks.Find w) = finds_in h (clause_in w)
answered h (asks.Put w) = puts_in h (clause_in w) 0 0
answered h (asks.Derive w first second) = puts_in h (clause_in w) first second
answered h (asks.LeastFalse v) = number_answer (least_false h v)

-- what it holds afterwards
abbrev pub afterwards : Held → Request → Held
afterwards h asks.Size = h
afterwards h asks.Places = h
afterwards h (asks.Entry k) = h
afterwards h (asks.Find w) = h
afterwards h (asks.Put w) = leaves_in h (clause_in w) 0 0
afterwards h (asks.Derive w first second) = leaves_in h (clause_in w) first second
afterwards h (asks.LeastFalse v) = h
