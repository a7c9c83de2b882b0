-- What the words of a text are, said without a way to find them.
use Rattle.std.specs.Prelude.{◌≡◌, ℕ, ◌+◌, ◌<◌, true, false, List, [], ◌∷◌, ◌++◌, length}
use Rattle.std.specs.List.{AllByRecursion}
use Rattle.dimacs.specs.Runs.{blank}
use Rattle.dimacs.specs.Words.{Piece, words}

abbrev pub Blanks : List ℕ → Type 0
Blanks bs = AllByRecursion (λ b. blank b ≡ true) bs

abbrev pub Letters : List ℕ → Type 0
Letters bs = AllByRecursion (λ b. blank b ≡ false) bs

-- a word ends at the text's end or at a blank
abbrev pub Stops : List ℕ → Type 0
Stops [] = Unit {0}
Stops (b ∷ bs) = blank b ≡ true

-- the bytes at place `at` are blanks, a word, and what follows it
pub record First (at : ℕ) (bs : List ℕ) (w : Piece) (rest : List ℕ) : Type 0 where
  pub gap : List ℕ
  pub whole : bs ≡ gap ++ (w.1 ++ rest)
  pub blanks : Blanks gap
  pub some : 0 < length w.1
  pub letters : Letters w.1
  pub stops : Stops rest
  pub place : w.0 ≡ at + length gap

-- ws are the words of the bytes that begin at place `at`
abbrev pub Cut : ℕ → List ℕ → List Piece → Type 0
Cut at bs [] = Blanks bs
Cut at bs (w ∷ ws) = (rest : List ℕ) × First at bs w rest × Cut (w.0 + length w.1) rest ws

-- the list of words is the one that cuts the text so, and there is no other
abbrev pub WordsAreTheCut : Type 0
WordsAreTheCut = (at : ℕ) (bs : List ℕ) → Cut at bs (words at bs) × ((ws : List Piece) → Cut at bs ws → ws ≡ words at bs)
