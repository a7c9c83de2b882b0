use Rattle.nth_clause.proofs.+word.Given as goal

abbrev pub decreases-word : goal.decreases-word
decreases-word l = l.atoms
