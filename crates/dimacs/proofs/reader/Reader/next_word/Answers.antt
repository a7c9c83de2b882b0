use Rattle.std.proofs.Common.{refl}
use Rattle.dimacs.specs.Runs.{blank, in_word}
use Rattle.dimacs.proofs.Split.{next_from, none_left, one_more}
use Rattle.dimacs.proofs.reader.Reader.next_word.Goals as goal

pub returns-then-start-end : goal.returns-then-start-end
returns-then-start-end c =
    let s = c.args.self.now in
    let blanks = c.run_length in
    let letters = c.run_length-2 in
    let next = next_from s.text.now s.at blanks.result letters.result s.inside (blanks.ensures.value blank (λ b r h e. e)) blanks.ensures.within
    (letters.ensures.value in_word (λ b r h e. e)) letters.ensures.within in
    record { same = refl; cases = none_left next c.if-start-end.true }

pub returns : goal.returns
returns c =
    let s = c.args.self.now in
    let blanks = c.run_length in
    let letters = c.run_length-2 in
    let next = next_from s.text.now s.at blanks.result letters.result s.inside (blanks.ensures.value blank (λ b r h e. e)) blanks.ensures.within
    (letters.ensures.value in_word (λ b r h e. e)) letters.ensures.within in
    record { same = refl; cases = one_more next c.if-start-end.false }
