use Rattle.std.proofs.Common.{sym, ap, ◌∙◌}
use Rattle.names.specs.Calls.{held}
use Rattle.names.specs.Tables.{atom_of, name_answer, after_name}
use Rattle.names.proofs.Gifts.{numbered, word_good, answer_good, after_good}
use Rattle.names.proofs.Numbers.{kept}
use Rattle.names.proofs.Outcomes.{given_told}
use Rattle.names.proofs.table.NameTable.atom_of.Goals as goal

pub returns-in_err-name-clause-kept : goal.returns-in_err-name-clause-kept
returns-in_err-name-clause-kept c = kept _ _ _ (numbered c.args.self.now)

pub returns-clause-given : goal.returns-clause-given
returns-clause-given c =
    let t = held c.args.self.now in
    let w = c.args.word.now in
    let g = word_good w _ c.in_ok-name.ensures in
    given_told t (held c.give.new.self) w c.give.result (kept _ _ _ (numbered c.args.self.now))
    (c.give.ensures.answers ∙ ap (λ v. name_answer t (atom_of t v)) g.same ∙ sym (answer_good t w g.good))
    (c.give.ensures.after ∙ ap (λ v. after_name t v (atom_of t v)) g.same ∙ sym (after_good t w g.good))

pub returns-clause-kept : goal.returns-clause-kept
returns-clause-kept c = kept _ _ _ (numbered c.give.new.self)
