-- What is printed of a reply.
use Rattle.std.specs.Prelude.{ℕ, min, cond, List, [], ◌∷◌, ◌++◌, ℤ, pos, neg_ℤ, Some, None, codes, decimal, Option}
use Rattle.clause.specs.Refusals.{told_text}
use Rattle.clause.specs.Words.{at}
use Rattle.clause.specs.Texts.{in_order, literals_of, spelled}
use Rattle.session.specs.Reports.{Said}
use Rattle.session.specs.Texts.{said_text, ended_text}
use Rattle.reply.specs.declared.action.Action.{Action}
use Rattle.reply.specs.declared.action.Action.TheVariants.{Set, Derive, Refute}
use Rattle.reply.specs.Replies.{Reply, opened, entered, ended, stepped, valued, denied}

-- the literal of atom a that is true where v is the word of the true atoms
abbrev pub true_at : ℕ → ℕ → ℤ
true_at v a = cond (at v a) (pos a) (neg_ℤ (pos a))

-- the true literals of atoms 1 to n, of 64 at most
abbrev pub true_of : ℕ → ℕ → List ℤ
true_of n v = in_order (λ a. true_at v a ∷ []) (min n 64)

abbrev pub action_text : Action → List ℕ
action_text (Set p k) = codes "set " ++ (decimal p ++ (codes " by " ++ decimal k))
action_text (Refute i j) = codes "derive empty from " ++ (decimal i ++ (codes " and " ++ decimal j))
action_text (Derive k e) =
    codes "derive " ++ (decimal k ++ (codes " from " ++ (decimal e.first ++ (codes " and " ++ (decimal e.second ++ (codes ": " ++ spelled (literals_of e.clause)))))))

-- a step and how its run ended, or the end alone
abbrev pub stepped_text : Option Action → Said → List ℕ
stepped_text (Some a) o = action_text a ++ (codes "; " ++ said_text o)
stepped_text None o = said_text o

abbrev pub reply_text : Reply → List ℕ
reply_text opened = codes "opened"
reply_text (entered k) = codes "entry " ++ decimal k
reply_text (ended e) = ended_text e
reply_text (stepped a o) = stepped_text a o
reply_text (valued v n) = spelled (true_of n v)
reply_text (denied t) = told_text t
