use Rattle.std.proofs.Common.{◌-◌, sym, refl, ◌∙◌, arith}
use Rattle.reply.proofs.Gains.{found, absent, old, none}
use Rattle.reply.proofs.action.gained.Goals as goal
use Rattle.reply.proofs.action.gained.Goals.{else-stands-via-then-stands+else-not-stands, else-stands-via-else-stands}

pub loop-atom-init : goal.loop-atom-init
loop-atom-init c = refl

pub returns-then-not-stands : goal.returns-then-not-stands
returns-then-not-stands c =
    found c.args.before c.args.after (c.loop-atom.atom - 1) (omega arith) (sym c.if-stands.ensures) (sym c.if-not-stands.ensures) ∙ sym c.loop-atom.invariant

pub loop-atom-preserved : goal.loop-atom-preserved
loop-atom-preserved c =
    c.loop-atom.invariant ∙
    elim c.else-stands.branch [
      | else-stands-via-then-stands+else-not-stands w ↦ old c.args.before c.args.after (c.loop-atom.atom - 1) (omega arith) (sym w.if-not-stands.ensures)
      | else-stands-via-else-stands w ↦ absent c.args.before c.args.after (c.loop-atom.atom - 1) (omega arith) (sym w.if-stands.ensures)
    ]

pub returns : goal.returns
returns c = sym (none c.args.before c.args.after (c.loop-atom.atom - 1) (omega arith) ∙ sym c.loop-atom.invariant)
