use Rattle.std.proofs.Common.{◌≡◌, ◌+◌, ◌-◌, ◌≤◌, length, drop}
use Rattle.dimacs.specs.Preface.{preface, start}
use Rattle.dimacs.proofs.Lead.{tail}
use Rattle.dimacs.proofs.preface.heading_place.Given as goal

abbrev pub invariant-loop-at : goal.invariant-loop-at
invariant-loop-at l = (l.at ≤ length l.text) × (preface start l.text ≡ l.at + tail (drop l.at l.text))

abbrev pub decreases-loop-at : goal.decreases-loop-at
decreases-loop-at l = length l.text - l.at
