-- One run of a walk, and the walk that is left.
use Rattle.std.proofs.Common.{◌≡◌, ℕ, suc, true, false, sym, ap, ◌∙◌}
use Rattle.std.proofs.lemmas.Bool.{cond-true, cond-false}
use Rattle.store.specs.Held.{Held}
use Rattle.session.specs.declared.search.Search.{Search}
use Rattle.session.specs.Steps.{after}
use Rattle.reply.specs.Replies.{Reply, stepped_once, spent}
use Rattle.follow.specs.Sessions.{next, walked}

-- the run left h' and s' with the reply r; b runs were left before it, and c after
module _ (h h' : Held) (s s' : Search) (r : Reply) (once : after h' s' r ≡ stepped_once h s) (b c n m : ℕ) (left : b ≡ suc c) (up : m ≡ next n) where
  pub walk_on : spent r ≡ true → walked c h' s' m ≡ walked b h s n
  walk_on t =
      (λ i. walked c (once i).held (once i).search (up i)) ∙ sym (cond-true _ _ _ (sym (ap (λ a. spent a.answer) once) ∙ t)) ∙ ap (λ x. walked x h s n) (sym left)

  pub walk_ends : spent r ≡ false → after h' s' m ≡ walked b h s n
  walk_ends f =
      (λ i. after (once i).held (once i).search (up i)) ∙ sym (cond-false _ _ _ (sym (ap (λ a. spent a.answer) once) ∙ f)) ∙ ap (λ x. walked x h s n) (sym left)

pub walk_done : (h : Held) (s : Search) (b n : ℕ) → b ≡ 0 → after h s n ≡ walked b h s n
walk_done h s b n e = ap (λ x. walked x h s n) (sym e)
