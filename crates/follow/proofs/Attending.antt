-- The lines of a session, one by one.
use Rattle.std.proofs.Common.{◌≡◌, ℕ, suc, true, false, List, [], ◌∷◌, drop, Some, None, Option, sym, refl, ap, ◌∙◌}
use Rattle.std.proofs.lemmas.Bool.{cond-true, cond-false, false≢true}
use Rattle.store.specs.Held.{Held}
use Rattle.session.specs.declared.search.Search.{Search}
use Rattle.session.specs.Steps.{After, after}
use Rattle.script.specs.declared.request.Call.{Call}
use Rattle.script.specs.declared.request.Request.{Request}
use Rattle.script.specs.declared.request.Request.TheVariants.{Open, Ask}
use Rattle.script.specs.declared.text.Line.{Line}
use Rattle.follow.specs.Sessions.{opening, until_open, performed, attended_at, attended}

opened : (go : Held → Search → ℕ → After ℕ) (r : Option Request) (h : Held) (s : Search) (n : ℕ) → opening r ≡ true → attended_at go r h s n ≡ after h s n
opened go (Some (Open k p)) h s n t = refl
opened go (Some (Ask c)) h s n t = absurd (false≢true t)
opened go None h s n t = absurd (false≢true t)

-- where the session's lines end
abbrev pub ending : List Line → List Line
ending ls = drop (until_open ls) ls

-- what is kept before the lines that are left: where the session's lines end, and what its calls come to
pub record Sofar (ls rest : List Line) (h h0 : Held) (s s0 : Search) (n : ℕ) : Type 0 where
  pub ends : ending rest ≡ ending ls
  pub calls : attended rest h s n ≡ attended ls h0 s0 1

pub none_yet : (ls : List Line) (h : Held) (s : Search) → Sofar ls ls h h s s 1
none_yet ls h s = record { ends = refl; calls = refl }

module _ (ls rest : List Line) (h h0 : Held) (s s0 : Search) (n : ℕ) (old : Sofar ls rest h h0 s s0 n) where
  -- what the session's lines come to where none is left
  pub no_more : rest ≡ [] → (rest ≡ ending ls) × ((m : ℕ) × (after h s m ≡ attended ls h0 s0 1))
  unfolding until_open attended
  no_more e = (e ∙ sym (ap ending e) ∙ old.ends, (n, ap (λ xs. attended xs h s n) (sym e) ∙ old.calls))

  module _ (x : Line) (xs : List Line) (is : rest ≡ x ∷ xs) where
    stays : opening x.request ≡ true → ending (x ∷ xs) ≡ x ∷ xs
    unfolding until_open
    stays t = ap (λ k. drop k (x ∷ xs)) (cond-true (opening x.request) 0 (suc (until_open xs)) t)

    moves : opening x.request ≡ false → ending (x ∷ xs) ≡ ending xs
    unfolding until_open
    moves f = ap (λ k. drop k (x ∷ xs)) (cond-false (opening x.request) 0 (suc (until_open xs)) f)

    go : attended rest h s n ≡ attended_at (attended xs) x.request h s n
    unfolding attended
    go = ap (λ ys. attended ys h s n) is

    pub stops : opening x.request ≡ true → (rest ≡ ending ls) × ((m : ℕ) × (after h s m ≡ attended ls h0 s0 1))
    stops t = (is ∙ sym (stays t) ∙ sym (ap ending is) ∙ old.ends, (n, sym (opened (attended xs) x.request h s n t) ∙ sym go ∙ old.calls))

    pub performs : (c : Call) (h' : Held) (s' : Search) (m : ℕ) → x.request ≡ Some (Ask c) → after h' s' m ≡ performed h s n c → Sofar ls xs h' h0 s' s0 m
    performs c h' s' m e p = record {
      ends = sym (moves (ap opening e)) ∙ sym (ap ending is) ∙ old.ends;
      calls = (λ j. attended xs (p j).held (p j).search (p j).answer) ∙ sym (ap (λ r. attended_at (attended xs) r h s n) e) ∙ sym go ∙ old.calls;
    }

    pub passes : x.request ≡ None → Sofar ls xs h h0 s s0 n
    passes e = record {
      ends = sym (moves (ap opening e)) ∙ sym (ap ending is) ∙ old.ends;
      calls = sym (ap (λ r. attended_at (attended xs) r h s n) e) ∙ sym go ∙ old.calls;
    }
