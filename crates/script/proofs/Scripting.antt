-- The lines of a script, one by one.
use Rattle.std.proofs.Common.{◌≡◌, ℕ, ◌+◌, ◌^◌, ◌<◌, true, false, List, [], ◌∷◌, ◌++◌, map, length, Some, None, Option, sym, refl, ap, ◌∙◌, append-nil, arith, Bor}
use Rattle.std.specs.declared.str.Split.{Split}
use Rattle.std.specs.Str.Iter.{split_text, split_has_more, split_pattern}
use Rattle.std.specs.Option.{option_map}
use Rattle.std.proofs.lemmas.Bool.{cond-false}
use Rattle.script.specs.declared.text.Line.{Line}
use Rattle.script.specs.Lines.{words, spaced, trimmed}
use Rattle.script.specs.Requests.{Asked, asks}
use Rattle.script.specs.Scripts.{Numbered, line_as, comment, numbered, line_of, kept, next, lines_from, lines_of}
use Rattle.script.proofs.Cuts.{left, Steps, all_left, next_piece, none_left, gathered_more}

module _ {W : Type 0} (f : W → List ℕ) (n : ℕ) where
  pub no_word : (ws : List W) → length ws ≡ 0 → None ≡ numbered n (map f ws)
  no_word [] e = refl
  no_word (w ∷ ws) e = absurd (omega arith)

  pub some_word : (ws : List W) (call : List ℕ) (asked : Option Asked) → (length ws ≡ 0 → ⊥) → call ≡ spaced (map f ws) → asked ≡ asks (map f ws) → Some (record { number = n; call = call; asked = asked }) ≡ numbered n (map f ws)
  some_word [] call asked h c a = absurd (h refl)
  some_word (w ∷ ws) call asked h c a = λ i. Some (record { number = n; call = c i; asked = a i })

-- the words of a line that is no comment
pub plain_line : (n : ℕ) (bs t : List ℕ) (ws : List (List ℕ)) → comment bs ≡ false → t ≡ trimmed bs → ws ≡ words t → numbered n ws ≡ line_of n bs
plain_line n bs t ws f e p = ap (numbered n) (p ∙ ap words e) ∙ sym (cond-false (comment bs) None (numbered n (words (trimmed bs))) f)

-- ls and the lines that s has yet to give, after line n, are all the lines
pub record Sofar (all : List Numbered) (ls : List Line) (n : ℕ) (s : Split ℕ) : Type 0 where
  pub callee : split_pattern s ≡ 10
  pub whole : all ≡ map line_as ls ++ lines_from n (left 10 s)

pub none_yet : (bs : List ℕ) (ls : List Line) (n : ℕ) (s : Split ℕ) → ls ≡ [] → n ≡ 0 → split_pattern s ≡ 10 → split_text s ≡ bs → split_has_more s ≡ true → Sofar (lines_of bs) ls n s
none_yet bs ls n s none z c e l = record { callee = c; whole = sym ((λ i. map line_as (none i) ++ lines_from (z i) (left 10 s)) ∙ ap (lines_from 0) (all_left 10 s s bs e l)) }

-- the next number, where it fits
pub next_is : (n m : ℕ) → m ≡ n + 1 → n + 1 < 2 ^ 64 → m ≡ next n
next_is n m e h = e ∙ omega arith

module _ (all : List Numbered) (ls : List Line) (n m : ℕ) (s t : Split ℕ) (old : Sofar all ls n s) (up : m ≡ next n) where
  onward : (x : Bor (List ℕ)) (o : Option Line) → Steps s (Some x) t → option_map line_as o ≡ line_of m x.now → (split_pattern t ≡ 10) × (all ≡ map line_as ls ++ kept (option_map line_as o) (lines_from m (left 10 t)))
  unfolding lines_from
  onward x o h e =
      let piece = next_piece 10 s t x (omega arith) old.callee h in (
        piece.0,
        old.whole ∙ ap (λ ps. map line_as ls ++ lines_from n ps) piece.1 ∙
            ap (λ k. map line_as ls ++ kept (line_of k x.now) (lines_from k (left 10 t))) (sym up) ∙
            ap (λ l. map line_as ls ++ kept l (lines_from m (left 10 t))) (sym e),
      )

  pub skipped : (x : Bor (List ℕ)) → Steps s (Some x) t → None ≡ line_of m x.now → Sofar all ls m t
  skipped x h e = let on = onward x None h e in record { callee = on.0; whole = on.1 }

  pub taken : (x : Bor (List ℕ)) (l : Line) (vs : List Line) → Steps s (Some x) t → Some (line_as l) ≡ line_of m x.now → vs ≡ ls ++ (l ∷ []) → Sofar all vs m t
  taken x l vs h e p =
      let on = onward x (Some l) h e in
      record { callee = on.0; whole = on.1 ∙ gathered_more line_as ls vs l (lines_from m (left 10 t)) p }

pub no_more : (all : List Numbered) (ls : List Line) (n : ℕ) (s t : Split ℕ) → Sofar all ls n s → Steps s None t → map line_as ls ≡ all
unfolding lines_from
no_more all ls n s t old h = sym (old.whole ∙ ap (λ ps. map line_as ls ++ lines_from n ps) (none_left 10 s t h) ∙ append-nil (map line_as ls))
