-- A text cut at a byte, piece by piece.
use Rattle.std.proofs.Common.{◌≡◌, ℕ, suc, ◌<◌, Bool, true, false, cond, eqb, List, [], ◌∷◌, ◌++◌, map, length, take, drop, is_some, Some, None, Option, sym, refl, ap, ◌∙◌, subst, append_assoc, append-nil, arith, take-append-drop, Bor, MatchOption}
use mathlib.Core.List.{map-append}
use Rattle.std.specs.declared.str.Split.{Split}
use Rattle.std.specs.Str.Pattern.{FindsChar, IsSplitAtFirstMatch}
use Rattle.std.specs.Str.Iter.{split_text, split_has_more, split_parts_left, split_pattern, LacksByte}
use Rattle.std.proofs.lemmas.Str.Pattern.{NoCharPasses-char, drop_at_char}
use Rattle.std.proofs.lemmas.Bool.{cond-true, cond-false, eq-eqb, ne_eqb}
use Rattle.std.proofs.lemmas.Str.{len_utf8_ascii}
use Rattle.script.specs.Lines.{joins, pieces, solid, words}

module _ (c : ℕ) where
  rest_lacks : (b : ℕ) (x : List ℕ) → LacksByte c (b ∷ x) → LacksByte c x
  rest_lacks b x l k h e = l (suc k) (omega arith) e

  -- a piece before the byte c
  piece_more : (x rest : List ℕ) → LacksByte c x → pieces c (x ++ (c ∷ rest)) ≡ x ∷ pieces c rest
  unfolding pieces
  piece_more [] rest l = cond-true (eqb c c) _ _ (eq-eqb c c refl)
  piece_more (b ∷ x) rest l =
      cond-false (eqb b c) _ _ (ne_eqb b c (l 0 (omega arith))) ∙ ap (joins b) (piece_more x rest (rest_lacks b x l))

  -- the last piece
  piece_last : (x : List ℕ) → LacksByte c x → pieces c x ≡ x ∷ []
  unfolding pieces
  piece_last [] l = refl
  piece_last (b ∷ x) l =
      cond-false (eqb b c) _ _ (ne_eqb b c (l 0 (omega arith))) ∙ ap (joins b) (piece_last x (rest_lacks b x l))

  module _ (w x : List ℕ) (live : Bool) (rest : List ℕ) (small : c < 128) where
    cut_at : (o : Option (ℕ × ℕ)) → FindsChar c w o → MatchOption o ((x ≡ w) × (live ≡ false)) (λ q. 0 < q.1 → (x ≡ take q.0 w) × (live ≡ true) × (rest ≡ drop q.1 w)) → pieces c w ≡ x ∷ cond live (pieces c rest) []
    cut_at None f h =
        piece_last w (λ k l e. NoCharPasses-char c w k f small l e) ∙ sym (λ i. h.0 i ∷ cond-false live (pieces c rest) [] h.1 i)
    cut_at (Some q) f h =
        let here = f.1 in
        let some : 0 < q.1 = omega (arith, here.ends, len_utf8_ascii c small) in
        let cut = h some in
        let parts = ap (λ l. take q.0 w ++ l) (sym (drop_at_char c w q.0 q.1 here small)) ∙ take-append-drop q.0 w in
        ap (pieces c) (sym parts) ∙ piece_more (take q.0 w) (drop q.1 w) (λ k l e. NoCharPasses-char c (take q.0 w) k f.0 small l e) ∙
        sym (λ i. cut.0 i ∷ (cond-true live (pieces c rest) [] cut.1 ∙ ap (pieces c) cut.2) i)

    one_cut : IsSplitAtFirstMatch (FindsChar c) w x live rest → pieces c w ≡ x ∷ cond live (pieces c rest) []
    one_cut p = cut_at p.1.0 p.1.1 p.1.2

-- the pieces that an iterator has yet to give
abbrev pub left : ℕ → Split ℕ → List (List ℕ)
left c s = cond (split_has_more s) (pieces c (split_text s)) []

-- what a call of `next` says
abbrev pub Steps : Split ℕ → Option (Bor (List ℕ)) → Split ℕ → Type 0
Steps s r t = (is_some r ≡ split_has_more s) × MatchOption r (t ≡ s) (λ x. (split_pattern t ≡ split_pattern s) × IsSplitAtFirstMatch (FindsChar (split_pattern s)) (split_text s) x.now (split_has_more t) (split_text t)) × (0 < split_parts_left s → is_some r ≡ true)

module _ (c : ℕ) (s t : Split ℕ) where
  pub all_left : (bs : List ℕ) → split_text s ≡ bs → split_has_more s ≡ true → left c s ≡ pieces c bs
  all_left bs e l = cond-true (split_has_more s) _ _ l ∙ ap (pieces c) e

  pub next_piece : (x : Bor (List ℕ)) → c < 128 → split_pattern s ≡ c → Steps s (Some x) t → (split_pattern t ≡ c) × (left c s ≡ x.now ∷ left c t)
  next_piece x small e h = (
    h.1.0 ∙ e,
    cond-true (split_has_more s) _ _ (sym h.0) ∙
        one_cut c (split_text s) x.now (split_has_more t) (split_text t) small (subst (λ d. IsSplitAtFirstMatch (FindsChar d) (split_text s) x.now (split_has_more t) (split_text t)) e h.1.1),
  )

  pub none_left : Steps s None t → left c s ≡ []
  none_left h = cond-false (split_has_more s) _ _ (sym h.0)

solid_none : (x : List ℕ) (ps : List (List ℕ)) → length x ≡ 0 → solid (x ∷ ps) ≡ solid ps
unfolding solid
solid_none [] ps e = refl
solid_none (b ∷ x) ps e = absurd (omega arith)

solid_some : (x : List ℕ) (ps : List (List ℕ)) → (length x ≡ 0 → ⊥) → solid (x ∷ ps) ≡ x ∷ solid ps
unfolding solid
solid_some [] ps n = absurd (n refl)
solid_some (b ∷ x) ps n = refl

-- one more at the end of what was gathered
pub gathered_more : {X Y : Type 0} (f : X → Y) (xs zs : List X) (x : X) (ys : List Y) → zs ≡ xs ++ (x ∷ []) → map f xs ++ (f x ∷ ys) ≡ map f zs ++ ys
gathered_more f xs zs x ys e = sym (ap (λ l. map f l ++ ys) e ∙ ap (λ l. l ++ ys) (map-append f xs (x ∷ [])) ∙ append_assoc (map f xs) (f x ∷ []) ys)

-- ws and the words that s has yet to give are all the words
pub record Sofar (all : List (List ℕ)) (ws : List (Bor (List ℕ))) (s : Split ℕ) : Type 0 where
  pub callee : split_pattern s ≡ 32
  pub whole : all ≡ map (λ x. x.now) ws ++ solid (left 32 s)

pub none_yet : (bs : List ℕ) (ws : List (Bor (List ℕ))) (s : Split ℕ) → ws ≡ [] → split_pattern s ≡ 32 → split_text s ≡ bs → split_has_more s ≡ true → Sofar (words bs) ws s
none_yet bs ws s none c e l = record { callee = c; whole = sym (ap (λ vs. map (λ x. x.now) vs ++ solid (left 32 s)) none ∙ ap solid (all_left 32 s s bs e l)) }

module _ (all : List (List ℕ)) (ws : List (Bor (List ℕ))) (s t : Split ℕ) (old : Sofar all ws s) where
  onward : (x : Bor (List ℕ)) → Steps s (Some x) t → (split_pattern t ≡ 32) × (all ≡ map (λ x. x.now) ws ++ solid (x.now ∷ left 32 t))
  onward x h =
      let next = next_piece 32 s t x (omega arith) old.callee h in
      (next.0, old.whole ∙ ap (λ ps. map (λ x. x.now) ws ++ solid ps) next.1)

  pub skipped : (x : Bor (List ℕ)) → Steps s (Some x) t → length x.now ≡ 0 → Sofar all ws t
  skipped x h e =
      let next = onward x h in
      record { callee = next.0; whole = next.1 ∙ ap (λ ps. map (λ x. x.now) ws ++ ps) (solid_none x.now (left 32 t) e) }

  pub taken : (x : Bor (List ℕ)) (vs : List (Bor (List ℕ))) → Steps s (Some x) t → (length x.now ≡ 0 → ⊥) → vs ≡ ws ++ (x ∷ []) → Sofar all vs t
  taken x vs h n e =
      let next = onward x h in
      record {
        callee = next.0;
        whole = next.1 ∙ ap (λ ps. map (λ x. x.now) ws ++ ps) (solid_some x.now (left 32 t) n) ∙ gathered_more (λ x. x.now) ws vs x (solid (left 32 t)) e;
      }

  pub no_more : Steps s None t → map (λ x. x.now) ws ≡ all
  unfolding solid
  no_more h = sym (old.whole ∙ ap (λ ps. map (λ x. x.now) ws ++ solid ps) (none_left 32 s t h) ∙ append-nil (map (λ x. x.now) ws))
