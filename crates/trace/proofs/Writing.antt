-- What the buffer holds while the lines are written.
use Rattle.std.proofs.Common.{◌≡◌, ℕ, ◌+◌, ◌-◌, ◌*◌, ◌≤◌, Bool, true, false, cond, leb, List, [], ◌∷◌, ◌++◌, map, length, take, drop, sym, refl, ap, ◌∙◌, ap₂, append_assoc, arith, length-append}
use Rattle.std.proofs.lemmas.List.{take_at, drop_at, drop-drop, append-nil, map_push, length-map}
use Rattle.std.proofs.lemmas.Bool.{cond-true, le-leb, and_from}
use Rattle.store.specs.declared.entry.Entry.{Entry}
use Rattle.lines.specs.declared.line.Line.{Line}
use Rattle.lines.specs.declared.line.Trailer.{Trailer}
use Rattle.lines.specs.Bytes.{bytes_of}
use Rattle.lines.specs.Bytes.{wrote as put}
use Rattle.lines.specs.Format.{line_bytes, trailer_bytes, reaches, with_line, with_trailer, has_room}
use Rattle.lines.proofs.Parts.{length_bytes_of}
use Rattle.lines.proofs.Back.{trailer_long}
use Rattle.rule.specs.Tests.{is_bare}
use Rattle.trace.specs.Marks.{entry_of}
use Rattle.trace.specs.Lines.{order, renumbered, as_line, closing, line_for, entry_lines, lines_bytes, given_lines, trailer_for, trace_lines, trace_of}
use Rattle.trace.specs.Calls.{over}
use Rattle.trace.specs.Tables.{by_table, Table}
use Rattle.trace.proofs.Numbering.{order_on, order_off, table_is}

-- ---- bytes

-- bytes behind those that were written over the first
pub over_more : (o xs ys b b' : List ℕ) (at : ℕ) → b ≡ over xs o → at ≡ length xs → b' ≡ put b at ys → b' ≡ over (xs ++ ys) o
unfolding put
over_more o xs ys b b' at w e p =
    let t : take at b ≡ xs = ap (take at) w ∙ take_at xs (drop (length xs) o) at (sym e) in
    let d : drop at b ≡ drop (length xs) o = ap (drop at) w ∙ drop_at xs (drop (length xs) o) at (sym e) in
    let dd : drop (at + length ys) b ≡ drop (length (xs ++ ys)) o =
    sym (drop-drop (length ys) at b) ∙ ap (drop (length ys)) d ∙ drop-drop (length ys) (length xs) o ∙ ap (λ (n : ℕ). drop n o) (sym (length-append xs ys)) in
    p ∙ ap₂ (λ (a z : List ℕ). a ++ (ys ++ z)) t dd ∙ sym (append_assoc xs ys (drop (length (xs ++ ys)) o))

pub length_line_bytes : (l : Line) → length (line_bytes l) ≡ 24
unfolding line_bytes
length_line_bytes l =
    let w = bytes_of 8 l.positive in
    let x = bytes_of 8 l.negative in
    let y = bytes_of 4 l.first in
    let z = bytes_of 4 l.second in
    omega (
      arith,
      length-append (w ++ x ++ y) z,
      length-append (w ++ x) y,
      length-append w x,
      length_bytes_of 8 l.positive,
      length_bytes_of 8 l.negative,
      length_bytes_of 4 l.first,
      length_bytes_of 4 l.second,
    )

pub length_lines_bytes : (ls : List Line) → length (lines_bytes ls) ≡ 24 * length ls
unfolding lines_bytes
length_lines_bytes [] = refl
length_lines_bytes (l ∷ ls) = omega (arith, length-append (line_bytes l) (lines_bytes ls), length_line_bytes l, length_lines_bytes ls)

pub lines_bytes_push : (ls : List Line) (l : Line) → lines_bytes (ls ++ l ∷ []) ≡ lines_bytes ls ++ line_bytes l
unfolding lines_bytes
lines_bytes_push [] l = append-nil (line_bytes l)
lines_bytes_push (x ∷ ls) l = ap (λ (t : List ℕ). line_bytes x ++ t) (lines_bytes_push ls l) ∙ sym (append_assoc (line_bytes x) (lines_bytes ls) (line_bytes l))

pub given_lines_push : (ls : List Line) (l : Line) → given_lines (ls ++ l ∷ []) ≡ given_lines ls + cond (is_bare l) 1 0
unfolding given_lines
given_lines_push [] l = omega arith
given_lines_push (x ∷ ls) l = let ih = given_lines_push ls l in omega arith

pub bit : (b : Bool) (g : ℕ) → g ≡ cond b 1 0 → g ≤ 1
bit true g e = omega arith
bit false g e = omega arith

-- a line written where there is room
pub line_put : (b b' : List ℕ) (k : ℕ) (l : Line) → 24 * (k + 1) ≤ length b → b' ≡ with_line b (k + 1) l → b' ≡ put b (24 * k) (line_bytes l)
line_put b b' k l h e =
    let r : reaches b (k + 1) ≡ true = and_from (leb 1 (k + 1)) (leb (24 * (k + 1)) (length b)) (le-leb 1 (k + 1) (omega arith)) (le-leb (24 * (k + 1)) (length b) h) in
    let s : k + 1 - 1 ≡ k = omega arith in
    e ∙ cond-true (reaches b (k + 1)) (put b (24 * (k + 1 - 1)) (line_bytes l)) b r ∙ ap (λ (n : ℕ). put b (24 * n) (line_bytes l)) s

pub trailer_put : (b b' : List ℕ) (t : Trailer) → t.distance + 24 ≤ length b → b' ≡ with_trailer b t → b' ≡ put b t.distance (trailer_bytes t)
trailer_put b b' t h e = e ∙ cond-true (has_room b t.distance) (put b t.distance (trailer_bytes t)) b (le-leb (t.distance + 24) (length b) h)

-- ---- the lines of the entries

pub record Done (m : ℕ → Bool) (es : List Entry) (ks o : List ℕ) (i count given : ℕ) (out : List ℕ) : Type 0 where
  pub counted : count ≡ length (order m i)
  pub few : count ≤ i
  pub fewer : given ≤ count
  pub wrote : out ≡ over (lines_bytes (map (line_for es ks) (order m i))) o
  pub gave : given ≡ given_lines (map (line_for es ks) (order m i))

pub done_none : (m : ℕ → Bool) (es : List Entry) (ks o : List ℕ) → Done m es ks o 0 0 0 o
unfolding order lines_bytes given_lines
done_none m es ks o = record { counted = refl; few = omega arith; fewer = omega arith; wrote = refl; gave = refl }

pub done_off : (m : ℕ → Bool) (es : List Entry) (ks o : List ℕ) (i count given : ℕ) (out : List ℕ) → m (i + 1) ≡ false → Done m es ks o i count given out → Done m es ks o (i + 1) count given out
done_off m es ks o i count given out t d =
    let q = order_off m i t in
    let a = d.few in
    record {
      counted = d.counted ∙ ap length (sym q);
      few = omega arith;
      fewer = d.fewer;
      wrote = d.wrote ∙ ap (λ (x : List ℕ). over (lines_bytes (map (line_for es ks) x)) o) (sym q);
      gave = d.gave ∙ ap (λ (x : List ℕ). given_lines (map (line_for es ks) x)) (sym q);
    }

pub done_on : (m : ℕ → Bool) (es : List Entry) (ks o table : List ℕ) (i count given g : ℕ) (out out' : List ℕ) (e l : Line) → m (i + 1) ≡ true
    → Table ks table → e ≡ as_line (entry_of es (i + 1)) → l ≡ by_table table e → 24 * (count + 1) ≤ length out → out' ≡ with_line out (count + 1) l
    → g ≡ cond (is_bare l) 1 0 → Done m es ks o i count given out → Done m es ks o (i + 1) (count + 1) (given + g) out'
done_on m es ks o table i count given g out out' e l t tab is by h put gs d =
    let f = line_for es ks in
    let L = map f (order m i) in
    let q = order_on m i t in
    let re : l ≡ f (i + 1) = by ∙ table_is ks table e tab ∙ ap (renumbered ks) is in
    let all : map f (order m (i + 1)) ≡ L ++ l ∷ [] = ap (map f) q ∙ map_push f (order m i) (i + 1) ∙ ap (λ (x : Line). L ++ x ∷ []) (sym re) in
    let a = d.counted in
    let b = d.few in
    let c = d.fewer in
    let small = bit (is_bare l) g gs in
    let n : 24 * count ≡ length (lines_bytes L) = omega (arith, length_lines_bytes L, length-map (order m i) f) in
    let w = over_more o (lines_bytes L) (line_bytes l) out out' (24 * count) d.wrote n (line_put out out' count l h put) in
    record {
      counted = omega (arith, ap length q, length-append (order m i) ((i + 1) ∷ []));
      few = omega arith;
      fewer = omega arith;
      wrote = w ∙ ap (λ (x : List ℕ). over x o) (sym (lines_bytes_push L l) ∙ ap lines_bytes (sym all));
      gave = ap₂ (λ (x y : ℕ). x + y) d.gave gs ∙ sym (given_lines_push L l) ∙ ap given_lines (sym all);
    }

pub moved : (m : ℕ → Bool) (es : List Entry) (ks o : List ℕ) (i count count' given given' : ℕ) (out out' : List ℕ) → count' ≡ count → given' ≡ given → out' ≡ out
    → Done m es ks o i count given out → Done m es ks o i count' given' out'
moved m es ks o i count count' given given' out out' a b c d = rw (a, b, c) d

-- ---- the whole trace

pub length_trace : (n : ℕ) (ls : List Line) → length (trace_of n ls) ≡ 24 * (length ls + 1)
unfolding trace_of
length_trace n ls =
    let t = trailer_for n (length ls) (given_lines ls) in
    omega (arith, length-append (lines_bytes ls) (trailer_bytes t), length_lines_bytes ls, trailer_long t)

-- the last line and the trailer behind the lines of the entries
module _ (es : List Entry) (ks o b b₂ : List ℕ) (n r c count given : ℕ) (table : List ℕ) (l : Line) (tab : Table ks table)
    (wrote : b ≡ over (lines_bytes (entry_lines es ks)) o) (counted : count ≡ length ks) (gave : given ≡ given_lines (entry_lines es ks))
    (is : l ≡ by_table table (closing r c))
    (p : b₂ ≡ put (put b (24 * count) (line_bytes l)) (24 * (count + 1)) (trailer_bytes (trailer_for n (count + 1) (given + cond (is_bare l) 1 0)))) where
  abbrev rows : List Line
  rows = entry_lines es ks

  all_is : trace_lines es ks r c ≡ rows ++ l ∷ []
  unfolding trace_lines
  all_is = ap (λ (x : Line). rows ++ x ∷ []) (sym (is ∙ table_is ks table (closing r c) tab))

  length_all : length (trace_lines es ks r c) ≡ count + 1
  length_all = ap length all_is ∙ length-append rows (l ∷ []) ∙ ap (λ (k : ℕ). k + 1) (length-map ks (line_for es ks) ∙ sym counted)

  pub trace_count : 24 * (count + 2) ≡ length (trace_of n (trace_lines es ks r c))
  trace_count = omega (arith, length_trace n (trace_lines es ks r c), length_all)

  pub trace_put : b₂ ≡ over (trace_of n (trace_lines es ks r c)) o
  unfolding trace_of
  trace_put =
      let b₁ = put b (24 * count) (line_bytes l) in
      let t = trailer_for n (count + 1) (given + cond (is_bare l) 1 0) in
      let w₁ = over_more o (lines_bytes rows) (line_bytes l) b b₁ (24 * count) wrote (omega (arith, length_lines_bytes rows, length-map ks (line_for es ks))) refl in
      let x : lines_bytes rows ++ line_bytes l ≡ lines_bytes (trace_lines es ks r c) = sym (lines_bytes_push rows l) ∙ ap lines_bytes (sym all_is) in
      let w₂ = over_more o (lines_bytes rows ++ line_bytes l) (trailer_bytes t) b₁ b₂ (24 * (count + 1)) w₁
      (omega (arith, length-append (lines_bytes rows) (line_bytes l), length_lines_bytes rows, length_line_bytes l, length-map ks (line_for es ks))) p in
      let g : given + cond (is_bare l) 1 0 ≡ given_lines (trace_lines es ks r c) =
      ap (λ (k : ℕ). k + cond (is_bare l) 1 0) gave ∙ sym (given_lines_push rows l) ∙ ap given_lines (sym all_is) in
      w₂ ∙ ap (λ (z : List ℕ). over z o) (ap₂ (λ (a d : List ℕ). a ++ d) x (ap₂ (λ (k i : ℕ). trailer_bytes (trailer_for n k i)) (sym length_all) g))
