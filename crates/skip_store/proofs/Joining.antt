-- What the writes of links do to all links.
use Rattle.std.proofs.Common.{◌≡◌, ℕ, zero, suc, ◌+◌, ◌*◌, ◌<◌, ◌≤◌, ◌≢◌, List, length, get_or, drop, sym, refl, ap, ◌∙◌, subst, ⊎_elim, arith, length-set}
use Rattle.std.proofs.lemmas.List.{get_or-set_same, get_or-set_other, drop-set-lt}
use Rattle.std.proofs.lemmas.Bool.{cases_eq}
use Rattle.skip_store.specs.Links.{On, seat, link, head_after, links_after, Joins, Earlier}
use Rattle.skip_store.proofs.Levels.{seat_below, seat_entry, seat_level}

-- the link that was written
after_same : (h ls : List ℕ) (j l k : ℕ) → l < length h → 2 * j ≤ length ls → On l j → link (head_after h j l k) (links_after ls j l k) j l ≡ k
unfolding link
after_same h ls zero l k b w o = get_or-set_same h l k 0 b
after_same h ls (suc i) l k b w o = get_or-set_same ls (seat (suc i) l) k 0 (let s = seat_below l (suc i) (suc i) (omega arith) (omega arith) o in omega arith)

-- every other one
after_other : (h ls : List ℕ) (j l k i m : ℕ) → On l j → On m i → (i ≡ j → m ≡ l → ⊥) → link (head_after h j l k) (links_after ls j l k) i m ≡ link h ls i m
unfolding link
after_other h ls zero l k zero m o r n = get_or-set_other h l m k 0 (n refl)
after_other h ls zero l k (suc i) m o r n = refl
after_other h ls (suc j) l k zero m o r n = refl
after_other h ls (suc j) l k (suc i) m o r n = get_or-set_other ls (seat (suc j) l) (seat (suc i) m) k 0 apart
  where
    same_level : m ≡ l → seat (suc i) m ≡ seat (suc j) l → suc i ≡ suc j
    same_level q e = seat_entry l (suc i) (suc j) (omega arith) (omega arith) (subst (λ x. On x (suc i)) q r) o (subst (λ x. seat (suc i) x ≡ seat (suc j) l) q e)

    apart : seat (suc i) m ≢ seat (suc j) l
    apart e = let q = seat_level m l (suc i) (suc j) (omega arith) (omega arith) r o e in n (same_level q e) q

tall_after : (h : List ℕ) (j l k : ℕ) → length (head_after h j l k) ≡ length h
tall_after h zero l k = length-set h l k
tall_after h (suc j) l k = refl

room_after : (ls : List ℕ) (j l k : ℕ) → length (links_after ls j l k) ≡ length ls
room_after ls zero l k = refl
room_after ls (suc j) l k = length-set ls (seat (suc j) l) k

beyond_after : (ls : List ℕ) (j l k p : ℕ) → j ≤ p → On l j → drop (2 * p) (links_after ls j l k) ≡ drop (2 * p) ls
beyond_after ls zero l k p b o = refl
beyond_after ls (suc j) l k p b o = drop-set-lt (2 * p) ls (seat (suc j) l) k (seat_below l (suc j) p (omega arith) b o)

-- one level more
module _ (h ls hs ms before : List ℕ) (k v n : ℕ) (b : Joins h ls hs ms before k v) (tall : length h ≡ 15) (room : 2 * k ≤ length ls) (vb : v < 15) (on : On v k)
    (earlier : Earlier before k) (read : n ≡ link hs ms (get_or before v 0) v) where
  abbrev j : ℕ
  j = get_or before v 0

  abbrev h1 : List ℕ
  h1 = head_after hs k v n

  abbrev m1 : List ℕ
  m1 = links_after ms k v n

  abbrev h2 : List ℕ
  h2 = head_after h1 j v k

  abbrev m2 : List ℕ
  m2 = links_after m1 j v k

  below : j < k
  below = (earlier v vb).0

  on_j : On v j
  on_j = (earlier v vb).1

  -- a link that neither write reaches
  far : (i m : ℕ) → On m i → (i ≡ j → m ≡ v → ⊥) → (i ≡ k → m ≡ v → ⊥) → link h2 m2 i m ≡ link hs ms i m
  far i m o f g = after_other h1 m1 j v k i m on_j o f ∙ after_other hs ms k v n i m on o g

  here2 : link h2 m2 j v ≡ k
  here2 = after_same h1 m1 j v k (omega (arith, tall_after hs k v n, b.tall)) (omega (arith, room_after ms k v n, b.room, below)) on_j

  there2 : link h2 m2 k v ≡ link h ls j v
  there2 =
      after_other h1 m1 j v k k v on_j on (λ e _. omega (arith, below)) ∙ after_same hs ms k v n (omega (arith, b.tall)) (omega (arith, b.room)) on
      ∙ read ∙ b.else j v below on_j (λ q. absurd (omega arith))

  turn : (on_below : (l : ℕ) → l < v → On l k) → Joins h ls h2 m2 before k (v + 1)
  turn on_below = record {
    tall = tall_after h1 j v k ∙ tall_after hs k v n ∙ b.tall;
    room = room_after m1 j v k ∙ room_after ms k v n ∙ b.room;
    here = λ l q. ⊎_elim
        (λ e. subst (λ x. link h2 m2 (get_or before x 0) x ≡ k) (sym e) here2)
        (λ e. let w = earlier l (omega arith) in far (get_or before l 0) l w.1 (λ _ x. e x) (λ _ x. e x) ∙ b.here l (omega arith))
        (cases_eq l v);
    there = λ l q. ⊎_elim
        (λ e. subst (λ x. link h2 m2 k x ≡ link h ls (get_or before x 0) x) (sym e) there2)
        (λ e. let w : l < v = omega arith in far k l (on_below l w) (λ _ x. e x) (λ _ x. e x) ∙ b.there l w)
        (cases_eq l v);
    else = λ i l a o f. far i l o (λ e x. f (omega arith) (e ∙ ap (λ y. get_or before y 0) (sym x))) (λ e x. omega arith) ∙ b.else i l a o (λ q. f (omega arith));
    beyond = λ p q. beyond_after m1 j v k p (omega (arith, below)) on_j ∙ beyond_after ms k v n p q on ∙ b.beyond p q;
  }

  -- the same, of the values that the code has
  pub turned : ((l : ℕ) → l < v → On l k) → (ha hb ma mb : List ℕ) → ha ≡ head_after hs k v n → ma ≡ links_after ms k v n → hb ≡ head_after ha j v k → mb ≡ links_after ma j v k
      → Joins h ls hb mb before k (v + 1)
  turned f ha hb ma mb p q r t = rw (t, r, q, p) (turn f)
