-- What the vertices of a path, taken in one after the other, tell in the end. Assumes nothing.
use Prim.Native.Nat.{ℕ, suc, ◌-◌, ◌*◌, ◌<◌}
use mathlib.Core.List.{List, [], ◌∷◌}
use mathlib.Core.Bool.{Bool, true, false, ◌&&◌, ◌||◌, not, and-true, and-false, and_assoc}
use mathlib.Core.Path.{◌≡◌, refl, sym, ap, ◌∙◌}
use native.Mathlib.Omega.{arith}
use native.Mathlib.Decide.{ℕ_discrete}
use lib.Dec.{eqb}
use lib.ListN.{length}
use borrow.Author.Tests.{ne_eqb}
use Rattle.std.specs.Prelude.{Result, Ok}
use Rattle.record.specs.Read.{folded}
use Rattle.record.specs.declared.Answer.{Answer}
use Rattle.record.proofs.Loops.{All}
use Rattle.vertexset.specs.Set.{has, empty_set, inserted, word_count, capacity}
use Rattle.vertexset.specs.declared.VertexSet.{VertexSet}
use Rattle.vertexset.proofs.Laws.{empty-has, inserted-has, inserted-length}
use Rattle.connectivity.specs.Lists.{member}
use Rattle.connectivity.specs.Path.{Path, vertices}
use Rattle.certificates.specs.Tests.{with, along, each, distinct}
use Rattle.certificates.specs.Records.{tail_link}
use Rattle.paths.specs.declared.PathRead.{PathRead}
use Rattle.paths.specs.Paths.{path_told}
use Rattle.paths.specs.Code.{path_loop, path_begun, walked_on, Walked}

-- ---- the link of a list

pub tail_first : (s v : ℕ) (l : List ℕ) → (tail_link s v l).s ≡ s
tail_first s v [] = refl
tail_first s v (w ∷ l) = refl

pub tail_vertices : (s v : ℕ) (l : List ℕ) → vertices (tail_link s v l) ≡ s ∷ v ∷ l
tail_vertices s v [] = refl
tail_vertices s v (w ∷ l) = ap (λ (m : List ℕ). s ∷ m) (rw (← tail_vertices v w l, tail_first v w l))

-- ---- none of a list is a member

eqb_swap : (x y : ℕ) → eqb x y ≡ eqb y x
eqb_swap x y = elim (ℕ_discrete x y) [
  | yes e ↦ rw e
  | no n ↦ rw (ne_eqb x y n, ne_eqb y x (λ e. n (sym e)))
]

abbrev clear : (ℕ → Bool) → List ℕ → Bool
clear p l = each (λ x. not (p x)) l

clear_with : (p : ℕ → Bool) (v : ℕ) (l : List ℕ) → clear (with p v) l ≡ (clear p l && not (member v l))
unfolding each
clear_with p v [] = refl
clear_with p v (x ∷ l) = rw (clear_with p v l, eqb_swap v x) (mix (p x) (eqb x v) (clear p l) (member v l))
  where
    mix : (a b c d : Bool) → (not (a || b) && (c && not d)) ≡ ((not a && c) && not (b || d))
    mix true b c d = refl
    mix false true c d = sym (and-false c)
    mix false false c d = refl

clear_none : (l : List ℕ) → clear (λ x. false) l ≡ true
unfolding each
clear_none [] = refl
clear_none (x ∷ l) = clear_none l

-- ---- the vertices taken in

module _ (adj : ℕ → ℕ → Bool) (old : ℕ → Bool) where
  abbrev walked : ℕ → Bool → Bool → VertexSet → ℕ → Walked
  walked p a w B left = record { last = p; along = a; new = w; set = B; left = left }

  abbrev new_on : VertexSet → ℕ → ℕ → List ℕ → Bool
  new_on B p v l = clear (has B.words) (v ∷ l) && (distinct (v ∷ l) && clear old (tail_link p v l).inner)

  new_last : (w : Bool) (B : VertexSet) (p v : ℕ) → (w && not (has B.words v) && true) ≡ (w && new_on B p v [])
  unfolding each distinct
  new_last w B p v = mix w (not (has B.words v))
    where
      mix : (w h : Bool) → (w && h && true) ≡ (w && (h && true && true))
      mix true h = sym (and-true (h && true))
      mix false h = refl

  new_more : (w : Bool) (B : VertexSet) (p v x : ℕ) (l : List ℕ) → length B.words ≡ word_count → v < 64 * word_count
      → (w && not (has B.words v) && not (old v) && new_on (inserted B v) v x l) ≡ (w && new_on B p v (x ∷ l))
  unfolding each distinct
  new_more w B p v x l lw k =
      let m = x ∷ l in
      ap (λ (f : ℕ → Bool). w && not (has B.words v) && not (old v) && (clear f m && (distinct m && clear old (tail_link v x l).inner))) (inserted-has B v lw k)
      ∙ ap (λ (b : Bool). w && not (has B.words v) && not (old v) && (b && (distinct m && clear old (tail_link v x l).inner))) (clear_with (has B.words) v m)
      ∙ mix w (has B.words v) (old v) (clear (has B.words) m) (member v m) (distinct m) (clear old (tail_link v x l).inner)
    where
      mix : (w h o c m d e : Bool) → (w && not h && not o && ((c && not m) && (d && e))) ≡ (w && ((not h && c) && ((not m && d) && (not o && e))))
      mix false h o c m d e = refl
      mix true true o c m d e = refl
      mix true false true c m d e = rw (and-false (not m && d), and-false c)
      mix true false false false m d e = refl
      mix true false false true true d e = refl
      mix true false false true false d e = refl

  walk_one : (p : ℕ) (a w : Bool) (B : VertexSet) (left v : ℕ) (end : Bool) → eqb (suc left) 1 ≡ end
      → walked_on adj old (walked p a w B (suc left)) v ≡ walked v (a && adj p v) (w && not (has B.words v) && (end || not (old v))) (inserted B v) left
  walk_one p a w B left v end e = let z : suc left - 1 ≡ left = omega arith in rw (e, z)

  walk_all : (p : ℕ) (a w : Bool) (B : VertexSet) (v : ℕ) (l : List ℕ) → length B.words ≡ word_count → All (λ x. x < capacity) (v ∷ l)
      → folded (walked_on adj old) (walked p a w B (suc (length l))) (v ∷ l)
      ≡ walked (tail_link p v l).t (a && along adj p (tail_link p v l).inner (tail_link p v l).t) (w && new_on B p v l) (folded inserted B (v ∷ l)) 0
  unfolding folded along All
  walk_all p a w B v [] lw q = ap (λ (b : Bool). walked v (a && adj p v) b (inserted B v) 0) (new_last w B p v)
  walk_all p a w B v (x ∷ l) lw q =
      let k : v < 64 * word_count = omega (arith, q.0) in
      ap (λ (t : Walked). folded (walked_on adj old) t (x ∷ l)) (walk_one p a w B (suc (length l)) v false (ne_eqb (suc (suc (length l))) 1 (λ z. omega arith)))
      ∙ walk_all v (a && adj p v) (w && not (has B.words v) && not (old v)) (inserted B v) x l (inserted-length B v lw) q.1
      ∙ same (and_assoc a (adj p v) _) (new_more w B p v x l lw k)
    where
      same : {z : ℕ} {a b w u : Bool} {C : VertexSet} → a ≡ b → w ≡ u → walked z a w C 0 ≡ walked z b u C 0
      same e f = rw (e, f)

  new_told : (first v : ℕ) (l : List ℕ) → first < 64 * word_count → new_on (inserted empty_set first) first v l ≡ (distinct (first ∷ v ∷ l) && clear old (tail_link first v l).inner)
  unfolding distinct
  new_told first v l k =
      let m = v ∷ l in
      let e : clear (has (inserted empty_set first).words) m ≡ not (member first m) =
      ap (λ (f : ℕ → Bool). clear f m) (inserted-has empty_set first refl k ∙ ap (λ (f : ℕ → Bool). with f first) empty-has)
      ∙ clear_with (λ x. false) first m ∙ ap (λ (b : Bool). b && not (member first m)) (clear_none m) in
      ap (λ (b : Bool). b && (distinct m && clear old (tail_link first v l).inner)) e ∙ sym (and_assoc (not (member first m)) (distinct m) _)

  -- from the first vertex on, they tell what the path tells
  pub path-walked : (n first len v : ℕ) (l : List ℕ) (next : ℕ) → suc (suc (length l)) ≡ len → first < capacity → All (λ x. x < capacity) (v ∷ l)
      → (path_loop adj old n first len).ok (folded (walked_on adj old) (path_begun first len) (v ∷ l)) next ≡ Ok (path_told adj old (tail_link first v l) next)
  path-walked n first len v l next e k q =
      let i : first < 64 * word_count = omega arith in
      let d : len - 1 ≡ suc (length l) = omega arith in
      rw d (ap (λ (t : Walked). (path_loop adj old n first len).ok t next) (walk_all first true true (inserted empty_set first) v l (inserted-length empty_set first refl) q)
      ∙ same (tail_link first v l) _ _ (tail_first first v l) (tail_vertices first v l) (new_told first v l i))
    where
      same : (P : Path) {w : Bool} (z : ℕ) (vs : List ℕ) → z ≡ first → vs ≡ first ∷ v ∷ l → w ≡ (distinct (first ∷ v ∷ l) && clear old P.inner)
          → ◌≡◌ {A = Result PathRead Answer} (Ok (record { next = next; first = first; last = P.t; along = along adj first P.inner P.t; new = w; len = len }))
          (Ok (record { next = next; first = z; last = P.t; along = along adj z P.inner P.t; new = distinct vs && clear old P.inner; len = length vs }))
      same P z vs f g w = rw (w, g, f, ← e)
