-- THE SEARCH IS RIGHT: it finds a path, or what it reached is a closed set.
use mathlib.Core.Path.{◌≡◌, refl, ap, sym, ◌∙◌}
use mathlib.Core.Logic.{inl, inr, ⊎_elim}
use mathlib.Core.Bool.{Bool, true, false, cond}
use mathlib.Core.List.{List, ◌++◌, [], ◌∷◌}
use Prim.Native.Nat.{ℕ, ◌≤◌, ◌<◌, zero, suc}
use native.Mathlib.Omega.{arith}
use lib.Dec.{ltb}
use lib.ListN.{length, get_or}
use borrow.Author.Tests.{ltb-true, ltb-false, lt-ltb, le-ltb}
use Rattle.vertexset.specs.Set.{has, capacity}
use Rattle.vertexset.specs.declared.VertexSet.{VertexSet}
use Rattle.connectivity.specs.Lists.{In, NoDup}
use Rattle.connectivity.specs.Graph.{Graph, Adj}
use Rattle.connectivity.specs.Path.{Along, link, vertices}
use Rattle.connectivity.proofs.Lists.{rev, in_append, in_single, nodup_snoc, bool?, at_most}
use Rattle.connectivity.proofs.Paths.{along-join}
use Rattle.connectivity.proofs.Search.{Found, Closed}
use Rattle.construction.specs.Search.{Reach, explore, back, route, reached}
use Rattle.graph.specs.Rows.{rows_graph}
use Rattle.construction.proofs.Basics.{Drawn, On, Asked, Explored}
use Rattle.construction.proofs.Places.{place_in, in_place, same_place, rev_end}
use Rattle.construction.proofs.Visits.{From, Visited, AtGoal, AtEnd, Ended, visited}
use Rattle.construction.proofs.SetLaws.{minus-on, on_minus}

-- a path from a seed to the vertex at place i, and the list of it from there back
record Trail (g : Graph) (seeds goals removed : VertexSet) (order : List ℕ) (i : ℕ) (l : List ℕ) : Type 0 where
  pub s : ℕ
  pub m : List ℕ
  pub same : l ≡ rev (s ∷ m)
  pub seed : On seeds s
  pub extends : (v : ℕ) → Adj g (get_or order i 0) v → Along (Adj g) s m v
  pub nodup : NoDup (s ∷ m)
  pub off : (w : ℕ) → In w m → (¬ On seeds w) × (¬ On goals w) × (¬ On removed w)
  pub place : (w : ℕ) → In w (s ∷ m) → (j : ℕ) × (j ≤ i) × (get_or order j 0 ≡ w)

module _ (rows : List ℕ) (n : ℕ) (seeds goals removed : VertexSet) (s : ℕ) (order from : List ℕ) (shut : VertexSet) (h : ℕ) (v : Visited rows n seeds goals removed s order from shut h) where
  at_seed : (i : ℕ) → i < s → Trail (rows_graph n rows) seeds goals removed order i (get_or order i 0 ∷ [])
  at_seed i l = record {
    s = get_or order i 0;
    m = [];
    same = refl;
    seed = v.seed_at i l;
    extends = λ w e. e;
    nodup = ((λ k. k), tt);
    off = λ w k. absurd k;
    place = λ w k. (i, omega arith, sym (in_single w (get_or order i 0) k));
  }

  -- a vertex more: it stands at a later place than all of the path
  at_next : (i : ℕ) (l : List ℕ) → s ≤ i → i < length order → Trail (rows_graph n rows) seeds goals removed order (get_or from i 0) l
      → Trail (rows_graph n rows) seeds goals removed order i (get_or order i 0 ∷ l)
  at_next i l b c t = record {
    s = t.s;
    m = t.m ++ (get_or order i 0 ∷ []);
    same = ap (λ (k : List ℕ). get_or order i 0 ∷ k) t.same ∙ sym (rev_end (t.s ∷ t.m) (get_or order i 0));
    seed = t.seed;
    extends = λ w e. along-join (Adj (rows_graph n rows)) t.s t.m (get_or order i 0) [] w (t.extends (get_or order i 0) f.edge) e;
    nodup = nodup_snoc (t.s ∷ t.m) (get_or order i 0) t.nodup new;
    off = λ w k. ⊎_elim (t.off w) (λ j. rw (in_single w (get_or order i 0) j) (no_seed, v.no_goal (get_or order i 0) (place_in order i c), v.no_removed (get_or order i 0) (place_in order i c))) (in_append w t.m (get_or order i 0 ∷ []) k);
    place = λ w k. ⊎_elim (λ j. let r = t.place w j in (r.0, omega (arith, f.earlier), r.2)) (λ j. (i, omega arith, sym (in_single w (get_or order i 0) j))) (in_append w (t.s ∷ t.m) (get_or order i 0 ∷ []) k);
  }
    where
      f : From rows order from h i
      f = v.reached i b c

      new : ¬ In (get_or order i 0) (t.s ∷ t.m)
      new k = let r = t.place (get_or order i 0) k in omega (arith, f.earlier, same_place order v.nodup r.0 i (omega (arith, f.earlier)) c r.2)

      no_seed : ¬ On seeds (get_or order i 0)
      no_seed k = let r = v.seed_place (get_or order i 0) k in omega (arith, same_place order v.nodup r.0 i (omega arith) c r.2)

  trail : (k i : ℕ) → i < k → i < length order → Trail (rows_graph n rows) seeds goals removed order i (back k order from s i)
  unfolding back
  trail zero i l c = absurd (omega arith)
  trail (suc k) i l c = go (ltb i s) refl (λ b. let f = v.reached i b c in trail k (get_or from i 0) (omega arith) (omega arith))
    where
      go : (b : Bool) → ltb i s ≡ b → (s ≤ i → Trail (rows_graph n rows) seeds goals removed order (get_or from i 0) (back k order from s (get_or from i 0)))
          → Trail (rows_graph n rows) seeds goals removed order i (get_or order i 0 ∷ cond b [] (back k order from s (get_or from i 0)))
      go true e t = at_seed i (ltb-true i s e)
      go false e t = at_next i (back k order from s (get_or from i 0)) (ltb-false i s e) c (t (ltb-false i s e))

module _ (rows : List ℕ) (n : ℕ) (d : Drawn rows n) (seeds goals removed : VertexSet) (a : Asked n seeds goals removed) where
  -- what is found, and what is closed, where a search ended in r
  module _ (r : Reach) (e : Ended rows n seeds goals removed r) where
    abbrev BackTrail : Type 0
    BackTrail = Trail (rows_graph n rows) seeds goals removed r.order r.last (back capacity r.order r.from r.seeds r.last)

    last_trail : r.last < length r.order → BackTrail
    last_trail h = trail rows n seeds goals removed r.seeds r.order r.from r.shut r.last e.visited capacity r.last
        (omega (arith, at_most n r.order e.visited.nodup e.visited.low, d.low)) h

    path : (g : AtGoal rows goals r) → BackTrail → Found (rows_graph n rows) (On seeds) (On goals) (On removed)
    path g t = record {
      path = link t.s t.m r.goal;
      is_path = record { along = t.extends r.goal g.edge; nodup = nodup_snoc (t.s ∷ t.m) r.goal t.nodup new };
      seed = t.seed;
      goal = g.goal;
      off = t.off;
    }
      where
        new : ¬ In r.goal (t.s ∷ t.m)
        new k = let p = t.place r.goal k in e.visited.no_goal (get_or r.order p.0 0) (place_in r.order p.0 (omega (arith, g.here))) (rw p.2 g.goal)

    met : (g : AtGoal rows goals r) (t : BackTrail) → route r ≡ rev (vertices (path g t).path)
    unfolding path
    met g t = ap (λ (k : List ℕ). r.goal ∷ k) t.same ∙ sym (rev_end (t.s ∷ t.m) r.goal)

    side-in : (w : ℕ) → On (reached r removed) w → In w r.order
    side-in w o = let k = minus-on r.shut removed e.visited.sized a.removed-sized w o in ⊎_elim (λ m. m) (λ m. absurd (k.1 m)) (e.visited.shut_in w k.0)

    in_side : (w : ℕ) → In w r.order → On (reached r removed) w
    in_side w m = on_minus r.shut removed e.visited.sized a.removed-sized w (e.visited.in_shut w m) (e.visited.no_removed w m)

    out_side : (w : ℕ) → ¬ In w r.order → has (reached r removed).words w ≡ false
    out_side w m = ⊎_elim (λ k. absurd (m (side-in w k))) (λ k. k) (bool? (has (reached r removed).words w))

    seed_in : (w : ℕ) → On seeds w → In w r.order
    seed_in w o = let p = e.visited.seed_place w o in rw p.2 at (place_in r.order p.0 (omega (arith, e.visited.seeds_fit)))

    next-in : AtEnd r → (u w : ℕ) → In u r.order → Adj (rows_graph n rows) u w → ¬ On removed w → In w r.order
    next-in g u w m k o = let p = in_place u r.order m in e.visited.done p.0 (omega (arith, g.all)) w (rw p.2 k) o

    closed : AtEnd r → Closed (rows_graph n rows) (On seeds) (On goals) (On removed)
    closed g = record {
      side = has (reached r removed).words;
      seeds = λ w o. in_side w (seed_in w o);
      goals = λ w o. out_side w (λ m. e.visited.no_goal w m o);
      gone = λ w o. out_side w (λ m. e.visited.no_removed w m o);
      closed = λ u w k j o. in_side w (next-in g u w (side-in u k) j o);
    }

pub explored : (rows : List ℕ) (n : ℕ) → Drawn rows n → (seeds goals removed : VertexSet) → Asked n seeds goals removed → Explored rows n seeds goals removed
unfolding closed
explored rows n d seeds goals removed a = go (visited rows n d seeds goals removed a)
  where
    r : Reach
    r = explore rows seeds goals removed

    go : Ended rows n seeds goals removed r → Explored rows n seeds goals removed
    go e = ⊎_elim
        (λ g. let t = last_trail rows n d seeds goals removed a r e g.here in
        inl (record { is_found_lem = lt-ltb r.goal capacity g.found; found = path rows n d seeds goals removed a r e g t; same = met rows n d seeds goals removed a r e g t }))
        (λ g. inr (record { not_found = le-ltb r.goal capacity (omega (arith, g.none)); sized = e.visited.sized; closed = closed rows n d seeds goals removed a r e g; same = refl; low = λ w o. e.visited.low w (side-in rows n d seeds goals removed a r e w o) }))
        e.ending

-- A found path and a closed set under other names of the seeds, the goals and the removed vertices.
abbrev pub found_as : (g : Graph) (S G R S' G' R' : ℕ → Type 0) → (f : Found g S G R) → ((w : ℕ) → S w → S' w) → ((w : ℕ) → S' w → S w) → ((w : ℕ) → G w → G' w) → ((w : ℕ) → G' w → G w)
    → ((w : ℕ) → R' w → R w) → Found g S' G' R'
found_as g S G R S' G' R' f s s' t t' r = record {
  path = f.path;
  is_path = f.is_path;
  seed = s f.path.s f.seed;
  goal = t f.path.t f.goal;
  off = λ w m. let o = f.off w m in ((λ k. o.0 (s' w k)), (λ k. o.1 (t' w k)), (λ k. o.2 (r w k)));
}

abbrev pub closed_as : (g : Graph) (S G R S' G' R' : ℕ → Type 0) → Closed g S G R → ((w : ℕ) → S' w → S w) → ((w : ℕ) → G' w → G w) → ((w : ℕ) → R' w → R w) → ((w : ℕ) → R w → R' w) → Closed g S' G' R'
closed_as g S G R S' G' R' c s t r r' = record {
  side = c.side;
  seeds = λ w k. c.seeds w (s w k);
  goals = λ w k. c.goals w (t w k);
  gone = λ w k. c.gone w (r w k);
  closed = λ u v k e o. c.closed u v k e (λ m. o (r' v m));
}
