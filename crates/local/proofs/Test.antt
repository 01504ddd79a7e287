-- THE LOCAL TEST IS RIGHT: a graph of connectivity 3 keeps it without an edge just where the edge's ends pass the test. Assumes nothing.
use Prim.Native.Nat.{ℕ, ◌≤◌, ◌<◌}
use mathlib.Core.Path.{◌≡◌, refl, sym, subst}
use mathlib.Core.Logic.{◌⊎◌, ◌≢◌, inr, ⊎_elim}
use mathlib.Core.Bool.{Bool, true, false}
use mathlib.Core.List.{List, [], ◌∷◌}
use native.Mathlib.Omega.{arith}
use lib.Dec.{eqb, leb}
use lib.ListN.{length}
use borrow.Author.Tests.{leb-true, eq-eqb, ne_eqb}
use Rattle.vertexset.specs.Set.{empty_set, count}
use Rattle.vertexset.specs.declared.VertexSet.{VertexSet}
use Rattle.graph.specs.Rows.{rows_graph, row_of}
use Rattle.connectivity.specs.Lists.{In}
use Rattle.connectivity.specs.Graph.{Graph, Adj, Simple, Walk, stay, hop, AllConnected, Separator}
use Rattle.connectivity.specs.Connectivity.{connectivity}
use Rattle.connectivity.proofs.Lists.{beside, or-true, or-false}
use Rattle.connectivity.proofs.Paths.{SamePair}
use Rattle.connectivity.proofs.Separators.{no_separator_0, no_separator_1, no_separator_2, all_connected-0, all_connected-1, has-3}
use Rattle.connectivity.proofs.Closure.{has-connectivity, connectivity-is}
use Rattle.construction.specs.Sets.{common, members}
use Rattle.construction.proofs.Basics.{Drawn, Sized, On}
use Rattle.construction.proofs.SetLaws.{sized_empty, sized_row, sized_minus, empty-on, common-on, row_on, members-in, members-nodup, members-count}
use Rattle.local.specs.Withstands.{spared}
use Rattle.local.proofs.Walking.{replaced, three_connected}
use Rattle.local.proofs.Standing.{withstands-true, withstands-false}

-- where no two vertices separate a graph its connectivity is 3
pub connectivity-three : (g : Graph) → Simple g → ((c d : ℕ) → c < g.n → d < g.n → c ≢ d → AllConnected g (c ∷ (d ∷ []))) → connectivity g ≡ 3
connectivity-three g p a =
    let one = all_connected-1 g p a in
    sym (has-connectivity g p 3 (has-3 g (no_separator_0 g (all_connected-0 g p one)) (no_separator_1 g one) (no_separator_2 g a)))

-- a set has a member that a list of fewer has not
member-beside : (s : VertexSet) → Sized s → (l : List ℕ) → length l < count s.words → (y : ℕ) × On s y × (¬ In y l)
member-beside s z l h =
    let r = beside (members s) l (members-nodup s) (subst (λ (k : ℕ). length l < k) (sym (members-count s z)) h) in
    (r.0, members-in s r.0 r.1, r.2)

module _ (rows : List ℕ) (n : ℕ) (d : Drawn rows n) (u v : ℕ) (lu : u < n) (lv : v < n) (ne : u ≢ v) where
  abbrev G : Graph
  G = rows_graph n rows

  sized_common : Sized (common (row_of rows u) (row_of rows v))
  sized_common =
      let a = sized_row rows u d.words in
      let b = sized_row rows v d.words in
      sized_minus (row_of rows u) _ a (sized_minus (row_of rows u) (row_of rows v) a b)

  -- over a common neighbour that is left
  near-walk : (X : List ℕ) → length X < count (common (row_of rows u) (row_of rows v)).words → ¬ In u X → ¬ In v X → Walk G X v u
  near-walk X h xu xv =
      let y = member-beside (common (row_of rows u) (row_of rows v)) sized_common X h in
      let o = common-on (row_of rows u) (row_of rows v) (sized_row rows u d.words) (sized_row rows v d.words) y.0 y.1 in
      hop (row_on rows v y.0 o.1) xv y.2 (hop (d.simple.symmetric u y.0 (row_on rows u y.0 o.0)) y.2 xu stay)

  spared-walk : spared rows u v ≡ true → (X : List ℕ) → length X ≤ 2 → ¬ In u X → ¬ In v X → Walk G X v u
  unfolding spared
  spared-walk e X h xu xv = ⊎_elim
      (λ k. near-walk X (omega (arith, leb-true 3 (count (common (row_of rows u) (row_of rows v)).words) k)) xu xv)
      (λ k. withstands-true rows n d u v lu lv ne 2 empty_set sized_empty (empty-on u) (empty-on v) k X h xu xv X (λ w m. inr m))
      (or-true (leb 3 (count (common (row_of rows u) (row_of rows v)).words)) _ e)

  not_spared : spared rows u v ≡ false → (k : ℕ) × (k < 3) × Separator G k
  unfolding spared
  not_spared e =
      let r = withstands-false rows n d u v lu lv ne 2 empty_set sized_empty (empty-on u) (empty-on v) (or-false (leb 3 (count (common (row_of rows u) (row_of rows v)).words)) _ e).1 in (
        length r.X,
        omega (arith, r.few),
        record {
          removed = r.X;
          nodup = r.nodup;
          low = r.low;
          count = refl;
          separates = λ a. r.apart r.X (λ w m. ⊎_elim (λ o. absurd (empty-on w o)) (λ x. x) m) (a v u (lv, r.not_v) (lu, r.not_u));
        },
      )

  -- g has connectivity 3, and the rows are g without the edge between u and v
  pub spared-three : (g : Graph) → g.n ≡ n → Simple g → connectivity g ≡ 3 → ((a b : ℕ) → Adj g a b → Adj (rows_graph n rows) a b ⊎ SamePair a b u v)
      → eqb (connectivity (rows_graph n rows)) 3 ≡ spared rows u v
  spared-three g size p three other = go (spared rows u v) refl
    where
      go : (b : Bool) → spared rows u v ≡ b → eqb (connectivity G) 3 ≡ b
      go true e = eq-eqb (connectivity G) 3 (connectivity-three G d.simple (λ c f hc hf cf a b ha hb.
          replaced d.simple other (spared-walk e (c ∷ (f ∷ [])) (omega arith)) (three_connected g p three c f (omega (arith, size)) (omega (arith, size)) cf a b (omega (arith, size, ha.0), ha.1) (omega (arith, size, hb.0), hb.1))))
      go false e = ne_eqb (connectivity G) 3 (λ k. let r = not_spared e in (connectivity-is G d.simple 3 (sym k)).least r.0 r.1 r.2)
