-- THE FINISH: each edge that no path has is added once, as a path of its own; then the build is finished.
use Prim.Native.Nat.{ℕ, ◌+◌, ◌-◌, ◌≤◌, ◌<◌}
use mathlib.Core.Path.{◌≡◌, refl, sym, ap, subst, ◌∙◌}
use mathlib.Core.Bool.{true}
use mathlib.Core.Logic.{◌⊎◌, inl, inr, ⊎_elim, ⊎_map}
use mathlib.Core.List.{List, [], ◌∷◌, ◌++◌}
use native.Mathlib.Omega.{arith}
use lib.Dec.{lit<}
use lib.ListN.{length, take, length-append}
use lib.Seq.{take-append-le}
use Rattle.vertexset.proofs.Laws.{zeros-at}
use Rattle.vertexset.specs.Set.{has, capacity}
use Rattle.vertexset.specs.declared.VertexSet.{VertexSet}
use Rattle.graph.specs.Limits.{max_edges}
use Rattle.graph.specs.Rows.{adjacent_in, row_of, row_words, bare_rows, rows_graph}
use Rattle.connectivity.specs.Lists.{In, NoDup, below, up_from}
use Rattle.connectivity.specs.Graph.{Graph, Adj, edge_count}
use Rattle.connectivity.specs.Path.{Path, link, used_edges, edge}
use Rattle.connectivity.proofs.Lists.{in_append, in_left, in_right, in_single, true?, select-nodup, below?, nodup_below, below_in}
use Rattle.connectivity.proofs.Paths.{branch_vertices, branch_built, Consecutive, Neighbours, used_in, in_used, path-consecutive, consecutive_path, edge_same, edge-comm}
use Rattle.connectivity.proofs.Edges.{edge-high, edge-differ}
use Rattle.connectivity.proofs.EdgeUse.{used_append}
use Rattle.connectivity.proofs.Recorded.{Recorded, Extends}
use Rattle.connectivity.proofs.Progress.{Finished, built_low, told}
use Rattle.connectivity.proofs.Completeness.{recorded_most}
use Rattle.construction.specs.Sets.{stop, minus, members_from}
use Rattle.construction.specs.Ears.{path_space, add_path}
use Rattle.construction.specs.Steps.{add_edges, add_rows, finish}
use Rattle.construction.proofs.Basics.{Drawn, Sized, On, flatten}
use Rattle.construction.proofs.SetLaws.{sized_row, sized_minus, minus-on, on_minus, row_on, on_row, members_from-in, in_members_from, nodup_up, added-room, flatten_append}
use Rattle.construction.proofs.Flat.{newest_first, newest_snoc, newest_in, in_newest, flat_most}
use Rattle.construction.proofs.Table.{table_of, table_used, used_table, marked-words}

-- What the finish leaves: paths that begin as before, a record of them, and every edge on one of them.
pub record FinishedWith (rows : List ℕ) (n : ℕ) (ps : List Path) : Type 0 where
  pub qs : List Path
  pub same : finish rows n (flatten ps) ≡ flatten qs
  pub first : take 6 qs ≡ take 6 ps
  pub six : 6 ≤ length qs
  pub recorded : Recorded (Adj (rows_graph n rows)) (newest_first qs)
  pub finished : Finished (rows_graph n rows) (newest_first qs)

used_snoc : (qs : List Path) (u v : ℕ) (e : ℕ × ℕ) → In e (used_edges (qs ++ (link u [] v ∷ []))) → In e (used_edges qs) ⊎ (e ≡ edge u v)
used_snoc qs u v e h = ⊎_map (λ k. k) (in_single e (edge u v)) (in_append e (used_edges qs) (edge u v ∷ []) (subst (λ (k : List (ℕ × ℕ)). In e k) (used_append qs (link u [] v ∷ [])) h))

snoc_used : (qs : List Path) (u v : ℕ) (e : ℕ × ℕ) → In e (used_edges qs) ⊎ (e ≡ edge u v) → In e (used_edges (qs ++ (link u [] v ∷ [])))
snoc_used qs u v e h = subst (λ (k : List (ℕ × ℕ)). In e k) (sym (used_append qs (link u [] v ∷ []))) (⊎_elim (in_left e (used_edges qs) (edge u v ∷ [])) (λ k. in_right e (used_edges qs) (edge u v ∷ []) (inl k)) h)

module _ (rows : List ℕ) (n : ℕ) (d : Drawn rows n) (few : edge_count (rows_graph n rows) ≤ max_edges) (ps : List Path) where
  abbrev g : Graph
  g = rows_graph n rows

  -- a build in which every vertex is a branch vertex, and whose start is that of ps
  record Full (qs : List Path) : Type 0 where
    pub first : take 6 qs ≡ take 6 ps
    pub six : 6 ≤ length qs
    pub recorded : Recorded (Adj g) (newest_first qs)
    pub branch : (z : ℕ) → z < n → In z (branch_vertices (newest_first qs))

  -- ONE EDGE MORE
  module _ (qs : List Path) (f : Full qs) (u v : ℕ) (k : Adj g u v) (new : ¬ In (edge u v) (used_edges qs)) where
    abbrev longer : List Path
    longer = qs ++ (link u [] v ∷ [])

    extends : Extends (Adj g) (newest_first qs) (link u [] v)
    extends = record {
      is_path = record { along = k; nodup = ((λ h. edge-differ g d.simple u v k (sym (in_single u v h))), ((λ h. h), tt)) };
      from = branch_built (newest_first qs) u (f.branch u (d.simple.low u v k));
      upto = branch_built (newest_first qs) v (f.branch v (edge-high g d.simple u v k));
      new = λ w h. absurd h;
      apart = ⊎_elim (λ a. a) (λ r. absurd (used r.0 r.1 r.2))
          (told g d.simple (newest_first qs) f.recorded (λ z h. f.branch z (built_low g d.simple (newest_first qs) f.recorded z h)) u v (λ e. edge-differ g d.simple u v k (sym e)));
    }
      where
        used : (M : Path) → In M (newest_first qs) → Neighbours M u v → ⊥
        used M h (inl c) = new (in_used qs (edge u v) M (newest_in qs M h) (consecutive_path M u v c))
        used M h (inr c) = new (in_used qs (edge u v) M (newest_in qs M h) (rw (edge-comm u v) (consecutive_path M v u c)))

    newest : newest_first longer ≡ link u [] v ∷ newest_first qs
    newest = newest_snoc qs (link u [] v) f.six

    full_snoc : Full longer
    full_snoc = record {
      first = take-append-le 6 qs (link u [] v ∷ []) f.six ∙ f.first;
      six = omega (arith, f.six, length-append qs (link u [] v ∷ []));
      recorded = subst (λ (l : List Path). Recorded (Adj g) l) (sym newest) (inr (extends, f.recorded));
      branch = λ z h. subst (λ (l : List Path). In z (branch_vertices l)) (sym newest) (inr (inr (f.branch z h)));
    }

    added-edge : add_path (flatten qs) (u ∷ (v ∷ [])) ≡ flatten longer
    added-edge = added-room path_space (flatten qs) (stop ∷ (u ∷ (v ∷ []))) room ∙ sym (flatten_append qs (link u [] v ∷ []))
      where
        room : length (flatten qs) + 3 ≤ path_space
        room = omega (arith, few, recorded_most g d.simple (newest_first longer) full_snoc.recorded, flat_most longer, ap length (flatten_append qs (link u [] v ∷ [])), length-append (flatten qs) (stop ∷ (u ∷ (v ∷ []))))

  -- THE EDGES FROM u to the vertices of a list
  record EdgesAdded (u : ℕ) (l : List ℕ) (qs : List Path) (flat : List ℕ) : Type 0 where
    pub out : List Path
    pub same : flat ≡ flatten out
    pub full : Full out
    pub kept : (e : ℕ × ℕ) → In e (used_edges qs) → In e (used_edges out)
    pub new : (v : ℕ) → In v l → In (edge u v) (used_edges out)
    pub only : (e : ℕ × ℕ) → In e (used_edges out) → In e (used_edges qs) ⊎ ((v : ℕ) × In v l × (e ≡ edge u v))

  edges-law : (u : ℕ) (l : List ℕ) (qs : List Path) → Full qs → NoDup l → ((v : ℕ) → In v l → Adj g u v × (¬ In (edge u v) (used_edges qs))) → EdgesAdded u l qs (add_edges u l (flatten qs))
  unfolding add_edges
  edges-law u [] qs f nd h = record { out = qs; same = refl; full = f; kept = λ e k. k; new = λ v k. absurd k; only = λ e k. inl k }
  edges-law u (v ∷ l) qs f nd h =
      let o = h v (inl refl) in
      let r = edges-law u l (qs ++ (link u [] v ∷ [])) (full_snoc qs f u v o.0 o.1) nd.1 later in
      record {
        out = r.out;
        same = ap (add_edges u l) (added-edge qs f u v o.0 o.1) ∙ r.same;
        full = r.full;
        kept = λ e k. r.kept e (snoc_used qs u v e (inl k));
        new = λ w k. ⊎_elim (λ i. r.kept (edge u w) (snoc_used qs u v (edge u w) (inr (ap (edge u) i)))) (r.new w) k;
        only = λ e k. ⊎_elim (λ j. ⊎_map (λ i. i) (λ i. (v, inl refl, i)) (used_snoc qs u v e j)) (λ j. inr (j.0, inr j.1, j.2)) (r.only e k);
      }
    where
      later : (w : ℕ) → In w l → Adj g u w × (¬ In (edge u w) (used_edges (qs ++ (link u [] v ∷ []))))
      later w k = ((h w (inr k)).0, λ j. ⊎_elim (h w (inr k)).1 (λ e. nd.0 (subst (λ (x : ℕ). In x l) (same w (edge_same u w u v e)) k)) (used_snoc qs u v (edge u w) j))
        where
          same : (w : ℕ) → ((u ≡ u) × (w ≡ v)) ⊎ ((u ≡ v) × (w ≡ u)) → w ≡ v
          same w (inl e) = e.1
          same w (inr e) = e.1 ∙ e.0

  -- THE EDGES OF SOME ROWS that the table does not have
  abbrev unused : ℕ → VertexSet
  unused u = minus (row_of rows u) (row_of (table_of ps) u)

  table_sized : (u : ℕ) → Sized (row_of (table_of ps) u)
  table_sized u = sized_row (table_of ps) u (marked-words bare_rows (flatten ps) (λ i. rw (zeros-at row_words i) (lit< tt)))

  record RowsAdded (us : List ℕ) (qs : List Path) (flat : List ℕ) : Type 0 where
    pub out : List Path
    pub same : flat ≡ flatten out
    pub full : Full out
    pub kept : (e : ℕ × ℕ) → In e (used_edges qs) → In e (used_edges out)
    pub all : (u v : ℕ) → In u us → u < v → Adj g u v → In (edge u v) (used_edges out)

  rows_law : (us : List ℕ) (qs : List Path) → Full qs → NoDup us → ((e : ℕ × ℕ) → In e (used_edges ps) → In e (used_edges qs))
      → ((u v : ℕ) → In u us → u < v → In (edge u v) (used_edges qs) → In (edge u v) (used_edges ps)) → RowsAdded us qs (add_rows rows (table_of ps) us (flatten qs))
  unfolding add_rows
  rows_law [] qs f nd old fresh = record { out = qs; same = refl; full = f; kept = λ e k. k; all = λ u v k. absurd k }
  rows_law (u ∷ us) qs f nd old fresh =
      let r = edges-law u l qs f (select-nodup (has (unused u).words) (up_from (u + 1) (capacity - (u + 1))) (nodup_up (u + 1) (capacity - (u + 1)))) (λ v h. ((told-on v h).0, off v h)) in
      let t = rows_law us r.out r.full nd.1 (λ e h. r.kept e (old e h)) (λ w v hw lt h. still w v hw lt (r.only (edge w v) h)) in
      record {
        out = t.out;
        same = ap (add_rows rows (table_of ps) us) r.same ∙ t.same;
        full = t.full;
        kept = λ e h. t.kept e (r.kept e h);
        all = λ w v h lt k. ⊎_elim (λ e. subst (λ (x : ℕ). In (edge x v) (used_edges t.out)) (sym e) (t.kept (edge u v) (here r v (subst (λ (x : ℕ). x < v) e lt) (subst (λ (x : ℕ). Adj g x v) e k) (true? (adjacent_in (table_of ps) u v))))) (λ j. t.all w v j lt k) h;
      }
    where
      l : List ℕ
      l = members_from (u + 1) (unused u)

      row_sized : Sized (row_of rows u)
      row_sized = sized_row rows u d.words

      told-on : (v : ℕ) → In v l → Adj g u v × (¬ On (row_of (table_of ps) u) v) × (u < v)
      told-on v h =
          let m = members_from-in (u + 1) (unused u) v h in
          let k = minus-on (row_of rows u) (row_of (table_of ps) u) row_sized (table_sized u) v m.0 in
          (row_on rows u v k.0, k.1, omega (arith, m.1))

      off : (v : ℕ) → In v l → ¬ In (edge u v) (used_edges qs)
      off v h i =
          let k = told-on v h in
          k.1 (on_row (table_of ps) u v (used_table ps u v (omega (arith, d.low, d.simple.low u v k.0)) (omega (arith, d.low, edge-high g d.simple u v k.0)) (fresh u v (inl refl) k.2 i)))

      still : (w v : ℕ) → In w us → w < v → In (edge w v) (used_edges qs) ⊎ ((x : ℕ) × In x l × (edge w v ≡ edge u x)) → In (edge w v) (used_edges ps)
      still w v hw lt (inl k) = fresh w v (inr hw) lt k
      still w v hw lt (inr k) = absurd (go (edge_same w v u k.0 k.2))
        where
          go : ((w ≡ u) × (v ≡ k.0)) ⊎ ((w ≡ k.0) × (v ≡ u)) → ⊥
          go (inl e) = nd.0 (subst (λ (x : ℕ). In x us) e.0 hw)
          go (inr e) = omega (arith, (told-on k.0 k.1).2, e.0, e.1)

      here : (r : EdgesAdded u l qs (add_edges u l (flatten qs))) (v : ℕ) → u < v → Adj g u v → Dec (adjacent_in (table_of ps) u v ≡ true) → In (edge u v) (used_edges r.out)
      here r v lt k (yes h) = r.kept (edge u v) (old (edge u v) (table_used ps u v h).2)
      here r v lt k (no h) = r.new v (in_members_from (u + 1) (unused u) v (sized_minus (row_of rows u) (row_of (table_of ps) u) row_sized (table_sized u))
          (on_minus (row_of rows u) (row_of (table_of ps) u) row_sized (table_sized u) v (on_row rows u v k) (λ o. h (row_on (table_of ps) u v o))) (omega arith))

-- EVERY EDGE IS USED THEN.
pub finish-law : (rows : List ℕ) (n : ℕ) → Drawn rows n → (ps : List Path) → 6 ≤ length ps → Recorded (Adj (rows_graph n rows)) (newest_first ps)
    → ((z : ℕ) → z < n → In z (branch_vertices (newest_first ps))) → edge_count (rows_graph n rows) ≤ max_edges → FinishedWith rows n ps
unfolding finish
finish-law rows n d ps six val branch few =
    let r = rows_law rows n d few ps (below n) ps (record { first = refl; six = six; recorded = val; branch = branch }) (nodup_below n) (λ e h. h) (λ u v h lt k. k) in
    record { qs = r.out; same = r.same; first = r.full.first; six = r.full.six; recorded = r.full.recorded; finished = record { all-branch = r.full.branch; used = λ u v k. used r.out r.all u v k } }
  where
    used : (qs : List Path) → ((u v : ℕ) → In u (below n) → u < v → Adj (rows_graph n rows) u v → In (edge u v) (used_edges qs)) → (u v : ℕ) → Adj (rows_graph n rows) u v → (M : Path) × In M (newest_first qs) × Neighbours M u v
    used qs f u v k = on (both (below? u v))
      where
        both : Dec (u < v) → In (edge u v) (used_edges qs)
        both (yes h) = f u v (below_in n u (d.simple.low u v k)) h k
        both (no h) = rw (edge-comm u v) (f v u (below_in n v (edge-high (rows_graph n rows) d.simple u v k)) (omega (arith, edge-differ (rows_graph n rows) d.simple u v k)) (d.simple.symmetric u v k))

        on : In (edge u v) (used_edges qs) → (M : Path) × In M (newest_first qs) × Neighbours M u v
        on h =
            let m = used_in qs (edge u v) h in
            let c = path-consecutive m.0 (edge u v) m.2 in
            (m.0, in_newest qs m.0 m.1, near m.0 c.0 c.1 c.2 (edge_same u v c.0 c.1 c.3))
          where
            near : (M : Path) (x y : ℕ) → Consecutive M x y → ((u ≡ x) × (v ≡ y)) ⊎ ((u ≡ y) × (v ≡ x)) → Neighbours M u v
            near M x y c (inl e) = inl (rw (e.0, e.1) c)
            near M x y c (inr e) = inr (rw (e.0, e.1) c)
