-- CERTIFICATES OF KIND 3, as the numbers of their records: four vertices, and the paths of a finished build.
use Prim.Native.Nat.{ℕ, zero, suc, ◌+◌, ◌*◌, ◌-◌, ◌≤◌, ◌<◌}
use mathlib.Core.Path.{◌≡◌, refl, sym, ap, subst, ◌∙◌}
use mathlib.Core.Logic.{inl, inr, ⊎_elim, ⊎_map}
use mathlib.Core.List.{List, [], ◌∷◌, ◌++◌}
use native.Mathlib.Omega.{arith}
use lib.ListN.{length, get_or, take, drop, length-append, take-append-drop}
use lib.Seq.{length-take-le}
use Rattle.graph.specs.Limits.{max_edges}
use Rattle.certificates.specs.Lengths.{path_numbers, record_numbers}
use Rattle.certificates.proofs.Lengths.{numbers_count}
use Rattle.connectivity.specs.Lists.{In, select, below}
use Rattle.connectivity.specs.Graph.{Graph, Simple, Adj, edge_count, edges_below, with_higher}
use Rattle.connectivity.specs.Path.{Path, vertices, IsPath}
use Rattle.connectivity.specs.Build.{four, six_pairs, end_pairs}
use Rattle.connectivity.specs.Certificate.{Certificate.build, BuildRules}
use Rattle.connectivity.proofs.Lists.{fewer, beside, below?, nodup_below, length_below, select_in, select-nodup, at_most}
use Rattle.connectivity.proofs.Paths.{branch_vertices, branch_built, end_or_inner, length_ends}
use Rattle.connectivity.proofs.Edges.{path-low}
use Rattle.connectivity.proofs.Start.{the_four, subdivision_differ, four-branch, clear_start}
use Rattle.connectivity.proofs.Recorded.{Recorded, recorded_path, branch_beside}
use Rattle.connectivity.proofs.RecordedSteps.{record_of, BuildOf, build-of}
use Rattle.connectivity.proofs.Progress.{Finished, built_low}
use Rattle.connectivity.proofs.Completeness.{finished_rules}
use Rattle.vertexset.specs.Set.{capacity}
use Rattle.construction.specs.Ears.{path_space}
use Rattle.construction.proofs.Flat.{newest_first, in_newest, built_newest}
use Rattle.construction.proofs.NumberLaws.{path-number, bytes_vertices}
use Rattle.construction.proofs.CutRecords.{Written, low_small}

-- a branch vertex that is not on the path: no path has all vertices
off_path : (E : ℕ → ℕ → Type 0) (ls : List Path) → Recorded E ls → (P : Path) → In P ls → (z : ℕ) × In z (branch_vertices ls) × (¬ In z (vertices P))
off_path E [] v P h = absurd h
off_path E (Q ∷ ls) (inl x) P h =
    let z = beside (the_four x) (P.s ∷ (P.t ∷ [])) (subdivision_differ E (Q ∷ ls) x) (omega arith) in
    (z.0, four-branch E (Q ∷ ls) x z.0 z.1, λ k. ⊎_elim (λ e. z.2 (⊎_map (λ i. i) inl e)) (λ j. clear_start E (the_four x) (Q ∷ ls) x.paths P h z.0 j z.1) (end_or_inner P z.0 k))
off_path E (Q ∷ ls) (inr f) P (inl e) =
    let z = branch_beside E ls f.1 (P.s ∷ (P.t ∷ [])) (omega arith) in
    (z.0, inr (inr z.1), λ k. ⊎_elim (λ i. z.2 (⊎_map (λ j. j) inl i)) (λ j. f.0.new z.0 (subst (λ (L : Path). In z.0 L.inner) e j) (branch_built ls z.0 z.1)) (end_or_inner P z.0 k))
off_path E (Q ∷ ls) (inr f) P (inr h) = let r = off_path E ls f.1 P h in (r.0, inr (inr r.1), r.2)

-- a record tells its start from its further paths where the length of the start is known
length_record : (ls ps : List Path) → length (record_of ls ps) ≡ length ls + length ps
length_record ls [] = omega arith
length_record ls (P ∷ ps) = let ih = length_record (P ∷ ls) ps in omega arith

same_record : (a b c d : List Path) → length a ≡ length c → record_of a b ≡ record_of c d → (a ≡ c) × (b ≡ d)
same_record a [] c [] h e = (e, refl)
same_record a [] c (D ∷ d) h e = absurd (omega (arith, ap length e, length_record (D ∷ c) d))
same_record a (B ∷ b) c [] h e = absurd (omega (arith, ap length e, length_record (B ∷ a) b))
same_record a (B ∷ b) c (D ∷ d) h e = let r = same_record (B ∷ a) b (D ∷ c) d (ap suc h) e in let t = r.0 in let u = r.1 in (cc, cc)

-- fewer edges than a record has room for, where vertices are few
length_higher : (v : ℕ) (l : List ℕ) → length (with_higher v l) ≡ length l
length_higher v [] = refl
length_higher v (u ∷ l) = ap suc (length_higher v l)

edges_most : (g : Graph) (k : ℕ) → k ≤ 6 → length (edges_below g k) ≤ 6 * k
edges_most g zero h = omega arith
edges_most g (suc v) h =
    let l = select (λ u. g.adj u v) (below v) in
    let s = fewer l (below v) (select-nodup (λ u. g.adj u v) (below v) (nodup_below v)) (λ w k. (select_in (λ u. g.adj u v) (below v) w k).0) in
    let ih = edges_most g v (omega arith) in
    omega (arith, length_below v, length_higher v l, length-append (with_higher v l) (edges_below g v))

record_room : (m n : ℕ) → m ≤ max_edges → (n ≤ 6 → m ≤ 36) → 3 * m - 2 * n + 13 ≤ path_space
record_room m n h small = go (below? n 7)
  where
    go : Dec (n < 7) → 3 * m - 2 * n + 13 ≤ path_space
    go (yes k) = omega (arith, small (omega arith))
    go (no k) = omega arith

-- the four vertices stand in the pairs
module _ (a b c e p q r s : ℕ) (h : six_pairs a b c e ≡ six_pairs p q r s) where
  abbrev at : ℕ → List (ℕ × ℕ) → ℕ × ℕ
  at i l = get_or l i (0, 0)

  rules_as : (g : Graph) (st fu st' fu' : List Path) → st ≡ st' → fu ≡ fu' → BuildRules g p q r s st fu → BuildRules g a b c e st' fu'
  rules_as g st fu st' fu' hs hf y = rw (ap (λ (l : List (ℕ × ℕ)). (at 0 l).0) h, ap (λ (l : List (ℕ × ℕ)). (at 0 l).1) h, ap (λ (l : List (ℕ × ℕ)). (at 1 l).1) h, ap (λ (l : List (ℕ × ℕ)). (at 2 l).1) h, ← hs, ← hf) y

module _ (g : Graph) (p : Simple g) (big : g.n ≤ capacity) (few : edge_count g ≤ max_edges) (qs : List Path) (six : 6 ≤ length qs) (val : Recorded (Adj g) (newest_first qs)) where
  path-short : (P : Path) → In P qs → length (vertices P) < g.n
  path-short P h = at_most g.n (z.0 ∷ vertices P) (z.2, path.nodup) low
    where
      path : IsPath (Adj g) P
      path = recorded_path (Adj g) (newest_first qs) val P (in_newest qs P h)

      z : (z : ℕ) × In z (branch_vertices (newest_first qs)) × (¬ In z (vertices P))
      z = off_path (Adj g) (newest_first qs) val P (in_newest qs P h)

      low : (w : ℕ) → In w (z.0 ∷ vertices P) → w < g.n
      low w (inl e) = rw e (built_low g p (newest_first qs) val z.0 (branch_built (newest_first qs) z.0 z.1))
      low w (inr k) = path-low g p P path w k

  number-low : (w : ℕ) → In w (path_numbers qs) → w < g.n
  number-low w h = ⊎_elim (λ k. built_low g p (newest_first qs) val w (built_newest qs w k)) (λ r. rw r.2 (path-short r.0 r.1)) (path-number qs w h)

  module _ (fin : Finished g (newest_first qs)) (a b c e : ℕ) (ends : end_pairs (take 6 qs) ≡ six_pairs a b c e) where
    rules : BuildRules g a b c e (take 6 qs) (drop 6 qs)
    rules = go (build-of (Adj g) (newest_first qs) val)
      where
        go : BuildOf (Adj g) (newest_first qs) → BuildRules g a b c e (take 6 qs) (drop 6 qs)
        go y =
            let x = y.subdivision in
            let l : length y.start ≡ length (take 6 qs) = omega (arith, length_ends y.start, ap length x.paths.shape, length-take-le 6 qs six) in
            let s = same_record y.start y.further (take 6 qs) (drop 6 qs) l y.gives in
            rules_as a b c e x.p x.q x.r x.s (sym ends ∙ ap end_pairs (sym s.0) ∙ x.paths.shape) g y.start y.further (take 6 qs) (drop 6 qs) s.0 s.1 (finished_rules g p (newest_first qs) val fin y)

    abbrev numbers : List ℕ
    numbers = 3 ∷ (four a b c e ++ path_numbers qs)

    low : (w : ℕ) → In w numbers → w < capacity
    low w (inl h) = omega arith
    low w (inr (inl h)) = omega (arith, rules.first.pq, rules.first.qr, rules.first.rs, rules.first.low)
    low w (inr (inr (inl h))) = omega (arith, rules.first.qr, rules.first.rs, rules.first.low)
    low w (inr (inr (inr (inl h)))) = omega (arith, rules.first.rs, rules.first.low)
    low w (inr (inr (inr (inr (inl h))))) = omega (arith, rules.first.low)
    low w (inr (inr (inr (inr (inr h))))) = omega (arith, number-low w h)

    same : numbers ≡ record_numbers (build a b c e (take 6 qs) (drop 6 qs))
    same = ap (λ (l : List Path). 3 ∷ (four a b c e ++ path_numbers l)) (sym (take-append-drop 6 qs))

    room : length numbers ≤ path_space
    room =
        let count = numbers_count g p (build a b c e (take 6 qs) (drop 6 qs)) rules in
        omega (arith, ap length same, record_room (edge_count g) g.n few (λ h. omega (arith, edges_most g g.n h)))

    pub build-written : Written g numbers
    build-written = record {
      certificate = build a b c e (take 6 qs) (drop 6 qs);
      rules = rules;
      numbers = same;
      few = room;
      short = omega (arith, room, bytes_vertices numbers low);
      small = low_small numbers (λ w h. let k = low w h in omega arith);
    }
