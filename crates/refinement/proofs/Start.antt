-- THE START: it is read alike, and the build that the code keeps shows the six paths. Assumes nothing.
use Prim.Native.Nat.{ℕ, zero, suc, ◌+◌, ◌*◌, ◌<◌, ◌≤◌}
use mathlib.Core.List.{List, [], ◌∷◌, ◌++◌, append-nil}
use mathlib.Core.Bool.{Bool, true, ◌&&◌, ◌||◌, or_assoc, or-false}
use mathlib.Core.Path.{◌≡◌, refl, sym, ap, ◌∙◌, subst}
use mathlib.Core.Logic.{◌⊎◌, inl, inr, ⊎_elim, ◌↔◌}
use native.Mathlib.Omega.{arith}
use lib.Dec.{eqb, ltb, leb}
use lib.ListN.{length, length-append}
use borrow.Author.Tests.{eqb-true, leb-true}
use Rattle.record.specs.Read.{Read.Got, Reader, ◌needs⟨◌⟩◌, ◌▸◌, many, folded}
use Rattle.record.proofs.Laws.{on_got, carry}
use Rattle.record.proofs.Loops.{needs_true, then_same, many-same, many-length}
use Rattle.vertexset.specs.Set.{has, empty_set, word_count, capacity}
use Rattle.vertexset.specs.declared.VertexSet.{VertexSet}
use Rattle.vertexset.proofs.Laws.{has-empty}
use Rattle.graph.specs.Rows.{adjacent_in, bare_rows, row_words}
use Rattle.connectivity.specs.Lists.{In, member}
use Rattle.connectivity.specs.Graph.{Graph, Adj}
use Rattle.connectivity.specs.Path.{vertices, End, Path}
use Rattle.connectivity.specs.Build.{InBuild, IsBranch, four, six_pairs, end_pairs, Starts, StartRules}
use Rattle.connectivity.proofs.Lists.{and-true, or-true, true_or, clash, member-in, in_member, member-out, in_append, in_left, in_right}
use Rattle.connectivity.proofs.Paths.{end_or_inner, end_vertex, inner_in, length_ends, in_ends, ends_in_lem}
use Rattle.connectivity.proofs.Start.{Subdivision, start-subdivision}
use Rattle.connectivity.proofs.EdgeUse.{tally_start}
use Rattle.certificates.specs.Tests.{Start, start_ends, later_ends, start_taken, any_link}
use Rattle.certificates.specs.Records.{vertex, start_path, branch_four, starting, start_paths}
use Rattle.build.specs.declared.Build.{Build}
use Rattle.build.specs.State.{BuildStart, start_on, start_entered, four_set, start_of, start_in, build_start, started_build, bare_pointers, bare_build}
use Rattle.refinement.proofs.Tests.{same_test, iff_test, left_true, any-link, link-any, built_tells, branch_tells}
use Rattle.refinement.proofs.Runs.{Runs, AllLow, runs-more}
use Rattle.refinement.proofs.Shows.{Shows, Sizes, Listed, every_edge}
use Rattle.refinement.proofs.Taken.{listed_more, members-length, has-members, built_more, entered-sizes}
use Rattle.refinement.proofs.Reading.{vertex-low, Tested, tests_tell, tests_same}

-- four branch vertices, and their six pairs
abbrev pub Four : Type 0
Four = ℕ × (ℕ × (ℕ × ℕ))

abbrev pub four_of : Four → List ℕ
four_of b = four b.0 b.1.0 b.1.1.0 b.1.1.1

abbrev six_of : Four → List (ℕ × ℕ)
six_of b = six_pairs b.0 b.1.0 b.1.1.0 b.1.1.1

-- the state that the code keeps while the six paths are read, beside that of the definition
record Beside (st : BuildStart) (t : Start) : Type 0 where
  ends : st.ends ≡ t.ends
  sizes : Sizes st.build
  built : (v : ℕ) → has st.build.sets.built.words v ≡ member v t.built

-- a start path that was read
module _ (g : Graph) (t : Start) (s : List ℕ) (at : ℕ) {P : Path} {next : ℕ} (e : start_path g t s at ≡ Got P next) where
  tests : Tested g (start_ends t.ends) (λ v. member v t.built) P
  unfolding start_path
  tests = tests_tell g (start_ends t.ends) (λ v. member v t.built) s at e

  first_pair : t.ends ≡ (P.s, P.t) ∷ later_ends t.ends
  first_pair = go t.ends tests.fitting
    where
      go : (es : List (ℕ × ℕ)) → start_ends es P ≡ true → es ≡ (P.s, P.t) ∷ later_ends es
      go [] k = absurd (clash k refl)
      go (d ∷ es) k =
          let r = and-true (eqb P.s d.0) (eqb P.t d.1) k in
          let p : d.0 ≡ P.s = sym (eqb-true P.s d.0 r.0) in
          let q : d.1 ≡ P.t = sym (eqb-true P.t d.1 r.1) in
          λ i. (p i, q i) ∷ es

item_same : (g : Graph) (st : BuildStart) (t : Start) → Beside st t → (s : List ℕ) (at : ℕ) → start_on g st s at ≡ start_path g t s at
unfolding start_on start_path
item_same g st t h s at = tests_same g (start_ends st.ends) (start_ends t.ends) (has st.build.sets.built.words) (λ v. member v t.built) (λ P. ap (λ (l : List (ℕ × ℕ)). start_ends l P) h.ends) h.built s at

item_kept : (g : Graph) → g.n ≤ capacity → (st : BuildStart) (t : Start) → Beside st t → (s : List ℕ) (at : ℕ) (P : Path) (next : ℕ) → start_path g t s at ≡ Got P next
    → Beside (start_entered st P) (start_taken t P)
item_kept g low st t h s at P next e = record {
  ends = ap later_ends h.ends;
  sizes = entered-sizes st.build h.sizes P;
  built = λ v. built_more st.build h.sizes P (λ w i. let z = (tests g t s at e).low w i in omega arith) v ∙ same_test _ _ (there v) (back v);
}
  where
    there : (v : ℕ) → (has st.build.sets.built.words v || member v P.inner) ≡ true → member v (P.inner ++ t.built) ≡ true
    there v k = in_member v (P.inner ++ t.built) (⊎_elim (λ z. in_right v P.inner t.built (member-in v t.built (sym (h.built v) ∙ z))) (λ z. in_left v P.inner t.built (member-in v P.inner z))
        (or-true (has st.build.sets.built.words v) (member v P.inner) k))

    back : (v : ℕ) → member v (P.inner ++ t.built) ≡ true → (has st.build.sets.built.words v || member v P.inner) ≡ true
    back v k = ⊎_elim (λ i. true_or (has st.build.sets.built.words v) (member v P.inner) (in_member v P.inner i)) (λ i. left_true (member v P.inner) (h.built v ∙ in_member v t.built i))
        (in_append v P.inner t.built (member-in v (P.inner ++ t.built) k))

-- four ascending vertices that were read
pub record Ascends (n : ℕ) (b : Four) : Type 0 where
  pq : b.0 < b.1.0
  qr : b.1.0 < b.1.1.0
  rs : b.1.1.0 < b.1.1.1
  low : b.1.1.1 < n

pub pair-got : {A : Type 0} {B : A → Type 0} (R : Reader A) (f : (a : A) → Reader (B a)) {s : List ℕ} {at : ℕ} {x : (a : A) × B a} {next : ℕ} → (R ▸ f) s at ≡ Got x next
    → (mid : ℕ) × (R s at ≡ Got x.0 mid) × (f x.0 s mid ≡ Got x.1 next)
unfolding ◌▸◌
pair-got R f {s} {at} e =
    let g = on_got (R s at) _ e in
    let h = on_got (f g.0 s g.1) _ g.3 in
    carry (λ x n. (mid : ℕ) × (R s at ≡ Got x.0 mid) × (f x.0 s mid ≡ Got x.1 n)) h.3 (g.1, g.2, h.2)

pub four-read : (n : ℕ) (s : List ℕ) (at : ℕ) {b : Four} {next : ℕ} → branch_four n s at ≡ Got b next → Ascends n b
unfolding branch_four
four-read n s at {b} e =
    let p = pair-got (vertex n) (λ p. vertex n needs⟨ 20 ⟩ leb (suc p) ▸ λ q. vertex n needs⟨ 20 ⟩ leb (suc q) ▸ λ r. vertex n needs⟨ 20 ⟩ leb (suc r)) e in
    let q = pair-got (vertex n needs⟨ 20 ⟩ leb (suc b.0)) (λ q. vertex n needs⟨ 20 ⟩ leb (suc q) ▸ λ r. vertex n needs⟨ 20 ⟩ leb (suc r)) p.2 in
    let r = pair-got (vertex n needs⟨ 20 ⟩ leb (suc b.1.0)) (λ r. vertex n needs⟨ 20 ⟩ leb (suc r)) q.2 in
    let t = needs_true (vertex n) 20 (leb (suc b.1.1.0)) r.2 in
    record {
      pq = leb-true (suc b.0) b.1.0 (needs_true (vertex n) 20 (leb (suc b.0)) q.1).1;
      qr = leb-true (suc b.1.0) b.1.1.0 (needs_true (vertex n) 20 (leb (suc b.1.0)) r.1).1;
      rs = leb-true (suc b.1.1.0) b.1.1.1 t.1;
      low = vertex-low n s r.0 t.0;
    }

-- four vertices as a set
four-has : (b : Four) → AllLow (four_of b) → (v : ℕ) → has (four_set b).words v ≡ member v (four_of b)
unfolding folded
four-has b low v = has-members empty_set (four_of b) refl low v ∙ ap (λ (t : Bool). t || member v (four_of b)) (has-empty word_count v)

four_low : (n : ℕ) (b : Four) → n ≤ capacity → Ascends n b → AllLow (four_of b)
four_low n b h a w (inl e) = omega arith
four_low n b h a w (inr (inl e)) = omega arith
four_low n b h a w (inr (inr (inl e))) = omega arith
four_low n b h a w (inr (inr (inr (inl e)))) = omega arith
four_low n b h a w (inr (inr (inr (inr e)))) = absurd e

bare-sizes : (b : Four) → Sizes (bare_build (four_set b))
unfolding folded
bare-sizes b = let l = members-length empty_set (four_of b) refl in record { branch = l; built = l; pointers = refl }

-- each pair of the six is of two of the four
six_four : (b : Four) (e : ℕ × ℕ) → In e (six_of b) → In e.0 (four_of b) × In e.1 (four_of b)
six_four b e i = go i
  where
    at : (u v : ℕ) → In u (four_of b) → In v (four_of b) → e ≡ (u, v) → In e.0 (four_of b) × In e.1 (four_of b)
    at u v p q k = rw k (p, q)

    go : In e (six_of b) → In e.0 (four_of b) × In e.1 (four_of b)
    go (inl k) = at b.0 b.1.0 (inl refl) (inr (inl refl)) k
    go (inr (inl k)) = at b.0 b.1.1.0 (inl refl) (inr (inr (inl refl))) k
    go (inr (inr (inl k))) = at b.0 b.1.1.1 (inl refl) (inr (inr (inr (inl refl)))) k
    go (inr (inr (inr (inl k)))) = at b.1.0 b.1.1.0 (inr (inl refl)) (inr (inr (inl refl))) k
    go (inr (inr (inr (inr (inl k))))) = at b.1.0 b.1.1.1 (inr (inl refl)) (inr (inr (inr (inl refl)))) k
    go (inr (inr (inr (inr (inr (inl k)))))) = at b.1.1.0 b.1.1.1 (inr (inr (inl refl))) (inr (inr (inr (inl refl)))) k
    go (inr (inr (inr (inr (inr (inr k)))))) = absurd k

-- the start beside bare tables
abbrev pub bare_start : Four → BuildStart
bare_start b = start_of bare_pointers bare_rows b

beside_start : (n : ℕ) (b : Four) → n ≤ capacity → Ascends n b → Beside (bare_start b) (starting b)
beside_start n b h a = record { ends = refl; sizes = bare-sizes b; built = four-has b (four_low n b h a) }

-- THE START IS READ ALIKE
pub start-same : (g : Graph) → g.n ≤ capacity → (s : List ℕ) (at : ℕ) → build_start g s at ≡ (branch_four g.n ▸ λ b. start_paths g b) s at
unfolding start_in
start-same g h s at = then_same (branch_four g.n) (branch_four g.n) (λ b. many (start_on g) start_entered 6 (bare_start b)) (λ b. start_paths g b) s at refl
    (λ b mid e. sym (many-same (λ t st. Beside st t) (start_path g) start_taken (start_on g) start_entered (λ t st r s at. sym (item_same g st t r s at)) (λ t st r. item_kept g h st t r) 6 (starting b) (bare_start b)
    (beside_start g.n b h (four-read g.n s at e)) s mid))

-- WHAT THE PATHS OF A START THAT WAS READ ARE
pub record PathsRead (t : Start) (l : List Path) : Type 0 where
  pub starts : Starts (Adj every_edge) t.built l
  pub low : (L : Path) → In L l → AllLow (vertices L)
  rest : List (ℕ × ℕ)
  cut : t.ends ≡ end_pairs l ++ rest

paths_read : (g : Graph) → g.n ≤ capacity → (k : ℕ) (t : Start) (s : List ℕ) (at : ℕ) {l : List Path} {next : ℕ} → many (start_path g) start_taken k t s at ≡ Got l next → PathsRead t l
unfolding many
paths_read g h zero t s at e = carry (λ l n. PathsRead t l) e (record { starts = tt; low = λ L i. absurd i; rest = t.ends; cut = refl })
paths_read g h (suc k) t s at e =
    let p = on_got (start_path g t s at) _ e in
    let q = on_got (many (start_path g) start_taken k (start_taken t p.0) s p.1) _ p.3 in
    carry (λ l n. PathsRead t l) q.3 (more g h t s at p.0 p.1 p.2 q.0 (paths_read g h k (start_taken t p.0) s p.1 q.2))
  where
    more : (g : Graph) → g.n ≤ capacity → (t : Start) (s : List ℕ) (at : ℕ) (P : Path) (mid : ℕ) → start_path g t s at ≡ Got P mid → (l : List Path) → PathsRead (start_taken t P) l → PathsRead t (P ∷ l)
    more g h t s at P mid e l r = record {
      starts = ((tests g t s at e).is_path, λ w i. member-out w t.built ((tests g t s at e).new w i), r.starts);
      low = all;
      rest = r.rest;
      cut = first_pair g t s at e ∙ ap (λ (es : List (ℕ × ℕ)). (P.s, P.t) ∷ es) r.cut;
    }
      where
        all : (L : Path) → In L (P ∷ l) → AllLow (vertices L)
        all L (inl k) w i = let z = (tests g t s at e).low w (rw k at i) in omega arith
        all L (inr k) w i = r.low L k w i

-- the paths of a list entered one after the other, the last first
abbrev pub onto : List Path → List Path → List Path
onto [] done = done
onto (P ∷ ps) done = onto ps (P ∷ done)

onto_in : (ps done : List Path) (L : Path) → In L (onto ps done) → In L ps ⊎ In L done
onto_in [] done L h = inr h
onto_in (P ∷ ps) done L h = go (onto_in ps (P ∷ done) L h)
  where
    go : In L ps ⊎ In L (P ∷ done) → In L (P ∷ ps) ⊎ In L done
    go (inl i) = inl (inr i)
    go (inr (inl e)) = inl (inl e)
    go (inr (inr i)) = inr i

in_onto : (ps done : List Path) (L : Path) → In L ps ⊎ In L done → In L (onto ps done)
in_onto [] done L (inl h) = absurd h
in_onto [] done L (inr h) = h
in_onto (P ∷ ps) done L (inl (inl e)) = in_onto ps (P ∷ done) L (inr (inl e))
in_onto (P ∷ ps) done L (inl (inr i)) = in_onto ps (P ∷ done) L (inl i)
in_onto (P ∷ ps) done L (inr i) = in_onto ps (P ∷ done) L (inr (inr i))

-- the inner vertices of paths are among the vertices that are in; one path more
pub within_more : (P : Path) (done : List Path) (B : List ℕ) → ((L : Path) → In L done → (w : ℕ) → In w L.inner → In w B) → (L : Path) → In L (P ∷ done) → (w : ℕ) → In w L.inner → In w (P.inner ++ B)
within_more P done B inner L (inl e) w i = in_left w P.inner B (rw e at i)
within_more P done B inner L (inr h) w i = in_right w P.inner B (inner L h w i)

record Carries (b : Build) (links : List Path) : Type 0 where
  sizes : Sizes b
  linked : Listed b.linked links
  runs : Runs b.pointers links

carries_more : (B : List ℕ) (ps done : List Path) (st : BuildStart) → Starts (Adj every_edge) B ps → ((L : Path) → In L ps → AllLow (vertices L)) → ((L : Path) → In L done → (w : ℕ) → In w L.inner → In w B)
    → Carries st.build done → Carries (folded start_entered st ps).build (onto ps done)
unfolding folded
carries_more B [] done st starts low inner c = c
carries_more B (P ∷ ps) done st starts low inner c =
    carries_more (P.inner ++ B) ps (P ∷ done) (start_entered st P) starts.2 (λ L i. low L (inr i)) (within_more P done B inner)
    (record {
      sizes = entered-sizes st.build c.sizes P;
      linked = listed_more st.build.linked done c.linked P (low P (inl refl));
      runs = runs-more st.build.pointers done (c.sizes.pointers, c.runs) P starts.0.nodup (low P (inl refl)) (λ L i w k j. starts.1 w j (inner L i w k));
    })

-- the branch vertices and the vertices that are in, after the paths
started_branch : (st : BuildStart) (ps : List Path) → (folded start_entered st ps).build.sets.branch ≡ st.build.sets.branch
unfolding folded
started_branch st [] = refl
started_branch st (P ∷ ps) = started_branch (start_entered st P) ps

-- v is inside a path
abbrev inside : List Path → ℕ → Bool
inside ps v = any_link (λ L. member v L.inner) ps

started_built : (st : BuildStart) (ps : List Path) → Sizes st.build → ((L : Path) → In L ps → AllLow (vertices L)) → (v : ℕ) → has (folded start_entered st ps).build.sets.built.words v ≡ (has st.build.sets.built.words v || inside ps v)
unfolding folded any_link
started_built st [] z low v = sym (or-false (has st.build.sets.built.words v))
started_built st (P ∷ ps) z low v =
    started_built (start_entered st P) ps (entered-sizes st.build z P) (λ L i. low L (inr i)) v
    ∙ ap (λ (t : Bool). t || inside ps v) (built_more st.build z P (low P (inl refl)) v) ∙ or_assoc (has st.build.sets.built.words v) (member v P.inner) (inside ps v)

bare-listed : Listed bare_rows []
bare-listed = record { long = refl; tells = λ u v. (λ e. absurd (clash (bare u v e) (has-empty row_words (u * capacity + v))), λ r. absurd r.1) }
  where
    bare : (u v : ℕ) → adjacent_in bare_rows u v ≡ true → has bare_rows (u * capacity + v) ≡ true
    bare u v e =
        let a = and-true (ltb u capacity) (ltb v capacity && has bare_rows (u * capacity + v)) e in
        (and-true (ltb v capacity) (has bare_rows (u * capacity + v)) a.1).1

-- THE BUILD AFTER THE START SHOWS THE SIX PATHS
module _ (g : Graph) (h : g.n ≤ capacity) (b : Four) (asc : Ascends g.n b) (s : List ℕ) (at : ℕ) (start : List Path) {next : ℕ} (e : start_paths g b s at ≡ Got start next) where
  abbrev B : List ℕ
  B = four_of b

  pub all : PathsRead (starting b) start
  all = paths_read g h 6 (starting b) s at e

  shape : end_pairs start ≡ six_of b
  shape =
      let k : length start ≡ 6 = many-length (start_path g) start_taken 6 (starting b) s at e in
      let z : length all.rest ≡ 0 = omega (arith, ap length all.cut, length-append (end_pairs start) all.rest, length_ends start) in
      sym (all.cut ∙ none all.rest z)
    where
      none : (r : List (ℕ × ℕ)) → length r ≡ 0 → end_pairs start ++ r ≡ end_pairs start
      none [] k = append-nil (end_pairs start)
      none (d ∷ r) k = absurd (omega arith)

  rules : StartRules every_edge b.0 b.1.0 b.1.1.0 b.1.1.1 start
  rules = record { pq = asc.pq; qr = asc.qr; rs = asc.rs; low = let z = asc.low in omega arith; shape = shape; starts = all.starts }

  subdivision : Subdivision (Adj every_edge) start
  subdivision = start-subdivision every_edge b.0 b.1.0 b.1.1.0 b.1.1.1 start rules

  pair-link : (u v : ℕ) → In {A = ℕ × ℕ} (u, v) (six_of b) → (L : Path) × In L start × (u ≡ L.s) × (v ≡ L.t)
  pair-link u v i = ends_in_lem start u v (subst (λ (l : List (ℕ × ℕ)). In {A = ℕ × ℕ} (u, v) l) (sym shape) i)

  four-ends : (v : ℕ) → In v B → IsBranch v start
  four-ends v (inl k) = let r = pair-link b.0 b.1.0 (inl refl) in (r.0, r.1, inl (k ∙ r.2))
  four-ends v (inr (inl k)) = let r = pair-link b.0 b.1.0 (inl refl) in (r.0, r.1, inr (k ∙ r.3))
  four-ends v (inr (inr (inl k))) = let r = pair-link b.0 b.1.1.0 (inr (inl refl)) in (r.0, r.1, inr (k ∙ r.3))
  four-ends v (inr (inr (inr (inl k)))) = let r = pair-link b.0 b.1.1.1 (inr (inr (inl refl))) in (r.0, r.1, inr (k ∙ r.3))
  four-ends v (inr (inr (inr (inr k)))) = absurd k

  end_four : (L : Path) → In L start → (v : ℕ) → End v L → In v B
  end_four L i v k =
      let r = six_four b (L.s, L.t) (subst (λ (l : List (ℕ × ℕ)). In {A = ℕ × ℕ} (L.s, L.t) l) shape (in_ends start L i)) in
      ⊎_elim (λ z. rw z r.0) (λ z. rw z r.1) k

  branch_four_lem : (v : ℕ) → (has (four_set b).words v ≡ true) ↔ IsBranch v start
  branch_four_lem v =
      let f = four-has b (four_low g.n b h asc) v in
      (λ k. four-ends v (member-in v B (sym f ∙ k)), λ r. f ∙ in_member v B (end_four r.0 r.1 v r.2))

  carried : Carries (started_build (b, start)) (onto start [])
  carried = carries_more B start [] (bare_start b) all.starts all.low (λ L i. absurd i) (record { sizes = bare-sizes b; linked = bare-listed; runs = λ L i. absurd i })

  pub there : (L : Path) → In L start → In L (onto start [])
  there L i = in_onto start [] L (inl i)

  pub back : (L : Path) → In L (onto start []) → In L start
  back L i = ⊎_elim (λ k. k) (λ k. absurd k) (onto_in start [] L i)

  started_shows : Shows (started_build (b, start)) start
  started_shows = record {
    sizes = carried.sizes;
    branch = λ v. ap (λ (t : VertexSet). has t.words v) (started_branch (bare_start b) start) ∙ iff_test (branch_four_lem v) (branch_tells start v);
    built = λ v. started_built (bare_start b) start (bare-sizes b) all.low v ∙ iff_test (in_there v, in_back v) (built_tells start v);
    linked = record { long = carried.linked.long; tells = λ u v. (λ k. let r = (carried.linked.tells u v).0 k in (r.0, back r.0 r.1, r.2), λ r. (carried.linked.tells u v).1 (r.0, there r.0 r.1, r.2)) };
    runs = λ L i. carried.runs L (there L i);
    low = all.low;
    steps = 0;
    tally = tally_start (Adj every_edge) (λ u v k. k) start subdivision;
  }
    where
      in_there : (v : ℕ) → (has (four_set b).words v || inside start v) ≡ true → InBuild v start
      in_there v k = ⊎_elim (λ i. let r = (branch_four_lem v).0 i in (r.0, r.1, end_vertex v r.0 r.2)) (λ i. let r = any-link (λ L. member v L.inner) start i in (r.0, r.1, inner_in v r.0 (member-in v r.0.inner r.2)))
          (or-true (has (four_set b).words v) (inside start v) k)

      -- the ends of the paths are the four, which are in already
      in_back : (v : ℕ) → InBuild v start → (has (four_set b).words v || inside start v) ≡ true
      in_back v r = ⊎_elim (λ i. left_true (inside start v) ((branch_four_lem v).1 (r.0, r.1, i))) (λ i. true_or (has (four_set b).words v) (inside start v) (link-any (λ L. member v L.inner) start r.0 r.1 (in_member v r.0.inner i)))
          (end_or_inner r.0 v r.2)

pub shows_start : (g : Graph) → g.n ≤ capacity → (s : List ℕ) (at : ℕ) {x : Four × List Path} {next : ℕ} → (branch_four g.n ▸ λ b. start_paths g b) s at ≡ Got x next → Shows (started_build x) x.1
shows_start g h s at {x} e =
    let r = pair-got (branch_four g.n) (λ b. start_paths g b) e in
    started_shows g h x.0 (four-read g.n s at r.1) s r.0 x.1 r.2
