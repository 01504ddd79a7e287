-- READING A FURTHER PATH beside the build that the code keeps and beside the links: the same result. Assumes nothing.
use Prim.Native.Nat.{ℕ, ◌<◌, ◌≤◌}
use mathlib.Core.List.{List, [], ◌∷◌, ◌++◌}
use mathlib.Core.Bool.{Bool, true, false, not}
use mathlib.Core.Path.{◌≡◌, refl, ap, fun_ext, subst}
use mathlib.Core.Logic.{inl, inr}
use native.Mathlib.Omega.{arith}
use lib.Dec.{ltb, leb}
use lib.ListN.{length}
use borrow.Author.Tests.{ltb-true, leb-true, not-true}
use Rattle.record.specs.Read.{Read.Got, Reader, ◌needs⟨◌⟩◌, ◌▹◌, into, within}
use Rattle.record.specs.Number.{number}
use Rattle.record.proofs.Laws.{on_got, carry}
use Rattle.record.proofs.Loops.{needs_true, needs_same, many-all, many-length, All}
use Rattle.vertexset.specs.Set.{has, capacity}
use Rattle.connectivity.specs.Lists.{In}
use Rattle.connectivity.specs.Graph.{Graph, Adj}
use Rattle.connectivity.specs.Path.{vertices, Along, IsPath, Path}
use Rattle.connectivity.specs.Build.{BGPath, taken}
use Rattle.connectivity.proofs.Lists.{and-true, clash}
use Rattle.connectivity.proofs.Paths.{ends_differ}
use Rattle.certificates.specs.Tests.{path_along, path_new, ends_in, ends_apart, in_build, each, distinct}
use Rattle.certificates.specs.Records.{vertex, vertex_list, path, link_of, tail_link, further_path}
use Rattle.build.specs.declared.Build.{Build}
use Rattle.links.specs.Ends.{held}
use Rattle.build.specs.State.{both_in, build_path, path_addition, path_taken}
use Rattle.refinement.proofs.Tests.{distinct-tells, each_tells, built_tells}
use Rattle.refinement.proofs.Shows.{Shows, every_edge}
use Rattle.refinement.proofs.Apart.{shows_apart, holds_tells}
use Rattle.refinement.proofs.Taken.{shows_taken}

-- the vertices of a path that was read are the list that was read
tail_list : (s v : ℕ) (l : List ℕ) → (tail_link s v l).inner ++ ((tail_link s v l).t ∷ []) ≡ v ∷ l
tail_list s v [] = refl
tail_list s v (w ∷ l) = ap (λ (k : List ℕ). v ∷ k) (tail_list v w l)

tail_first : (s v : ℕ) (l : List ℕ) → (tail_link s v l).s ≡ s
tail_first s v [] = refl
tail_first s v (w ∷ l) = refl

pub vertices-read : (l : List ℕ) → 2 ≤ length l → vertices (link_of l) ≡ l
vertices-read [] h = absurd (omega arith)
vertices-read (s ∷ []) h = absurd (omega arith)
vertices-read (s ∷ v ∷ l) h = rw (tail_first s v l, tail_list s v l)

all_in : (Q : ℕ → Type 0) (l : List ℕ) → All Q l → (w : ℕ) → In w l → Q w
unfolding All
all_in Q [] a w h = absurd h
all_in Q (v ∷ l) a w (inl e) = rw e a.0
all_in Q (v ∷ l) a w (inr h) = all_in Q l a.1 w h

pub vertex-low : (n : ℕ) (s : List ℕ) (at : ℕ) {v next : ℕ} → vertex n s at ≡ Got v next → v < n
unfolding vertex
vertex-low n s at e = ltb-true _ n (needs_true number 9 (λ v. ltb v n) {s = s} {at = at} e).1

pub path-low : (n : ℕ) (s : List ℕ) (at : ℕ) {P : Path} {next : ℕ} → path n 2 s at ≡ Got P next → (w : ℕ) → In w (vertices P) → w < n
unfolding path vertex_list into ◌▹◌
path-low n s at e =
    let g = on_got (vertex_list n 2 s at) _ e in
    let c = on_got ((number needs⟨ 9 ⟩ within 2 n) s at) _ g.2 in
    let t = and-true (leb 2 c.0) (leb c.0 n) (needs_true number 9 (within 2 n) {s = s} {at = at} c.2).1 in
    let k : length g.0 ≡ c.0 = many-length (λ (u : Unit {0}). vertex n) (λ u v. u) c.0 tt s c.1 c.3 in
    let two : 2 ≤ length g.0 = rw k (leb-true 2 c.0 t.0) in
    let all : All (λ v. v < n) g.0 = many-all (λ (u : Unit {0}). vertex n) (λ u v. u) (λ u s at v next h. vertex-low n s at h) c.0 tt s c.1 c.3 in
    carry (λ P m. (w : ℕ) → In w (vertices P) → w < n) g.3 (λ w h. all_in (λ v. v < n) g.0 all w (subst (λ (l : List ℕ). In w l) (vertices-read g.0 two) h))

every_along : (s : ℕ) (l : List ℕ) (t : ℕ) → Along (Adj every_edge) s l t
every_along s [] t = refl
every_along s (a ∷ l) t = (refl, every_along a l t)

-- a path that is tested for 24, 25 and 26: a start path, and a further path up to 27
abbrev pub tested : Graph → (Path → Bool) → (ℕ → Bool) → Reader Path
tested g ends old = path g.n 2 needs⟨ 24 ⟩ path_along g needs⟨ 25 ⟩ ends needs⟨ 26 ⟩ path_new old

pub record Tested (g : Graph) (ends : Path → Bool) (old : ℕ → Bool) (P : Path) : Type 0 where
  pub low : (w : ℕ) → In w (vertices P) → w < g.n
  pub is_path : IsPath (Adj every_edge) P
  pub fitting : ends P ≡ true
  pub new : (w : ℕ) → In w P.inner → old w ≡ false

pub tests_tell : (g : Graph) (ends : Path → Bool) (old : ℕ → Bool) (s : List ℕ) (at : ℕ) {P : Path} {next : ℕ} → tested g ends old s at ≡ Got P next → Tested g ends old P
tests_tell g ends old s at {P} e =
    let c = needs_true (path g.n 2 needs⟨ 24 ⟩ path_along g needs⟨ 25 ⟩ ends) 26 (path_new old) e in
    let b = needs_true (path g.n 2 needs⟨ 24 ⟩ path_along g) 25 ends c.0 in
    let r = and-true (distinct (vertices P)) (each (λ v. not (old v)) P.inner) c.1 in
    record {
      low = path-low g.n s at (needs_true (path g.n 2) 24 (path_along g) b.0).0;
      is_path = record { along = every_along P.s P.inner P.t; nodup = distinct-tells (vertices P) r.0 };
      fitting = b.1;
      new = λ w h. not-true (old w) (each_tells (λ v. not (old v)) P.inner r.1 w h);
    }

pub tests_same : (g : Graph) (ends fine : Path → Bool) (old seen : ℕ → Bool) → ((P : Path) → ends P ≡ fine P) → ((v : ℕ) → old v ≡ seen v) → (s : List ℕ) (at : ℕ) → tested g ends old s at ≡ tested g fine seen s at
tests_same g ends fine old seen f h s at = rw (fun_ext f, fun_ext h)

-- A FURTHER PATH THAT WAS READ
module _ (g : Graph) (links : List Path) (s : List ℕ) (at : ℕ) {P : Path} {next : ℕ} (e : further_path g links s at ≡ Got P next) where
  last_test : (tested g (ends_in links) (in_build links) s at ≡ Got P next) × (ends_apart links P ≡ true)
  unfolding further_path
  last_test = needs_true (tested g (ends_in links) (in_build links)) 27 (ends_apart links) e

  pub tests : Tested g (ends_in links) (in_build links) P
  tests = tests_tell g (ends_in links) (in_build links) s at last_test.0

  pub further_path_lem : BGPath (Adj every_edge) links P
  further_path_lem =
      let i = and-true (in_build links P.s) (in_build links P.t) tests.fitting in
      record {
        is_path = tests.is_path;
        from = (built_tells links P.s).0 i.0;
        upto = (built_tells links P.t).0 i.1;
        new = λ w h r. clash ((built_tells links w).1 r) (tests.new w h);
        apart = λ L h a c. clash ((holds_tells links P.s P.t).1 (L, h, a, c)) (not-true _ last_test.1);
      }

  -- taken in, the build shows the links then
  pub shows_read : g.n ≤ capacity → {b : Build} → Shows b links → Shows (path_taken b P) (taken links P)
  shows_read h sh = shows_taken sh P further_path_lem (λ w i. let z = tests.low w i in omega arith)

-- A FURTHER PATH IS READ ALIKE; 27 is reached only where 25 and 26 hold
pub shows_path : (g : Graph) {b : Build} {links : List Path} → Shows b links → (s : List ℕ) (at : ℕ) → build_path g b s at ≡ further_path g links s at
unfolding build_path further_path
shows_path g {b} {links} sh s at =
    needs_same (tested g (both_in b) (has b.sets.built.words)) (tested g (ends_in links) (in_build links)) 27 (λ P. not (held (path_addition b P))) (ends_apart links) s at
    (tests_same g (both_in b) (ends_in links) (has b.sets.built.words) (in_build links) (λ P. rw (sh.built P.s, sh.built P.t)) sh.built s at)
    (λ P next e. let t = tests_tell g (ends_in links) (in_build links) s at e in shows_apart sh P t.fitting (ends_differ P t.is_path.nodup))
