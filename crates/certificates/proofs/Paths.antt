-- A path, an ear, a start path or a further path is read exactly where the rules of its kind allow it.
use Prim.Native.Nat.{ℕ, ◌<◌, ◌≤◌}
use mathlib.Core.Path.{◌≡◌, refl, ap, sym, subst}
use mathlib.Core.Logic.{inl, inr}
use mathlib.Core.List.{List, [], ◌∷◌, ◌++◌}
use mathlib.Core.Bool.{Bool, true}
use native.Mathlib.Omega.{arith}
use lib.ListN.{length}
use Rattle.record.specs.Read.{Each}
use Rattle.record.proofs.Laws.{Reads, counted-law, into-law, same_law}
use Rattle.connectivity.specs.Lists.{In, NoDup}
use Rattle.connectivity.specs.Graph.{Graph, Adj, Simple}
use Rattle.connectivity.specs.Path.{Path, link, vertices, Along, IsPath}
use Rattle.connectivity.specs.Build.{InBuild, BGPath}
use Rattle.connectivity.specs.Certificate.{Cycle, Ear}
use Rattle.connectivity.proofs.Lists.{at_most}
use Rattle.connectivity.proofs.Paths.{along-edge, two_vertices}
use Rattle.certificates.specs.Tests.{path_along, path_new, Start, start_ends, in_build}
use Rattle.certificates.specs.Records.{vertex_list, tail_link, link_of, path, ear, start_path, further_path}
use Rattle.certificates.specs.Encoding.{side_bytes, path_bytes}
use Rattle.certificates.proofs.Decide.{Decides, decide_test, decide_true, decide_and, decide_not, decide_any, decide_each, decide_member, decide_distinct, decide_along}
use Rattle.certificates.proofs.Sides.{decided_law, count_law, vertex-law}
use Rattle.record.specs.Number.{number_limit}

-- a list of two or more and its path
tail_vertices : (s v : ℕ) (l : List ℕ) → vertices (tail_link s v l) ≡ s ∷ (v ∷ l)
tail_vertices s v [] = refl
tail_vertices s v (w ∷ l) = let e = tail_vertices v w l in let r : (tail_link v w l).inner ++ ((tail_link v w l).t ∷ []) ≡ w ∷ l = cc in rw r

list_vertices : (l : List ℕ) → 2 ≤ length l → vertices (link_of l) ≡ l
list_vertices [] h = absurd (omega arith)
list_vertices (s ∷ []) h = absurd (omega arith)
list_vertices (s ∷ v ∷ l) h = tail_vertices s v l

vertices-link : (P : Path) → link_of (vertices P) ≡ P
vertices-link P = go P.s P.inner P.t
  where
    go : (s : ℕ) (l : List ℕ) (t : ℕ) → link_of (s ∷ (l ++ (t ∷ []))) ≡ link s l t
    go s [] t = refl
    go s (v ∷ []) t = refl
    go s (v ∷ w ∷ l) t = ap (λ (T : Path). link s (v ∷ T.inner) T.t) (go v (w ∷ l) t)

-- each item beside no state
each_in : (Q : ℕ → Type 0) (l : List ℕ) → Each (λ (u : Unit {0}) v. Q v) (λ u v. u) tt l → (w : ℕ) → In w l → Q w
unfolding Each
each_in Q [] e w h = absurd h
each_in Q (a ∷ l) e w (inl i) = rw i e.0
each_in Q (a ∷ l) e w (inr h) = each_in Q l e.1 w h

in_each : (Q : ℕ → Type 0) (l : List ℕ) → ((w : ℕ) → In w l → Q w) → Each (λ (u : Unit {0}) v. Q v) (λ u v. u) tt l
unfolding Each
in_each Q [] f = tt
in_each Q (a ∷ l) f = (f a (inl refl), in_each Q l (λ w h. f w (inr h)))

-- a length that is allowed, and vertices below n
abbrev Fits : ℕ → ℕ → List ℕ → Type 0
Fits n least l = ((least ≤ length l) × (length l ≤ n)) × ((w : ℕ) → In w l → w < n)

path-law : (n least : ℕ) → n < number_limit → 2 ≤ least → Reads (path n least) path_bytes (λ P. Fits n least (vertices P))
unfolding path vertex_list
path-law n least few two = into-law
    (same_law (counted-law (λ (u : Unit {0}) v. u) (λ u. vertex-law n few) (count_law least n few) tt)
    (λ l o. (o.0, each_in (λ v. v < n) l o.1)) (λ l o. (o.0, in_each (λ v. v < n) l o.1)))
    link_of
    (λ l o. ap side_bytes (list_vertices l (omega (arith, o.0))))
    (λ l o. subst (Fits n least) (sym (list_vertices l (omega (arith, o.0)))) o)
    (λ P o. (vertices P, vertices-link P, o))

-- 24 and 26
decide_path : (g : Graph) (P : Path) → Decides (path_along g P) (Along (Adj g) P.s P.inner P.t)
decide_path g P = decide_along g.adj P.s P.inner P.t

decide_new : {old : ℕ → Bool} {Old : ℕ → Type 0} → ((v : ℕ) → Decides (old v) (Old v)) → (P : Path)
    → Decides (path_new old P) (NoDup (vertices P) × ((w : ℕ) → In w P.inner → ¬ Old w))
decide_new d P = decide_and (decide_distinct (vertices P)) (decide_each (λ v. decide_not (d v)) P.inner)

pub decide_built : (links : List Path) (v : ℕ) → Decides (in_build links v) (InBuild v links)
decide_built links v = decide_any (λ L. decide_member v (vertices L)) links

-- what an ear is to be beside the vertices that are in
abbrev pub EarOk : Graph → List ℕ → Path → Type 0
EarOk g [] P = Cycle g P
EarOk g (b ∷ B) P = Ear g (b ∷ B) P

pub record StartOk (g : Graph) (st : Start) (P : Path) : Type 0 where
  pub is_path : IsPath (Adj g) P
  pub ends : start_ends st.ends P ≡ true
  pub new : (w : ℕ) → In w P.inner → ¬ In w st.built

module _ (g : Graph) (simple : Simple g) (few : g.n < number_limit) where
  -- vertices of a path are on edges, so below n; they differ, so there are at most n
  path-fits : (least : ℕ) (P : Path) → IsPath (Adj g) P → least ≤ length (vertices P) → Fits g.n least (vertices P)
  path-fits least P p h = ((h, at_most g.n (vertices P) p.nodup low), low)
    where
      low : (w : ℕ) → In w (vertices P) → w < g.n
      low w i = let e = along-edge (Adj g) simple.symmetric P.s P.inner P.t p.along w i in simple.low w e.0 e.1

  pub ear-law : (B : List ℕ) → Reads (ear g B) path_bytes (EarOk g B)
  unfolding ear
  ear-law [] = same_law
      (decided_law (decided_law (decided_law (path-law g.n 3 few (omega arith))
      24 (λ P. decide_and (decide_path g P) (decide_test (g.adj P.t P.s)))) 25 (λ P. decide_true)) 26 (decide_new (λ v. decide_member v [])))
      (λ P o. record { is_path = record { along = o.0.0.1.0; nodup = o.1.0 }; closes = o.0.0.1.1; long = o.0.0.0.0.0 })
      (λ P r. (((path-fits 3 P r.is_path r.long, (r.is_path.along, r.closes)), tt), (r.is_path.nodup, λ w i j. j)))
  ear-law (b ∷ B) = same_law
      (decided_law (decided_law (decided_law (path-law g.n 3 few (omega arith))
      24 (λ P. decide_and (decide_path g P) decide_true)) 25 (λ P. decide_and (decide_member P.s (b ∷ B)) (decide_member P.t (b ∷ B)))) 26 (decide_new (λ v. decide_member v (b ∷ B))))
      (λ P o. record { is_path = record { along = o.0.0.1.0; nodup = o.1.0 }; from = o.0.1.0; upto = o.0.1.1; new = o.1.1; long = o.0.0.0.0.0 })
      (λ P r. (((path-fits 3 P r.is_path r.long, (r.is_path.along, tt)), (r.from, r.upto)), (r.is_path.nodup, r.new)))

  pub start_path-law : (st : Start) → Reads (start_path g st) path_bytes (StartOk g st)
  unfolding start_path
  start_path-law st = same_law
      (decided_law (decided_law (decided_law (path-law g.n 2 few (omega arith))
      24 (decide_path g)) 25 (λ P. decide_test (start_ends st.ends P))) 26 (decide_new (λ v. decide_member v st.built)))
      (λ P o. record { is_path = record { along = o.0.0.1; nodup = o.1.0 }; ends = o.0.1; new = o.1.1 })
      (λ P r. (((path-fits 2 P r.is_path (two_vertices P), r.is_path.along), r.ends), (r.is_path.nodup, r.new)))

  pub further_path-law : (links : List Path) → Reads (further_path g links) path_bytes (BGPath (Adj g) links)
  unfolding further_path
  further_path-law links = same_law
      (decided_law (decided_law (decided_law (decided_law (path-law g.n 2 few (omega arith))
      24 (decide_path g)) 25 (λ P. decide_and (decide_built links P.s) (decide_built links P.t))) 26 (decide_new (decide_built links)))
      27 (λ P. decide_not (decide_any (λ L. decide_and (decide_member P.s (vertices L)) (decide_member P.t (vertices L))) links)))
      (λ P o. record { is_path = record { along = o.0.0.0.1; nodup = o.0.1.0 }; from = o.0.0.1.0; upto = o.0.0.1.1; new = o.0.1.1; apart = λ L i p q. o.1 (L, i, (p, q)) })
      (λ P r. ((((path-fits 2 P r.is_path (two_vertices P), r.is_path.along), (r.from, r.upto)), (r.is_path.nodup, r.new)), λ x. r.apart x.0 x.1 x.2.0 x.2.1))
