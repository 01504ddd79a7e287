-- A side is read exactly where it is the side of a separation.
use Prim.Native.Nat.{ℕ, suc, ◌+◌, ◌<◌, ◌≤◌}
use mathlib.Core.Path.{refl}
use mathlib.Core.Logic.{inl, inr, ⊎_elim}
use mathlib.Core.List.{List, [], ◌∷◌}
use mathlib.Core.Bool.{Bool}
use native.Mathlib.Omega.{arith}
use lib.ListN.{length}
use Rattle.record.specs.Read.{Reader, Each, ◌needs⟨◌⟩◌, within}
use Rattle.record.specs.Number.{number, number_bytes, number_limit}
use Rattle.record.proofs.Laws.{Reads, needs_law, counted-law, same_law, each_same}
use Rattle.record.proofs.Groups.{number-law}
use Rattle.connectivity.specs.Lists.{In, Ascending, member}
use Rattle.connectivity.specs.Graph.{Graph, Remaining}
use Rattle.connectivity.specs.Certificate.{Separation}
use Rattle.certificates.specs.Tests.{nobody, with, rest}
use Rattle.certificates.specs.Records.{vertex, side_vertex, side}
use Rattle.certificates.specs.Encoding.{side_bytes}
use Rattle.certificates.proofs.Decide.{Decides, decide_same, decide_test, decide_false, decide_and, decide_or, decide_not, decide_equal, decide_less, decide_most, decide_within, decide_some, decide_all, decide_member}

-- a test on what was read, as the proposition that it decides
pub decided_law : {A : Type 0} {R : Reader A} {enc : A → List ℕ} {Ok P : A → Type 0} {ok : A → Bool} → Reads R enc Ok → (r : ℕ) → ((v : A) → Decides (ok v) (P v))
    → Reads (R needs⟨ r ⟩ ok) enc (λ v. (Ok v) × (P v))
decided_law {ok = ok} h r d = same_law (needs_law h r ok) (λ v o. (o.0, (d v).holds o.1)) (λ v o. (o.0, (d v).passes o.1))

-- numbers below number_limit that a test bounds
pub count_law : (least most : ℕ) → most < number_limit → Reads (number needs⟨ 9 ⟩ within least most) number_bytes (λ k. (least ≤ k) × (k ≤ most))
count_law least most few = same_law (decided_law number-law 9 (decide_within least most)) (λ k o. o.1) (λ k o. (omega (arith, o.1), o))

pub vertex-law : (n : ℕ) → n < number_limit → Reads (vertex n) number_bytes (λ v. v < n)
unfolding vertex
vertex-law n few = same_law (decided_law number-law 9 (λ v. decide_less v n)) (λ v o. o.1) (λ v o. (omega arith, o))

-- the removed vertices as a test
pub decide_nobody : (v : ℕ) → Decides (nobody v) (In v [])
decide_nobody v = decide_false

pub decide_with : (X : List ℕ) {p : ℕ → Bool} → ((v : ℕ) → Decides (p v) (In v X)) → (a v : ℕ) → Decides (with p a v) (In v (a ∷ X))
decide_with X d a v = decide_same (decide_or (d v) (decide_equal v a)) (⊎_elim inr inl) (⊎_elim inr inl)

-- each vertex above its predecessor: the list ascends
module _ (Q : ℕ → Type 0) where
  abbrev Above : ℕ → List ℕ → Type 0
  Above least l = Each (λ least v. (least ≤ v) × Q v) (λ least v. suc v) least l

  above_ascends : (least : ℕ) (l : List ℕ) → Above least l → Ascending l
  unfolding Each
  above_ascends least [] e = tt
  above_ascends least (a ∷ []) e = tt
  above_ascends least (a ∷ (b ∷ l)) e = (e.1.0.0, above_ascends (suc a) (b ∷ l) e.1)

  above_has : (least : ℕ) (l : List ℕ) → Above least l → (w : ℕ) → In w l → Q w
  unfolding Each
  above_has least [] e w h = absurd h
  above_has least (a ∷ l) e w (inl i) = rw i e.0.1
  above_has least (a ∷ l) e w (inr h) = above_has (suc a) l e.1 w h

  ascends_above : (l : List ℕ) → Ascending l → ((w : ℕ) → In w l → Q w) → Above 0 l
  unfolding Each
  ascends_above [] a f = tt
  ascends_above (b ∷ l) a f = ((omega arith, f b (inl refl)), on b l a (λ w h. f w (inr h)))
    where
      on : (b : ℕ) (l : List ℕ) → Ascending (b ∷ l) → ((w : ℕ) → In w l → Q w) → Above (suc b) l
      on b [] a f = tt
      on b (c ∷ l) a f = ((a.0, f c (inl refl)), on c l a.1 (λ w h. f w (inr h)))

-- and it has at most n vertices where they are below n
short : (n least : ℕ) (l : List ℕ) → least ≤ n → Above (λ v. v < n) least l → length l + least ≤ n
unfolding Each
short n least [] i e = omega arith
short n least (b ∷ l) i e = let r = short n (suc b) l (omega arith) e.1 in omega arith

module _ (g : Graph) (few : g.n < number_limit) (X : List ℕ) {removed : ℕ → Bool} (d : (v : ℕ) → Decides (removed v) (In v X)) where
  side_vertex-law : (least : ℕ) → Reads (side_vertex g.n removed least) number_bytes (λ v. (least ≤ v) × Remaining g X v)
  unfolding side_vertex
  side_vertex-law least = same_law (decided_law (decided_law (vertex-law g.n few) 20 (decide_most least)) 21 (λ v. decide_not (d v)))
      (λ v o. (o.0.1, (o.0.0, o.1))) (λ v o. ((o.1.0, o.0), o.1.1))

  decide_rest : (S : List ℕ) (v : ℕ) → Decides (rest removed (λ w. member w S) v) ((¬ In v X) × (¬ In v S))
  decide_rest S v = decide_and (decide_not (d v)) (decide_not (decide_member v S))

  pub side-law : Reads (side g removed) side_bytes (Separation g X)
  unfolding side
  side-law = same_law
      (decided_law (decided_law (counted-law (λ least v. suc v) side_vertex-law (count_law 0 g.n few) 0)
      22 (λ S. decide_and (decide_some (λ v. decide_member v S) g.n) (decide_some (decide_rest S) g.n)))
      23 (λ S. decide_all (λ u. decide_all (λ v. decide_not (decide_and (decide_member u S) (decide_and (decide_rest S v) (decide_test (g.adj u v))))) g.n) g.n))
      (λ S o.
      let a = o.0.0.1 in
      let inside = above_has (Remaining g X) 0 S a in
      record {
        ascending = above_ascends (Remaining g X) 0 S a;
        remaining = inside;
        some_side = (o.0.1.0.0, o.0.1.0.2);
        some_rest = (o.0.1.1.0, ((o.0.1.1.1, o.0.1.1.2.0), o.0.1.1.2.1));
        no_edge = λ u v i r e. o.1 u (inside u i).0 v r.0.0 (i, ((r.0.1, r.1), e));
      })
      (λ S r.
      let a = ascends_above (Remaining g X) S r.ascending r.remaining in
      let l = short g.n 0 S (omega arith) (each_same (λ least v. suc v) (λ least v k. (k.0, k.1.0)) 0 S a) in
      let w = r.some_side in
      let v = r.some_rest in
      ((
        (((omega arith, omega arith), a), ((w.0, (r.remaining w.0 w.1).0, w.1), (v.0, v.1.0.0, (v.1.0.1, v.1.1)))),
        λ u i v j p. r.no_edge u v p.0 ((j, p.1.0.0), p.1.0.1) p.1.1,
      )))
