-- The rules of kind 3 and Barnette-Grünbaum sequences in path form are the same, step by step and on the whole.
use mathlib.Core.Path.{◌≡◌, refl, sym, subst}
use mathlib.Core.Logic.{◌≢◌, inl, inr, ⊎_elim}
use mathlib.Core.List.{List, [], ◌∷◌, ◌++◌}
use Prim.Native.Nat.{ℕ, suc, ◌+◌, ◌<◌}
use native.Mathlib.Omega.{arith}
use lib.ListN.{length}
use Rattle.connectivity.specs.Lists.{In}
use Rattle.connectivity.specs.Graph.{Graph, Adj, Simple, edge_count}
use Rattle.connectivity.specs.Path.{Path, vertices, End, edge}
use Rattle.connectivity.specs.Build.{IsBranch, StartRules, BGPath, take_before, take_after, front_part, back_part, split_at, taken, Steps, final, link_ends}
use Rattle.connectivity.specs.Certificate.{BuildRules}
use Rattle.connectivity.specs.TopologicalGraph.{IsSimple, Addition, topological, Offered, Adds, Additions, IsSequence}
use Rattle.connectivity.proofs.Lists.{in_left, in_append, in_single, nodup_snoc, below_in}
use Rattle.connectivity.proofs.Paths.{end_of_lem, nodup_inner, both_ends, same_edge}
use Rattle.connectivity.proofs.Split.{split_vertices}
use Rattle.connectivity.proofs.Start.{start-subdivision}
use Rattle.connectivity.proofs.EdgeUse.{Tally, tally_step, tally, build-count}
use Rattle.connectivity.proofs.TopologicalGraph.{same_sym, vertex-branch, link-edge, start-complete}
use Rattle.connectivity.proofs.Additions.{Kept, kept, place, topological-simple, added, simple_again, link-used, finished_graph}
pub use Rattle.connectivity.proofs.Additions.{added-addition}

-- THE RULE FOR A FURTHER PATH GIVES THE ADDITION by the places of its ends.
pub rule_offered : (E : ℕ → ℕ → Type 0) (links : List Path) (P : Path) → BGPath E links P → Offered E links P
rule_offered E links P f = record { along = f.is_path.along; inner_once = nodup_inner P f.is_path.nodup; from = f.from; upto = f.upto; new = f.new }

pub rule_adds : (E : ℕ → ℕ → Type 0) → ((u v : ℕ) → E u v → E v u) → (links : List Path) (k : ℕ) → Tally E links k → (P : Path) → BGPath E links P → Adds links P
rule_adds E esym links k t P f =
    let a = place links P.s f.from in
    let b = place links P.t f.upto in
    record { first = a; last = b; added = added E esym links k t P f a b; simple = simple_again E esym links k t P f }

-- A link with x and y on it, split at x: a piece ends in x and has y on it; and if the link ends in y, then so does a piece.
split_on : (x y : ℕ) (ls : List Path) (L : Path) → In L ls → In x (vertices L) → In y (vertices L) → (p : Path) × In p (split_at x ls) × End x p × In y (vertices p)
split_on x y ls L h hx hy = go (kept x ls L h)
  where
    go : Kept x L (split_at x ls) → (p : Path) × In p (split_at x ls) × End x p × In y (vertices p)
    go (inl r) = (L, r.1, end_of_lem L x hx r.0, hy)
    go (inr r) = ⊎_elim (λ a. (front_part x L, r.1, inr refl, in_left y (L.s ∷ take_before x L.inner) (x ∷ []) a)) (λ a. (back_part x L, r.2, inl refl, a))
        (in_append y (L.s ∷ take_before x L.inner) (x ∷ (take_after x L.inner ++ (L.t ∷ []))) (subst (λ (l : List ℕ). In y l) (split_vertices x L r.0) hy))

split_ends : (x y : ℕ) (ls : List Path) (L : Path) → In L ls → In x (vertices L) → End y L → (p : Path) × In p (split_at x ls) × End x p × End y p
split_ends x y ls L h hx hy = go hy (kept x ls L h)
  where
    go : End y L → Kept x L (split_at x ls) → (p : Path) × In p (split_at x ls) × End x p × End y p
    go e (inl r) = (L, r.1, end_of_lem L x hx r.0, e)
    go (inl e) (inr r) = (front_part x L, r.1, inr refl, inl e)
    go (inr e) (inr r) = (back_part x L, r.2, inl refl, inr e)

-- AN ADDITION TO A SIMPLE GRAPH GIVES THE RULE. That the graph then is simple is all it takes: if one link held both ends, then a
-- piece of it, split at both, would join them beside P.
pub adds_rule : (E : ℕ → ℕ → Type 0) (links : List Path) (k : ℕ) → Tally E links k → (P : Path) → Offered E links P
    → Addition (topological links) (topological (taken links P)) → IsSimple (topological (taken links P)) → BGPath E links P
adds_rule E links k t P o a i = record { is_path = record { along = o.along; nodup = (first, nodup_snoc P.inner P.t o.inner_once (λ h. o.new P.t h o.upto)) }; from = o.from; upto = o.upto; new = o.new; apart = apart }
  where
    differ : P.s ≢ P.t
    differ e = omega (arith, e, (i.ends (edge P.s P.t) (inl refl)).2)

    first : ¬ In P.s (P.inner ++ (P.t ∷ []))
    first h = ⊎_elim (λ k. o.new P.s k o.from) (λ k. differ (in_single P.s P.t k)) (in_append P.s P.inner (P.t ∷ []) h)

    apart : (L : Path) → In L links → In P.s (vertices L) → ¬ In P.t (vertices L)
    apart L h hs ht =
        let rest = split_at P.s (split_at P.t links) in
        let m = split_on P.t P.s links L h ht hs in
        let q = split_ends P.s P.t (split_at P.t links) m.0 m.1 m.3 m.2 in
        let e = same_edge P.s P.t q.0.s q.0.t (both_ends q.0 P.s P.t differ q.2 q.3) in
        i.once.0 (subst (λ (d : ℕ × ℕ). In d (link_ends rest)) (sym e) (link-edge rest q.0 q.1))

-- a build that steps can give
pub build-tally : (g : Graph) → Simple g → (p q r s : ℕ) (start further : List Path) → StartRules g p q r s start → Steps (Adj g) start further → Tally (Adj g) (final start further) (length further)
build-tally g x p q r s start further f = tally (Adj g) x.symmetric start further (start-subdivision g p q r s start f)

-- All further paths.
module _ (E : ℕ → ℕ → Type 0) (esym : (u v : ℕ) → E u v → E v u) where
  steps-additions : (links ps : List Path) (k : ℕ) → Tally E links k → Steps E links ps → Additions E links ps
  steps-additions links [] k t s = tt
  steps-additions links (P ∷ ps) k t s =
      (rule_offered E links P s.0, rule_adds E esym links k t P s.0, steps-additions (taken links P) ps (suc k) (tally_step E esym links k t P s.0) s.1)

  additions_steps : (links ps : List Path) (k : ℕ) → Tally E links k → Additions E links ps → Steps E links ps
  additions_steps links [] k t a = tt
  additions_steps links (P ∷ ps) k t (o, a, later) =
      let f = adds_rule E links k t P o (added-addition a.first a.last (topological (taken links P)) a.added) a.simple in
      (f, additions_steps (taken links P) ps (suc k) (tally_step E esym links k t P f) later)

-- THE RULES OF KIND 3 ARE A BARNETTE-GRÜNBAUM SEQUENCE ..
pub rules_sequence : (g : Graph) → Simple g → (p q r s : ℕ) (start further : List Path) → BuildRules g p q r s start further → IsSequence g p q r s start further
rules_sequence g x p q r s start further t =
    let k = build-tally g x p q r s start [] t.first tt in
    record {
      subdivided = t.first;
      complete-four = same_sym (start-complete start p q r s t.first.shape);
      simple = topological-simple (Adj g) start 0 k;
      additions = steps-additions (Adj g) x.symmetric start further 0 k t.steps;
      whole = finished_graph g x t;
    }

-- .. AND EVERY SUCH SEQUENCE KEEPS THE RULES.
pub sequence_rules : (g : Graph) → Simple g → (p q r s : ℕ) (start further : List Path) → IsSequence g p q r s start further → BuildRules g p q r s start further
sequence_rules g x p q r s start further t = record { first = t.subdivided; enough = omega (arith, number); count = omega (arith, number); steps = steps; all-branch = all-branch }
  where
    steps : Steps (Adj g) start further
    steps = additions_steps (Adj g) x.symmetric start further 0 (build-tally g x p q r s start [] t.subdivided tt) t.additions

    all-branch : (z : ℕ) → z < g.n → IsBranch z (final start further)
    all-branch z h = vertex-branch (final start further) z (t.whole.vertices.1 z (below_in g.n z h))

    number : length further + g.n + 2 ≡ edge_count g
    number = build-count g x start further (start-subdivision g p q r s start t.subdivided) steps all-branch
        (λ e h. link-used g x (final start further) (length further) (build-tally g x p q r s start further t.subdivided steps) all-branch e (t.whole.edges.1 e h))
