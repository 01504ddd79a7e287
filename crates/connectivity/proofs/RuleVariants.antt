-- The rules of kinds 2 and 3 with single clauses left open: the real rules are one case of them, weakened rules are others.
use mathlib.Core.Path.{◌≡◌}
use mathlib.Core.Logic.{◌⊎◌, inl, inr}
use mathlib.Core.List.{List, [], ◌∷◌}
use Prim.Native.Nat.{ℕ, suc, ◌+◌, ◌-◌, ◌≤◌, ◌<◌}
use lib.ListN.{length}
use Rattle.connectivity.specs.Lists.{In}
use Rattle.connectivity.specs.Graph.{Graph, Adj, edge_count}
use Rattle.connectivity.specs.Path.{Path, vertices, IsPath}
use Rattle.connectivity.specs.Build.{InBuild, IsBranch, StartRules, BGPath, taken, Steps, final, further_count}
use Rattle.connectivity.specs.Certificate.{Separation, Cycle, Ears, inside, EarRules, BuildRules, Certificate, Rules}
use Rattle.connectivity.proofs.Checks.{Check, both, either, giving, holds, equal, less, at_most, is_in, not_in, each, each_below, path_check, in_build, is_branch, start_rules, cycle, ears, separation, tree_rules}

-- Kind 2: ForEars is asked of the later ears, ForSide of the removed vertices and the side.
pub record EarRulesBy (ForEars : Graph → List ℕ → List Path → Type 0) (ForSide : Graph → List ℕ → List ℕ → Type 0) (g : Graph) (c d : ℕ) (P : Path) (es : List Path) (S : List ℕ) : Type 0 where
  pub order : c < d
  pub low : d < g.n
  pub count : suc (length es) ≤ g.n - 2
  pub first : Cycle g P
  pub ears : ForEars g (vertices P) es
  pub all_in : (z : ℕ) → z < g.n → In z (inside (vertices P) es)
  pub separation : ForSide g (c ∷ (d ∷ [])) S

-- Kind 3: ForPath is asked of a further path, AtEnd of every vertex at the end.
abbrev pub StepsBy : (List Path → Path → Type 0) → List Path → List Path → Type 0
StepsBy F links [] = Unit {0}
StepsBy F links (P ∷ ps) = F links P × StepsBy F (taken links P) ps

pub record BuildRulesBy (ForPath : Graph → List Path → Path → Type 0) (AtEnd : ℕ → List Path → Type 0) (g : Graph) (p q r s : ℕ) (start further : List Path) : Type 0 where
  pub first : StartRules g p q r s start
  pub enough : g.n + 2 ≤ edge_count g
  pub count : length further ≡ further_count (edge_count g) g.n
  pub steps : StepsBy (ForPath g) start further
  pub all_end : (z : ℕ) → z < g.n → AtEnd z (final start further)

-- the rule for a further path, of a graph
abbrev pub FurtherPath : Graph → List Path → Path → Type 0
FurtherPath g = BGPath (Adj g)

-- The real rules, both ways.
module _ {g : Graph} {c d : ℕ} {P : Path} {es : List Path} {S : List ℕ} where
  pub ear-rules_by : EarRules g c d P es S → EarRulesBy Ears Separation g c d P es S
  ear-rules_by t = record { order = t.order; low = t.low; count = t.count; first = t.first; ears = t.ears; all_in = t.all_in; separation = t.separation }

  pub by_ear_rules : EarRulesBy Ears Separation g c d P es S → EarRules g c d P es S
  by_ear_rules t = record { order = t.order; low = t.low; count = t.count; first = t.first; ears = t.ears; all_in = t.all_in; separation = t.separation }

module _ (E : ℕ → ℕ → Type 0) where
  steps-by : (links ps : List Path) → Steps E links ps → StepsBy (BGPath E) links ps
  steps-by links [] s = s
  steps-by links (P ∷ ps) s = (s.0, steps-by (taken links P) ps s.1)

  by_steps : (links ps : List Path) → StepsBy (BGPath E) links ps → Steps E links ps
  by_steps links [] s = s
  by_steps links (P ∷ ps) s = (s.0, by_steps (taken links P) ps s.1)

module _ {g : Graph} {p q r s : ℕ} {start further : List Path} where
  pub build-rules_by : BuildRules g p q r s start further → BuildRulesBy FurtherPath IsBranch g p q r s start further
  build-rules_by t = record { first = t.first; enough = t.enough; count = t.count; steps = steps-by (Adj g) start further t.steps; all_end = t.all-branch }

  pub by_build_rules : BuildRulesBy FurtherPath IsBranch g p q r s start further → BuildRules g p q r s start further
  by_build_rules t = record { first = t.first; enough = t.enough; count = t.count; steps = by_steps (Adj g) start further t.steps; all-branch = t.all_end }

-- Their tests, from tests of the open clauses.
module _ (E : Graph → List ℕ → List Path → Type 0) (T : Graph → List ℕ → List ℕ → Type 0) (g : Graph) (c d : ℕ) (P : Path) (es : List Path) (S : List ℕ) where
  abbrev pub ear_rules_by : ((B : List ℕ) (ps : List Path) → Check (E g B ps)) → ((X S : List ℕ) → Check (T g X S)) → Check (EarRulesBy E T g c d P es S)
  ear_rules_by e t =
      giving (both (both (less c d) (less d g.n)) (both (both (at_most (suc (length es)) (g.n - 2)) (cycle g P))
      (both (both (e (vertices P) es) (each_below (λ z. In z (inside (vertices P) es)) g.n (λ z. is_in z (inside (vertices P) es)))) (t (c ∷ (d ∷ [])) S))))
      (λ r. record { order = r.0.0; low = r.0.1; count = r.1.0.0; first = r.1.0.1; ears = r.1.1.0.0; all_in = r.1.1.0.1; separation = r.1.1.1 })

abbrev pub steps_by : (F : List Path → Path → Type 0) → ((links : List Path) (P : Path) → Check (F links P)) → (links ps : List Path) → Check (StepsBy F links ps)
steps_by F f links [] = holds tt
steps_by F f links (P ∷ ps) = both (f links P) (steps_by F f (taken links P) ps)

module _ (F : Graph → List Path → Path → Type 0) (Z : ℕ → List Path → Type 0) (g : Graph) (p q r s : ℕ) (start further : List Path) where
  abbrev pub build_rules_by : ((links : List Path) (P : Path) → Check (F g links P)) → ((z : ℕ) (links : List Path) → Check (Z z links)) → Check (BuildRulesBy F Z g p q r s start further)
  build_rules_by f z =
      giving (both (both (start_rules g p q r s start) (both (at_most (g.n + 2) (edge_count g)) (equal (length further) (further_count (edge_count g) g.n))))
      (both (steps_by (F g) f start further) (each_below (λ x. Z x (final start further)) g.n (λ x. z x (final start further)))))
      (λ r. record { first = r.0.0; enough = r.0.1.0; count = r.0.1.1; steps = r.1.0; all_end = r.1.1 })

-- What a further path is asked for besides that no link holds both its ends.
pub record LoosePath (g : Graph) (links : List Path) (P : Path) : Type 0 where
  pub is_path : IsPath (Adj g) P
  pub from : InBuild P.s links
  pub upto : InBuild P.t links
  pub new : (w : ℕ) → In w P.inner → ¬ InBuild w links

pub not_in_build : (w : ℕ) (links : List Path) → ((L : Path) → In L links → ¬ In w (vertices L)) → ¬ InBuild w links
not_in_build w links f r = f r.0 r.1 r.2

abbrev pub loose_path : (g : Graph) (links : List Path) (P : Path) → Check (LoosePath g links P)
loose_path g links P =
    giving (both (path_check g P) (both (both (in_build P.s links) (in_build P.t links))
    (each (λ w. ¬ InBuild w links) P.inner (λ w. giving (each (λ (L : Path). ¬ In w (vertices L)) links (λ L. not_in w (vertices L))) (not_in_build w links)))))
    (λ r. record { is_path = r.0; from = r.1.0.0; upto = r.1.0.1; new = r.1.1 })

pub not_both : (x y : ℕ) (l : List ℕ) → (¬ In x l) ⊎ (¬ In y l) → In x l → ¬ In y l
not_both x y l (inl n) h k = n h
not_both x y l (inr n) h k = n k

abbrev pub bg_path : (g : Graph) (links : List Path) (P : Path) → Check (BGPath (Adj g) links P)
bg_path g links P =
    giving (both (loose_path g links P) (each (λ (L : Path). In P.s (vertices L) → ¬ In P.t (vertices L)) links
    (λ L. giving (either (not_in P.s (vertices L)) (not_in P.t (vertices L))) (not_both P.s P.t (vertices L)))))
    (λ r. record { is_path = r.0.is_path; from = r.0.from; upto = r.0.upto; new = r.0.new; apart = r.1 })

-- A CERTIFICATE'S RULES: a test, and that they hold where it comes out true.
abbrev pub rules : (g : Graph) (x : Certificate) → Check (Rules g x)
rules g (Certificate.separation S) = separation g [] S
rules g (Certificate.tree c f ps S) = tree_rules g c f ps S
rules g (Certificate.ears c d P es S) = giving (ear_rules_by Ears Separation g c d P es S (ears g) (separation g)) by_ear_rules
rules g (Certificate.build p q r s ps qs) = giving (build_rules_by FurtherPath IsBranch g p q r s ps qs (bg_path g) is_branch) by_build_rules
