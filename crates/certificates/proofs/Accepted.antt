-- A certificate record is accepted exactly where it is written as the definitions say and every rule of its kind holds.
use Prim.Native.Nat.{ℕ, zero, suc, ◌+◌, ◌-◌, ◌<◌, ◌≤◌}
use mathlib.Core.Path.{◌≡◌, refl, ap}
use mathlib.Core.Logic.{◌⊎◌, inl, inr, ⊎_map}
use mathlib.Core.List.{List, [], ◌∷◌, ◌++◌, append-nil}
use mathlib.Core.Bool.{◌||◌}
use native.Mathlib.Omega.{arith}
use borrow.Author.Tests.{ltb-true, ltb-false}
use lib.Dec.{ltb, leb}
use lib.ListN.{length}
use Rattle.record.specs.Read.{Read.Got, Bytes, Each, ended, folded}
use Rattle.record.specs.Number.{number_bytes, list_bytes, number_limit}
use Rattle.record.proofs.Laws.{Reads, pair-law, many-law, leads_law, counted-law, into-law, same_law, ended-there, ended-back}
use Rattle.record.proofs.Groups.{number-law}
use Rattle.record.proofs.Parts.{one_value}
use Rattle.connectivity.specs.Lists.{In}
use Rattle.connectivity.specs.Graph.{Graph, Simple, edge_count}
use Rattle.connectivity.specs.Path.{Path, vertices}
use Rattle.connectivity.specs.Build.{taken, final, further_count}
use Rattle.connectivity.specs.Certificate.{Certificate, Certificate.separation, Certificate.tree, Certificate.ears, Certificate.build, kind, Rules, Separation, TreeRules, EarRules, BuildRules}
use Rattle.connectivity.proofs.Lists.{bool?}
use Rattle.certificates.specs.Tests.{nobody, with, ear_taken}
use Rattle.certificates.specs.Records.{first_ear, later_ears, body, certificate}
use Rattle.certificates.specs.Encoding.{side_bytes, path_bytes, body_bytes, certificate_bytes}
use Rattle.certificates.proofs.Decide.{Decides, decide_same, decide_or, decide_less, decide_most, decide_within, decide_all, decide_member}
use Rattle.certificates.proofs.Sides.{decided_law, count_law, vertex-law, decide_nobody, decide_with, side-law}
use Rattle.certificates.proofs.Paths.{EarOk, ear-law, further_path-law}
use Rattle.certificates.proofs.Items.{checked_law, decide_pair, decide_branch, pair_read-law, each-tree, tree_each, each-ears, ears-each, ears-inside, each-steps, steps-each, start-law}

pub kind-low : (x : Certificate) → kind x ≤ 3
kind-low (separation S) = omega arith
kind-low (tree c f ps S) = omega arith
kind-low (ears c d P es S) = omega arith
kind-low (build p q r s ps qs) = omega arith

module _ (g : Graph) (simple : Simple g) (few : g.n < number_limit) where
  -- kind 2: the ears as one list
  ears-list : (all : List Path) → 1 ≤ length all → first_ear all ∷ later_ears all ≡ all
  ears-list [] h = absurd (omega arith)
  ears-list (P ∷ es) h = refl

  ear-rules : (c d : ℕ) (all : List Path) (S : List ℕ) → c < d → d < g.n → (1 ≤ length all) × (length all ≤ g.n - 2) → Each (EarOk g) ear_taken [] all
      → ((z : ℕ) → z < g.n → In z (folded ear_taken [] all)) → Separation g (c ∷ (d ∷ [])) S → EarRules g c d (first_ear all) (later_ears all) S
  unfolding Each folded
  ear-rules c d [] S h i k e f s = absurd (omega arith)
  ear-rules c d (P ∷ es) S h i k e f s = record {
    order = h;
    low = i;
    count = k.1;
    first = e.0;
    ears = each-ears g es (vertices P) refl e.1;
    all_in = λ z j. rw (ears-inside g es (vertices P) refl) at (f z j);
    separation = s;
  }

  rules_ears : (c d : ℕ) (all : List Path) (S : List ℕ) → 1 ≤ length all → EarRules g c d (first_ear all) (later_ears all) S
      → (length all ≤ g.n - 2) × Each (EarOk g) ear_taken [] all × ((z : ℕ) → z < g.n → In z (folded ear_taken [] all))
  unfolding Each folded
  rules_ears c d [] S h r = absurd (omega arith)
  rules_ears c d (P ∷ es) S h r = (r.count, (r.first, ears-each g es (vertices P) refl r.ears), λ z j. rw (ears-inside g es (vertices P) refl) (r.all_in z j))

  pub body-law : (k : ℕ) → (3 ≤ k → g.n + 2 ≤ edge_count g) → Reads (body g k) body_bytes (λ x. (kind x ≡ k) × Rules g x)
  body-law zero h = into-law (side-law g few [] decide_nobody) separation (λ a o. refl) (λ a o. (refl, o)) off
    where
      off : (x : Certificate) → (kind x ≡ 0) × Rules g x → (a : List ℕ) × (separation a ≡ x) × Separation g [] a
      off (separation S) o = (S, refl, o.1)
      off (tree c f ps S) o = absurd (omega arith)
      off (ears c d P es S) o = absurd (omega arith)
      off (build p q r s ps qs) o = absurd (omega arith)
  body-law (suc zero) h = into-law
      (same_law
      (pair-law (vertex-law g.n few) (λ c. pair-law (vertex-law g.n few) (λ first.
      pair-law (many-law (λ named p. with named p.0) (pair_read-law g simple few) (g.n - 1) (with nobody first)) (λ pairs. side-law g few (c ∷ []) (decide_with [] decide_nobody c)))))
      (λ a o. record { c_low = o.0; first_low = o.1.0; count = o.1.1.0.0; tree = each-tree g (a.1.0 ∷ []) (decide_with [] decide_nobody a.1.0) a.1.1.0 o.1.1.0.1; separation = o.1.1.1 })
      (λ a r. (r.c_low, (r.first_low, ((r.count, tree_each g (a.1.0 ∷ []) (decide_with [] decide_nobody a.1.0) a.1.1.0 r.tree), r.separation)))))
      (λ x. tree x.0 x.1.0 x.1.1.0 x.1.1.1) (λ a o. refl) (λ a o. (refl, o)) off
    where
      off : (x : Certificate) → (kind x ≡ 1) × Rules g x → (a : ℕ × (ℕ × (List (ℕ × ℕ) × List ℕ))) × (tree a.0 a.1.0 a.1.1.0 a.1.1.1 ≡ x)
          × TreeRules g a.0 a.1.0 a.1.1.0 a.1.1.1
      off (separation S) o = absurd (omega arith)
      off (tree c f ps S) o = ((c, (f, (ps, S))), refl, o.1)
      off (ears c d P es S) o = absurd (omega arith)
      off (build p q r s ps qs) o = absurd (omega arith)
  body-law (suc (suc zero)) h = into-law
      (same_law
      (pair-law (vertex-law g.n few) (λ c. pair-law (decided_law (vertex-law g.n few) 20 (decide_most (suc c))) (λ d.
      pair-law (counted-law ear_taken (ear-law g simple few) (count_law 1 (g.n - 2) (omega arith)) []) (λ all.
      pair-law (checked_law 28 (decide_all (λ v. decide_member v (folded ear_taken [] all)) g.n)) (λ u. side-law g few (c ∷ (d ∷ [])) (decide_pair c d))))))
      (λ a o. (o.1.1.0.0.0, ear-rules a.0 a.1.0 a.1.1.0 a.1.1.1.1 o.1.0.1 o.1.0.0 o.1.1.0.0 o.1.1.0.1 o.1.1.1.0 o.1.1.1.1))
      (λ a o.
      let r = o.1 in
      let e = rules_ears a.0 a.1.0 a.1.1.0 a.1.1.1.1 o.0 r in
      (omega (arith, r.order, r.low), ((r.low, r.order), (((o.0, e.0), e.1), (e.2, r.separation))))))
      (λ x. ears x.0 x.1.0 (first_ear x.1.1.0) (later_ears x.1.1.0) x.1.1.1.1)
      (λ a o. ap (λ (all : List Path). number_bytes a.0 ++ (number_bytes a.1.0 ++ ((number_bytes (length all) ++ list_bytes path_bytes all) ++ side_bytes a.1.1.1.1))) (ears-list a.1.1.0 o.0))
      (λ a o. (refl, o.1)) off
    where
      off : (x : Certificate) → (kind x ≡ 2) × Rules g x → (a : ℕ × (ℕ × (List Path × (Unit {0} × List ℕ)))) × (ears a.0 a.1.0 (first_ear a.1.1.0) (later_ears a.1.1.0) a.1.1.1.1 ≡ x)
          × ((1 ≤ length a.1.1.0) × EarRules g a.0 a.1.0 (first_ear a.1.1.0) (later_ears a.1.1.0) a.1.1.1.1)
      off (separation S) o = absurd (omega arith)
      off (tree c f ps S) o = absurd (omega arith)
      off (ears c d P es S) o = ((c, (d, (P ∷ es, (tt, S)))), refl, (omega arith, o.1))
      off (build p q r s ps qs) o = absurd (omega arith)
  body-law (suc (suc (suc zero))) h = into-law
      (same_law
      (pair-law (start-law g simple few) (λ x. pair-law (many-law taken (further_path-law g simple few) (further_count (edge_count g) g.n) x.1) (λ further.
      checked_law 28 (decide_all (decide_branch (final x.1 further)) g.n))))
      (λ a o. record { first = o.0; enough = h (omega arith); count = o.1.0.0; steps = each-steps g a.0.1 a.1.0 o.1.0.1; all-branch = o.1.1 })
      (λ a r. (r.first, ((r.count, steps-each g a.0.1 a.1.0 r.steps), r.all-branch))))
      (λ x. build x.0.0.0 x.0.0.1.0 x.0.0.1.1.0 x.0.0.1.1.1 x.0.1 x.1.0)
      (λ a o. rw (append-nil (list_bytes path_bytes a.1.0))) (λ a o. (refl, o)) off
    where
      off : (x : Certificate) → (kind x ≡ 3) × Rules g x → (a : ((ℕ × (ℕ × (ℕ × ℕ))) × List Path) × (List Path × Unit {0}))
          × (build a.0.0.0 a.0.0.1.0 a.0.0.1.1.0 a.0.0.1.1.1 a.0.1 a.1.0 ≡ x)
          × BuildRules g a.0.0.0 a.0.0.1.0 a.0.0.1.1.0 a.0.0.1.1.1 a.0.1 a.1.0
      off (separation S) o = absurd (omega arith)
      off (tree c f ps S) o = absurd (omega arith)
      off (ears c d P es S) o = absurd (omega arith)
      off (build p q r s ps qs) o = ((((p, (q, (r, s))), ps), (qs, tt)), refl, o.1)
  body-law (suc (suc (suc (suc k)))) h = record {
    there = λ {s} {at} {next} {v} bytes e. let z : ◌≡◌ {A = ℕ} 0 1 = cc in absurd (omega arith);
    back = λ {s} {at} {next} {v} p i. absurd (omega (arith, kind-low v, i.0));
  }

  -- 29: of kind 3 alone
  decide_enough : (k : ℕ) → Decides (ltb k 3 || leb (g.n + 2) (edge_count g)) (3 ≤ k → g.n + 2 ≤ edge_count g)
  decide_enough k = decide_same (decide_or (decide_less k 3) (decide_most (g.n + 2) (edge_count g))) to from
    where
      to : (k < 3) ⊎ (g.n + 2 ≤ edge_count g) → 3 ≤ k → g.n + 2 ≤ edge_count g
      to (inl i) h = absurd (omega arith)
      to (inr i) h = i

      from : (3 ≤ k → g.n + 2 ≤ edge_count g) → (k < 3) ⊎ (g.n + 2 ≤ edge_count g)
      from f = ⊎_map (ltb-true k 3) (λ e. f (ltb-false k 3 e)) (bool? (ltb k 3))

  rules_enough : (x : Certificate) → Rules g x → 3 ≤ kind x → g.n + 2 ≤ edge_count g
  rules_enough (separation S) r h = absurd (omega arith)
  rules_enough (tree c f ps S) r h = absurd (omega arith)
  rules_enough (ears c d P es S) r h = absurd (omega arith)
  rules_enough (build p q r s ps qs) o h = o.enough

  -- the reader gives x and the place after it exactly where the bytes are x's and every rule of x's kind holds
  pub certificate-law : Reads (certificate g) certificate_bytes (Rules g)
  unfolding certificate
  certificate-law = same_law
      (leads_law kind (decided_law (decided_law number-law 8 (decide_within 0 3)) 29 decide_enough) (λ k o. body-law k o.1))
      (λ x o. o.1)
      (λ x r. let k = kind-low x in (((omega arith, (omega arith, k)), rules_enough x r), r))

  -- a whole record is accepted with x exactly where it is x's bytes and every rule of x's kind holds
  pub accepted_there : (s : List ℕ) (x : Certificate) (next : ℕ) → Bytes s → ended (certificate g) s 0 ≡ Got x next → (s ≡ certificate_bytes x) × Rules g x
  accepted_there s x next bytes e = ended-there certificate-law bytes e

  pub accepted_back : (s : List ℕ) (x : Certificate) → s ≡ certificate_bytes x → Rules g x → ended (certificate g) s 0 ≡ Got x (length s)
  accepted_back s x e r = ended-back certificate-law e r

  -- two certificates with the same bytes are the same
  pub certificate_bytes-injective : (x y : Certificate) → Rules g x → Rules g y → certificate_bytes x ≡ certificate_bytes y → x ≡ y
  certificate_bytes-injective x y r q e = one_value certificate-law r q e
