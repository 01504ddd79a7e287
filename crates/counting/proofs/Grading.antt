-- The certifier's kind of a plan that was drawn is the plan's connectivity. Assumes nothing.
use Prim.Native.Nat.{ℕ, ◌≤◌, ◌<◌}
use mathlib.Core.List.{List, []}
use mathlib.Core.Path.{◌≡◌, sym, ap, ◌∙◌}
use native.Mathlib.Omega.{arith}
use lib.ListN.{length, get_or}
use Rattle.record.specs.Read.{folded}
use Rattle.graph.specs.Limits.{max_edges}
use Rattle.graph.specs.Rows.{joined, bare_rows}
use Rattle.connectivity.specs.Lists.{In}
use Rattle.connectivity.specs.Graph.{from_edges}
use Rattle.connectivity.proofs.Soundness.{grade-kind}
use Rattle.connectivity.proofs.Main.{accepted_means_true}
use Rattle.reading.specs.Plan.{Plan, Allowed}
use Rattle.reading.specs.Code.{graph_of}
use Rattle.reading.proofs.Doubles.{plan-simple}
use Rattle.construction.proofs.Places.{at_in}
use Rattle.construction.proofs.PlanCertificates.{plan-certified, plan-rules}
use Rattle.certifier.specs.Made.{kind_in}
use Rattle.counting.specs.Counts.{pairs_among, with_lower, pairs_of, sets_of, plan_with, plans_of, connectivity_of, min_size, max_size}
use Rattle.counting.proofs.Sets.{map_in}
use Rattle.counting.proofs.Plans.{listed-allowed}
use Rattle.counting.proofs.Drawing.{at_size}

pub kind-connectivity : (p : Plan) (a : Allowed p) → kind_in (graph_of p).rows (graph_of p).n ≡ connectivity_of p
kind-connectivity p a =
    let c = plan-certified p a in
    c.grade ∙ sym (grade-kind c.certificate) ∙ (accepted_means_true (from_edges p.n p.edges) (plan-simple p.n p.edges a.least a.each) c.certificate (plan-rules p a)).1

module _ (n : ℕ) (least : min_size ≤ n) (most : n ≤ max_size) where
  -- no more pairs than a plan has room for
  pub pairs_fit : length (pairs_of n) ≤ max_edges
  unfolding pairs_among with_lower
  pairs_fit = at_size (λ k. length (pairs_of k) ≤ max_edges) n least most (omega arith) (omega arith) (omega arith)

  pub size_allowed : (p : Plan) → In p (plans_of n) → Allowed p
  size_allowed p h = (listed-allowed n least (omega arith) pairs_fit p h).0

  pub drawn_connectivity : {number : ℕ} → number < length (sets_of (pairs_of n)) → {rows : List ℕ} → rows ≡ folded joined bare_rows (get_or (sets_of (pairs_of n)) number [])
      → {k : ℕ} → k ≡ kind_in rows n → k ≡ connectivity_of (plan_with n (get_or (sets_of (pairs_of n)) number []))
  unfolding graph_of
  drawn_connectivity {number} low e f =
      let s = get_or (sets_of (pairs_of n)) number [] in
      let a = size_allowed (plan_with n s) (map_in (plan_with n) s (sets_of (pairs_of n)) (at_in (sets_of (pairs_of n)) number [] low)) in
      f ∙ ap (λ (r : List ℕ). kind_in r n) e ∙ kind-connectivity (plan_with n s) a
