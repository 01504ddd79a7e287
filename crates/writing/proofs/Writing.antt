-- Writing a plan record: when it can be written, and that its parts one after the other are the record. Assumes nothing.
use Prim.Native.Nat.{ℕ, zero, suc, ◌+◌, ◌*◌, ◌<◌, ◌≤◌}
use mathlib.Core.List.{List, [], ◌∷◌, ◌++◌}
use mathlib.Core.Bool.{Bool, true, false, cond, and-false}
use mathlib.Core.Path.{◌≡◌, refl, ap}
use native.Mathlib.Omega.{arith}
use lib.ListN.{length, length-append}
use lib.Dec.{leb}
use borrow.Author.Tests.{le-leb, lt-leb}
use Rattle.record.specs.Number.{number_bytes, list_bytes}
use Rattle.record.specs.Write.{overwritten, has_room}
use Rattle.std.specs.Prelude.{Some, None}
use Rattle.record.proofs.Write.{few_bytes, both_room, both_put}
use Rattle.graph.specs.Limits.{min_vertices, max_vertices, max_edges}
use Rattle.record.specs.Read.{within}
use Rattle.reading.specs.Plan.{edge_bytes, plan_bytes}
use Rattle.reading.specs.declared.PlanTable.{PlanTable}
use Rattle.writing.specs.Write.{edges_from, edges_of, plan_of, edges_bytes, edges_in_order, size_of, can_write_plan, written_plan, with_plan}
use Rattle.record.proofs.Bounds.{true_within}
use Rattle.writing.proofs.Edges.{edge-bytes}

edges-short : (es : List (ℕ × ℕ)) → length (list_bytes edge_bytes es) ≤ 4 * length es
unfolding list_bytes
edges-short [] = omega arith
edges-short (e ∷ es) = omega (arith, length-append (edge_bytes e) (list_bytes edge_bytes es), edge-bytes e, few_bytes e.0, few_bytes e.1, edges-short es)

pub edges-count : (ends : List ℕ) (j k : ℕ) → length (edges_from ends j k) ≡ j
unfolding edges_from
edges-count ends zero k = refl
edges-count ends (suc j) k = ap suc (edges-count ends j (k + 1))

pub bytes_short : (ends : List ℕ) (m : ℕ) → length (edges_bytes ends m) ≤ 4 * m
bytes_short ends m = omega (arith, edges-short (edges_of ends m), edges-count ends m 0)

-- what was measured tells whether the edges are in order, and then how long they are
pub not_allowed : (n : ℕ) (es : List (ℕ × ℕ)) → None ≡ size_of n es → edges_in_order n (0, 0) es ≡ false
not_allowed n es e = go (edges_in_order n (0, 0) es) e
  where
    go : (b : Bool) → None ≡ cond b (Some (length (list_bytes edge_bytes es))) None → b ≡ false
    go true d = cc
    go false d = refl

pub is_allowed : (n : ℕ) (es : List (ℕ × ℕ)) {k : ℕ} → Some k ≡ size_of n es → (edges_in_order n (0, 0) es ≡ true) × (k ≡ length (list_bytes edge_bytes es))
is_allowed n es {k} e = go (edges_in_order n (0, 0) es) e
  where
    go : (b : Bool) → Some k ≡ cond b (Some (length (list_bytes edge_bytes es))) None → (b ≡ true) × (k ≡ length (list_bytes edge_bytes es))
    go true d = (refl, cc)
    go false d = cc

module _ (buffer : List ℕ) (p : PlanTable) where
  pub not_written : can_write_plan buffer p ≡ false → (None ≡ written_plan buffer p) × (buffer ≡ with_plan buffer p)
  not_written e = (rw e, rw e)

  planned_edges : (plan_of p).edges ≡ edges_of p.ends p.m
  unfolding plan_of
  planned_edges = refl

  pub out_of_order : edges_in_order p.graph.n (0, 0) (edges_of p.ends p.m) ≡ false → can_write_plan buffer p ≡ false
  out_of_order e = rw (planned_edges, e, and-false (leb p.m max_edges)) (and-false (within min_vertices max_vertices p.graph.n))

  -- the parts of the record
  abbrev rest : List ℕ
  rest = number_bytes p.m ++ edges_bytes p.ends p.m

  abbrev whole : List ℕ
  whole = number_bytes p.graph.n ++ rest

  whole_bytes : plan_bytes (plan_of p) ≡ whole
  unfolding plan_of
  whole_bytes = rw (edges-count p.ends p.m 0)

  -- from here on b is the length of the edges, which the code has measured, and so the lengths of the two numbers
  module _ {b l₁ l₂ : ℕ} (f : b ≡ length (edges_bytes p.ends p.m)) (f₁ : l₁ ≡ length (number_bytes p.graph.n)) (f₂ : l₂ ≡ length (number_bytes p.m)) where
    whole_length : length whole ≡ l₁ + l₂ + b
    whole_length = omega (arith, length-append (number_bytes p.graph.n) rest, length-append (number_bytes p.m) (edges_bytes p.ends p.m))

    pub too_long : length buffer < l₁ + l₂ + b → can_write_plan buffer p ≡ false
    too_long h =
        let z : length buffer < 0 + length whole = omega (arith, whole_length) in
        let r : has_room buffer 0 (plan_bytes (plan_of p)) ≡ false = rw whole_bytes (lt-leb (0 + length whole) (length buffer) z) in
        rw (r, and-false (edges_in_order p.graph.n (0, 0) (plan_of p).edges), and-false (leb p.m max_edges)) (and-false (within min_vertices max_vertices p.graph.n))

    pub has_room_lem : l₁ + l₂ + b ≤ length buffer → 0 + length whole ≤ length buffer
    has_room_lem h = omega (arith, whole_length)

  module _ (r : 0 + length whole ≤ length buffer) {out : List ℕ} {at : ℕ} (s : (at ≡ 0 + length (number_bytes p.graph.n)) × (out ≡ overwritten buffer 0 (number_bytes p.graph.n))) where
    first : 0 + length (number_bytes p.graph.n) ≤ length buffer
    first = omega (arith, length-append (number_bytes p.graph.n) rest)

    rest-room : at + length rest ≤ length out
    rest-room = both_room buffer 0 (number_bytes p.graph.n) first rest s r

    second : at + length (number_bytes p.m) ≤ length out
    second = omega (arith, rest-room, length-append (number_bytes p.m) (edges_bytes p.ends p.m))

    module _ {out₂ : List ℕ} {from : ℕ} (t : (from ≡ at + length (number_bytes p.m)) × (out₂ ≡ overwritten out at (number_bytes p.m))) where
      pub edges_room : from + length (edges_bytes p.ends p.m) ≤ length out₂
      edges_room = both_room out at (number_bytes p.m) second (edges_bytes p.ends p.m) t rest-room

      pub written : min_vertices ≤ p.graph.n → p.graph.n ≤ max_vertices → p.m ≤ max_edges → edges_in_order p.graph.n (0, 0) (edges_of p.ends p.m) ≡ true → {last : List ℕ} {next : ℕ}
          → (next ≡ from + length (edges_bytes p.ends p.m)) × (last ≡ overwritten out₂ from (edges_bytes p.ends p.m))
          → (Some next ≡ written_plan buffer p) × (last ≡ with_plan buffer p)
      written a b c o {last} {next} l =
          let u = both_put buffer 0 (number_bytes p.graph.n) first rest s (both_put out at (number_bytes p.m) second (edges_bytes p.ends p.m) t l) in
          let n : next ≡ length whole = omega (arith, u.0) in
          let q : edges_in_order p.graph.n (0, 0) (plan_of p).edges ≡ true = rw planned_edges o in
          let can : can_write_plan buffer p ≡ true =
          rw (whole_bytes, true_within min_vertices max_vertices p.graph.n a b, le-leb p.m max_edges c, q, le-leb (0 + length whole) (length buffer) r) in
          (rw (can, whole_bytes) (ap (λ (k : ℕ). Some k) n), rw (can, whole_bytes) u.1)
