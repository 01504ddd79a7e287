-- The edges in the array, one after the other: what the loops over them know. Assumes nothing.
use Prim.Native.Nat.{ℕ, zero, suc, ◌+◌, ◌*◌, ◌<◌, ◌≤◌, ◌-◌}
use mathlib.Core.List.{List, [], ◌∷◌, ◌++◌}
use mathlib.Core.Bool.{true, false, ◌&&◌, and-false}
use mathlib.Core.Logic.{◌≢◌}
use mathlib.Core.Path.{◌≡◌, refl, sym, ap, ◌∙◌}
use native.Mathlib.Omega.{arith}
use native.Mathlib.Decide.{ℕ_discrete}
use lib.ListN.{length, length-append}
use Rattle.record.specs.Number.{list_bytes, number_bytes}
use Rattle.record.specs.Write.{overwritten}
use Rattle.record.proofs.Write.{few_bytes, overwritten-none, overwritten-length, overwritten-more}
use Rattle.connectivity.proofs.Lists.{and-true}
use Rattle.graph.specs.Limits.{max_vertices}
use Rattle.reading.specs.Plan.{proper, follows, edge_bytes}
use Rattle.reading.proofs.EdgeTests.{proper-true}
use Rattle.writing.specs.Write.{edge_at, edges_from, edges_of, edges_bytes, EdgesLow, edges_in_order}

pub edge-bytes : (e : ℕ × ℕ) → length (edge_bytes e) ≡ length (number_bytes e.0) + length (number_bytes e.1)
edge-bytes e = length-append (number_bytes e.0) (number_bytes e.1)

list_bytes_lem : (e : ℕ × ℕ) (es : List (ℕ × ℕ)) → list_bytes edge_bytes (e ∷ es) ≡ edge_bytes e ++ list_bytes edge_bytes es
unfolding list_bytes
list_bytes_lem e es = refl

-- each of the edges is proper
proper-at : (ends : List ℕ) (n : ℕ) (before : ℕ × ℕ) (j k : ℕ) → edges_in_order n before (edges_from ends j k) ≡ true → (i : ℕ) → k ≤ i → i < k + j → proper n (edge_at ends i) ≡ true
unfolding edges_from edges_in_order
proper-at ends n before zero k o i l h = absurd (omega arith)
proper-at ends n before (suc j) k o i l h =
    let a = and-true (proper n (edge_at ends k)) _ o in
    let b = and-true (follows before (edge_at ends k)) _ a.1 in
    go a.0 (λ d. proper-at ends n (edge_at ends k) j (k + 1) b.1 i (omega arith) (omega arith)) (ℕ_discrete k i)
  where
    go : proper n (edge_at ends k) ≡ true → (k ≢ i → proper n (edge_at ends i) ≡ true) → Dec (k ≡ i) → proper n (edge_at ends i) ≡ true
    go here later (yes e) = rw (← e) here
    go here later (no d) = later d

module _ (ends : List ℕ) (m : ℕ) where
  -- the edges behind the first k, and their bytes
  abbrev pub left : ℕ → List (ℕ × ℕ)
  left k = edges_from ends (m - k) k

  abbrev pub left_bytes : ℕ → List ℕ
  left_bytes k = list_bytes edge_bytes (left k)

  pub left_all : left 0 ≡ edges_of ends m
  left_all = let z : m - 0 ≡ m = omega arith in rw z

  pub left_here : {k : ℕ} → k < m → left k ≡ edge_at ends k ∷ left (k + 1)
  unfolding edges_from
  left_here {k} h = let z : m - k ≡ suc (m - (k + 1)) = omega arith in rw z

  pub left_none : {k : ℕ} → m ≤ k → left k ≡ []
  unfolding edges_from
  left_none {k} h = let z : m - k ≡ 0 = omega arith in rw z

  here_bytes : {k : ℕ} → k < m → left_bytes k ≡ edge_bytes (edge_at ends k) ++ left_bytes (k + 1)
  here_bytes {k} h = ap (list_bytes edge_bytes) (left_here h) ∙ list_bytes_lem (edge_at ends k) (left (k + 1))

  none-bytes : {k : ℕ} → m ≤ k → left_bytes k ≡ []
  unfolding list_bytes
  none-bytes h = ap (list_bytes edge_bytes) (left_none h)

  -- the vertices of each edge have a form
  pub ends_low : {n : ℕ} → n ≤ max_vertices → edges_in_order n (0, 0) (edges_of ends m) ≡ true → EdgesLow ends m
  ends_low {n} h o k l = let p = proper-true n (edge_at ends k) (proper-at ends n (0, 0) m 0 o k (omega arith) (omega arith)) in (omega arith, omega arith)

  -- tested and counted so far, up to the edge before: what is left is in order where all are, and what was counted and what is left are all
  pub record Measured (n k : ℕ) (before : ℕ × ℕ) (bytes : ℕ) : Type 0 where
    pub short : bytes ≤ 4 * k
    pub order : edges_in_order n before (left k) ≡ edges_in_order n (0, 0) (edges_of ends m)
    pub size : bytes + length (left_bytes k) ≡ length (edges_bytes ends m)

  module _ {n : ℕ} where
    pub measure_start : Measured n 0 (0, 0) 0
    measure_start = record {
      short = omega arith;
      order = ap (edges_in_order n (0, 0)) left_all;
      size = omega (arith, ap length (ap (list_bytes edge_bytes) left_all));
    }

    module _ {k bytes : ℕ} {before : ℕ × ℕ} (c : Measured n k before bytes) where
      here_order : k < m → proper n (edge_at ends k) && (follows before (edge_at ends k) && edges_in_order n (edge_at ends k) (left (k + 1))) ≡ edges_in_order n (0, 0) (edges_of ends m)
      unfolding edges_in_order
      here_order h = sym (ap (edges_in_order n before) (left_here h)) ∙ c.order

      pub measure_here : k < m → proper n (edge_at ends k) ≡ true → follows before (edge_at ends k) ≡ true → {a b : ℕ} → a ≡ length (number_bytes (edge_at ends k).0) → b ≡ length (number_bytes (edge_at ends k).1)
          → Measured n (k + 1) (edge_at ends k) (bytes + (a + b))
      measure_here h p f d e = record {
        short = omega (arith, c.short, few_bytes (edge_at ends k).0, few_bytes (edge_at ends k).1);
        order = rw (p, f) at (here_order h);
        size = omega (arith, c.size, ap length (here_bytes h), length-append (edge_bytes (edge_at ends k)) (left_bytes (k + 1)), edge-bytes (edge_at ends k));
      }

      pub measure_improper : k < m → proper n (edge_at ends k) ≡ false → edges_in_order n (0, 0) (edges_of ends m) ≡ false
      measure_improper h p = sym (here_order h) ∙ rw p

      pub measure_behind : k < m → follows before (edge_at ends k) ≡ false → edges_in_order n (0, 0) (edges_of ends m) ≡ false
      measure_behind h f = sym (here_order h) ∙ rw f (and-false (proper n (edge_at ends k)))

      pub measure_end : m ≤ k → (edges_in_order n (0, 0) (edges_of ends m) ≡ true) × (bytes ≡ length (edges_bytes ends m))
      unfolding edges_in_order
      measure_end h = (sym c.order ∙ ap (edges_in_order n before) (left_none h), omega (arith, c.size, ap length (none-bytes h)))

  -- written so far: with what is left written from next on the buffer is what it is to be
  pub record Putting (buffer : List ℕ) (from k next : ℕ) (out : List ℕ) : Type 0 where
    pub long : length out ≡ length buffer
    pub place : next + length (left_bytes k) ≡ from + length (edges_bytes ends m)
    pub done : overwritten out next (left_bytes k) ≡ overwritten buffer from (edges_bytes ends m)

  module _ {buffer : List ℕ} {from : ℕ} where
    pub put_start : Putting buffer from 0 from buffer
    put_start = record { long = refl; place = ap (λ (l : List (ℕ × ℕ)). from + length (list_bytes edge_bytes l)) left_all; done = ap (λ (l : List (ℕ × ℕ)). overwritten buffer from (list_bytes edge_bytes l)) left_all }

    module _ {k next : ℕ} {out : List ℕ} (p : Putting buffer from k next out) where
      pub put_room : k < m → from + length (edges_bytes ends m) ≤ length buffer → next + length (edge_bytes (edge_at ends k)) ≤ length out
      put_room h r = omega (arith, p.place, p.long, ap length (here_bytes h), length-append (edge_bytes (edge_at ends k)) (left_bytes (k + 1)))

      pub put_here : k < m → from + length (edges_bytes ends m) ≤ length buffer
          → Putting buffer from (k + 1) (next + length (edge_bytes (edge_at ends k))) (overwritten out next (edge_bytes (edge_at ends k)))
      put_here h r = record {
        long = overwritten-length out next (edge_bytes (edge_at ends k)) (put_room h r) ∙ p.long;
        place = omega (arith, p.place, ap length (here_bytes h), length-append (edge_bytes (edge_at ends k)) (left_bytes (k + 1)));
        done = overwritten-more out next (edge_bytes (edge_at ends k)) (put_room h r) (left_bytes (k + 1)) ∙ ap (overwritten out next) (sym (here_bytes h)) ∙ p.done;
      }

      pub put_end : m ≤ k → (next ≡ from + length (edges_bytes ends m)) × (out ≡ overwritten buffer from (edges_bytes ends m))
      put_end h = (omega (arith, p.place, ap length (none-bytes h)), sym (overwritten-none out next) ∙ ap (overwritten out next) (sym (none-bytes h)) ∙ p.done)
