-- The rows of an allowed plan draw its graph.
use Prim.Native.Nat.{ℕ, ◌≤◌, ◌+◌, ◌*◌}
use mathlib.Core.List.{List, [], ◌∷◌}
use mathlib.Core.Path.{◌≡◌}
use native.Mathlib.Omega.{arith}
use lib.Dec.{lit<}
use lib.ListN.{length, length-set, length-replicate}
use Rattle.record.specs.Read.{folded}
use Rattle.vertexset.proofs.Laws.{zeros-at}
use Rattle.vertexset.specs.Set.{Words, with_bit, capacity}
use Rattle.connectivity.specs.Graph.{edge_count}
use Rattle.reading.specs.Plan.{Plan, Allowed}
use Rattle.graph.specs.Limits.{max_edges}
use Rattle.graph.specs.Rows.{row_words, joined, bare_rows, rows_graph}
use Rattle.reading.specs.Code.{graph_of}
use Rattle.reading.proofs.Adjacency.{graph_simple, graph_count, graph_few}
use Rattle.construction.proofs.Basics.{Drawn}
use Rattle.construction.proofs.Table.{words_bit}

pub joined-size : (es : List (ℕ × ℕ)) (rows : List ℕ) → length rows ≡ row_words → length (folded joined rows es) ≡ row_words
unfolding folded
joined-size [] rows e = e
joined-size (d ∷ es) rows e = joined-size es (joined rows d) (simp length-set e)

pub joined_words : (es : List (ℕ × ℕ)) (rows : List ℕ) → Words rows → Words (folded joined rows es)
unfolding folded
joined_words [] rows h = h
joined_words (d ∷ es) rows h = joined_words es (joined rows d) (words_bit (with_bit rows (d.0 * capacity + d.1)) (d.1 * capacity + d.0) (words_bit rows (d.0 * capacity + d.1) h))

module _ (p : Plan) (a : Allowed p) where
  pub plan-drawn : Drawn (graph_of p).rows (graph_of p).n
  unfolding graph_of
  plan-drawn = record {
    words = joined_words p.edges bare_rows (λ i. rw (zeros-at row_words i) (lit< tt));
    size = joined-size p.edges bare_rows (length-replicate {A = ℕ} row_words 0);
    low = omega (arith, a.most);
    simple = graph_simple p a;
  }

  pub plan-edges : edge_count (rows_graph (graph_of p).n (graph_of p).rows) ≤ max_edges
  plan-edges = omega (arith, graph_count p a, graph_few p a)
