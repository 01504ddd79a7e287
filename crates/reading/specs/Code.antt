-- What the functions of this crate give.
use Rattle.std.specs.Prelude.{ℕ, ◌+◌, ◌-◌, ◌*◌, List, ◌++◌, cond, length, replicate, set, Result, Ok, Err}
use Rattle.record.specs.Read.{Read, Read.Got, Read.Refused, Reader, within, ◌needs⟨◌⟩◌, or_kept, led, ended, folded}
use Rattle.record.specs.Number.{number}
use Rattle.record.specs.Loop.{Loop}
use Rattle.record.specs.declared.Answer.{Answer}
use Rattle.record.specs.declared.Answer.TheVariants.{Accepted, Grade, PlanFault, CertificateFault}
use Rattle.graph.specs.Limits.{min_vertices, max_vertices, max_edges}
use Rattle.graph.specs.Rows.{no_graph, bare_rows, joined}
use Rattle.graph.specs.declared.GraphTable.{GraphTable}
use Rattle.connectivity.specs.Graph.{is_pair, from_edges, edge_count}
use Rattle.connectivity.specs.TopologicalGraph.{ends_of}
use Rattle.reading.specs.Plan.{Plan, edge, plan}
use Rattle.reading.specs.declared.PlanHead.{PlanHead}
use Rattle.reading.specs.declared.PlanTable.{PlanTable}
use Rattle.reading.specs.declared.PlanRead.{PlanRead}

-- the graph of a plan: its vertices, how many pairs of them are adjacent, and its rows
unfoldable pub graph_of : Plan → GraphTable
graph_of p = record { n = p.n; d = edge_count (from_edges p.n p.edges); rows = folded joined bare_rows p.edges }

-- an array for the two vertices of each edge
abbrev pub end_count : ℕ
end_count = 2 * max_edges

-- no plan record is longer: two numbers of two bytes at most, and a byte for each vertex of an edge
abbrev pub plan_room : ℕ
plan_room = 4 + end_count

abbrev pub no_ends : List ℕ
no_ends = replicate end_count 0

-- the edges in the order of the record, the lower and the higher vertex of each, and zeros behind them
abbrev pub ends_array : List (ℕ × ℕ) → List ℕ
ends_array es = ends_of es ++ replicate (end_count - length (ends_of es)) 0

-- a plan by value: its graph, how many edges its record has, and those
unfoldable pub table_of : Plan → PlanTable
table_of p = record { graph = graph_of p; m = length p.edges; ends = ends_array p.edges }

-- what stands beside a refusal
abbrev pub no_plan : PlanTable
no_plan = record { graph = no_graph; m = 0; ends = no_ends }

-- what reading a plan told: the plan and the place after it, or its fault beside no plan
pub record PlanTold : Type 0 where
  pub answer : Answer
  pub plan : PlanTable
  pub next : ℕ

-- a refused plan: no graph, and nothing read
abbrev pub refused_plan : ℕ → ℕ → PlanTold
refused_plan r p = record { answer = PlanFault r p; plan = no_plan; next = 0 }

-- the papers' number and place for what was read: the plan and the place after it, or the plan's fault
unfoldable pub plan_read : Read Plan → PlanTold
plan_read (Got p next) = record { answer = Accepted; plan = table_of p; next = next }
plan_read (Refused r p) = refused_plan r p

-- a whole plan record: a byte left over is 7
abbrev pub whole_plan : List ℕ → PlanTold
whole_plan s = plan_read (ended plan s 0)

-- a plan record up to its last edge, whatever follows
abbrev pub leading_plan : List ℕ → PlanTold
leading_plan s = plan_read (plan s 0)

-- where the answer accepts, the value; each other answer is the error
abbrev pub value_or : {A : Type 0} → Answer → A → Result A Answer
value_or Accepted v = Ok v
value_or (Grade k) v = Err (Grade k)
value_or (PlanFault r p) v = Err (PlanFault r p)
value_or (CertificateFault r p) v = Err (CertificateFault r p)

-- the plan with the place after it, or the plan's fault
abbrev pub plan_result : PlanTold → Result PlanRead Answer
plan_result t = value_or t.answer (record { plan = t.plan; next = t.next })

-- the same without the arrays
abbrev pub head_of : PlanTold → Result PlanHead Answer
head_of t = value_or t.answer (record { n = t.plan.graph.n; m = t.plan.m; d = t.plan.graph.d; next = t.next })

-- an edge is read beside the edge before it, and joined in the rows
abbrev pub edge_after : ℕ → (ℕ × ℕ) × List ℕ → Reader (ℕ × ℕ)
edge_after n st = edge n st.0

abbrev pub edge_joined : (ℕ × ℕ) × List ℕ → ℕ × ℕ → (ℕ × ℕ) × List ℕ
edge_joined st e = (e, joined st.1 e)

-- the rows with the edges joined that stand before a fault, or all m of them
unfoldable pub edges_in : ℕ → ℕ → List ℕ → List ℕ → ℕ → List ℕ
edges_in n m rows s at = (led (edge_after n) edge_joined m ((0, 0), rows) s at).1

-- what reading a plan leaves of the rows that it is lent; where n or m is refused, the rows as they were
unfoldable pub rows_left : List ℕ → List ℕ → List ℕ
rows_left rows s =
    or_kept ((number needs⟨ 3 ⟩ within min_vertices max_vertices) s 0) (λ n mid.
    or_kept ((number needs⟨ 4 ⟩ within 0 max_edges) s mid) (λ m at. edges_in n m rows s at) rows) rows

-- a number laid at the next place of the array
abbrev pub number_laid : ℕ × List ℕ → ℕ → ℕ × List ℕ
number_laid st v = (st.0 + 1, set st.1 st.0 v)

-- the array with the next k numbers of the record laid from place 0 on, or those before one that can't be read
unfoldable pub numbers_in : ℕ → List ℕ → List ℕ → ℕ → List ℕ
numbers_in k ends s at = (led (λ st. number) number_laid k (0, ends) s at).1

-- the array with the numbers of the first m edges, which stand behind the record's two counts
unfoldable pub ends_read : List ℕ → ℕ → List ℕ → List ℕ
ends_read ends m s = or_kept (number s 0) (λ n mid. or_kept (number s mid) (λ k at. numbers_in (2 * m) ends s at) ends) ends

-- a plan with these arrays
abbrev pub by_value : PlanHead → List ℕ → List ℕ → PlanRead
by_value h rows ends = record { plan = record { graph = record { n = h.n; d = h.d; rows = rows }; m = h.m; ends = ends }; next = h.next }

-- the edge and the place after it, or the papers' number and place
unfoldable pub edge_read : Read (ℕ × ℕ) → Result ((ℕ × ℕ) × ℕ) Answer
edge_read (Got e next) = Ok (e, next)
edge_read (Refused r p) = Err (PlanFault r p)

-- an edge as one number, in the same order where its higher vertex is below 65,536
abbrev pub key_of : ℕ × ℕ → ℕ
key_of e = e.0 * 65536 + e.1

-- an edge counts where it differs from the one before it
abbrev pub counted_pair : ℕ × ℕ → ℕ → ℕ × ℕ → ℕ
counted_pair before d e = cond (is_pair before e.0 e.1) d (d + 1)

-- the loop over the edges of a plan of n vertices and m edges; it keeps the edge before and the count
abbrev pub edge_loop : ℕ → ℕ → Loop (ℕ × ℕ) (ℕ × ℕ) ((ℕ × ℕ) × ℕ) (Result PlanHead Answer)
edge_loop n m = record {
  item = edge n;
  after = λ before e. e;
  step = λ st e. (e, counted_pair st.0 st.1 e);
  ok = λ st next. Ok (record { n = n; m = m; d = st.1; next = next });
  bad = λ r p. Err (PlanFault r p);
}
