-- A plan and the plan with each double written once get the same answers from checker, maker and opening. Assumes nothing.
use Prim.Native.Nat.{ℕ, ◌+◌}
use mathlib.Core.List.{List}
use mathlib.Core.Bool.{true, cond, or-true}
use mathlib.Core.Logic.{◌↔◌, inl, inr}
use mathlib.Core.Path.{◌≡◌, refl, sym, ap, subst, ◌∙◌}
use lib.Dec.{ltb}
use borrow.Author.Tests.{lt-ltb, eq-eqb}
use Rattle.record.specs.declared.Answer.TheVariants.{Accepted, PlanFault}
use Rattle.record.proofs.Laws.{each_same}
use Rattle.graph.specs.declared.GraphTable.{GraphTable}
use Rattle.connectivity.specs.Graph.{Graph, HasConnectivity, edge_count, from_edges}
use Rattle.connectivity.proofs.Edges.{EdgeBefore}
use Rattle.reading.specs.Plan.{Plan, Allowed, plan_bytes, once}
use Rattle.reading.specs.Code.{graph_of}
use Rattle.reading.proofs.Plans.{injective}
use Rattle.reading.proofs.Doubles.{once-in, once-has, once-allowed, once_after_lem, once-graph}
use Rattle.reading.proofs.Repeats.{rows_once}
use Rattle.sessions.specs.declared.Opened.{Opened}
use Rattle.sessions.specs.Session.{opening, no_session, opened_on}
use Rattle.checker.specs.Check.{plan_graph, certificate_answer, check_of}
use Rattle.certifier.specs.Made.{length_by, length_from, record_by, record_from, fitted, filled_by}
use Rattle.claims.specs.Certified.{HasFigure}
use Rattle.claims.specs.Doubles.{comes_after, SameOnce, DoublesAside}
use Rattle.claims.proofs.Checking.{record_read, checked}
use Rattle.claims.proofs.Replay.{opening-read}
use Rattle.claims.proofs.Maker.{length_on_lem, record_on}

-- a figure is that of the one plan whose record it is
figure_of : (q : Plan) → Allowed q → (k : ℕ) → HasFigure (plan_bytes q) k ↔ HasConnectivity (plan_graph q) k
figure_of q b k = (
  λ f. subst (λ (x : Plan). HasConnectivity (plan_graph x) k) (sym (injective q f.plan b f.is_plan.allowed f.is_plan.bytes)) f.figure,
  λ c. record { plan = q; is_plan = record { allowed = b; bytes = refl }; figure = c },
)

-- a session is opened on the graph alone
abbrev on_graph : GraphTable → Opened
on_graph g = cond (ltb g.d (g.n + 2)) (record { answer = PlanFault 29 0; session = no_session }) (record { answer = Accepted; session = opened_on g })

opened_of : (q : Plan) → Allowed q → opening (plan_bytes q) ≡ on_graph (graph_of q)
unfolding graph_of
opened_of q b = opening-read q b

-- in the words of document 01's order
true_after : (d e : ℕ × ℕ) → EdgeBefore d e → comes_after d e ≡ true
true_after d e (inl h) = rw (lt-ltb _ _ h)
true_after d e (inr h) = rw (eq-eqb _ _ h.0, lt-ltb _ _ h.1) (or-true (ltb d.0 e.0))

module _ (p : Plan) (a : Allowed p) where
  same_graph : plan_graph (once p) ≡ plan_graph p
  same_graph = once-graph p.n p.edges a.least a.each

  -- as values of the code: vertices, pairs and rows
  same_table : graph_of (once p) ≡ graph_of p
  unfolding graph_of
  same_table =
      ap (λ (rows : List ℕ). record { n = p.n; d = edge_count (from_edges p.n (once p).edges); rows = rows }) (rows_once p a)
      ∙ ap (λ (g : Graph). record { n = p.n; d = edge_count g; rows = (graph_of p).rows }) same_graph

  allowed : Allowed (once p)
  allowed = once-allowed p a

  figures : (k : ℕ) → HasFigure (plan_bytes p) k ↔ HasFigure (plan_bytes (once p)) k
  figures k =
      let f = figure_of p a k in
      let g = figure_of (once p) allowed k in
      (λ x. g.1 (rw same_graph (f.0 x)), λ x. f.1 (rw (← same_graph) (g.0 x)))

  answers : (C : List ℕ) → check_of (plan_bytes p) C ≡ check_of (plan_bytes (once p)) C
  unfolding certificate_answer
  answers C = checked p a C ∙ rw (← same_graph) (sym (checked (once p) allowed C))

  measures : length_from (plan_bytes p) ≡ length_from (plan_bytes (once p))
  measures = length_on_lem (plan_bytes p) (record_read p a) ∙ ap (length_by Accepted) (sym same_table) ∙ sym (length_on_lem (plan_bytes (once p)) (record_read (once p) allowed))

  writes : record_from (plan_bytes p) ≡ record_from (plan_bytes (once p))
  writes = record_on (plan_bytes p) (record_read p a) ∙ ap (record_by Accepted) (sym same_table) ∙ sym (record_on (plan_bytes (once p)) (record_read (once p) allowed))

  opens : opening (plan_bytes p) ≡ opening (plan_bytes (once p))
  opens = opened_of p a ∙ ap on_graph (sym same_table) ∙ sym (opened_of (once p) allowed)

  same_once : SameOnce p
  same_once = record {
    allowed = allowed;
    ascending = each_same (λ d e. e) true_after (0, 0) (once p).edges (once_after_lem p a);
    same_pairs = λ e. (once-has p.n p.edges a.least a.each e, once-in (0, 0) p.edges e);
    figures = figures;
    answers = answers;
    measures = measures;
    makes = λ buffer. ap (fitted buffer) measures;
    fills = λ buffer. ap (filled_by buffer) writes;
    opens = opens;
  }

pub doubles_aside : DoublesAside
doubles_aside p a = same_once p a
