-- The building session: opening, start, path, taking back, closing.
use Rattle.std.specs.Prelude.{ℕ, ◌+◌, ◌-◌, List, Bool, true, false, cond, ◌&&◌, ltb, leb, eqb, drop, get_or, set, replicate}
use Rattle.record.specs.Read.{Read, Read.Got, Read.Refused, ended}
use Rattle.record.specs.declared.Answer.{Answer}
use Rattle.record.specs.declared.Answer.TheVariants.{Accepted, Grade, PlanFault, CertificateFault}
use Rattle.vertexset.specs.Set.{has, empty_set}
use Rattle.reading.specs.Plan.{Plan, plan}
use Rattle.reading.specs.Code.{graph_of}
use Rattle.graph.specs.Limits.{min_vertices, max_edges}
use Rattle.graph.specs.Rows.{no_graph, rows_graph}
use Rattle.graph.specs.declared.GraphTable.{GraphTable}
use Rattle.connectivity.specs.Path.{Path}
use Rattle.connectivity.specs.Build.{further_count}
use Rattle.certificates.specs.Tests.{all_below}
use Rattle.paths.specs.Items.{limited}
use Rattle.sessions.specs.declared.Session.{Session}
use Rattle.sessions.specs.declared.Opened.{Opened}
use Rattle.sessions.specs.declared.Stepped.{Stepped}
use Rattle.build.specs.declared.Trace.{Trace}
use Rattle.build.specs.State.{bare_build, build_start, started_build, build_path, path_taken, trace_of, no_trace, taken_back}

-- how many traces a session has room for: no more paths can come after a start
abbrev pub trace_room : ℕ
trace_room = further_count max_edges min_vertices

abbrev pub no_traces : List Trace
no_traces = replicate trace_room no_trace

-- a session never opened: every call is refused 31
abbrev pub no_session : Session
no_session = record { graph = no_graph; ready = false; started = false; taken = 0; build = bare_build empty_set; traces = no_traces }

abbrev pub opened_on : GraphTable → Session
opened_on g = record { graph = g; ready = true; started = false; taken = 0; build = bare_build empty_set; traces = no_traces }

-- opening takes a whole plan record; 29 after all plan faults
abbrev pub on_opening : Read Plan → Opened
on_opening (Got p next) =
    cond (ltb (graph_of p).d (p.n + 2)) (record { answer = PlanFault 29 0; session = no_session }) (record { answer = Accepted; session = opened_on (graph_of p) })
on_opening (Refused r q) = record { answer = PlanFault r q; session = no_session }

unfoldable pub opening : List ℕ → Opened
opening s = on_opening (ended plan s 0)

-- refused: the session as it was, and nothing read
abbrev pub refused_step : Session → ℕ → ℕ → Stepped
refused_step s r p = record { session = s; answer = CertificateFault r p; read = 0 }

-- the same with the answer of a reader
abbrev pub unread_step : Session → Answer → Stepped
unread_step s a = record { session = s; answer = a; read = 0 }

-- a start: number 31 before reading
abbrev pub on_start : Session → Read ((ℕ × (ℕ × (ℕ × ℕ))) × List Path) → Stepped
on_start s (Got x next) =
    record { session = record { graph = s.graph; ready = false; started = true; taken = 0; build = started_build x; traces = s.traces }; answer = Accepted; read = next }
on_start s (Refused r p) = refused_step s r p

unfoldable pub start_step : Session → List ℕ → Stepped
start_step s part =
    cond s.ready (on_start s (limited s.graph.n (build_start (rows_graph s.graph.n s.graph.rows)) part 0)) (refused_step s 31 0)

-- how many paths come after the start
abbrev pub path_count : Session → ℕ
path_count s = further_count s.graph.d s.graph.n

-- the session with a path more, which leaves its trace behind those of the paths before it
abbrev pub with_path : Session → Path → Session
with_path s P = record {
  graph = s.graph;
  ready = s.ready;
  started = s.started;
  taken = s.taken + 1;
  build = path_taken s.build P;
  traces = set s.traces s.taken (trace_of s.build P);
}

-- a path: number 31 before reading
abbrev pub on_path : Session → Read Path → Stepped
on_path s (Got P next) = record { session = with_path s P; answer = Accepted; read = next }
on_path s (Refused r p) = refused_step s r p

abbrev pub due_step : Session → List ℕ → Stepped
due_step s part = on_path s (limited s.graph.n (build_path (rows_graph s.graph.n s.graph.rows) s.build) part 0)

-- a path is due, and its trace has room (in every session that calls give it has)
abbrev pub is_due : Session → Bool
is_due s = s.started && (ltb s.taken (path_count s) && ltb s.taken trace_room)

unfoldable pub path_step : Session → List ℕ → Stepped
path_step s part = cond (is_due s) (due_step s part) (refused_step s 31 0)

-- the trace of the path that was accepted last
abbrev pub last_trace : Session → Trace
last_trace s = get_or s.traces (s.taken - 1) no_trace

-- the session without that path, and without its trace
abbrev pub without_path : Session → Session
without_path s = record {
  graph = s.graph;
  ready = s.ready;
  started = s.started;
  taken = s.taken - 1;
  build = taken_back s.build (last_trace s);
  traces = set s.traces (s.taken - 1) no_trace;
}

-- a path is there to take back (that it is within the room only matters for values that no calls gave)
abbrev pub has_path : Session → Bool
has_path s = s.started && (ltb 0 s.taken && leb s.taken trace_room)

-- taking back: 31 where there is none; nothing is read
abbrev pub back_to : Session → Stepped
back_to s = record { session = s; answer = Accepted; read = 0 }

unfoldable pub back_step : Session → Stepped
back_step s = cond (has_path s) (back_to (without_path s)) (refused_step s 31 0)

-- closing: 31, then 28 where a vertex is no branch vertex; the session stays as it is
abbrev pub closing : Session → Answer
closing s =
    cond (s.started && eqb s.taken (path_count s))
    (cond (all_below s.graph.n (has s.build.sets.branch.words)) (Grade 3) (CertificateFault 28 0)) (CertificateFault 31 0)

unfoldable pub close_step : Session → Stepped
close_step s = record { session = s; answer = closing s; read = 0 }

-- the part of the caller's record that was not read
abbrev pub start_rest : Session → List ℕ → List ℕ
start_rest s part = drop (start_step s part).read part

abbrev pub path_rest : Session → List ℕ → List ℕ
path_rest s part = drop (path_step s part).read part
