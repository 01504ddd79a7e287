-- What a call leaves of a session, from what was read. Assumes nothing.
use Prim.Native.Nat.{ℕ, ◌+◌, ◌-◌, ◌<◌, ◌≤◌}
use mathlib.Core.List.{List}
use mathlib.Core.Bool.{Bool, true, false, cond, ◌&&◌, and-false}
use mathlib.Core.Path.{◌≡◌, refl, sym, ap, ◌∙◌}
use mathlib.Core.Logic.{◌≢◌}
use native.Mathlib.Omega.{arith}
use lib.Dec.{ltb, leb}
use lib.ListN.{set, replicate}
use borrow.Author.Tests.{lt-ltb, le-ltb, le-leb, ltb-true, leb-true}
use Rattle.connectivity.proofs.Lists.{and-true}
use Rattle.std.specs.Prelude.{Ok, Err}
use Rattle.record.specs.Read.{Read, Read.Got, Read.Refused, ended}
use Rattle.vertexset.specs.Set.{empty_set}
use Rattle.record.specs.declared.Answer.{Answer}
use Rattle.record.specs.declared.Answer.TheVariants.{Accepted, PlanFault}
use Rattle.reading.specs.Plan.{Plan, plan}
use Rattle.reading.specs.Code.{graph_of, table_of, plan_read, whole_plan, plan_result}
use Rattle.reading.specs.declared.PlanRead.{PlanRead}
use Rattle.connectivity.specs.Path.{Path}
use Rattle.graph.specs.Rows.{rows_graph, bare_rows}
use Rattle.paths.specs.Items.{told, limited}
use Rattle.paths.proofs.Told.{told-err}
use Rattle.build.specs.declared.Build.{Build}
use Rattle.build.specs.declared.Taken.{Taken}
use Rattle.build.specs.declared.Traced.{Traced}
use Rattle.sessions.specs.declared.Session.{Session}
use Rattle.sessions.specs.declared.Opened.{Opened}
use Rattle.sessions.specs.declared.Stepped.{Stepped}
use Rattle.build.specs.declared.Trace.{Trace}
use Rattle.build.specs.State.{bare_build, bare_pointers, build_start, path_taken, trace_of, no_trace, taken_back}
use Rattle.build.specs.Code.{start_left, build_in, traced, on_path_read, further_read}
use Rattle.sessions.specs.Session.{no_session, opened_on, on_opening, opening, refused_step, unread_step, on_start, start_step, path_count, trace_room, on_path, due_step, is_due, path_step, last_trace, without_path, has_path, back_to, back_step}
use Rattle.build.proofs.Inner.{same_build}
use Rattle.build.proofs.Turns.{left_bad, left_got}
use Rattle.build.proofs.Starts.{hand, started_told}

-- opening
module _ (s : List ℕ) where
  pub open_refused : {d : Answer} {session : Session} → Err d ≡ plan_result (whole_plan s) → session ≡ no_session → ◌≡◌ {A = Opened} (record { answer = d; session = session }) (opening s)
  unfolding plan_read opening
  open_refused {d} {session} e f = go (ended plan s 0) e
    where
      go : (y : Read Plan) → Err d ≡ plan_result (plan_read y) → record { answer = d; session = session } ≡ on_opening y
      go (Got p next) e = cc
      go (Refused r p) e = let a : d ≡ PlanFault r p = cc in rw (a, f)

  module _ {x : PlanRead} (e : Ok x ≡ plan_result (whole_plan s)) where
    opened : (p : Plan) × ((x.plan.graph ≡ graph_of p) × (opening s ≡ cond (ltb (graph_of p).d ((graph_of p).n + 2)) (record { answer = PlanFault 29 0; session = no_session }) (record { answer = Accepted; session = opened_on (graph_of p) })))
    unfolding plan_read opening table_of graph_of
    opened = go (ended plan s 0) e
      where
        go : (y : Read Plan) → Ok x ≡ plan_result (plan_read y) → (p : Plan) × ((x.plan.graph ≡ graph_of p) × (on_opening y ≡ cond (ltb (graph_of p).d ((graph_of p).n + 2)) (record { answer = PlanFault 29 0; session = no_session }) (record { answer = Accepted; session = opened_on (graph_of p) })))
        go (Got p next) e = let k : x ≡ record { plan = table_of p; next = next } = cc in (p, (ap (λ (z : PlanRead). z.plan.graph) k, refl))
        go (Refused r p) e = cc

    pub open_few : {session : Session} → x.plan.graph.d < x.plan.graph.n + 2 → session ≡ no_session → ◌≡◌ {A = Opened} (record { answer = PlanFault 29 0; session = session }) (opening s)
    open_few h g =
        let t = opened in
        rw (t.1.1, ← t.1.0, lt-ltb x.plan.graph.d (x.plan.graph.n + 2) h, g)

    pub open_accepted : {b : Build} {t : Trace} → x.plan.graph.n + 2 ≤ x.plan.graph.d → b ≡ bare_build empty_set → t ≡ no_trace
        → ◌≡◌ {A = Opened} (record { answer = Accepted; session = record { graph = x.plan.graph; ready = true; started = false; taken = 0; build = b; traces = replicate trace_room t } }) (opening s)
    open_accepted h g k =
        let t = opened in
        rw (t.1.1, ← t.1.0, le-ltb x.plan.graph.d (x.plan.graph.n + 2) h, g, k)

-- a start
module _ (s : Session) (part : List ℕ) where
  pub start-closed : s.ready ≡ false → refused_step s 31 0 ≡ start_step s part
  unfolding start_step
  start-closed e = rw e

  module _ (e : s.ready ≡ true) where
    abbrev reading : Read ((ℕ × (ℕ × (ℕ × ℕ))) × List Path)
    reading = limited s.graph.n (build_start (rows_graph s.graph.n s.graph.rows)) part 0

    start-open : start_step s part ≡ on_start s reading
    unfolding start_step
    start-open = rw e

    pub start-refused : {d : Answer} → Err d ≡ told (hand s.graph.n s.graph.rows part 0 bare_pointers bare_rows) reading → unread_step s d ≡ start_step s part
    start-refused f =
        let t = told-err (hand s.graph.n s.graph.rows part 0 bare_pointers bare_rows) reading f in
        ap (unread_step s) t.3 ∙ sym (start-open ∙ ap (on_start s) t.2)

    pub start-accepted : {x : Taken} {pointers linked : List ℕ} → Ok x ≡ told (hand s.graph.n s.graph.rows part 0 bare_pointers bare_rows) reading
        → pointers ≡ (start_left bare_pointers bare_rows (rows_graph s.graph.n s.graph.rows) part 0).pointers → linked ≡ (start_left bare_pointers bare_rows (rows_graph s.graph.n s.graph.rows) part 0).linked
        → ◌≡◌ {A = Stepped} (record { session = record { graph = s.graph; ready = false; started = true; taken = 0; build = build_in x.sets pointers linked; traces = s.traces }; answer = Accepted; read = x.next }) (start_step s part)
    start-accepted f g h =
        let t = started_told s.graph.n s.graph.rows part 0 f g h in
        rw t.1.1 (sym (start-open ∙ ap (on_start s) t.1.0))

-- the session with a path more, whose build and trace are known
abbrev pub with_build : Session → Build → Trace → ℕ → Stepped
with_build s b z next =
    record { session = record { graph = s.graph; ready = s.ready; started = s.started; taken = s.taken + 1; build = b; traces = set s.traces s.taken z }; answer = Accepted; read = next }

-- a path
module _ (s : Session) (part : List ℕ) where
  pub path-not : is_due s ≡ false → refused_step s 31 0 ≡ path_step s part
  unfolding path_step
  path-not e = sym (ap (λ (b : Bool). cond b (due_step s part) (refused_step s 31 0)) e)

  pub path-due : is_due s ≡ true → due_step s part ≡ path_step s part
  unfolding path_step
  path-due e = sym (ap (λ (b : Bool). cond b (due_step s part) (refused_step s 31 0)) e)

  -- its trace has room
  pub due-room : is_due s ≡ true → s.taken < trace_room
  due-room e =
      let r = and-true s.started (ltb s.taken (path_count s) && ltb s.taken trace_room) e in
      ltb-true s.taken trace_room (and-true (ltb s.taken (path_count s)) (ltb s.taken trace_room) r.1).1

  abbrev further : Read Path
  further = further_read s.graph.n s.graph.rows s.build part 0

  -- what the tables hold after it, by what was read
  module _ {pointers linked : List ℕ} (f : pointers ≡ (on_path_read path_taken s.build further).pointers) (g : linked ≡ (on_path_read path_taken s.build further).linked) where
    pub due-refused : {d : Answer} → Err d ≡ told (traced s.build) further
        → ◌≡◌ {A = Stepped} (unread_step (record { graph = s.graph; ready = s.ready; started = s.started; taken = s.taken; build = build_in s.build.sets pointers linked; traces = s.traces }) d) (due_step s part)
    due-refused e =
        let t = left_bad path_taken s.build f g (traced s.build) e in
        rw (t.4, t.5, t.3) (sym (ap (on_path s) t.2))

    pub due-accepted : {x : Traced} → Ok x ≡ told (traced s.build) further → with_build s (build_in x.taken.sets pointers linked) x.trace x.taken.next ≡ due_step s part
    due-accepted {x} e =
        let t = left_got path_taken s.build f g (traced s.build) e in
        ap (λ (y : Traced). with_build s (build_in y.taken.sets pointers linked) y.trace y.taken.next) t.3
        ∙ ap (λ (b : Build). with_build s b (trace_of s.build t.0) t.1) (same_build {sets = (path_taken s.build t.0).sets} refl t.4 t.5)
        ∙ sym (ap (on_path s) t.2)

-- taking back
module _ (s : Session) where
  -- the session without its last path, its build and the blank trace known
  pub path-out : {b : Build} {z : Trace} → b ≡ taken_back s.build (last_trace s) → z ≡ no_trace
      → ◌≡◌ {A = Session} (record { graph = s.graph; ready = s.ready; started = s.started; taken = s.taken - 1; build = b; traces = set s.traces (s.taken - 1) z }) (without_path s)
  path-out e f = rw (e, f)

  abbrev on_back : Bool → Stepped
  on_back b = cond b (back_to (without_path s)) (refused_step s 31 0)

  -- what holds of both cases holds of the step
  pub back_either : (Q : Stepped → Type 0) → Q (back_to (without_path s)) → Q (refused_step s 31 0) → Q (back_step s)
  unfolding back_step
  back_either Q good bad = go (has_path s)
    where
      go : (b : Bool) → Q (on_back b)
      go true = good
      go false = bad

  pub back-not : has_path s ≡ false → refused_step s 31 0 ≡ back_step s
  unfolding back_step
  back-not e = sym (ap on_back e)

  pub back_none : s.taken ≡ 0 → refused_step s 31 0 ≡ back_step s
  back_none e = back-not (rw (e, and-false))

  pub back-there : {t : Session} → has_path s ≡ true → t ≡ without_path s → back_to t ≡ back_step s
  unfolding back_step
  back-there e f = ap back_to f ∙ sym (ap on_back e)

  -- which path it is
  pub back-room : has_path s ≡ true → (0 < s.taken) × (s.taken ≤ trace_room)
  back-room e =
      let r = and-true s.started (ltb 0 s.taken && leb s.taken trace_room) e in
      let q = and-true (ltb 0 s.taken) (leb s.taken trace_room) r.1 in
      (ltb-true 0 s.taken q.0, leb-true s.taken trace_room q.1)

  pub back-good : {t : Session} → s.started ≡ true → s.taken ≢ 0 → s.taken ≤ trace_room → t ≡ without_path s → back_to t ≡ back_step s
  back-good e n h = back-there (rw (e, lt-ltb 0 s.taken (omega (arith, n)), le-leb s.taken trace_room h))
