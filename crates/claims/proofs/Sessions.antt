-- SESSIONS: what any list of calls gives from an opening, and that a closing that is accepted answers the plan's connectivity.
-- Assumes nothing.
use Prim.Native.Nat.{ℕ, ◌+◌, ◌-◌, ◌<◌, ◌≤◌}
use mathlib.Core.List.{List, [], ◌∷◌, ◌++◌}
use mathlib.Core.Bool.{Bool, true, false, cond, ◌&&◌}
use mathlib.Core.Path.{◌≡◌, refl, sym, ap, ◌∙◌, subst, fun_ext}
use native.Mathlib.Decide.{ℕ_discrete}
use native.Mathlib.Omega.{arith}
use lib.Dec.{ltb, eqb}
use lib.ListN.{length, get_or, set, length-append, length-set, length-replicate}
use lib.Seq.{get_or-set_same, get_or-set_other, ext_get_or}
use borrow.Author.Tests.{lt-ltb, ltb-true, ltb-false, eqb-true, le-leb}
use Rattle.record.specs.Read.{Read, Read.Got, Read.Refused, Reader, Bytes, ended}
use Rattle.record.specs.declared.Answer.TheVariants.{Accepted, Grade, PlanFault, CertificateFault}
use Rattle.record.proofs.Laws.{ended-there}
use Rattle.connectivity.specs.Graph.{Graph, Adj, HasConnectivity}
use Rattle.connectivity.specs.Path.{Path}
use Rattle.connectivity.specs.Build.{StartRules, Steps, taken, final, further_count}
use Rattle.connectivity.specs.Certificate.{Certificate.build}
use Rattle.connectivity.proofs.Steps.{final-append, steps-append}
use Rattle.connectivity.proofs.Soundness.{rules_connectivity}
use Rattle.reading.specs.Plan.{Plan, Allowed, plan}
use Rattle.reading.specs.Code.{graph_of}
use Rattle.graph.specs.declared.GraphTable.{GraphTable}
use Rattle.reading.proofs.Plans.{plan-law}
use Rattle.reading.proofs.Adjacency.{graph_listed}
use Rattle.reading.proofs.Doubles.{pairs_most}
use Rattle.certificates.specs.Tests.{all_below, is_branch}
use Rattle.certificates.specs.Records.{start as readStart, further_path}
use Rattle.certificates.proofs.Decide.{decide_all}
use Rattle.certificates.proofs.Paths.{further_path-law}
use Rattle.certificates.proofs.Items.{decide_branch, start-law}
use Rattle.graph.specs.Rows.{rows_graph}
use Rattle.paths.specs.Items.{limited}
use Rattle.sessions.specs.declared.Session.{Session}
use Rattle.sessions.specs.declared.Opened.{Opened}
use Rattle.sessions.specs.declared.Stepped.{Stepped}
use Rattle.build.specs.declared.Trace.{Trace}
use Rattle.build.specs.State.{build_start, build_path, path_taken, trace_of, no_trace, taken_back}
use Rattle.sessions.specs.Session.{no_session, opened_on, on_opening, opening, refused_step, on_start, start_step, trace_room, with_path, on_path, path_count, is_due, path_step, last_trace, without_path, back_to, back_step, close_step}
use Rattle.sessions.proofs.Calls.{back_either, back_none, back-good}
use Rattle.refinement.proofs.Shows.{Shows}
use Rattle.refinement.proofs.Start.{start-same, shows_start}
use Rattle.refinement.proofs.Reading.{shows_path, shows_read}
use Rattle.refinement.proofs.Clean.{Clean, clean_start, clean_read}
use Rattle.refinement.proofs.Back.{back_read}
use Rattle.checker.specs.Check.{plan_graph}
use Rattle.claims.specs.Certified.{HasFigure}
use Rattle.claims.specs.Session.{pair_count, due}
use Rattle.claims.specs.Calls.{Call, Call.start, Call.path, Call.back, Call.close, called, session_after, CallBytes}
use Rattle.claims.proofs.Checking.{plan-simple, plan-few}
use Rattle.vertexset.proofs.Laws.{repeated_at}
use Rattle.vertexset.specs.Set.{capacity}

-- EVERY SESSION VALUE: closing leaves it as it is, and so does a call that is refused, which reads nothing.
pub close_same : (s : Session) → (close_step s).session ≡ s
unfolding close_step
close_same s = refl

-- a step that is refused is the session as it was, whatever was to be read
untouched : {A : Type 0} (s : Session) (on : Read A → Stepped) → ((a : A) (next : ℕ) → (on (Got a next)).answer ≡ Accepted) → ((n at : ℕ) → on (Refused n at) ≡ refused_step s n at)
    → (b : Bool) (x : Read A) (r q : ℕ) → (cond b (on x) (refused_step s 31 0)).answer ≡ CertificateFault r q
    → ((cond b (on x) (refused_step s 31 0)).session ≡ s) × ((cond b (on x) (refused_step s 31 0)).read ≡ 0)
untouched s on got bad true (Got a next) r q e = let z : ◌≡◌ {A = ℕ} 0 1 = cc (got a next) in absurd (omega arith)
untouched s on got bad true (Refused n at) r q e = (ap (λ (x : Stepped). x.session) (bad n at), ap (λ (x : Stepped). x.read) (bad n at))
untouched s on got bad false x r q e = (refl, refl)

pub refused-same : (s : Session) (c : Call) (r q : ℕ) → (called s c).answer ≡ CertificateFault r q → ((called s c).session ≡ s) × ((called s c).read ≡ 0)
unfolding start_step path_step close_step
refused-same s (start part) =
    untouched s (on_start s) (λ x next. refl) (λ n at. refl) s.ready (limited s.graph.n (build_start (rows_graph s.graph.n s.graph.rows)) part 0)
refused-same s (path part) =
    untouched s (on_path s) (λ P next. refl) (λ n at. refl) (is_due s)
    (limited s.graph.n (build_path (rows_graph s.graph.n s.graph.rows) s.build) part 0)
refused-same s back =
    back_either s (λ x. (r q : ℕ) → x.answer ≡ CertificateFault r q → (x.session ≡ s) × (x.read ≡ 0)) (λ r q e. let z : ◌≡◌ {A = ℕ} 0 1 = cc in absurd (omega arith)) (λ r q e. (refl, refl))
refused-same s close = λ r q e. (refl, refl)

-- NEVER OPENED: every call is refused 31 at 0, and the session stays so.
pub never_accepts : (c : Call) → called no_session c ≡ refused_step no_session 31 0
unfolding start_step path_step back_step close_step
never_accepts (start part) = refl
never_accepts (path part) = refl
never_accepts back = refl
never_accepts close = refl

never_opened : (calls : List Call) → session_after no_session calls ≡ no_session
never_opened [] = refl
never_opened (c ∷ cs) = rw (never_accepts c) (never_opened cs)

-- OPENING: refused, with a session never opened; or accepted, on a plan that was read and has enough pairs
pub data Opens (x : Read Plan) : Type 0 where
  refused : (r q : ℕ) → on_opening x ≡ record { answer = PlanFault r q; session = no_session } → Opens x
  accepted : (p : Plan) (next : ℕ) → x ≡ Got p next → p.n + 2 ≤ pair_count p → on_opening x ≡ record { answer = Accepted; session = opened_on (graph_of p) } → Opens x

pub opens : (x : Read Plan) → Opens x
unfolding graph_of
opens (Refused r q) = refused r q refl
opens (Got p next) = test (ltb (pair_count p) (p.n + 2)) refl
  where
    test : (b : Bool) → ltb (pair_count p) (p.n + 2) ≡ b → Opens (Got p next)
    test true e = refused 29 0 (rw e)
    test false e = accepted p next refl (ltb-false _ _ e) (rw e)

-- a session that was started on a plan, its build showing these links and clean beside them, with no trace behind that of its last path
pub record Building (p : Plan) (s : Session) (links : List Path) : Type 0 where
  pub graph : s.graph ≡ graph_of p
  pub ready : s.ready ≡ false
  pub started : s.started ≡ true
  pub shows : Shows s.build links
  pub clean : Clean s.build links
  pub long : length s.traces ≡ trace_room
  pub blank : (i : ℕ) → s.taken ≤ i → get_or s.traces i no_trace ≡ no_trace

-- HOW IT CAME ABOUT: by a start, and by one path after the other, each taken on a session that came about so, with the links as they were before it. `Ok`
-- is what is known of the parts that the calls were handed.
pub data Begun (Ok : List ℕ → Type 0) (p : Plan) : Session → List Path → List (List Path) → Type 0 where
  first : (part : List ℕ) → Ok part → (x : (ℕ × (ℕ × (ℕ × ℕ))) × List Path) (next : ℕ) → readStart (plan_graph p) part 0 ≡ Got x next
      → Begun Ok p (on_start (opened_on (graph_of p)) (Got x next)).session x.1 []
  more : {s : Session} {links : List Path} {earlier : List (List Path)} → Begun Ok p s links earlier → s.taken < due p
      → (part : List ℕ) → Ok part → (P : Path) (next : ℕ) → further_path (plan_graph p) links part 0 ≡ Got P next
      → Begun Ok p (with_path s P) (taken links P) (links ∷ earlier)

-- its links came from a start and further paths that keep the rules, as many as were counted
record Ruled (p : Plan) (s : Session) (links : List Path) : Type 0 where
  pub a : ℕ
  pub b : ℕ
  pub c : ℕ
  pub d : ℕ
  pub six : List Path
  pub further : List Path
  pub rules : StartRules (plan_graph p) a b c d six
  pub steps : Steps (Adj (plan_graph p)) six further
  pub count : length further ≡ s.taken
  pub links_are : final six further ≡ links

-- EVERY SESSION THAT CALLS CAN GIVE from one opened on the plan
pub data Given (Ok : List ℕ → Type 0) (p : Plan) (s : Session) : Type 0 where
  waiting : s ≡ opened_on (graph_of p) → Given Ok p s
  begun : {links : List Path} {earlier : List (List Path)} → Begun Ok p s links earlier → Given Ok p s

-- a trace that is put where there was none, and taken out again
traces_again : (l : List Trace) (i : ℕ) (t : Trace) → i < length l → get_or l i no_trace ≡ no_trace → set (set l i t) i no_trace ≡ l
traces_again l i t h e = ext_get_or no_trace (set (set l i t) i no_trace) l (length-set (set l i t) i no_trace ∙ length-set l i t) (λ j k. at j)
  where
    at : (j : ℕ) → get_or (set (set l i t) i no_trace) j no_trace ≡ get_or l j no_trace
    at j = elim (ℕ_discrete j i) [
      | yes f ↦ rw f (get_or-set_same (set l i t) i no_trace no_trace (omega (arith, length-set l i t)) ∙ sym e)
      | no n ↦ get_or-set_other (set l i t) i j no_trace no_trace n ∙ get_or-set_other l i j t no_trace n
    ]

module _ (p : Plan) (al : Allowed p) where
  -- the session's rows stand for the plan's graph, which is within the limit
  rows_read : {A : Type 0} (R : Graph → Reader A) (part : List ℕ) → limited (graph_of p).n (R (rows_graph (graph_of p).n (graph_of p).rows)) part 0 ≡ R (plan_graph p) part 0
  unfolding graph_of
  rows_read R part = rw (le-leb p.n capacity (omega (arith, al.most))) (ap (λ (g : Graph). R g part 0) (graph_listed p al))

  -- a trace has room for every path that is due
  due-room : due p ≤ trace_room
  due-room = omega (arith, pairs_most p.n p.edges al.least al.each, al.few, al.least)

  room-due : (k : ℕ) → (ltb k (due p) && ltb k trace_room) ≡ ltb k (due p)
  room-due k = go (ltb k (due p)) refl
    where
      go : (b : Bool) → ltb k (due p) ≡ b → (b && ltb k trace_room) ≡ b
      go true e = lt-ltb k trace_room (omega (arith, ltb-true k (due p) e, due-room))
      go false e = refl

  -- A START: it is read as a certificate's start is, and the build then shows its paths
  pub start-step : (part : List ℕ) → start_step (opened_on (graph_of p)) part ≡ on_start (opened_on (graph_of p)) (readStart (plan_graph p) part 0)
  unfolding start_step readStart
  start-step part = ap (λ (x : Read ((ℕ × (ℕ × (ℕ × ℕ))) × List Path)). on_start (opened_on (graph_of p)) x) (rows_read build_start part ∙ start-same (plan_graph p) (omega (arith, al.most)) part 0)

  pub start-building : (part : List ℕ) (x : (ℕ × (ℕ × (ℕ × ℕ))) × List Path) (next : ℕ) → readStart (plan_graph p) part 0 ≡ Got x next
      → Building p (on_start (opened_on (graph_of p)) (Got x next)).session x.1
  unfolding readStart
  start-building part x next e = record {
    graph = refl;
    ready = refl;
    started = refl;
    shows = shows_start (plan_graph p) (omega (arith, al.most)) part 0 e;
    clean = clean_start (plan_graph p) (omega (arith, al.most)) part 0 e;
    long = length-replicate trace_room no_trace;
    blank = λ i h. repeated_at no_trace trace_room i;
  }

  -- 31: a path or taking back before the start, and a second start
  pub early_path : (part : List ℕ) → path_step (opened_on (graph_of p)) part ≡ refused_step (opened_on (graph_of p)) 31 0
  unfolding path_step
  early_path part = refl

  pub early_back : back_step (opened_on (graph_of p)) ≡ refused_step (opened_on (graph_of p)) 31 0
  unfolding back_step
  early_back = refl

  pub second_start : {s : Session} {links : List Path} → Building p s links → (part : List ℕ) → start_step s part ≡ refused_step s 31 0
  unfolding start_step
  second_start h part = rw h.ready

  -- A PATH: it is read beside the links, and the build then shows them with the path taken in
  module _ {s : Session} {links : List Path} (h : Building p s links) where
    pub path-step : (part : List ℕ) → path_step s part ≡ cond (ltb s.taken (due p)) (on_path s (further_path (plan_graph p) links part 0)) (refused_step s 31 0)
    unfolding path_step graph_of
    path-step part =
        ap (λ (b : Bool). cond (b && (ltb s.taken (path_count s) && ltb s.taken trace_room)) (on_path s (read_in s.graph)) (refused_step s 31 0)) h.started
        ∙ ap (λ (g : GraphTable). cond (ltb s.taken (further_count g.d g.n) && ltb s.taken trace_room) (on_path s (read_in g)) (refused_step s 31 0)) h.graph
        ∙ ap (λ (b : Bool). cond b (on_path s (read_in (graph_of p))) (refused_step s 31 0)) (room-due s.taken)
        ∙ ap (λ (x : Read Path). cond (ltb s.taken (due p)) (on_path s x) (refused_step s 31 0)) (rows_read (λ g. build_path g s.build) part ∙ shows_path (plan_graph p) h.shows part 0)
      where
        read_in : GraphTable → Read Path
        read_in g = limited g.n (build_path (rows_graph g.n g.rows) s.build) part 0

    pub path-building : (part : List ℕ) (P : Path) (next : ℕ) → further_path (plan_graph p) links part 0 ≡ Got P next → Building p (on_path s (Got P next)).session (taken links P)
    path-building part P next e = record {
      graph = h.graph;
      ready = h.ready;
      started = h.started;
      shows = shows_read (plan_graph p) links part 0 e (omega (arith, al.most)) h.shows;
      clean = clean_read (plan_graph p) links part 0 e (omega (arith, al.most)) h.shows h.clean;
      long = length-set s.traces s.taken (trace_of s.build P) ∙ h.long;
      blank = λ i k. get_or-set_other s.traces s.taken i (trace_of s.build P) no_trace (λ e. omega arith) ∙ h.blank i (omega arith);
    }

    -- TAKING BACK: a path that was due and taken in is gone, and the session is the one before it, all of it
    module _ (part : List ℕ) (P : Path) (next : ℕ) (e : further_path (plan_graph p) links part 0 ≡ Got P next) (few : s.taken < due p) where
      abbrev t : Trace
      t = trace_of s.build P

      room : s.taken < length s.traces
      room = omega (arith, h.long, due-room)

      out_again : without_path (with_path s P) ≡ s
      out_again =
          let k : s.taken + 1 - 1 ≡ s.taken = omega arith in
          let found : last_trace (with_path s P) ≡ t = ap (λ (i : ℕ). get_or (set s.traces s.taken t) i no_trace) k ∙ get_or-set_same s.traces s.taken t no_trace room in
          let build : taken_back (path_taken s.build P) (last_trace (with_path s P)) ≡ s.build =
          ap (taken_back (path_taken s.build P)) found ∙ back_read (plan_graph p) links part 0 e (omega (arith, al.most)) h.shows h.clean
          in
          let traces : set (set s.traces s.taken t) (s.taken + 1 - 1) no_trace ≡ s.traces =
          ap (λ (i : ℕ). set (set s.traces s.taken t) i no_trace) k ∙ traces_again s.traces s.taken t room (h.blank s.taken (omega arith))
          in
          λ i. record { graph = s.graph; ready = s.ready; started = s.started; taken = k i; build = build i; traces = traces i }

      pub back-again : back_step (with_path s P) ≡ back_to s
      back-again = sym (back-good (with_path s P) h.started (λ z. omega arith) (omega (arith, few, due-room)) (sym out_again))

    -- where no path is in there is none to take back
    pub none-back : s.taken ≡ 0 → back_step s ≡ refused_step s 31 0
    none-back e = sym (back_none s e)

    -- CLOSING
    pub closing-is : (close_step s).answer ≡ cond (eqb s.taken (due p)) (cond (all_below p.n (is_branch links)) (Grade 3) (CertificateFault 28 0)) (CertificateFault 31 0)
    unfolding close_step graph_of
    closing-is = rw (h.started, h.graph)
        (ap (λ (t : ℕ → Bool). cond (eqb s.taken (due p)) (cond (all_below p.n t) (Grade 3) (CertificateFault 28 0)) (CertificateFault 31 0)) (fun_ext h.shows.branch))

    pub closed : {k : ℕ} → (close_step s).answer ≡ Grade k → (s.taken ≡ due p) × (all_below p.n (is_branch links) ≡ true) × (3 ≡ k)
    closed {k} e = let r = graded (eqb s.taken (due p)) (all_below p.n (is_branch links)) (sym closing-is ∙ e) in (eqb-true _ _ r.0, r.1, r.2)
      where
        graded : (b c : Bool) → cond b (cond c (Grade 3) (CertificateFault 28 0)) (CertificateFault 31 0) ≡ Grade k → (b ≡ true) × (c ≡ true) × (3 ≡ k)
        graded true true f = (refl, refl, cc)
        graded true false f = let z : ◌≡◌ {A = ℕ} 0 1 = cc in absurd (omega arith)
        graded false c f = let z : ◌≡◌ {A = ℕ} 0 1 = cc in absurd (omega arith)

  -- WHAT A SESSION THAT CAME ABOUT SO IS
  pub begun-building : {Ok : List ℕ → Type 0} {s : Session} {links : List Path} {earlier : List (List Path)} → Begun Ok p s links earlier → Building p s links × (s.taken ≡ length earlier)
  begun-building (first part o x next e) = (start-building part x next e, refl)
  begun-building (more b few part o P next e) = let r = begun-building b in (path-building r.0 part P next e, omega (arith, r.1))

  begun-ruled : {s : Session} {links : List Path} {earlier : List (List Path)} → Begun Bytes p s links earlier → Ruled p s links
  begun-ruled (first part bytes x next e) = record {
    a = x.0.0;
    b = x.0.1.0;
    c = x.0.1.1.0;
    d = x.0.1.1.1;
    six = x.1;
    further = [];
    rules = ((start-law (plan_graph p) (plan-simple p al) (plan-few p al)).there bytes e).1;
    steps = tt;
    count = refl;
    links_are = refl;
  }
  begun-ruled (more {s} {links} b few part bytes P next e) = on (begun-ruled b)
    where
      on : Ruled p s links → Ruled p (with_path s P) (taken links P)
      on r = record {
        a = r.a;
        b = r.b;
        c = r.c;
        d = r.d;
        six = r.six;
        further = r.further ++ (P ∷ []);
        rules = r.rules;
        steps = steps-append (Adj (plan_graph p)) r.six r.further (P ∷ []) r.steps
            (rw r.links_are ((further_path-law (plan_graph p) (plan-simple p al) (plan-few p al) links).there bytes e).1, tt);
        count = length-append r.further (P ∷ []) ∙ ap (λ (k : ℕ). k + 1) r.count;
        links_are = final-append r.six r.further (P ∷ []) ∙ ap (λ (l : List Path). taken l P) r.links_are;
      }

  -- taking back goes to the session before the last path, which came about so too
  pub begun-back : {Ok : List ℕ → Type 0} {s : Session} {links before : List Path} {earlier : List (List Path)} → Begun Ok p s links (before ∷ earlier)
      → (u : Session) × Begun Ok p u before earlier × (back_step s ≡ back_to u)
  begun-back (more {s} b few part o P next e) = (s, b, back-again (begun-building b).0 part P next e few)

  pub begun_first : {Ok : List ℕ → Type 0} {s : Session} {links : List Path} → Begun Ok p s links [] → back_step s ≡ refused_step s 31 0
  begun_first b = let r = begun-building b in none-back r.0 r.1

  -- each call keeps what is given
  module _ {Ok : List ℕ → Type 0} where
    given_start : (s : Session) (part : List ℕ) → Ok part → Given Ok p s → Given Ok p (start_step s part).session
    given_start s part o (waiting e) = rw (e, start-step part) (on (readStart (plan_graph p) part 0) refl)
      where
        on : (x : Read ((ℕ × (ℕ × (ℕ × ℕ))) × List Path)) → readStart (plan_graph p) part 0 ≡ x → Given Ok p (on_start (opened_on (graph_of p)) x).session
        on (Refused r q) f = waiting refl
        on (Got x next) f = begun (first part o x next f)
    given_start s part o (begun b) = rw (second_start (begun-building b).0 part) (begun b)

    given_path : (s : Session) (part : List ℕ) → Ok part → Given Ok p s → Given Ok p (path_step s part).session
    given_path s part o (waiting e) = rw (e, early_path part) (waiting refl)
    given_path s part o (begun {links = links} b) = rw (path-step (begun-building b).0 part) (test (ltb s.taken (due p)) refl (further_path (plan_graph p) links part 0) refl)
      where
        test : (t : Bool) → ltb s.taken (due p) ≡ t → (x : Read Path) → further_path (plan_graph p) links part 0 ≡ x → Given Ok p (cond t (on_path s x) (refused_step s 31 0)).session
        test false f x g = begun b
        test true f (Refused r q) g = begun b
        test true f (Got P next) g = begun (more b (ltb-true s.taken (due p) f) part o P next g)

    given_back : (s : Session) → Given Ok p s → Given Ok p (back_step s).session
    given_back s (waiting e) = rw (e, early_back) (waiting refl)
    given_back s (begun {earlier = []} b) = rw (begun_first b) (begun b)
    given_back s (begun {earlier = before ∷ earlier} b) = let r = begun-back b in rw r.2 (begun r.1)

  given : (calls : List Call) → CallBytes calls → (s : Session) → Given Bytes p s → Given Bytes p (session_after s calls)
  given [] bytes s g = g
  given (start part ∷ cs) bytes s g = given cs bytes.1 (start_step s part).session (given_start s part bytes.0 g)
  given (path part ∷ cs) bytes s g = given cs bytes.1 (path_step s part).session (given_path s part bytes.0 g)
  given (back ∷ cs) bytes s g = given cs bytes (back_step s).session (given_back s g)
  given (close ∷ cs) bytes s g = given cs bytes (close_step s).session (rw (close_same s) g)

  -- a closing that is accepted answers the plan's connectivity
  given_close : p.n + 2 ≤ pair_count p → (s : Session) → Given Bytes p s → (k : ℕ) → (close_step s).answer ≡ Grade k → HasConnectivity (plan_graph p) k
  unfolding close_step
  given_close enough s (waiting e) k f = let z : ◌≡◌ {A = ℕ} 0 1 = cc (rw e at f) in absurd (omega arith)
  given_close enough s (begun {links = links} b) k f =
      let r = closed (begun-building b).0 f in
      let u = begun-ruled b in
      subst (λ (j : ℕ). HasConnectivity (plan_graph p) j) r.2 (rules_connectivity (plan_graph p) (plan-simple p al) (build u.a u.b u.c u.d u.six u.further)
      (record {
        first = u.rules;
        enough = enough;
        count = omega (arith, u.count, r.0);
        steps = u.steps;
        all-branch = (decide_all (decide_branch (final u.six u.further)) p.n).holds (rw u.links_are r.1);
      }))

-- CLOSING: take any opening and, from the session it gives, any list of calls; a closing that is accepted then answers the connectivity
-- of the plan that the session was opened on.
pub closing-sound : (P : List ℕ) → Bytes P → (calls : List Call) → CallBytes calls → (k : ℕ) → (close_step (session_after (opening P).session calls)).answer ≡ Grade k
    → HasFigure P k
unfolding opening
closing-sound P bp calls bytes k e = on (opens (ended plan P 0))
  where
    never : (close_step (session_after no_session calls)).answer ≡ CertificateFault 31 0
    never = rw (never_opened calls, never_accepts close)

    on : Opens (ended plan P 0) → HasFigure P k
    on (refused r q f) =
        let z : ◌≡◌ {A = ℕ} 0 1 = cc (ap (λ (x : Opened). (close_step (session_after x.session calls)).answer) f, never) in
        absurd (omega arith)
    on (accepted p next g enough f) =
        let r = ended-there plan-law bp g in
        let s : (on_opening (ended plan P 0)).session ≡ opened_on (graph_of p) = ap (λ (x : Opened). x.session) f in
        record { plan = p; is_plan = record { allowed = r.1; bytes = r.0 }; figure = given_close p r.1 enough _ (given p r.1 calls bytes _ (waiting s)) k e }
