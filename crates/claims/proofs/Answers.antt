-- THE ANSWERS of every call are those that documents 01 and 02 list for it. Assumes nothing.
use Prim.Native.Nat.{ℕ, zero, suc, ◌+◌, ◌≤◌}
use mathlib.Core.List.{List, ◌∷◌}
use mathlib.Core.Bool.{Bool, true, false, cond, ◌&&◌}
use mathlib.Core.Path.{◌≡◌, refl, sym, subst}
use mathlib.Core.Logic.{inl, inr, ⊎_map}
use native.Mathlib.Omega.{arith}
use lib.Dec.{ltb, leb, eqb}
use lib.ListN.{length, drop, length-drop}
use Rattle.record.specs.Read.{Read, Read.Got, Read.Refused, Reader, Bytes, ◌needs⟨◌⟩◌, ended}
use Rattle.record.specs.Number.{number}
use Rattle.record.specs.declared.Answer.{Answer}
use Rattle.record.specs.declared.Answer.TheVariants.{Accepted, Grade, PlanFault, CertificateFault}
use Rattle.record.proofs.Laws.{ended-there}
use Rattle.record.proofs.Places.{Ends, Listed, number-listed, needs_listed, pair-listed, leads_listed, into-listed, many-listed, counted-listed, check-listed, ended-listed, wider_listed}
use Rattle.vertexset.specs.Set.{capacity, has}
use Rattle.graph.specs.Rows.{rows_graph}
use Rattle.connectivity.specs.Lists.{In, member}
use Rattle.connectivity.specs.Graph.{Graph}
use Rattle.connectivity.specs.Path.{Path}
use Rattle.connectivity.specs.Certificate.{Certificate, Certificate.separation, Certificate.tree, Certificate.ears, Certificate.build, grade}
use Rattle.connectivity.proofs.Lists.{member-in}
use Rattle.reading.specs.Plan.{Plan, Allowed, plan_bytes, edge, plan}
use Rattle.reading.specs.Code.{graph_of, table_of, plan_read, whole_plan}
use Rattle.reading.proofs.Plans.{plan-law}
use Rattle.certificates.specs.Tests.{nobody, Start, all_below}
use Rattle.certificates.specs.Records.{vertex, side_vertex, side, pair, vertex_list, path, ear, start_path, further_path, branch_four, start, body, certificate}
use Rattle.checker.specs.Check.{plan_graph, on_certificate, certificate_answer, on_plan, check_of, on_leading, grade_of}
use Rattle.paths.specs.Items.{limited}
use Rattle.build.specs.declared.Build.{Build}
use Rattle.build.specs.State.{BuildStart, start_on, start_in, build_start, build_path}
use Rattle.sessions.specs.declared.Session.{Session}
use Rattle.sessions.specs.declared.Opened.{Opened}
use Rattle.sessions.specs.Session.{no_session, opened_on, on_opening, opening, refused_step, on_start, start_step, path_count, on_path, is_due, path_step, back_step, close_step}
use Rattle.sessions.proofs.Calls.{back_either}
use Rattle.certifier.specs.declared.Made.{Made}
use Rattle.certifier.specs.Made.{length_by, length_from, made_from, grade_made, certificate_of}
use Rattle.claims.specs.Answers as listed
use Rattle.claims.specs.Answers.{OneOf, answers, in_plan, in_certificate, all_grades}
use Rattle.claims.specs.Demands.{Demand1Answers, RefusedElse}
use Rattle.certifier.proofs.Room.{made-room, made_none, by_room}
use Rattle.claims.proofs.Maker.{made-accepted}
use Rattle.claims.proofs.Demands.{plan-faults_first}
use Rattle.claims.proofs.Checking.{grade-certified}

-- a reader whose numbers are in a list; as a test, so that a number's being there is computed
abbrev By : {A : Type 0} → List ℕ → Reader A → Type 0
By ns R = Listed (λ r. member r ns ≡ true) R

in_list : {A : Type 0} {R : Reader A} (ns : List ℕ) → By ns R → Listed (λ r. In r ns) R
in_list ns h = wider_listed (λ r. member-in r ns) h

-- THE PLAN
edge_by : (n : ℕ) (before : ℕ × ℕ) → By in_plan (edge n before)
unfolding edge
edge_by n before = let h : By in_plan number = number-listed refl refl refl in needs_listed (needs_listed (pair-listed h (λ lower. h)) _ _ refl) _ _ refl

plan-by : By in_plan plan
unfolding plan
plan-by =
    let h : By in_plan number = number-listed refl refl refl in
    into-listed (pair-listed (needs_listed h _ _ refl) (λ n. counted-listed _ (edge_by n) (needs_listed h _ _ refl) _)) _

whole_by : {N : ℕ → Type 0} → ((r : ℕ) → In r in_plan → N r) → N 7 → Listed N (ended plan)
whole_by more seven = ended-listed (wider_listed more (in_list in_plan plan-by)) seven

-- THE ITEMS of a certificate, of a start and of a path: a number's own, and 9
module _ {N : ℕ → Type 0} (h : Listed N number) (nine : N 9) where
  vertex-by : (n : ℕ) → Listed N (vertex n)
  unfolding vertex
  vertex-by n = needs_listed h _ _ nine

  path-by : (n least : ℕ) → Listed N (path n least)
  unfolding path vertex_list
  path-by n least = into-listed (counted-listed _ (λ u. vertex-by n) (needs_listed h _ _ nine) _) _

  four-by : N 20 → (n : ℕ) → Listed N (branch_four n)
  unfolding branch_four
  four-by twenty n = pair-listed (vertex-by n) (λ p. pair-listed (above p) (λ q. pair-listed (above q) above))
    where
      above : (p : ℕ) → Listed N (vertex n needs⟨ 20 ⟩ leb (suc p))
      above p = needs_listed (vertex-by n) _ _ twenty

-- 24, 25, 26 of a path or pair
tests_by : {N : ℕ → Type 0} {A : Type 0} {R : Reader A} → Listed N R → N 24 → N 25 → N 26 → (along ends new : A → Bool)
    → Listed N (R needs⟨ 24 ⟩ along needs⟨ 25 ⟩ ends needs⟨ 26 ⟩ new)
tests_by h a b c along ends new = needs_listed (needs_listed (needs_listed h _ _ a) _ _ b) _ _ c

-- THE CERTIFICATE
number_of : By in_certificate number
number_of = number-listed refl refl refl

vertex-of : (n : ℕ) → By in_certificate (vertex n)
vertex-of n = vertex-by number_of refl n

tests_of : {A : Type 0} {R : Reader A} → By in_certificate R → (along ends new : A → Bool)
    → By in_certificate (R needs⟨ 24 ⟩ along needs⟨ 25 ⟩ ends needs⟨ 26 ⟩ new)
tests_of h along ends new = tests_by h refl refl refl along ends new

module _ (g : Graph) where
  side-by : (removed : ℕ → Bool) → By in_certificate (side g removed)
  unfolding side side_vertex
  side-by removed =
      let item : (least : ℕ) → By in_certificate (side_vertex g.n removed least) = λ least. needs_listed (needs_listed (vertex-of g.n) _ _ refl) _ _ refl in
      needs_listed (needs_listed (counted-listed _ item (needs_listed number_of _ _ refl) _) _ _ refl) _ _ refl

  pair-by : (named : ℕ → Bool) → By in_certificate (pair g.n g.adj named)
  unfolding pair
  pair-by named = tests_of (pair-listed (vertex-of g.n) (λ new. vertex-of g.n)) _ _ _

  path-of : (least : ℕ) → By in_certificate (path g.n least)
  path-of least = path-by number_of refl g.n least

  ear-by : (B : List ℕ) → By in_certificate (ear g B)
  unfolding ear
  ear-by B = tests_of (path-of 3) _ _ _

  start_path-by : (st : Start) → By in_certificate (start_path g st)
  unfolding start_path
  start_path-by st = tests_of (path-of 2) _ _ _

  further_by : (links : List Path) → By in_certificate (further_path g links)
  unfolding further_path
  further_by links = needs_listed (tests_of (path-of 2) _ _ _) _ _ refl

  body-by : (k : ℕ) → By in_certificate (body g k)
  unfolding start
  body-by zero = into-listed (side-by nobody) _
  body-by (suc zero) =
      into-listed (pair-listed (vertex-of g.n) (λ c. pair-listed (vertex-of g.n) (λ first. pair-listed (many-listed _ pair-by _ _) (λ pairs. side-by _)))) _
  body-by (suc (suc zero)) =
      into-listed (pair-listed (vertex-of g.n) (λ c. pair-listed (needs_listed (vertex-of g.n) _ _ refl) (λ d.
      pair-listed (counted-listed _ ear-by (needs_listed number_of _ _ refl) _) (λ all. pair-listed (check-listed 28 _ refl) (λ u. side-by _))))) _
  body-by (suc (suc (suc zero))) =
      into-listed (pair-listed (pair-listed (four-by number_of refl refl g.n) (λ b. many-listed _ start_path-by _ _)) (λ x.
      pair-listed (many-listed _ further_by _ _) (λ further. check-listed 28 _ refl))) _
  body-by (suc (suc (suc (suc k)))) = record { ends = λ s at i. (refl, i) }

  certificate-by : Listed (λ r. In r in_certificate) (ended (certificate g))
  unfolding certificate
  certificate-by = in_list in_certificate (ended-listed (leads_listed (needs_listed (needs_listed number_of _ _ refl) _ _ refl) body-by) refl)

-- THE SESSION'S start and path, beside any graph and any build; beyond the limit everything is refused 9
limited-by : {N : ℕ → Type 0} {A : Type 0} {R : Reader A} (n : ℕ) → N 9 → Listed N R → Listed N (limited n R)
limited-by {N} {A} {R} n nine h = record { ends = λ s at i. go (leb n capacity) s at i }
  where
    go : (b : Bool) (s : List ℕ) (at : ℕ) → at ≤ length s → Ends N s (cond b (R s at) (Refused 9 at))
    go true s at i = h.ends s at i
    go false s at i = (nine, i)

abbrev start_numbers : List ℕ
start_numbers = (listed.start_answers).certificate

start-by : (g : Graph) → Listed (λ r. In r start_numbers) (limited g.n (build_start g))
unfolding start_in start_on
start-by g =
    let h : By start_numbers number = number-listed refl refl refl in
    let item : (st : BuildStart) → By start_numbers (start_on g st) = λ st. tests_by (path-by h refl g.n 2) refl refl refl _ _ _ in
    let all : By start_numbers (build_start g) = pair-listed (four-by h refl refl g.n) (λ b. many-listed _ item _ _) in
    in_list start_numbers (limited-by g.n refl all)

abbrev path_numbers : List ℕ
path_numbers = (listed.path_answers).certificate

build_path-by : (g : Graph) (b : Build) → Listed (λ r. In r path_numbers) (limited g.n (build_path g b))
unfolding build_path
build_path-by g b =
    let h : By path_numbers number = number-listed refl refl refl in
    let all : By path_numbers (build_path g b) = needs_listed (tests_by (path-by h refl g.n 2) refl refl refl _ _ _) _ _ refl in
    in_list path_numbers (limited-by g.n refl all)

-- THE CALLS. A record is read from its beginning.
from_0 : {N : ℕ → Type 0} {A : Type 0} {R : Reader A} → Listed N R → (s : List ℕ) → Ends N s (R s 0)
from_0 h s = h.ends s 0 (let z : 0 ≤ length s = omega arith in z)

grade-listed : (x : Certificate) → In (grade x) all_grades
grade-listed (separation S) = inl refl
grade-listed (tree c f ps S) = inr (inl refl)
grade-listed (ears c d P es S) = inr (inr (inl refl))
grade-listed (build p q r s ps qs) = inr (inr (inr (inl refl)))

certificate-listed : (ns : List ℕ) (m c : ℕ) (p : Plan) (C : List ℕ) → length C ≤ c → OneOf (answers false all_grades ns in_certificate) m c (certificate_answer p C)
unfolding certificate_answer
certificate-listed ns m c p C i = go (ended (certificate (plan_graph p)) C 0) (from_0 (certificate-by (plan_graph p)) C)
  where
    go : (x : Read Certificate) → Ends (λ r. In r in_certificate) C x → OneOf (answers false all_grades ns in_certificate) m c (on_certificate x)
    go (Got x next) h = grade-listed x
    go (Refused r q) h = (h.0, let z : q ≤ c = omega arith in z)

checking : (P C : List ℕ) → OneOf listed.checking_answers (length P) (length C) (check_of P C)
unfolding check_of
checking P C = go (ended plan P 0) (from_0 (whole_by (λ r. inr) (inl refl)) P)
  where
    go : (x : Read Plan) → Ends (λ r. In r (7 ∷ in_plan)) P x → OneOf listed.checking_answers (length P) (length C) (on_plan x C)
    go (Got p next) h = certificate-listed (7 ∷ in_plan) (length P) (length C) p C (let z : length C ≤ length C = omega arith in z)
    go (Refused r q) h = h

behind : (s : List ℕ) → OneOf listed.program_answers (length s) (length s) (grade_of s).answer
unfolding grade_of
behind s = go (plan s 0) (from_0 (in_list in_plan plan-by) s)
  where
    go : (x : Read Plan) → Ends (λ r. In r in_plan) s x → OneOf listed.program_answers (length s) (length s) (on_leading x s).answer
    go (Got p next) h = certificate-listed in_plan (length s) (length s) p (drop next s) (omega (arith, length-drop next s))
    go (Refused r q) h = h

-- a grade that the maker answers is the checker's for what it made
grade-made : (p : Plan) → Allowed p → In (grade_made (graph_of p)) all_grades
grade-made p a =
    let P = plan_bytes p in
    let C = certificate_of (graph_of p) in
    subst (λ (x : Answer). OneOf listed.checking_answers (length P) (length C) x) (made-accepted p a) (checking P C)

measuring : (P : List ℕ) → Bytes P → OneOf listed.measuring_answers (length P) 0 (length_from P).answer
unfolding plan_read length_by table_of
measuring P bp = go (ended plan P 0) refl (from_0 (whole_by (λ r. inr) (inl refl)) P)
  where
    go : (x : Read Plan) → ended plan P 0 ≡ x → Ends (λ r. In r (7 ∷ in_plan)) P x
        → OneOf listed.measuring_answers (length P) 0 (length_by (plan_read x).answer (plan_read x).plan.graph).answer
    go (Refused r q) e h = h
    go (Got p next) e h = grade-made p (ended-there plan-law bp e).1

-- 30, or what is answered with room
making : (P : List ℕ) → Bytes P → (buffer : List ℕ) → OneOf listed.making_answers (length P) 0 (made_from P buffer).answer
making P bp buffer = by_room P buffer
    (λ h. subst (λ (m : Made). OneOf listed.making_answers (length P) 0 m.answer) (sym (made_none P buffer h).0) (inr (inl refl), omega arith))
    (λ h. subst (λ (m : Made). OneOf listed.making_answers (length P) 0 m.answer) (sym (made-room P buffer h).0) (more (length_from P).answer (measuring P bp)))
  where
    more : (a : Answer) → OneOf listed.measuring_answers (length P) 0 a → OneOf listed.making_answers (length P) 0 a
    more Accepted h = h
    more (Grade k) h = h
    more (PlanFault r q) h = (⊎_map (λ e. e) inr h.0, h.1)
    more (CertificateFault r q) h = h

reading : (P : List ℕ) → OneOf listed.reading_answers (length P) 0 (whole_plan P).answer
unfolding plan_read
reading P = go (ended plan P 0) (from_0 (whole_by (λ r. inr) (inl refl)) P)
  where
    go : (x : Read Plan) → Ends (λ r. In r (7 ∷ in_plan)) P x → OneOf listed.reading_answers (length P) 0 (plan_read x).answer
    go (Got p next) h = refl
    go (Refused r q) h = h

opens : (P : List ℕ) → OneOf listed.opening_answers (length P) 0 (opening P).answer
unfolding opening
opens P = go (ended plan P 0) (from_0 (whole_by (λ r h. inr (inr h)) (inl refl)) P)
  where
    go : (x : Read Plan) → Ends (λ r. In r (7 ∷ 29 ∷ in_plan)) P x → OneOf listed.opening_answers (length P) 0 (on_opening x).answer
    go (Refused r q) h = h
    go (Got p next) h = test (ltb (graph_of p).d (p.n + 2))
      where
        test : (b : Bool) → OneOf listed.opening_answers (length P) 0
            (cond {A = Opened} b (record { answer = PlanFault 29 0; session = no_session }) (record { answer = Accepted; session = opened_on (graph_of p) })).answer
        test true = (inr (inl refl), omega arith)
        test false = refl

starting : (s : Session) (part : List ℕ) → OneOf listed.start_answers 0 (length part) (start_step s part).answer
unfolding start_step
starting s part = let g = rows_graph s.graph.n s.graph.rows in go s.ready (limited g.n (build_start g) part 0) (from_0 (start-by g) part)
  where
    go : (b : Bool) (x : Read ((ℕ × (ℕ × (ℕ × ℕ))) × List Path)) → Ends (λ r. In r start_numbers) part x
        → OneOf listed.start_answers 0 (length part) (cond b (on_start s x) (refused_step s 31 0)).answer
    go false x h = (member-in 31 start_numbers refl, omega arith)
    go true (Got x next) h = refl
    go true (Refused r p) h = h

pathing : (s : Session) (part : List ℕ) → OneOf listed.path_answers 0 (length part) (path_step s part).answer
unfolding path_step
pathing s part =
    let g = rows_graph s.graph.n s.graph.rows in
    go (is_due s) (limited g.n (build_path g s.build) part 0) (from_0 (build_path-by g s.build) part)
  where
    go : (b : Bool) (x : Read Path) → Ends (λ r. In r path_numbers) part x → OneOf listed.path_answers 0 (length part) (cond b (on_path s x) (refused_step s 31 0)).answer
    go false x h = (member-in 31 path_numbers refl, omega arith)
    go true (Got x next) h = refl
    go true (Refused r p) h = h

taking_back : (s : Session) → OneOf listed.back_answers 0 0 (back_step s).answer
taking_back s = back_either s (λ x. OneOf listed.back_answers 0 0 x.answer) refl (inl refl, omega arith)

closes : (s : Session) → OneOf listed.closing_answers 0 0 (close_step s).answer
unfolding close_step
closes s = go (s.started && eqb s.taken (path_count s)) (all_below s.graph.n (has s.build.sets.branch.words))
  where
    go : (a b : Bool) → OneOf listed.closing_answers 0 0 (cond a (cond b (Grade 3) (CertificateFault 28 0)) (CertificateFault 31 0))
    go false b = (inr (inl refl), omega arith)
    go true false = (inl refl, omega arith)
    go true true = inl refl

pub demand1_answers : Demand1Answers
demand1_answers = record {
  reading = reading;
  checking = checking;
  checking_behind = behind;
  making = making;
  measuring = measuring;
  opening = opens;
  starting = starting;
  pathing = pathing;
  taking_back = taking_back;
  closing = closes;
}

-- DEMAND 2, the other way: what is not accepted beside an accepted plan is refused as a certificate
pub refused-else : RefusedElse
refused-else P C bp bc a n = go (check_of P C) refl (checking P C)
  where
    go : (x : Answer) → check_of P C ≡ x → OneOf listed.checking_answers (length P) (length C) x → (r : ℕ) × (q : ℕ) × (check_of P C ≡ CertificateFault r q)
    go Accepted e h = let z : ◌≡◌ {A = ℕ} 0 1 = cc in absurd (omega arith)
    go (Grade k) e h = absurd (n k (grade-certified P C k bp bc e))
    go (PlanFault r q) e h = let z : ◌≡◌ {A = ℕ} 0 1 = cc ((plan-faults_first P C r q).0 e) in absurd (omega arith)
    go (CertificateFault r q) e h = (r, q, e)
