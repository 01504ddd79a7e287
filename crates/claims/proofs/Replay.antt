-- KIND 3 BY CALLS: a certificate of kind 3 is accepted exactly when the session's calls accept it and no byte is left. Assumes nothing.
use Prim.Native.Nat.{ℕ, zero, suc, ◌+◌, ◌≤◌}
use mathlib.Core.List.{List, [], ◌∷◌}
use mathlib.Core.Bool.{true}
use mathlib.Core.Path.{◌≡◌, refl, sym, ap, ◌∙◌}
use mathlib.Core.Logic.{◌↔◌}
use native.Mathlib.Omega.{arith}
use lib.ListN.{length, drop, length-drop}
use lib.Seq.{drop-drop}
use borrow.Author.Tests.{lt-ltb, le-ltb, eq-eqb}
use Rattle.record.specs.Read.{Read, Read.Got, Read.Refused, Reader, Bytes, ended}
use Rattle.record.specs.Number.{number}
use Rattle.record.specs.declared.Answer.TheVariants.{Accepted, Grade, CertificateFault}
use Rattle.record.proofs.Laws.{carry}
use Rattle.record.proofs.Parts.{Calls, Calls.no_call, Calls.call}
use Rattle.connectivity.specs.Path.{Path}
use Rattle.connectivity.specs.Build.{taken, final}
use Rattle.connectivity.specs.Certificate.{Certificate, Certificate.separation, Certificate.tree, Certificate.ears, Certificate.build, grade}
use Rattle.reading.specs.Plan.{Plan, Allowed, plan_bytes}
use Rattle.reading.specs.Code.{graph_of}
use Rattle.certificates.specs.Tests.{all_below, is_branch}
use Rattle.certificates.specs.Records.{start, further_path, certificate}
use Rattle.certificates.proofs.BuildCalls.{accepted_calls, calls_accepted}
use Rattle.sessions.specs.declared.Session.{Session}
use Rattle.sessions.specs.declared.Opened.{Opened}
use Rattle.sessions.specs.declared.Stepped.{Stepped}
use Rattle.sessions.specs.Session.{opened_on, on_opening, opening, on_start, start_step, on_path, path_step}
use Rattle.checker.specs.Check.{plan_graph, on_certificate, check_of, certificate_answer}
use Rattle.claims.specs.Session.{pair_count, due}
use Rattle.claims.specs.Calls.{Finishes, session_on, Replayed}
use Rattle.claims.proofs.Checking.{plan-simple, plan-few, on_certificate_lem, record_read, checked}
use Rattle.claims.proofs.Sessions.{Opens, Opens.refused, Opens.accepted, opens, Building, start-step, start-building, path-step, path-building, closing-is, closed}

-- what holds of no call, and of a call where it holds of those that follow, holds of them all
calls_by : {S A : Type 0} {item : S → Reader A} {after : S → A → S} (F : S → List ℕ → List A → ℕ → Type 0)
    → ((st : S) (part : List ℕ) → F st part [] 0)
    → ((st : S) (part : List ℕ) (a : A) (l : List A) (k m : ℕ) → item st part 0 ≡ Got a k → F (after st a) (drop k part) l m → F st part (a ∷ l) (k + m))
    → (st : S) (part : List ℕ) (l : List A) (m : ℕ) → Calls item after st part l m → F st part l m
calls_by F none one st part [] m no_call = none st part
calls_by F none one st part (a ∷ l) m (call {k = k} {m = j} e c) = one st part a l k j e (calls_by F none one _ (drop k part) l j c)

-- a step that was accepted had something to read
accepted_got : {A : Type 0} (on : Read A → Stepped) → ((n at : ℕ) → (on (Refused n at)).answer ≡ CertificateFault n at) → (x : Read A) → (on x).answer ≡ Accepted → (a : A) × (next : ℕ) × (x ≡ Got a next)
accepted_got on bad (Got a next) e = (a, next, refl)
accepted_got on bad (Refused n at) e = let z : ◌≡◌ {A = ℕ} 0 1 = cc (bad n at) in absurd (omega arith)

none_left : (l : List ℕ) → length l ≤ 0 → l ≡ []
none_left [] h = refl
none_left (b ∷ l) h = absurd (omega arith)

module _ (p : Plan) (al : Allowed p) where
  -- OPENING on the plan's record is accepted exactly where there are enough pairs
  pub opening-read : opening (plan_bytes p) ≡ on_opening (Got p (length (plan_bytes p)))
  unfolding opening
  opening-read = ap (λ (x : Read Plan). on_opening x) (record_read p al)

  opening-there : (opening (plan_bytes p)).answer ≡ Accepted → p.n + 2 ≤ pair_count p
  opening-there e = on (opens (Got p (length (plan_bytes p))))
    where
      on : Opens (Got p (length (plan_bytes p))) → p.n + 2 ≤ pair_count p
      on (refused r q f) = let z : ◌≡◌ {A = ℕ} 0 1 = cc (ap (λ (x : Opened). x.answer) (opening-read ∙ f)) in absurd (omega arith)
      on (accepted q next g enough f) = carry (λ v n. v.n + 2 ≤ pair_count v) (sym g) enough

  opening-back : p.n + 2 ≤ pair_count p → opening (plan_bytes p) ≡ record { answer = Accepted; session = opened_on (graph_of p) }
  unfolding graph_of
  opening-back h = opening-read ∙ rw (le-ltb (pair_count p) (p.n + 2) h)

  -- THE START is accepted where it is read
  start-got : (part : List ℕ) (x : (ℕ × (ℕ × (ℕ × ℕ))) × List Path) (next : ℕ) → start (plan_graph p) part 0 ≡ Got x next
      → start_step (opened_on (graph_of p)) part ≡ on_start (opened_on (graph_of p)) (Got x next)
  start-got part x next e = rw (start-step p al part, e)

  -- THE PATHS: a path that is due is accepted where it is read beside the links
  path-got : {s : Session} {links : List Path} → Building p s links → suc s.taken ≤ due p → (part : List ℕ) (P : Path) (next : ℕ) → further_path (plan_graph p) links part 0 ≡ Got P next
      → path_step s part ≡ on_path s (Got P next)
  path-got {s} {links} h few part P next e = rw (path-step p al h part, lt-ltb s.taken (due p) few, e)

  -- what is to be shown of these calls
  Finishing : List Path → List ℕ → List Path → ℕ → Type 0
  Finishing links part further m = (s : Session) → Building p s links → s.taken + length further ≡ due p → all_below p.n (is_branch (final links further)) ≡ true
      → length part ≤ m → Finishes (length further) s part

  finishing-none : (links : List Path) (part : List ℕ) → Finishing links part [] 0
  unfolding Finishing
  finishing-none links part s h t all left = (closing-is p al h ∙ rw (eq-eqb s.taken (due p) (omega arith), all), none_left part left)

  finishing-one : (links : List Path) (part : List ℕ) (P : Path) (l : List Path) (k j : ℕ) → further_path (plan_graph p) links part 0 ≡ Got P k
      → Finishing (taken links P) (drop k part) l j → Finishing links part (P ∷ l) (k + j)
  unfolding Finishing
  finishing-one links part P l k j e rest s h t all left =
      let z = path-got h (omega arith) part P k e in
      let few : length (drop k part) ≤ j = omega (arith, length-drop k part) in
      (ap (λ (x : Stepped). x.answer) z, rw z (rest _ (path-building p al h part P k e) (omega arith) all few))

  calls_finish : {s : Session} {links : List Path} → Building p s links → (part : List ℕ) (further : List Path) (m : ℕ) → Calls (further_path (plan_graph p)) taken links part further m
      → s.taken + length further ≡ due p → all_below p.n (is_branch (final links further)) ≡ true → length part ≤ m → Finishes (length further) s part
  unfolding Finishing
  calls_finish {s} {links} h part further m calls t all left = calls_by Finishing finishing-none finishing-one links part further m calls s h t all left

  -- k paths at the front of a part, by which the build is finished
  abbrev Found : List Path → ℕ → List ℕ → Type 0
  Found links k part =
      (further : List Path) × (m : ℕ) × Calls (further_path (plan_graph p)) taken links part further m × (length further ≡ k) × (all_below p.n (is_branch (final links further)) ≡ true) × (length part ≤ m)

  finish-calls : (k : ℕ) {s : Session} {links : List Path} → Building p s links → s.taken + k ≡ due p → (part : List ℕ) → Finishes k s part → Found links k part
  finish-calls zero h t part f = ([], 0, no_call, refl, (closed p al h f.0).1, omega (arith, ap length f.1))
  finish-calls (suc k) {s} {links} h t part f =
      let few : suc s.taken ≤ due p = omega arith in
      let a : (on_path s (further_path (plan_graph p) links part 0)).answer ≡ Accepted = rw (path-step p al h part, lt-ltb s.taken (due p) few) at f.0 in
      let x = accepted_got (on_path s) (λ n at. refl) (further_path (plan_graph p) links part 0) a in
      more x.0 x.1 x.2 (finish-calls k (path-building p al h part x.0 x.1 x.2) (omega arith) (drop x.1 part) (rw (path-got h few part x.0 x.1 x.2) at f.1))
    where
      more : (P : Path) (n : ℕ) → further_path (plan_graph p) links part 0 ≡ Got P n → Found (taken links P) k (drop n part) → Found links (suc k) part
      more P n e r = (P ∷ r.0, n + r.1, call e r.2, ap suc r.3, r.4, omega (arith, r.5, length-drop n part))

  module _ (C : List ℕ) (bytes : Bytes C) where
    graded : (x : Certificate) (next : ℕ) → ended (certificate (plan_graph p)) C 0 ≡ Got x next → check_of (plan_bytes p) C ≡ Grade (grade x)
    unfolding certificate_answer
    graded x next e = checked p al C ∙ ap (λ (y : Read Certificate). on_certificate y) e

    build-replayed : (a b c d : ℕ) (six further : List Path) (next : ℕ) → ended (certificate (plan_graph p)) C 0 ≡ Got (build a b c d six further) next → Replayed p C
    build-replayed a b c d six further next e =
        let r = accepted_calls (plan_graph p) (plan-simple p al) (plan-few p al) C bytes a b c d six further next e in
        let first = r.0.first in
        let opened = opening-back r.0.enough in
        let o : session_on p ≡ opened_on (graph_of p) = ap (λ (x : Opened). x.session) opened in
        let st = start-got (drop 1 C) ((a, (b, (c, d))), six) first r.0.started in
        let count : length further ≡ due p = r.0.count in
        let left : length (drop (1 + first) C) ≤ r.0.more = omega (arith, r.1, r.0.end, length-drop (1 + first) C) in
        record {
          opened = ap (λ (x : Opened). x.answer) opened;
          three = r.0.three;
          started = rw (o, st);
          finishes = rw (o, st, drop-drop first 1 C, ← count)
              (calls_finish (start-building p al (drop 1 C) ((a, (b, (c, d))), six) first r.0.started) (drop (1 + first) C) further r.0.more r.0.paths (omega (arith, count)) r.0.closed left);
        }

    there : check_of (plan_bytes p) C ≡ Grade 3 → Replayed p C
    unfolding certificate_answer
    there e = let q = on_certificate_lem (ended (certificate (plan_graph p)) C 0) (sym (checked p al C) ∙ e) in on q.0 q.1 q.2 q.3
      where
        on : (x : Certificate) (next : ℕ) → ended (certificate (plan_graph p)) C 0 ≡ Got x next → grade x ≡ 3 → Replayed p C
        on (separation S) next f k = absurd (omega arith)
        on (tree c f ps S) next g k = absurd (omega arith)
        on (ears c d P es S) next f k = absurd (omega arith)
        on (build a b c d six further) next f k = build-replayed a b c d six further next f

    found-graded : p.n + 2 ≤ pair_count p → number C 0 ≡ Got 3 1 → (x : (ℕ × (ℕ × (ℕ × ℕ))) × List Path) (first : ℕ) → start (plan_graph p) (drop 1 C) 0 ≡ Got x first
        → Found x.1 (due p) (drop (1 + first) C) → check_of (plan_bytes p) C ≡ Grade 3
    found-graded enough three x first e c =
        let a = x.0.0 in
        let b = x.0.1 in
        graded (build a b.0 b.1.0 b.1.1 x.1 c.0) (1 + first + c.1)
        (calls_accepted (plan_graph p) (plan-simple p al) (plan-few p al) C bytes a b.0 b.1.0 b.1.1 x.1 c.0 (1 + first + c.1)
        (record { enough = enough; three = three; first = first; started = e; more = c.1; paths = c.2; count = omega (arith, c.3); closed = c.4; end = refl })
        (omega (arith, c.5, length-drop (1 + first) C)))

    back : Replayed p C → check_of (plan_bytes p) C ≡ Grade 3
    back r =
        let enough = opening-there r.opened in
        let o : session_on p ≡ opened_on (graph_of p) = ap (λ (x : Opened). x.session) (opening-back enough) in
        let a : (on_start (opened_on (graph_of p)) (start (plan_graph p) (drop 1 C) 0)).answer ≡ Accepted = rw (o, start-step p al (drop 1 C)) at r.started in
        let x = accepted_got (on_start (opened_on (graph_of p))) (λ n at. refl) (start (plan_graph p) (drop 1 C) 0) a in
        found-graded enough r.three x.0 x.1 x.2
        (finish-calls (due p) (start-building p al (drop 1 C) x.0 x.1 x.2) (omega arith) (drop (1 + x.1) C)
        (rw (o, start-got (drop 1 C) x.0 x.1 x.2, drop-drop x.1 1 C) at r.finishes))

-- KIND 3: beside an allowed plan's record a certificate of kind 3 is accepted exactly when the session's calls accept it and no byte is left.
pub kind3_calls : (p : Plan) → Allowed p → (C : List ℕ) → Bytes C → (check_of (plan_bytes p) C ≡ Grade 3) ↔ Replayed p C
kind3_calls p al C bytes = (there p al C bytes, back p al C bytes)
