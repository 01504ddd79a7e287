-- REQUEST 1 keeps what checker, checking program, opening and maker gave for a plan record in the base edition, but for refusals by 6 and the maker's by 30, and request 7's 33 for 2. Assumes nothing.
use Prim.Native.Nat.{ℕ, zero, suc, ◌+◌, ◌<◌, ◌≤◌}
use mathlib.Core.List.{List, [], ◌∷◌}
use mathlib.Core.Bool.{Bool, true, false, cond, ◌&&◌, ◌||◌}
use mathlib.Core.Path.{◌≡◌, refl, sym, ap, subst, ◌∙◌}
use mathlib.Core.Logic.{◌⊎◌, inl, inr, ⊎_elim}
use native.Mathlib.Omega.{arith}
use lib.Dec.{ltb, leb, eqb}
use lib.ListN.{length}
use borrow.Author.Tests.{ltb-true, eqb-true, le-leb}
use Rattle.record.specs.Read.{Read, Read.Got, Read.Refused, Reader, Each, on_read, many, ◌needs⟨◌⟩◌, ◌▸◌, ◌▹◌, into, within, ended}
use Rattle.record.proofs.Laws.{on_got, carry, each_same, ended-got}
use Rattle.record.proofs.Loops.{needs_true}
use Rattle.record.proofs.Bounds.{within-true}
use Rattle.connectivity.specs.Build.{further_count}
use Rattle.connectivity.proofs.Lists.{and-true}
use Rattle.connectivity.proofs.Edges.{EdgeBefore, AscendingEdges, ascending_nodup, from_edges-count}
use Rattle.reading.specs.Plan.{Plan, EdgeAllowed, proper, follows, plan}
use Rattle.reading.specs.Code.{graph_of}
use Rattle.graph.specs.declared.GraphTable.{GraphTable}
use Rattle.record.specs.declared.Answer.TheVariants.{Accepted, PlanFault}
use Rattle.reading.proofs.EdgeTests.{each-proper}
use Rattle.sessions.specs.Session.{no_session, opened_on, on_opening, opening}
use Rattle.checker.specs.Check.{check_of, grade_of}
use Rattle.claims.specs.Session.{pair_count}
use Rattle.claims.specs.Doubles.{comes_after, base_edge, base_plan, base_opening, opened_before, BaseKept}
use Rattle.claims.specs.Earlier as earlier
use Rattle.claims.specs.Earlier.{number, edge}
use Rattle.claims.specs.Numbers.{read_before}
use Rattle.claims.specs.Lengths.{EarlierKept}
use Rattle.claims.proofs.Maker.{answer_on, graph_on}
use Rattle.claims.proofs.Lengths.{stays_on}
use Rattle.claims.proofs.Kept.{plan-same, whole_same, on_plan-same, on_leading-same}

-- ---- two readings of a record

-- the second is the first, or the first is a refusal by r
abbrev ButFor : {A : Type 0} → ℕ → Read A → Read A → Type 0
ButFor r x y = (y ≡ x) ⊎ ((p : ℕ) × (x ≡ Refused r p))

but_same : {A : Type 0} {r : ℕ} {x y : Read A} → ButFor r x y → ((q : ℕ) → ¬ (x ≡ Refused r q)) → y ≡ x
but_same h n = ⊎_elim (λ e. e) (λ e. absurd (n e.0 e.1)) h

but_got : {A : Type 0} {r : ℕ} {x y : Read A} {v : A} {next : ℕ} → ButFor r x y → x ≡ Got v next → y ≡ x
but_got h g = but_same h (λ q e. let z : ◌≡◌ {A = ℕ} 0 1 = cc in omega arith)

on_but : {A B : Type 0} (r : ℕ) (x y : Read A) (f g : A → ℕ → Read B) → ButFor r x y → ((v : A) (next : ℕ) → ButFor r (f v next) (g v next)) → ButFor r (on_read x f) (on_read y g)
on_but r (Got v next) y f g (inl e) h = rw e (h v next)
on_but r (Refused q p) y f g (inl e) h = inl (rw e)
on_but r x y f g (inr e) h = inr (e.0, rw e.1)

module _ {S A : Type 0} (r : ℕ) (item other : S → Reader A) (after : S → A → S) (one : (st : S) (s : List ℕ) (at : ℕ) → ButFor r (item st s at) (other st s at)) where
  many-but : (k : ℕ) (st : S) (s : List ℕ) (at : ℕ) → ButFor r (many item after k st s at) (many other after k st s at)
  unfolding many
  many-but zero st s at = inl refl
  many-but (suc k) st s at = on_but r (item st s at) (other st s at) _ _ (one st s at)
      (λ a mid. on_but r (many item after k (after st a) s mid) (many other after k (after st a) s mid) _ _ (many-but k (after st a) s mid) (λ l next. inl refl))

-- a test in the place of a stricter one
needs_but : {A : Type 0} (R : Reader A) (r : ℕ) (ok fine : A → Bool) → ((v : A) → ok v ≡ true → fine v ≡ true) → (s : List ℕ) (at : ℕ) → ButFor r ((R needs⟨ r ⟩ ok) s at) ((R needs⟨ r ⟩ fine) s at)
unfolding ◌needs⟨◌⟩◌
needs_but {A} R r ok fine h s at = on_but r (R s at) (R s at) _ _ (inl refl) (λ v next. go v next (ok v) refl)
  where
    go : (v : A) (next : ℕ) (b : Bool) → ok v ≡ b → ButFor r (cond b (Got v next) (Refused r at)) (cond (fine v) (Got v next) (Refused r at))
    go v next true e = inl (rw (h v e))
    go v next false e = inr (at, refl)

after_follows : (d e : ℕ × ℕ) → comes_after d e ≡ true → follows d e ≡ true
after_follows d e h = go (ltb d.0 e.0) h
  where
    go : (b : Bool) → b || (eqb d.0 e.0 && ltb d.1 e.1) ≡ true → b || (eqb d.0 e.0 && leb d.1 e.1) ≡ true
    go true h = refl
    go false h =
        let t = and-true (eqb d.0 e.0) (ltb d.1 e.1) h in
        let l : d.1 < e.1 = ltb-true _ _ t.1 in
        rw (t.0, le-leb d.1 e.1 (omega arith))

edge-but : (n : ℕ) (before : ℕ × ℕ) (s : List ℕ) (at : ℕ) → ButFor 6 (base_edge n before s at) (edge n before s at)
unfolding base_edge edge
edge-but n before s at = needs_but ((number ▸ λ lower. number) needs⟨ 5 ⟩ proper n) 6 (comes_after before) (follows before) (after_follows before) s at

-- editions 1 to 6 read a plan as the base did, unless the base refuses it by 6
plan-but : (s : List ℕ) → ButFor 6 (base_plan s 0) (earlier.plan s 0)
unfolding base_plan earlier.plan into ◌▸◌ ◌▹◌
plan-but s =
    on_but 6 _ _ _ _ (on_but 6 head head _ _ (inl refl) (λ n mid.
    on_but 6 _ _ _ _ (on_but 6 (count mid) (count mid) _ _ (inl refl) (λ m at. many-but 6 (base_edge n) (edge n) (λ before e. e) (edge-but n) m (0, 0) s at)) (λ l next. inl refl)))
    (λ p next. inl refl)
  where
    head : Read ℕ
    head = (number needs⟨ 3 ⟩ within 4 128) s 0

    count : ℕ → Read ℕ
    count mid = (number needs⟨ 4 ⟩ within 0 512) s mid

-- .. and so a whole record
ended-but : (P : List ℕ) → ButFor 6 (ended base_plan P 0) (ended earlier.plan P 0)
unfolding ended
ended-but P = on_but 6 (base_plan P 0) (earlier.plan P 0) _ _ (plan-but P) (λ p next. inl refl)

-- ---- the plans that the base edition accepted

-- an edge that it took behind another
abbrev Strict : ℕ → ℕ × ℕ → ℕ × ℕ → Type 0
Strict n d e = (proper n e ≡ true) × (comes_after d e ≡ true)

-- each item that was read is in order
many-each : {S A : Type 0} {Q : S → A → Type 0} (item : S → Reader A) (after : S → A → S) → ((st : S) (s : List ℕ) (at : ℕ) (a : A) (next : ℕ) → item st s at ≡ Got a next → Q st a)
    → (k : ℕ) (st : S) (s : List ℕ) (at : ℕ) {l : List A} {next : ℕ} → many item after k st s at ≡ Got l next → Each Q after st l
unfolding many Each
many-each {Q = Q} item after f zero st s at e = carry (λ l n. Each Q after st l) e tt
many-each {Q = Q} item after f (suc k) st s at e =
    let g = on_got (item st s at) _ e in
    let q = on_got (many item after k (after st g.0) s g.1) _ g.3 in
    carry (λ l n. Each Q after st l) q.3 (f st s at g.0 g.1 g.2, many-each item after f k (after st g.0) s g.1 q.2)

edge-strict : (n : ℕ) (before : ℕ × ℕ) (s : List ℕ) (at : ℕ) (e : ℕ × ℕ) (next : ℕ) → base_edge n before s at ≡ Got e next → Strict n before e
unfolding base_edge
edge-strict n before s at e next g =
    let a = needs_true ((number ▸ λ lower. number) needs⟨ 5 ⟩ proper n) 6 (comes_after before) {s = s} {at = at} g in
    let b = needs_true (number ▸ λ lower. number) 5 (proper n) {s = s} {at = at} a.0 in
    (b.1, a.1)

after_true : (d e : ℕ × ℕ) → comes_after d e ≡ true → EdgeBefore d e
after_true d e h = go (ltb d.0 e.0) refl h
  where
    go : (b : Bool) → ltb d.0 e.0 ≡ b → b || (eqb d.0 e.0 && ltb d.1 e.1) ≡ true → EdgeBefore d e
    go true t h = inl (ltb-true _ _ t)
    go false t h = let a = and-true (eqb d.0 e.0) (ltb d.1 e.1) h in inr (eqb-true _ _ a.0, ltb-true _ _ a.1)

strict_ascends : (n : ℕ) (before : ℕ × ℕ) (es : List (ℕ × ℕ)) → Each (Strict n) (λ d e. e) before es → AscendingEdges es
unfolding Each
strict_ascends n before [] h = tt
strict_ascends n before (d ∷ []) h = tt
strict_ascends n before (d ∷ (e ∷ es)) h = (after_true d e h.1.0.1, strict_ascends n d (e ∷ es) h.1)

module _ (s : List ℕ) {p : Plan} {next : ℕ} (e : base_plan s 0 ≡ Got p next) where
  base_edges : (4 ≤ p.n) × Each (Strict p.n) (λ d e. e) (0, 0) p.edges
  unfolding base_plan into ◌▸◌ ◌▹◌
  base_edges =
      let a = on_got _ _ e in
      let b = on_got ((number needs⟨ 3 ⟩ within 4 128) s 0) _ a.2 in
      let c = on_got _ _ b.3 in
      let d = on_got ((number needs⟨ 4 ⟩ within 0 512) s b.1) _ c.2 in
      let t = needs_true number 3 (within 4 128) {s = s} {at = 0} b.2 in
      let l = many-each {Q = Strict b.0} (base_edge b.0) (λ d e. e) (edge-strict b.0) d.0 (0, 0) s d.1 d.3 in
      carry (λ (q : Plan) z. (4 ≤ q.n) × Each (Strict q.n) (λ d e. e) (0, 0) q.edges) a.3
      (carry (λ (x : ℕ × List (ℕ × ℕ)) z. (4 ≤ x.0) × Each (Strict x.0) (λ d e. e) (0, 0) x.1) c.3 ((within-true 4 128 b.0 t.1).0, l))

  -- no pair comes twice, so there are as many as edges
  base_counts : pair_count p ≡ length p.edges
  base_counts =
      let h = base_edges in
      let allowed = each_same {Ok' = EdgeAllowed p.n} (λ d e. e) (λ d e k. (k.0, after_follows d e k.1)) (0, 0) p.edges h.1 in
      from_edges-count p.n p.edges record {
        big = h.0;
        each = each-proper p.n (0, 0) p.edges allowed;
        once = ascending_nodup p.edges (strict_ascends p.n (0, 0) p.edges h.1);
      }

-- and in edition 7's numbers
whole_but : (P : List ℕ) → ((q : ℕ) → ¬ (ended base_plan P 0 ≡ Refused 6 q)) → read_before (ended plan P 0) ≡ ended base_plan P 0
whole_but P n = sym (whole_same P) ∙ but_same (ended-but P) n

leading_but : (s : List ℕ) → ((q : ℕ) → ¬ (base_plan s 0 ≡ Refused 6 q)) → read_before (plan s 0) ≡ base_plan s 0
leading_but s n = sym (plan-same s) ∙ but_same (plan-but s) n

before_got : {A : Type 0} (x : Read A) {v : A} {next : ℕ} → read_before x ≡ Got v next → x ≡ Got v next
before_got (Got w n) e = e
before_got (Refused r p) e = let z : ◌≡◌ {A = ℕ} 0 1 = cc in absurd (omega arith)

opening-same : (x : Read Plan) → opened_before (on_opening x) ≡ on_opening (read_before x)
opening-same (Got p next) = go (ltb (graph_of p).d (p.n + 2))
  where
    go : (b : Bool) → opened_before (cond b (record { answer = PlanFault 29 0; session = no_session }) (record { answer = Accepted; session = opened_on (graph_of p) }))
        ≡ cond b (record { answer = PlanFault 29 0; session = no_session }) (record { answer = Accepted; session = opened_on (graph_of p) })
    go true = refl
    go false = refl
opening-same (Refused r q) = refl

base_opens : (P : List ℕ) → ((q : ℕ) → ¬ (ended base_plan P 0 ≡ Refused 6 q)) → opened_before (opening P) ≡ base_opening (ended base_plan P 0)
unfolding opening graph_of
base_opens P n = opening-same (ended plan P 0) ∙ ap (λ (x : Read Plan). on_opening x) (whole_but P n) ∙ on (ended base_plan P 0) refl
  where
    on : (x : Read Plan) → ended base_plan P 0 ≡ x → on_opening x ≡ base_opening x
    on (Got p next) h = rw (base_counts P (ended-got base_plan h).0)
    on (Refused r q) h = refl

-- WHAT CHECKER, CHECKING PROGRAM, OPENING AND MAKER GAVE IN THE BASE EDITION IS KEPT, BUT FOR REFUSALS BY 6 AND THE MAKER'S BY 30.
pub base_kept : BaseKept
unfolding check_of grade_of
base_kept = record {
  whole = whole_but;
  leading = leading_but;
  counts = λ s p next h. (base_counts s h, ap (λ (d : ℕ). further_count d p.n) (base_counts s h));
  checks = λ P C n. sym (on_plan-same (ended plan P 0) C) ∙ ap (λ (x : Read Plan). earlier.on_plan x C) (whole_but P n);
  grades = λ s n. sym (on_leading-same (plan s 0) s) ∙ ap (λ (x : Read Plan). earlier.on_leading x s) (leading_but s n);
  opens = base_opens;
  makes = λ P bp buffer p next h.
      let e = before_got (ended plan P 0) (sym (whole_same P) ∙ but_got (ended-but P) h ∙ h) in
      subst (λ (g : GraphTable). EarlierKept P buffer Accepted g) (graph_on P e) (stays_on P bp buffer (answer_on P e));
}
