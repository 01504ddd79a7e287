-- What a path that was read and tested leaves of a build. Assumes nothing.
use Prim.Native.Nat.{ℕ}
use mathlib.Core.List.{List, [], ◌∷◌}
use mathlib.Core.Bool.{Bool, true, false, cond, ◌&&◌, not}
use mathlib.Core.Path.{◌≡◌, refl, sym, ap, ◌∙◌}
use lib.Dec.{leb, eqb}
use borrow.Author.Tests.{leb-true}
use Rattle.std.specs.Prelude.{Option, Some, None, Result, Ok, Err}
use Rattle.std.specs.Result.{IsErrAnd}
use Rattle.std.proofs.lemmas.Result.{err_from_is_err_and}
use Rattle.record.specs.declared.Answer.{Answer}
use Rattle.record.specs.Read.{Read, Read.Got, Read.Refused, Reader, on_read, or_kept, ◌needs⟨◌⟩◌}
use Rattle.record.specs.declared.Answer.TheVariants.{CertificateFault}
use Rattle.record.proofs.Laws.{test_got}
use Rattle.record.proofs.Loops.{needs_bad}
use Rattle.vertexset.specs.Set.{has, capacity}
use Rattle.vertexset.specs.declared.VertexSet.{VertexSet}
use Rattle.graph.specs.Rows.{adjacent_in, rows_graph}
use Rattle.connectivity.specs.Path.{Path}
use Rattle.certificates.specs.Tests.{path_along, path_new, start_ends}
use Rattle.certificates.specs.Records.{path}
use Rattle.paths.specs.Items.{told, limited}
use Rattle.paths.specs.Paths.{path_told, path_read}
use Rattle.paths.specs.declared.PathRead.{PathRead}
use Rattle.paths.proofs.Told.{told-ok}
use Rattle.links.specs.declared.End.{End}
use Rattle.links.specs.declared.Addition.{Addition}
use Rattle.links.specs.Ends.{addition_of, held}
use Rattle.links.specs.Tables.{split_by, split_mates_by, is_inner, last_from}
use Rattle.build.specs.declared.Build.{Build}
use Rattle.build.specs.declared.Trace.{Trace}
use Rattle.build.specs.State.{entered, raised_at, end_of, path_addition, both_in, path_taken, trace_of, build_path, start_on}
use Rattle.build.specs.Code.{path_fault, build_in, ToldAt, before_at, on_path_read, towards}

-- a refusal is handed on as it was read
pub told-refused : {A B : Type 0} (f : A → ℕ → B) {x : Read A} {q p : ℕ} → x ≡ Refused q p → Err (CertificateFault q p) ≡ told f x
unfolding told
told-refused f e = rw e

-- what a `?` hands on is the answer that it met
pub exit : {C : Type 0} (r : Result C Answer) {d : Answer} → IsErrAnd r (λ y. y ≡ d) → r ≡ Err d
exit r k = let h = err_from_is_err_and r k in cc

-- refused, or as it was read
abbrev pub faulted : {A : Type 0} → Option ℕ → A → ℕ → ℕ → Read A
faulted None v next at = Got v next
faulted (Some r) v next at = Refused r at

-- the tests of a path, one after the other
module _ {A : Type 0} (R : Reader A) (along ends new apart : A → Bool) (s : List ℕ) (at : ℕ) {v : A} {next : ℕ} (e : R s at ≡ Got v next) where
  pub tested_three : (R needs⟨ 24 ⟩ along needs⟨ 25 ⟩ ends needs⟨ 26 ⟩ new) s at ≡ faulted (path_fault (along v) (ends v) (new v) true) v next at
  unfolding ◌needs⟨◌⟩◌
  tested_three = rw e (one (along v))
    where
      three : (c : Bool) → cond c (Got v next) (Refused 26 at) ≡ faulted (path_fault true true c true) v next at
      three true = refl
      three false = refl

      two : (b : Bool) → on_read (cond b (Got v next) (Refused 25 at)) (λ w z. cond (new w) (Got w z) (Refused 26 at)) ≡ faulted (path_fault true b (new v) true) v next at
      two true = three (new v)
      two false = refl

      one : (a : Bool) → on_read (on_read (cond a (Got v next) (Refused 24 at)) (λ w z. cond (ends w) (Got w z) (Refused 25 at))) (λ w z. cond (new w) (Got w z) (Refused 26 at))
          ≡ faulted (path_fault a (ends v) (new v) true) v next at
      one true = two (ends v)
      one false = refl

  pub tested_four : (R needs⟨ 24 ⟩ along needs⟨ 25 ⟩ ends needs⟨ 26 ⟩ new needs⟨ 27 ⟩ apart) s at ≡ faulted (path_fault (along v) (ends v) (new v) (apart v)) v next at
  unfolding ◌needs⟨◌⟩◌
  tested_four = ap (λ (y : Read A). on_read y (λ w z. cond (apart w) (Got w z) (Refused 27 at))) tested_three ∙ last (along v) (ends v) (new v) (apart v)
    where
      last : (a b c d : Bool) → on_read (faulted (path_fault a b c true) v next at) (λ w z. cond (apart w) (Got w z) (Refused 27 at))
          ≡ faulted (path_fault a b c (apart v)) v next at
      last false b c d = refl
      last true false c d = refl
      last true true false d = refl
      last true true true d = end (apart v)
        where
          end : (d : Bool) → cond d (Got v next) (Refused 27 at) ≡ faulted (path_fault true true true d) v next at
          end true = refl
          end false = refl

-- a limit that was kept
pub within-limit : {A : Type 0} (n : ℕ) (R : Reader A) {s : List ℕ} {at next : ℕ} {v : A} → limited n R s at ≡ Got v next → (leb n capacity ≡ true) × (R s at ≡ Got v next)
within-limit n R {s} {at} e = test_got (leb n capacity) (R s at) 9 at e

pub limit_kept : {A : Type 0} (n : ℕ) (R : Reader A) (s : List ℕ) (at : ℕ) {y : Read A} → leb n capacity ≡ true → R s at ≡ y → limited n R s at ≡ y
limit_kept n R s at l e = rw (l, e)

pub limit_refused : {A B : Type 0} (n : ℕ) (R : Reader A) (Q : Reader B) (s : List ℕ) (at : ℕ) {q p : ℕ} → (R s at ≡ Refused q p → Q s at ≡ Refused q p)
    → limited n R s at ≡ Refused q p → limited n Q s at ≡ Refused q p
limit_refused {A} {B} n R Q s at {q} {p} f = go (leb n capacity)
  where
    go : (b : Bool) → cond b (R s at) (Refused 9 at) ≡ Refused q p → cond b (Q s at) (Refused 9 at) ≡ Refused q p
    go true e = f e
    go false e = let y : q ≡ 9 = cc in let z : p ≡ at = cc in rw (y, z)

same_trace : {a b c a' b' c' : ℕ} {k l k' l' : Bool} → a ≡ a' → b ≡ b' → c ≡ c' → k ≡ k' → l ≡ l'
    → ◌≡◌ {A = Trace} (record { first = a; last = b; before = c; from = k; upto = l }) (record { first = a'; last = b'; before = c'; from = k'; upto = l' })
same_trace d e f g h = rw (d, e, f, g, h)

-- a path that is read is tested by `item` and taken a step on: `fault` is the number that the tests give, `raise` the build that the path enters
pub record Takes (n : ℕ) (adj : ℕ → ℕ → Bool) (old : ℕ → Bool) (item : Build → Reader Path) (step : Build → Path → Build) (b : Build) (s : List ℕ) (at : ℕ) : Type 0 where
  pub fault : PathRead → Option ℕ
  pub raise : PathRead → Build
  pub stops : (q p : ℕ) → path n 2 s at ≡ Refused q p → item b s at ≡ Refused q p
  pub tests : (P : Path) (next : ℕ) → path n 2 s at ≡ Got P next → item b s at ≡ faulted (fault (path_told adj old P next)) P next at
  pub steps : (P : Path) (next : ℕ) → entered (raise (path_told adj old P next)) P ≡ step b P

-- a build that no path changed
pub as_was : (step : Build → Path → Build) (b : Build) {x : Read Path} {q p : ℕ} → x ≡ Refused q p → b ≡ on_path_read step b x
unfolding on_path_read
as_was step b e = rw e

module _ {n : ℕ} {adj : ℕ → ℕ → Bool} {old : ℕ → Bool} {item : Build → Reader Path} {step : Build → Path → Build} {b : Build} {s : List ℕ} {at : ℕ}
    (T : Takes n adj old item step b s at) where
  abbrev reading : Read Path
  reading = limited n (item b) s at

  -- a path that can't be read
  pub unread : {q p : ℕ} → limited n (path n 2) s at ≡ Refused q p → reading ≡ Refused q p
  unread e = limit_refused n (path n 2) (item b) s at (T.stops _ _) e

  -- one that was read, from here on
  module _ {x : PathRead} (e : Ok x ≡ path_read adj old (limited n (path n 2) s at)) where
    pub there : (P : Path) × (next : ℕ) × (limited n (path n 2) s at ≡ Got P next) × (x ≡ path_told adj old P next)
    there = told-ok _ _ e

    got : (leb n capacity ≡ true) × (path n 2 s at ≡ Got there.0 there.1)
    got = within-limit n (path n 2) there.2

    tested : reading ≡ faulted (T.fault x) there.0 there.1 at
    tested = limit_kept n (item b) s at got.0 (T.tests there.0 there.1 got.1 ∙ ap (λ (y : PathRead). faulted (T.fault y) there.0 there.1 at) (sym there.3))

    pub faulty : {q : ℕ} → Some q ≡ T.fault x → reading ≡ Refused q at
    faulty f = tested ∙ rw (← f)

    -- what the path tells of itself
    pub path-there : ToldAt n s at x
    path-there =
        let P = there.0 in
        record {
          there = record { low = leb-true _ _ got.0; found = P; next = there.1; got = got.1 };
          first = ap (λ (y : PathRead). y.first) there.3;
          last = ap (λ (y : PathRead). y.last) there.3;
          len = ap (λ (y : PathRead). y.len) there.3;
        }

    -- where no test fails, the path that is taken in, and the place after it
    pub sound : None ≡ T.fault x → (reading ≡ Got there.0 there.1) × (x.next ≡ there.1)
    sound f = (tested ∙ rw (← f), ap (λ (y : PathRead). y.next) there.3)

    -- the build that it has entered
    pub taken-in : {out : Build} → None ≡ T.fault x → out ≡ on_path_read entered (T.raise x) (path n 2 s at) → (out ≡ step b there.0) × (out ≡ on_path_read step b reading)
    unfolding on_path_read
    taken-in f g =
        let k = g ∙ ap (on_path_read entered (T.raise x)) got.1 ∙ ap (λ (y : PathRead). entered (T.raise y) there.0) there.3 ∙ T.steps there.0 there.1 in
        (k, k ∙ sym (ap (on_path_read step b) (sound f).0))

    -- the trace that it leaves, by what the code has of it
    pub trace-of : {k : ℕ} {from upto : Bool} → k ≡ before_at n s at → from ≡ is_inner (end_of b x.first) → upto ≡ is_inner (end_of b x.last)
        → ◌≡◌ {A = Trace} (record { first = x.first; last = x.last; before = k; from = from; upto = upto }) (trace_of b there.0)
    unfolding before_at
    trace-of m d u =
        let P = there.0 in
        let first : x.first ≡ P.s = ap (λ (y : PathRead). y.first) there.3 in
        let last : x.last ≡ P.t = ap (λ (y : PathRead). y.last) there.3 in
        same_trace first last (m ∙ ap (λ (r : Read Path). or_kept r (λ P next. last_from P.s P.inner) 0) got.1) (d ∙ ap (λ (v : ℕ). is_inner (end_of b v)) first) (u ∙ ap (λ (v : ℕ). is_inner (end_of b v)) last)

    -- what is handed on of it
    pub handed : {B : Type 0} (hand : Path → ℕ → B) → None ≡ T.fault x → {y : B} → y ≡ hand there.0 x.next → Ok y ≡ told hand reading
    unfolding told
    handed hand f g = let k = sound f in ap Ok (g ∙ ap (hand there.0) k.1) ∙ sym (ap (told hand) k.0)

-- the code's own results for what a test asks
pub fault_same : (along new p q h p' q' h' : Bool) → p ≡ p' → q ≡ q' → h ≡ h' → path_fault along (p && q) new (not h) ≡ path_fault along (p' && q') new (not h')
fault_same along new p q h p' q' h' e f g = rw (e, f, g)

pub addition_same : (linked : List ℕ) (x y : End) (x' y' : End) {a : Addition} → a ≡ addition_of linked x y → x ≡ x' → y ≡ y' → a ≡ addition_of linked x' y'
addition_same linked x y x' y' e f g = e ∙ ap (λ (z : End). addition_of linked z y) f ∙ ap (addition_of linked x') g

pub raised-same : (branch : VertexSet) {mid out : VertexSet} {x y x' y' : End} → mid ≡ raised_at branch x → out ≡ raised_at mid y → x ≡ x' → y ≡ y' → out ≡ raised_at (raised_at branch x') y'
raised-same branch e f g h = rw (f, e, g, h)

-- a path of the start between the ends of l
module _ (n : ℕ) (rows s : List ℕ) (at : ℕ) (l : ℕ × ℕ) (b : Build) where
  pub start-stops : (q p : ℕ) → path n 2 s at ≡ Refused q p → start_on (rows_graph n rows) (towards l b) s at ≡ Refused q p
  unfolding start_on
  start-stops q p e = needs_bad _ 26 _ (needs_bad _ 25 _ (needs_bad _ 24 _ e))

  pub start-tests : (P : Path) (next : ℕ) → path n 2 s at ≡ Got P next
      → start_on (rows_graph n rows) (towards l b) s at ≡ faulted (path_fault (path_along (rows_graph n rows) P) (eqb P.s l.0 && eqb P.t l.1) (path_new (has b.sets.built.words) P) true) P next at
  unfolding start_on
  start-tests P next e = tested_three (path n 2) (path_along (rows_graph n rows)) (start_ends (l ∷ [])) (path_new (has b.sets.built.words)) (λ P. true) s at e

  abbrev pub start-takes : Takes n (adjacent_in rows) (has b.sets.built.words) (λ b. start_on (rows_graph n rows) (towards l b)) entered b s at
  start-takes = record {
    fault = λ x. path_fault x.along (eqb x.first l.0 && eqb x.last l.1) x.new true;
    raise = λ x. b;
    stops = start-stops;
    tests = start-tests;
    steps = λ P next. refl;
  }

-- a further path
module _ (n : ℕ) (rows s : List ℕ) (at : ℕ) (b : Build) where
  pub further_stops : (q p : ℕ) → path n 2 s at ≡ Refused q p → build_path (rows_graph n rows) b s at ≡ Refused q p
  unfolding build_path
  further_stops q p e = needs_bad _ 27 _ (needs_bad _ 26 _ (needs_bad _ 25 _ (needs_bad _ 24 _ e)))

  pub further_tests : (P : Path) (next : ℕ) → path n 2 s at ≡ Got P next
      → build_path (rows_graph n rows) b s at ≡ faulted (path_fault (path_along (rows_graph n rows) P) (both_in b P) (path_new (has b.sets.built.words) P) (not (held (path_addition b P)))) P next at
  unfolding build_path
  further_tests P next e = tested_four (path n 2) (path_along (rows_graph n rows)) (both_in b) (path_new (has b.sets.built.words)) (λ P. not (held (path_addition b P))) s at e

  abbrev pub addition_at : PathRead → Addition
  addition_at x = addition_of b.linked (end_of b x.first) (end_of b x.last)

  abbrev pub further_takes : Takes n (adjacent_in rows) (has b.sets.built.words) (build_path (rows_graph n rows)) path_taken b s at
  further_takes = record {
    fault = λ x. path_fault x.along (has b.sets.built.words x.first && has b.sets.built.words x.last) x.new (not (held (addition_at x)));
    raise = λ x. build_in (record { branch = raised_at (raised_at b.sets.branch (end_of b x.first)) (end_of b x.last); built = b.sets.built }) (split_mates_by b.pointers (addition_at x)) (split_by b.linked (addition_at x));
    stops = further_stops;
    tests = further_tests;
    steps = λ P next. refl;
  }
