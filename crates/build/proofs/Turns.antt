-- The start and one turn of the loops over paths. Assumes nothing.
use Prim.Native.Nat.{ℕ, suc, ◌+◌, ◌-◌, ◌<◌, ◌≤◌}
use mathlib.Core.List.{List, ◌∷◌}
use mathlib.Core.Bool.{true, false}
use mathlib.Core.Path.{◌≡◌, refl, sym, ap, ◌∙◌}
use native.Mathlib.Omega.{arith}
use lib.Dec.{leb}
use lib.ListN.{length, get_or, drop}
use Rattle.std.proofs.lemmas.List.{drop_more}
use borrow.Author.Tests.{le-leb, lt-leb}
use Rattle.std.specs.Prelude.{Ok, Err}
use Rattle.record.specs.Read.{Read, Read.Got, Read.Refused, Reader, ◌needs⟨◌⟩◌, ◌▸◌, led}
use Rattle.record.specs.Loop.{runs}
use Rattle.record.specs.declared.Answer.{Answer}
use Rattle.record.specs.declared.Answer.TheVariants.{CertificateFault}
use Rattle.record.proofs.Loops.{turn_go, turn_stop, turn_done, led-go, led-stop, needs_got}
use Rattle.vertexset.specs.Set.{has, capacity}
use Rattle.connectivity.specs.Graph.{Graph}
use Rattle.connectivity.specs.Path.{Path}
use Rattle.certificates.specs.Tests.{all_below, later_ends}
use Rattle.certificates.specs.Records.{vertex, branch_four}
use Rattle.graph.specs.Rows.{rows_graph}
use Rattle.paths.specs.Items.{told, limited}
use Rattle.paths.proofs.Told.{told-ok, told-err}
use Rattle.build.specs.declared.Build.{Build}
use Rattle.build.specs.declared.Taken.{Taken}
use Rattle.build.specs.declared.Traced.{Traced}
use Rattle.build.specs.State.{entered, path_taken, build_path, BuildStart, start_on, start_entered}
use Rattle.build.specs.Code.{build_in, on_path_read, towards, start_path_read, further_read, traced, start_loop, further_loop}
use Rattle.build.proofs.Inner.{same_build}
use Rattle.build.proofs.Taking.{limit_kept}

-- a vertex above the one before it
module _ (n before : ℕ) (s : List ℕ) (at : ℕ) {v next : ℕ} (e : vertex n s at ≡ Got v next) where
  pub above_low : v ≤ before → (vertex n needs⟨ 20 ⟩ leb (suc before)) s at ≡ Refused 20 at
  above_low h = needs_got (vertex n) 20 (leb (suc before)) e ∙ (let z : v < suc before = omega arith in rw (lt-leb (suc before) v z))

  pub above_got : before < v → (vertex n needs⟨ 20 ⟩ leb (suc before)) s at ≡ Got v next
  above_got h = needs_got (vertex n) 20 (leb (suc before)) e ∙ (let z : suc before ≤ v = omega arith in rw (le-leb (suc before) v z))

-- the four branch vertices, one number after the other
module _ (n : ℕ) (s : List ℕ) (at : ℕ) where
  pub four-first : {r p : ℕ} → vertex n s at ≡ Refused r p → branch_four n s at ≡ Refused r p
  unfolding branch_four ◌▸◌
  four-first e = rw e

  module _ {a second : ℕ} (e : vertex n s at ≡ Got a second) where
    pub four-second : {r p : ℕ} → (vertex n needs⟨ 20 ⟩ leb (suc a)) s second ≡ Refused r p → branch_four n s at ≡ Refused r p
    unfolding branch_four ◌▸◌
    four-second f = rw (e, f)

    module _ {b third : ℕ} (f : (vertex n needs⟨ 20 ⟩ leb (suc a)) s second ≡ Got b third) where
      pub four-third : {r p : ℕ} → (vertex n needs⟨ 20 ⟩ leb (suc b)) s third ≡ Refused r p → branch_four n s at ≡ Refused r p
      unfolding branch_four ◌▸◌
      four-third g = rw (e, f, g)

      module _ {c fourth : ℕ} (g : (vertex n needs⟨ 20 ⟩ leb (suc b)) s third ≡ Got c fourth) where
        pub four-fourth : {r p : ℕ} → (vertex n needs⟨ 20 ⟩ leb (suc c)) s fourth ≡ Refused r p → branch_four n s at ≡ Refused r p
        unfolding branch_four ◌▸◌
        four-fourth h = rw (e, f, g, h)

        pub four-got : {d next : ℕ} → (vertex n needs⟨ 20 ⟩ leb (suc c)) s fourth ≡ Got d next → branch_four n s at ≡ Got (a, (b, (c, d))) next
        unfolding branch_four ◌▸◌
        four-got h = rw (e, f, g, h)

-- what reading a path leaves of a build, the tables told by themselves
module _ (step : Build → Path → Build) (b : Build) {x : Read Path} {pointers linked : List ℕ} (f : pointers ≡ (on_path_read step b x).pointers) (g : linked ≡ (on_path_read step b x).linked) {B : Type 0} (hand : Path → ℕ → B) where
  -- refused: they are as they were
  pub left_bad : {d : Answer} → Err d ≡ told hand x → (q : ℕ) × (p : ℕ) × (x ≡ Refused q p) × (d ≡ CertificateFault q p) × (pointers ≡ b.pointers) × (linked ≡ b.linked)
  unfolding on_path_read
  left_bad e =
      let t = told-err hand x e in
      (t.0, t.1, t.2, t.3, f ∙ ap (λ (y : Read Path). (on_path_read step b y).pointers) t.2, g ∙ ap (λ (y : Read Path). (on_path_read step b y).linked) t.2)

  pub left_got : {y : B} → Ok y ≡ told hand x → (P : Path) × (next : ℕ) × (x ≡ Got P next) × (y ≡ hand P next) × (pointers ≡ (step b P).pointers) × (linked ≡ (step b P).linked)
  unfolding on_path_read
  left_got e =
      let t = told-ok hand x e in
      (t.0, t.1, t.2, t.3, f ∙ ap (λ (y : Read Path). (on_path_read step b y).pointers) t.2, g ∙ ap (λ (y : Read Path). (on_path_read step b y).linked) t.2)

within : {n : ℕ} (R : Reader Path) (s : List ℕ) (at : ℕ) → n ≤ capacity → R s at ≡ limited n R s at
within {n} R s at low = sym (limit_kept n R s at (le-leb n capacity low) refl)

-- a turn over the further paths, after i of m
module _ (n : ℕ) (rows s : List ℕ) (b : Build) (at m i : ℕ) {pointers linked : List ℕ} (low : n ≤ capacity) (some : i < m)
    (f : pointers ≡ (on_path_read path_taken b (further_read n rows b s at)).pointers) (g : linked ≡ (on_path_read path_taken b (further_read n rows b s at)).linked) where
  pub further_stop : {d : Answer} → Err d ≡ told (traced b) (further_read n rows b s at) → Err d ≡ runs (further_loop n rows) (m - i) b b s at
  further_stop e =
      let t = left_bad path_taken b f g (traced b) e in
      ap Err t.3 ∙ turn_stop (further_loop n rows) s (m - i) (omega arith) b b at (within (build_path (rows_graph n rows) b) s at low ∙ t.2)

  pub further_go : {x : Traced} → Ok x ≡ told (traced b) (further_read n rows b s at)
      → runs (further_loop n rows) (m - (i + 1)) (build_in x.taken.sets pointers linked) (build_in x.taken.sets pointers linked) s x.taken.next ≡ runs (further_loop n rows) (m - i) b b s at
  further_go {x} e =
      let t = left_got path_taken b f g (traced b) e in
      let P = t.0 in
      let k : build_in x.taken.sets pointers linked ≡ path_taken b P = same_build (ap (λ (y : Traced). y.taken.sets) t.3) t.4 t.5 in
      let z : m - (i + 1) ≡ m - i - 1 = omega arith in
      let r = within (build_path (rows_graph n rows) b) s at low ∙ t.2 in
      rw z (ap (λ (next : ℕ). runs (further_loop n rows) (m - i - 1) (build_in x.taken.sets pointers linked) (build_in x.taken.sets pointers linked) s next) (ap (λ (y : Traced). y.taken.next) t.3)
      ∙ turn_go (further_loop n rows) s (m - i) (omega arith) b b r k k)

-- after the last of them
module _ (n : ℕ) (rows s : List ℕ) (b : Build) (at k : ℕ) (none : k ≤ 0) where
  pub further_done : all_below n (has b.sets.branch.words) ≡ true → Ok at ≡ runs (further_loop n rows) k b b s at
  further_done e = rw (← turn_done (further_loop n rows) s k none b b at, e)

  pub further_open : all_below n (has b.sets.branch.words) ≡ false → Err (CertificateFault 28 at) ≡ runs (further_loop n rows) k b b s at
  further_open e = rw (← turn_done (further_loop n rows) s k none b b at, e)

-- the start with the pairs of ends still to be joined, after i of six
abbrev pub start_with : List (ℕ × ℕ) → ℕ → Build → BuildStart
start_with pairs i b = record { ends = drop i pairs; build = b }

-- only the pair that comes next counts
next-pair : (g : Graph) (l : ℕ × ℕ) (es : List (ℕ × ℕ)) (b : Build) (s : List ℕ) (at : ℕ) → start_on g (record { ends = l ∷ es; build = b }) s at ≡ start_on g (towards l b) s at
unfolding start_on
next-pair g l es b s at = refl

same_start : {es es' : List (ℕ × ℕ)} {b b' : Build} → es ≡ es' → b ≡ b' → ◌≡◌ {A = BuildStart} (record { ends = es; build = b }) (record { ends = es'; build = b' })
same_start e f = rw (e, f)

-- what a path of the start hands on
abbrev pub start_hand : Build → Path → ℕ → Taken
start_hand b P next = record { next = next; sets = (entered b P).sets }

-- a turn over the paths of the start, after i of six
module _ (n : ℕ) (rows s : List ℕ) (pairs : List (ℕ × ℕ)) (b : Build) (at i : ℕ) {l : ℕ × ℕ} {pointers linked : List ℕ} (low : n ≤ capacity) (some : i < 6) (six : length pairs ≡ 6) (next_ends : l ≡ get_or pairs i (0, 0))
    (f : pointers ≡ (on_path_read entered b (start_path_read n rows l b s at)).pointers) (g : linked ≡ (on_path_read entered b (start_path_read n rows l b s at)).linked) where
  pairs_on : drop i pairs ≡ l ∷ drop (i + 1) pairs
  pairs_on = rw next_ends (drop_more pairs i (0, 0) (omega arith))

  abbrev st : BuildStart
  st = start_with pairs i b

  tested_next : start_on (rows_graph n rows) st s at ≡ start_on (rows_graph n rows) (towards l b) s at
  tested_next =
      ap (λ (es : List (ℕ × ℕ)). start_on (rows_graph n rows) (record { ends = es; build = b }) s at) pairs_on
      ∙ next-pair (rows_graph n rows) l (drop (i + 1) pairs) b s at

  abbrev reading : Reader Path
  reading = start_on (rows_graph n rows) (towards l b)

  pub start-stop : {d : Answer} → Err d ≡ told (start_hand b) (start_path_read n rows l b s at)
      → (Err d ≡ runs (start_loop n rows) (6 - i) st st s at) × (build_in b.sets pointers linked ≡ (led (start_on (rows_graph n rows)) start_entered (6 - i) st s at).build)
  start-stop e =
      let t = left_bad entered b f g (start_hand b) e in
      let r = tested_next ∙ within reading s at low ∙ t.2 in
      let k = led-stop (start_on (rows_graph n rows)) start_entered s (6 - i) st at r in
      (ap Err t.3 ∙ turn_stop (start_loop n rows) s (6 - i) (omega arith) st st at r, same_build {sets = b.sets} refl t.4 t.5 ∙ ap (λ (z : BuildStart). z.build) k)

  pub start-go : {x : Taken} → Ok x ≡ told (start_hand b) (start_path_read n rows l b s at)
      → let on = start_with pairs (i + 1) (build_in x.sets pointers linked) in
      (runs (start_loop n rows) (6 - (i + 1)) on on s x.next ≡ runs (start_loop n rows) (6 - i) st st s at)
      × (led (start_on (rows_graph n rows)) start_entered (6 - (i + 1)) on s x.next ≡ led (start_on (rows_graph n rows)) start_entered (6 - i) st s at)
  start-go {x} e =
      let t = left_got entered b f g (start_hand b) e in
      let r = tested_next ∙ within reading s at low ∙ t.2 in
      let on = start_with pairs (i + 1) (build_in x.sets pointers linked) in
      let k : on ≡ start_entered st t.0 = same_start (sym (ap later_ends pairs_on)) (same_build (ap (λ (y : Taken). y.sets) t.3) t.4 t.5) in
      let z : 6 - (i + 1) ≡ 6 - i - 1 = omega arith in
      let next : x.next ≡ t.1 = ap (λ (y : Taken). y.next) t.3 in
      rw (z, next) (turn_go (start_loop n rows) s (6 - i) (omega arith) st st r k k, led-go (start_on (rows_graph n rows)) start_entered s (6 - i) (omega arith) st r k)
