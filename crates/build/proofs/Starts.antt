-- The start and the whole of a certificate, from what its parts gave. Assumes nothing.
use Prim.Native.Nat.{ℕ, ◌<◌, ◌≤◌}
use mathlib.Core.List.{List}
use mathlib.Core.Bool.{Bool, true, false, cond}
use mathlib.Core.Path.{◌≡◌, refl, sym, ap, ◌∙◌}
use borrow.Author.Tests.{le-leb, lt-leb, leb-true}
use Rattle.std.specs.Prelude.{Ok, Err}
use Rattle.record.specs.Read.{Read, Read.Got, Read.Refused, Reader, on_read, ◌▸◌, many, or_kept, led, check, folded}
use Rattle.record.specs.Loop.{runs, finish}
use Rattle.record.specs.declared.Answer.{Answer}
use Rattle.record.specs.declared.Answer.TheVariants.{CertificateFault}
use Rattle.record.proofs.Laws.{on_got, carry}
use Rattle.record.proofs.Loops.{led-folded}
use Rattle.vertexset.specs.Set.{has, empty_set, capacity}
use Rattle.connectivity.specs.Path.{Path}
use Rattle.certificates.specs.Tests.{all_below}
use Rattle.certificates.specs.Records.{branch_four}
use Rattle.graph.specs.Rows.{bare_rows, rows_graph}
use Rattle.paths.specs.Items.{told, limited, end_read}
use Rattle.paths.proofs.Told.{told-ok, told-err}
use Rattle.paths.proofs.Ends.{end_then}
use Rattle.build.specs.declared.Build.{Build}
use Rattle.build.specs.declared.Four.{Four}
use Rattle.build.specs.declared.Taken.{Taken}
use Rattle.build.specs.State.{BuildStart, bare_on, bare_pointers, start_of, start_on, start_entered, start_in, build_start, started, started_build, path_taken, build_path, build_body}
use Rattle.build.specs.Code.{build_in, four_read, four_of, start_left, start_loop, further_loop}
use Rattle.build.proofs.Inner.{same_build}
use Rattle.build.proofs.Taking.{told-refused, limit_kept, limit_refused, within-limit}

-- what the four that were handed back tell of what was read
four_told : (x : Read (ℕ × (ℕ × (ℕ × ℕ)))) {f : Four} → Ok f ≡ told four_read x → x ≡ Got (four_of f) f.next
four_told x e = let t = told-ok four_read x e in t.2 ∙ sym (ap (λ (f : Four). Got (four_of f) f.next) t.3)

-- a start beside tables that are lent
module _ (n : ℕ) (rows s : List ℕ) (at : ℕ) (pointers linked : List ℕ) where
  abbrev reading : Reader ((ℕ × (ℕ × (ℕ × ℕ))) × List Path)
  reading = start_in pointers linked (rows_graph n rows)

  abbrev left : Build
  left = start_left pointers linked (rows_graph n rows) s at

  start-stop : {q p : ℕ} → branch_four n s at ≡ Refused q p → reading s at ≡ Refused q p
  unfolding start_in ◌▸◌
  start-stop e = rw e

  -- what is handed on of a start that was read
  abbrev pub hand : (ℕ × (ℕ × (ℕ × ℕ))) × List Path → ℕ → Taken
  hand x next = record { next = next; sets = (started pointers linked x).sets }

  start-paths : (b : ℕ × (ℕ × (ℕ × ℕ))) {from : ℕ} → branch_four n s at ≡ Got b from
      → runs (start_loop n rows) 6 (start_of pointers linked b) (start_of pointers linked b) s from ≡ told hand (reading s at)
  unfolding told start_in ◌▸◌ runs
  start-paths b {from} e = rw e (go (many (start_on (rows_graph n rows)) start_entered 6 (start_of pointers linked b) s from))
    where
      paired : List Path → ℕ → Read ((ℕ × (ℕ × (ℕ × ℕ))) × List Path)
      paired l next = Got (b, l) next

      go : (y : Read (List Path)) → finish start_entered (start_loop n rows).ok (start_loop n rows).bad (start_of pointers linked b) y ≡ told hand (on_read y paired)
      go (Got l next) = refl
      go (Refused q p) = refl

  -- where the four are refused, the tables are as they were
  four-left : {q p : ℕ} → limited n (branch_four n) s at ≡ Refused q p → bare_on empty_set pointers linked ≡ left
  unfolding start_left
  four-left e = rw e

  pub start-over : capacity < n → (Err (CertificateFault 9 at) ≡ told hand (limited n reading s at)) × (bare_on empty_set pointers linked ≡ left)
  start-over h = (told-refused hand {q = 9} {p = at} (rw (lt-leb n capacity h)), four-left {q = 9} {p = at} (rw (lt-leb n capacity h)))

  module _ (low : n ≤ capacity) where
    within : {A : Type 0} (R : Reader A) → limited n R s at ≡ R s at
    within R = limit_kept n R s at (le-leb n capacity low) refl

    pub start-unread : {q p : ℕ} → branch_four n s at ≡ Refused q p → (Err (CertificateFault q p) ≡ told hand (limited n reading s at)) × (bare_on empty_set pointers linked ≡ left)
    start-unread e = (told-refused hand (within reading ∙ start-stop e), four-left (within (branch_four n) ∙ e))

    pub start-six : {f : Four} → Ok f ≡ told four_read (branch_four n s at)
        → (runs (start_loop n rows) 6 (start_of pointers linked (four_of f)) (start_of pointers linked (four_of f)) s f.next ≡ told hand (limited n reading s at))
        × ((led (start_on (rows_graph n rows)) start_entered 6 (start_of pointers linked (four_of f)) s f.next).build ≡ left)
    unfolding start_left
    start-six {f} e =
        let t = four_told (branch_four n s at) e in
        (start-paths (four_of f) t ∙ sym (ap (told hand) (within reading)), rw (within (branch_four n), t))

  -- and where the whole start is read, its paths are entered
  start_left_lem : {y : (ℕ × (ℕ × (ℕ × ℕ))) × List Path} {next : ℕ} → limited n reading s at ≡ Got y next → left ≡ started pointers linked y
  unfolding start_left start_in ◌▸◌
  start_left_lem e =
      let l = within-limit n reading e in
      let b = on_got (branch_four n s at) _ l.1 in
      let p = on_got (many (start_on (rows_graph n rows)) start_entered 6 (start_of pointers linked b.0) s b.1) _ b.3 in
      let four : limited n (branch_four n) s at ≡ Got b.0 b.1 = limit_kept n (branch_four n) s at l.0 b.2 in
      let six = led-folded (start_on (rows_graph n rows)) start_entered 6 (start_of pointers linked b.0) s b.1 p.2 in
      carry (λ (y : (ℕ × (ℕ × (ℕ × ℕ))) × List Path) z. left ≡ (folded start_entered (start_of pointers linked y.0) y.1).build) p.3
      (ap (λ (x : Read (ℕ × (ℕ × (ℕ × ℕ)))). or_kept x (λ b mid. (led (start_on (rows_graph n rows)) start_entered 6 (start_of pointers linked b) s mid).build) (bare_on empty_set pointers linked)) four
      ∙ ap (λ (st : BuildStart). st.build) six)

-- a certificate of kind 3 after its start
module _ (n : ℕ) (rows s : List ℕ) (at : ℕ) where
  body-stop : (count : ℕ) {q p : ℕ} → build_start (rows_graph n rows) s at ≡ Refused q p → build_body (rows_graph n rows) count s at ≡ Refused q p
  unfolding build_body ◌▸◌
  body-stop count e = rw e

  further : Build → ℕ → Reader ((l : List Path) × Unit {0})
  further b count = many (build_path (rows_graph n rows)) path_taken count b ▸ λ l. check 28 (all_below n (has (folded path_taken b l).sets.branch.words))

  further_paths : (b : Build) (count from : ℕ) → runs (further_loop n rows) count b b s from ≡ end_read (further b count s from)
  unfolding further told ◌▸◌ runs check
  further_paths b count from = go (many (build_path (rows_graph n rows)) path_taken count b s from)
    where
      last : (l : List Path) (next : ℕ) (t : Bool) → cond t (Ok next) (Err (CertificateFault 28 next)) ≡ end_read {A = (l : List Path) × Unit {0}} (on_read (cond t (Got tt next) (Refused 28 next)) (λ u z. Got (l, u) z))
      last l next true = refl
      last l next false = refl

      go : (y : Read (List Path)) → finish path_taken (further_loop n rows).ok (further_loop n rows).bad b y
          ≡ end_read {A = (l : List Path) × Unit {0}} (on_read y (λ l mid. on_read (check 28 (all_below n (has (folded path_taken b l).sets.branch.words)) s mid) (λ u z. Got (l, u) z)))
      go (Got l next) = last l next (all_below n (has (folded path_taken b l).sets.branch.words))
      go (Refused q p) = refl

  body-paths : (y : (ℕ × (ℕ × (ℕ × ℕ))) × List Path) (count : ℕ) {from : ℕ} → build_start (rows_graph n rows) s at ≡ Got y from
      → runs (further_loop n rows) count (started_build y) (started_build y) s from ≡ end_read (build_body (rows_graph n rows) count s at)
  unfolding further build_body
  body-paths y count {from} e = further_paths (started_build y) count from ∙ end_then (build_start (rows_graph n rows)) (λ x. further (started_build x) count) e

  abbrev start : Reader ((ℕ × (ℕ × (ℕ × ℕ))) × List Path)
  start = build_start (rows_graph n rows)

  pub build-stop : (count : ℕ) {d : Answer} → Err d ≡ told (hand n rows s at bare_pointers bare_rows) (limited n start s at) → Err d ≡ end_read (limited n (build_body (rows_graph n rows) count) s at)
  build-stop count e =
      let t = told-err (hand n rows s at bare_pointers bare_rows) (limited n start s at) e in
      ap Err t.3 ∙ told-refused (λ a next. next) (limit_refused n start (build_body (rows_graph n rows) count) s at (body-stop count) t.2)

  -- what a start that was read beside bare tables tells
  module _ {x : Taken} {pointers linked : List ℕ} (e : Ok x ≡ told (hand n rows s at bare_pointers bare_rows) (limited n start s at))
      (f : pointers ≡ (start_left bare_pointers bare_rows (rows_graph n rows) s at).pointers) (g : linked ≡ (start_left bare_pointers bare_rows (rows_graph n rows) s at).linked) where
    pub started_told : (y : (ℕ × (ℕ × (ℕ × ℕ))) × List Path) × ((limited n start s at ≡ Got y x.next) × (build_in x.sets pointers linked ≡ started_build y))
    started_told =
        let t = told-ok (hand n rows s at bare_pointers bare_rows) (limited n start s at) e in
        let next : t.1 ≡ x.next = sym (ap (λ (y : Taken). y.next) t.3) in
        let read : limited n start s at ≡ Got t.0 x.next = t.2 ∙ ap (Got t.0) next in
        let k = start_left_lem n rows s at bare_pointers bare_rows read in
        (t.0, (read, same_build (ap (λ (y : Taken). y.sets) t.3) (f ∙ ap (λ (b : Build). b.pointers) k) (g ∙ ap (λ (b : Build). b.linked) k)))

    pub build-low : n ≤ capacity
    build-low = leb-true _ _ (within-limit n start started_told.1.0).0

    pub build-on : (count : ℕ) → runs (further_loop n rows) count (build_in x.sets pointers linked) (build_in x.sets pointers linked) s x.next ≡ end_read (limited n (build_body (rows_graph n rows) count) s at)
    build-on count =
        let t = started_told in
        let l = within-limit n start t.1.0 in
        ap (λ (b : Build). runs (further_loop n rows) count b b s x.next) t.1.1
        ∙ body-paths t.0 count l.1
        ∙ sym (ap end_read (limit_kept n (build_body (rows_graph n rows) count) s at l.0 refl))
