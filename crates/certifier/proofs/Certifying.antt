-- The certificate of a cut and of a build, from the code's structs. Assumes nothing.
use Prim.Native.Nat.{ℕ, ◌+◌, ◌-◌, ◌≤◌, ◌<◌}
use mathlib.Core.Path.{◌≡◌, refl, sym, ap, subst, ◌∙◌}
use mathlib.Core.Bool.{Bool, true, false, cond}
use mathlib.Core.List.{List, [], ◌∷◌, ◌++◌}
use native.Mathlib.Omega.{arith}
use Rattle.std.specs.Prelude.{Ok, Err}
use lib.Dec.{ltb}
use lib.ListN.{length, take, replicate, length-append, length-take}
use lib.Seq.{take-append_seam}
use borrow.Author.Tests.{lt-ltb, le-ltb}
use Rattle.vertexset.specs.Set.{count}
use Rattle.vertexset.specs.declared.VertexSet.{VertexSet}
use Rattle.construction.specs.Sets.{members, added}
use Rattle.construction.specs.Ears as construction
use Rattle.construction.specs.Ears.{no_cut, is_cut, path_space, eared, ears}
use Rattle.construction.specs.Start.{Begun, begun}
use Rattle.construction.specs.Steps.{State, build, finish}
use Rattle.construction.specs.Certificate.{lengthened, chosen, build_numbers}
use Rattle.construction.proofs.SetLaws.{added-room}
use Rattle.detours.specs.Code.{cut_of, cut_in, flat_of, ears_of}
use Rattle.detours.specs.declared.Cut.{Cut}
use Rattle.detours.specs.declared.Ears.{Ears}
use Rattle.starting.specs.Code.{paths_of, start_of}
use Rattle.starting.specs.declared.Start.{Start}
use Rattle.stepping.specs.Code.{built_of, finished_of, built_in}
use Rattle.stepping.specs.declared.Built.{Built}
use Rattle.certifier.specs.Code.{cut_numbers_in, cut_certificate_in, start_in, start_certificate_in}
use Rattle.certifier.proofs.Written.{lengthened-size}

-- ---- a cut, or a start

pub err_of : {A E : Type 0} (b : Bool) (v : A) {e c : E} → Err c ≡ cond b (Err e) (Ok v) → (b ≡ true) × (c ≡ e)
err_of true v q = (refl, cc)
err_of false v q = cc

pub ok_of : {A E : Type 0} (b : Bool) (e : E) {v w : A} → Ok w ≡ cond b (Err e) (Ok v) → (b ≡ false) × (w ≡ v)
ok_of true e q = cc
ok_of false e q = (refl, cc)

-- ---- a list at the front of an array has room there

pub flat_short : (l : List ℕ) → length (flat_of l) ≡ path_space → length l ≤ path_space
flat_short l h = omega (arith, length-append l (replicate (path_space - length l) 0))

pub ears-low : (x : construction.Eared) (e : Ears) → e ≡ ears_of x → length e.flat ≡ path_space → e.len ≤ path_space
ears-low x e q h =
    let z : length (flat_of x.flat) ≡ path_space = sym (ap (λ (y : Ears). length y.flat) q) ∙ h in
    subst (λ (n : ℕ). n ≤ path_space) (sym (ap (λ (y : Ears). y.len) q)) (flat_short x.flat z)

pub start-low : (x : Begun) {s : Start} → Ok s ≡ start_of x → length s.flat ≡ path_space → s.len ≤ path_space
start-low x {s} e h =
    let q : s ≡ paths_of x = (ok_of (is_cut x.cut_by) _ e).1 in
    let z : length (flat_of x.flat) ≡ path_space = sym (ap (λ (y : Start). length y.flat) q) ∙ h in
    subst (λ (n : ℕ). n ≤ path_space) (sym (ap (λ (y : Start). y.len) q)) (flat_short x.flat z)

-- ---- the certificate of a cut

module _ (rows : List ℕ) (full : VertexSet) (c : Cut) {k : ℕ} (n : k ≡ count c.removed.words) where
  by_size : {b : Bool} → ltb k 2 ≡ b
      → cond b (cut_numbers_in rows (ears_of (eared [] 0 no_cut)) c) (cut_numbers_in rows (ears_of (ears rows full)) (cut_of (chosen (ears rows full) (cut_in c)))) ≡ cut_certificate_in rows full c
  by_size t =
      ap (λ (b : Bool). cond b (cut_numbers_in rows (ears_of (eared [] 0 no_cut)) c) (cut_numbers_in rows (ears_of (ears rows full)) (cut_of (chosen (ears rows full) (cut_in c)))))
      (sym t ∙ ap (λ (m : ℕ). ltb m 2) n)

  pub few_removed : k < 2 → (e : Ears) → e ≡ ears_of (eared [] 0 no_cut) → cut_numbers_in rows e c ≡ cut_certificate_in rows full c
  few_removed h e q = ap (λ (x : Ears). cut_numbers_in rows x c) q ∙ by_size (lt-ltb k 2 h)

  module _ (h : 2 ≤ k) (e : Ears) (q : e ≡ ears_of (ears rows full)) {y : Bool} (t : y ≡ is_cut (cut_in e.cut)) where
    ears-test : is_cut (ears rows full).cut_by ≡ y
    ears-test = ap (λ (x : Ears). is_cut (cut_in x.cut)) (sym q) ∙ sym t

    pub ears-fail : y ≡ true → cut_numbers_in rows e e.cut ≡ cut_certificate_in rows full c
    ears-fail u =
        ap (λ (x : Ears). cut_numbers_in rows x x.cut) q
        ∙ ap (λ (b : Bool). cut_numbers_in rows (ears_of (ears rows full)) (cut_of (cond b (ears rows full).cut_by (cut_in c)))) (sym (ears-test ∙ u)) ∙ by_size (le-ltb k 2 h)

    pub ears-stand : y ≡ false → cut_numbers_in rows e c ≡ cut_certificate_in rows full c
    ears-stand u =
        ap (λ (x : Ears). cut_numbers_in rows x c) q
        ∙ ap (λ (b : Bool). cut_numbers_in rows (ears_of (ears rows full)) (cut_of (cond b (ears rows full).cut_by (cut_in c)))) (sym (ears-test ∙ u)) ∙ by_size (le-ltb k 2 h)

-- ---- the certificate of a build

-- the build takes the start's vertices and paths only
pub build-same : (rows : List ℕ) (full : VertexSet) (b : Begun) → build rows full (begun b.four b.flat) ≡ build rows full b
unfolding build
build-same rows full b = refl

module _ (rows : List ℕ) (n : ℕ) (full : VertexSet) (s : Start) (low : s.len ≤ path_space) {b : Built} (e : b ≡ built_in rows n full s.four (take s.len s.flat)) where
  abbrev st : State
  st = build rows full (start_in s)

  paths_are : added path_space [] (take s.len s.flat) ≡ take s.len s.flat
  paths_are =
      added-room path_space [] (take s.len s.flat) (let z : 0 + length (take s.len s.flat) ≤ path_space = omega (arith, length-take s.len s.flat) in z)

  built_is : b ≡ finished_of rows n st
  built_is =
      e ∙ ap (λ (l : List ℕ). finished_of rows n (build rows full (begun s.four l))) paths_are
      ∙ ap (finished_of rows n) (build-same rows full (start_in s))

  module _ {y : Bool} (t : y ≡ is_cut (cut_in b.cut)) where
    build-test : is_cut st.cut_by ≡ y
    build-test = ap (λ (x : Built). is_cut (cut_in x.cut)) (sym built_is) ∙ sym t

    by_cut : {x : Bool} → y ≡ x → cond x (cut_certificate_in rows full (cut_of st.cut_by)) (build_numbers s.four (finish rows n st.flat)) ≡ start_certificate_in rows n full s
    by_cut u = ap (λ (x : Bool). cond x (cut_certificate_in rows full (cut_of st.cut_by)) (build_numbers s.four (finish rows n st.flat))) (sym (build-test ∙ u))

    pub build-cut : y ≡ true → cut_certificate_in rows full b.cut ≡ start_certificate_in rows n full s
    build-cut u = ap (λ (x : Built). cut_certificate_in rows full x.cut) built_is ∙ by_cut u

    module _ (u : y ≡ false) where
      abbrev paths : List ℕ
      paths = finish rows n st.flat

      all-built : b ≡ built_of paths st.cut_by
      all-built = built_is ∙ ap (λ (x : Bool). built_of (cond x st.flat paths) st.cut_by) (build-test ∙ u)

      pub build-room : length b.flat ≡ path_space → (b.len ≤ length b.flat) × (b.len ≤ path_space)
      build-room h =
          let z : length (flat_of paths) ≡ path_space = sym (ap (λ (x : Built). length x.flat) all-built) ∙ h in
          let m : b.len ≤ path_space = subst (λ (k : ℕ). k ≤ path_space) (sym (ap (λ (x : Built). x.len) all-built)) (flat_short paths z) in
          (omega arith, m)

      module _ {done : List ℕ} (d : done ≡ (lengthened (take b.len b.flat)).0) where
        taken : take b.len b.flat ≡ paths
        taken = ap (λ (x : Built). take x.len x.flat) all-built ∙ take-append_seam paths (replicate (path_space - length paths) 0)

        pub done_short : length b.flat ≡ path_space → length done ≤ path_space
        done_short h = let r = build-room h in omega (arith, ap length d, lengthened-size (take b.len b.flat), length-take b.len b.flat)

        pub build-done : 3 ∷ (members s.four ++ done) ≡ start_certificate_in rows n full s
        build-done = ap (λ (l : List ℕ). 3 ∷ (members s.four ++ l)) (d ∙ ap (λ (l : List ℕ). (lengthened l).0) taken) ∙ by_cut u
