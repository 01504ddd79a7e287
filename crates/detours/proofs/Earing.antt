-- Ears: a search ends with its cut or goes on with its path, and what is left of the definition's ears gives the whole. Assumes nothing.
use Prim.Native.Nat.{ℕ, suc, ◌+◌, ◌-◌, ◌≤◌, ◌<◌}
use mathlib.Core.Path.{◌≡◌, refl, sym, ap, subst, ◌∙◌}
use mathlib.Core.Bool.{Bool, true, false, cond}
use mathlib.Core.List.{List, [], ◌∷◌}
use native.Mathlib.Omega.{arith}
use lib.Dec.{ltb}
use lib.ListN.{length, take, replicate}
use Rattle.std.specs.Prelude.{Ok, Err}
use Rattle.vertexset.specs.Set.{empty_set, count, capacity}
use Rattle.vertexset.specs.declared.VertexSet.{VertexSet}
use Rattle.search.specs.Arrays.{placed, placed_end}
use Rattle.search.specs.Code.{Vertices, path_room}
use Rattle.construction.specs.Sets.{stop, minus, single, set_with_all, empty}
use Rattle.construction.specs.Search.{explore}
use Rattle.construction.specs.Ears as construction
use Rattle.construction.specs.Ears.{no_cut, is_cut, failed, answered, near_all, near, way_out, back_from, detour, cycle, path_space, add_path, Eared, eared, ears_on, ears}
use Rattle.construction.proofs.Basics.{Sized}
use Rattle.construction.proofs.SetLaws.{sized_empty, sized_all}
use Rattle.construction.proofs.Near.{near-grows, near-set}
use Rattle.detours.specs.Code.{cut_of, cut_in, settled_of, ears_of, Kept}
use Rattle.detours.specs.declared.Cut.{Cut}
use Rattle.detours.specs.declared.Ears.{Ears}
use Rattle.detours.proofs.Routes.{answered-one}
use Rattle.detours.proofs.Kept.{kept_size}
use Rattle.detours.proofs.Filled.{Flat, filled_take, filled_added, filled_none, flat_kept, kept_flat}
use Rattle.detours.proofs.Answered.{Found, ok_test, ok_path, err_test, err_cut}

-- ---- paths are short

none-short : (removed side : VertexSet) → length (failed removed side).path ≤ path_room
none-short removed side = omega arith

back-short : (rows : List ℕ) (set : VertexSet) (e : ℕ × ℕ) → length (back_from rows set e).path ≤ path_room
back-short rows set e = go (ltb e.0 capacity)
  where
    go : (b : Bool) → length (cond {A = construction.Found} b (answered (explore rows (single e.1) (minus set (single e.0)) (single e.0)) (single e.0) (e.0 ∷ [])) (failed empty_set set)).path ≤ path_room
    go true = answered-one (explore rows (single e.1) (minus set (single e.0)) (single e.0)) (single e.0) e.0
    go false = none-short empty_set set

pub detour-short : (rows : List ℕ) (n set : VertexSet) → length (detour rows n set).path ≤ path_room
unfolding detour
detour-short rows n set = back-short rows set (way_out rows n set)

-- ---- what the code's struct holds

abbrev pub ears_at : List ℕ → ℕ → ℕ → Cut → Ears
ears_at flat len count cut = record { flat = flat; len = len; count = count; cut = cut }

-- ---- a search: where it fails its cut is the answer, else its path goes on

abbrev pub stage : {A : Type 0} → (construction.Cut → A) → (List ℕ → A) → construction.Found → A
stage end more g = cond (is_cut g.cut_by) (end g.cut_by) (more g.path)

module _ {A : Type 0} (end : construction.Cut → A) (more : List ℕ → A) (g : construction.Found) where
  pub stage_cut : {c : Cut} → Err c ≡ settled_of g → end (cut_in c) ≡ stage end more g
  stage_cut e = rw (err_test g e) (ap (λ (x : Cut). end (cut_in x)) (err_cut g e))

  pub stage_on : {p : Vertices} → Ok p ≡ settled_of g → more p.items ≡ stage end more g
  stage_on e = rw (ok_test g e) (ap more (ok_path g e))

-- ---- the first ear

-- it, and the ears behind it
abbrev pub ears_from : List ℕ → VertexSet → List ℕ → Eared
ears_from rows full path = ears_on rows full capacity (add_path [] path) 1 (set_with_all empty_set path)

module _ (rows : List ℕ) (full : VertexSet) where
  pub first_cut : {c : Cut} → Err c ≡ settled_of (cycle rows) → eared [] 0 (cut_in c) ≡ ears rows full
  unfolding ears
  first_cut e = stage_cut (eared [] 0) (ears_from rows full) (cycle rows) e

  pub first_on : {p : Vertices} → Ok p ≡ settled_of (cycle rows) → ears_from rows full p.items ≡ ears rows full
  unfolding ears
  first_on e = stage_on (eared [] 0) (ears_from rows full) (cycle rows) e

-- ---- the loop

pub record Earing (rows : List ℕ) (full : VertexSet) (whole : Eared) (flat : List ℕ) (len : ℕ) (set n : VertexSet) (count counter : ℕ) : Type 0 where
  pub kept : Kept flat len
  pub sized : Sized set
  pub same_near : n ≡ near rows set
  pub turns : count ≡ counter + 1
  pub rest : ears_on rows full (capacity - counter) (take len flat) count set ≡ whole

pub first_ear_lem : (rows : List ℕ) (full : VertexSet) (path : List ℕ) {flat : List ℕ} {len : ℕ} {none none2 set n : VertexSet}
    → flat ≡ placed (replicate path_space 0) 0 (stop ∷ path) → len ≡ placed_end (replicate path_space 0) 0 (stop ∷ path)
    → none ≡ empty_set → set ≡ set_with_all none path → none2 ≡ empty_set → n ≡ near_all rows none2 path → Earing rows full (ears_from rows full path) flat len set n 1 0
first_ear_lem rows full path {flat} {len} {n = n} o k z s y m =
    let f : Flat flat len (add_path [] path) = filled_added (filled_none path_space) (stop ∷ path) o k in
    let v : _ ≡ set_with_all empty_set path = s ∙ ap (λ (x : VertexSet). set_with_all x path) z in
    record {
      kept = flat_kept f;
      sized = subst Sized (sym v) (sized_all empty_set path sized_empty);
      same_near = m ∙ ap (λ (x : VertexSet). near_all rows x path) y ∙ sym (near-set rows path) ∙ ap (near rows) (sym v);
      turns = refl;
      rest = λ i. ears_on rows full capacity (filled_take f i) 1 (v i);
    }

-- by the two tests of a turn
abbrev turn : List ℕ → VertexSet → ℕ → List ℕ → ℕ → VertexSet → Bool → construction.Found → Eared
turn rows full f flat k set done d = cond done (eared flat k no_cut) (stage (eared flat k) (λ (p : List ℕ). ears_on rows full f (add_path flat p) (k + 1) (set_with_all set p)) d)

ears-none : (rows : List ℕ) (full : VertexSet) (flat : List ℕ) (k : ℕ) (set : VertexSet) → ears_on rows full 0 flat k set ≡ eared flat k no_cut
unfolding ears_on
ears-none rows full flat k set = refl

ears-turn : (rows : List ℕ) (full : VertexSet) (f : ℕ) (flat : List ℕ) (k : ℕ) (set : VertexSet)
    → ears_on rows full (suc f) flat k set ≡ turn rows full f flat k set (empty (minus full set)) (detour rows (near rows set) set)
unfolding ears_on
ears-turn rows full f flat k set = refl

module _ {rows : List ℕ} {full : VertexSet} {whole : Eared} {flat : List ℕ} {len : ℕ} {set n : VertexSet} {count counter : ℕ} (g : Earing rows full whole flat len set n count counter) where
  shown : {c : Cut} (d : construction.Cut) → c ≡ cut_of d → eared (take len flat) count d ≡ whole → ears_at flat len count c ≡ ears_of whole
  shown d e w = (λ i. record { flat = g.kept.0 i; len = sym (kept_size flat len g.kept) i; count = count; cut = e i }) ∙ ap ears_of w

  -- as many turns are left after this one
  abbrev left : ℕ
  left = capacity - (counter + 1)

  pub earing_end : capacity ≤ counter → {c : Cut} → c ≡ cut_of no_cut → ears_at flat len count c ≡ ears_of whole
  earing_end h e =
      let z : 0 ≡ capacity - counter = omega arith in
      shown no_cut e (sym (ears-none rows full (take len flat) count set) ∙ ap (λ (f : ℕ). ears_on rows full f (take len flat) count set) z ∙ g.rest)

  module _ (h : counter < capacity) {out : VertexSet} {b : Bool} (o : out ≡ minus full set) (t : b ≡ empty out) where
    next : turn rows full left (take len flat) count set b (detour rows (near rows set) set) ≡ whole
    next =
        let z : suc left ≡ capacity - counter = omega arith in
        ap (λ (x : Bool). turn rows full left (take len flat) count set x (detour rows (near rows set) set)) (t ∙ ap empty o)
        ∙ sym (ears-turn rows full left (take len flat) count set) ∙ ap (λ (f : ℕ). ears_on rows full f (take len flat) count set) z ∙ g.rest

    pub earing_full : b ≡ true → {c : Cut} → c ≡ cut_of no_cut → ears_at flat len count c ≡ ears_of whole
    earing_full u e = shown no_cut e (rw u at next)

    module _ (u : b ≡ false) where
      abbrev more : List ℕ → Eared
      more p = ears_on rows full left (add_path (take len flat) p) (count + 1) (set_with_all set p)

      way : {d : Found} → d ≡ settled_of (detour rows n set) → d ≡ settled_of (detour rows (near rows set) set)
      way e = e ∙ ap (λ (x : VertexSet). settled_of (detour rows x set)) g.same_near

      pub earing_cut : {c : Cut} → Err c ≡ settled_of (detour rows n set) → ears_at flat len count c ≡ ears_of whole
      earing_cut {c} e = shown (cut_in c) refl (stage_cut (eared (take len flat) count) more (detour rows (near rows set) set) (way e) ∙ rw u at next)

      pub earing_on : {p : Vertices} → Ok p ≡ settled_of (detour rows n set) → {l : List ℕ} → l ≡ p.items → {flat2 : List ℕ} {len2 : ℕ} {set2 n2 : VertexSet}
          → flat2 ≡ placed flat len (stop ∷ l) → len2 ≡ placed_end flat len (stop ∷ l) → set2 ≡ set_with_all set l → n2 ≡ near_all rows n l
          → Earing rows full whole flat2 len2 set2 n2 (count + 1) (counter + 1)
      earing_on e {l} p {flat2} {len2} m k a z =
          let s : Flat flat2 len2 (add_path (take len flat) l) = filled_added (kept_flat flat len g.kept) (stop ∷ l) m k in
          record {
            kept = flat_kept s;
            sized = subst Sized (sym a) (sized_all set l g.sized);
            same_near = z ∙ ap (λ (x : VertexSet). near_all rows x l) g.same_near ∙ sym (near-grows rows set l g.sized) ∙ ap (near rows) (sym a);
            turns = omega (arith, g.turns);
            rest = (λ i. ears_on rows full left (filled_take s i) (count + 1) (a i))
                ∙ ap more p ∙ stage_on (eared (take len flat) count) more (detour rows (near rows set) set) (way e) ∙ rw u at next;
          }
