-- The steps of a build, as the code puts them together. Assumes nothing.
use Rattle.std.specs.Prelude.{Option, None, Some, IfSome, Ok, Err, position}
use Prim.Native.Nat.{ℕ, zero, suc, ◌+◌, ◌-◌, ◌≤◌, ◌<◌}
use mathlib.Core.Path.{◌≡◌, refl, sym, ap, subst, ◌∙◌}
use mathlib.Core.Bool.{Bool, true, false, cond, not}
use mathlib.Core.List.{List, []}
use native.Mathlib.Omega.{arith}
use lib.Dec.{ltb}
use lib.ListN.{length, take, get_or}
use lib.Seq.{take_all}
use borrow.Author.Tests.{lt-ltb, le-ltb}
use Rattle.vertexset.specs.Set.{has}
use Rattle.vertexset.specs.declared.VertexSet.{VertexSet}
use Rattle.construction.specs.Sets.{set_of, minus, pair, last_of, place_of, empty}
use Rattle.construction.specs.Search.{explore}
use Rattle.construction.specs.Ears as construction
use Rattle.construction.specs.Ears.{no_cut, is_cut, answered, near, detour}
use Rattle.construction.specs.Steps.{State, state, stopped, extended, segment, off_link, up_to, run_end, link_step, beside_place, reroute, out_taken, out_step, inner_place, step, steps}
use Rattle.construction.proofs.Basics.{Sized}
use Rattle.detours.specs.Code.{cut_of, settled_of}
use Rattle.detours.specs.declared.Cut.{Cut}
use Rattle.detours.proofs.Answered.{Found, ok_test, ok_path, err_test, err_cut}
use Rattle.detours.proofs.Kept.{kept_size, kept_shows}
use Rattle.search.specs.Code.{Vertices}
use Rattle.stepping.specs.Code.{Shows, Holds, state_in, Spans, Works, Left}
use Rattle.stepping.specs.declared.Progress.{Progress}
use Rattle.stepping.specs.declared.Work.{Work}
use Rattle.stepping.proofs.States.{shows_holds, shows_state, same_shows}
use Rattle.std.proofs.lemmas.Bool.{not-true, not-false}
use Rattle.stepping.proofs.Lists.{placed_at, not_placed}
use Rattle.stepping.proofs.Working.{span_low, goal_alone, left_works}

-- ---- a step that stops

abbrev pub stopped_as : Progress → Cut → Progress
stopped_as b c = record { branch = b.branch; built = b.built; near = b.near; len = b.len; at = b.at; going = false; cut = c }

-- by the cut that the definition has
stops : (rows flat : List ℕ) (b : Progress) → Holds rows flat b → {c : Cut} (x : construction.Cut) → c ≡ cut_of x → {r : Progress} → r ≡ stopped_as b c → Shows rows flat r (stopped (state_in flat b) x)
stops rows flat b h x e q =
    record { array = h.kept.0; short = (kept_shows flat b.len h.kept).short; beside = q ∙ rw (kept_size flat b.len h.kept, ← h.same_near, e) }

-- ---- (a) from inside a link

-- a path up to a set
module _ (path : List ℕ) (set : VertexSet) where
  pub up_to-part : {k : ℕ} → position (has set.words) path ≡ Some k → take (k + 1) path ≡ up_to set path
  up_to-part {k} e = rw (placed_at (has set.words) path k e).0

  pub up_to-all : position (has set.words) path ≡ None → path ≡ up_to set path
  up_to-all e = sym (take_all (place_of (has set.words) path + 1) path (omega (arith, not_placed (has set.words) path e)))

-- the way off the link that stands at the place i, and the vertices inside the link
unfoldable pub link_way : List ℕ → State → ℕ → construction.Found
link_way rows st i = off_link rows st i (run_end st.flat (minus st.built st.branch) i)

unfoldable pub link_inner : State → ℕ → VertexSet
link_inner st i = set_of (segment st.flat i (run_end st.flat (minus st.built st.branch) i))

-- its search, as the code puts it together
pub off-found : (rows list : List ℕ) (built link ends seeds rest goals : VertexSet) (i j p q a b x y : ℕ) → link ≡ set_of (segment list i j) → p ≡ i - 1 → a ≡ get_or list p 0 → b ≡ get_or list j 0 → ends ≡ pair a b
    → x ≡ get_or list i 0 → q ≡ j - 1 → y ≡ get_or list q 0 → seeds ≡ pair x y → rest ≡ minus built link → goals ≡ minus rest ends
    → answered (explore rows seeds goals ends) ends [] ≡ off_link rows (state list built built 0) i j
off-found rows list built link ends seeds rest goals i j p q a b x y l e f g h k m n o s t = rw (t, s, o, n, m, k, h, g, f, e, l)

link-taken : (rows : List ℕ) (st : State) (i : ℕ)
    → cond (is_cut (link_way rows st i).cut_by) (stopped st (link_way rows st i).cut_by) (extended st (up_to (link_inner st i) (link_way rows st i).path) i) ≡ link_step rows st i
unfolding link_way link_inner link_step
link-taken rows st i = refl

module _ (rows flat : List ℕ) (b : Progress) (held : Holds rows flat b) (i : ℕ) where
  -- j is the place behind the link's inner vertices
  module _ {j : ℕ} (e : j ≡ run_end (take b.len flat) (minus b.built b.branch) i) where
    pub link-inner : {inner : VertexSet} → inner ≡ set_of (segment (take b.len flat) i j) → inner ≡ link_inner (state_in flat b) i
    unfolding link_inner
    link-inner q = q ∙ rw e

    pub link-found : {f : Found} → f ≡ settled_of (off_link rows (state (take b.len flat) b.built b.built 0) i j) → f ≡ settled_of (link_way rows (state_in flat b) i)
    unfolding link_way
    link-found q = q ∙ rw e

  pub link-stops : {c : Cut} → Err c ≡ settled_of (link_way rows (state_in flat b) i) → {r : Progress} → r ≡ stopped_as b c → Shows rows flat r (link_step rows (state_in flat b) i)
  link-stops e {r} q =
      let h : is_cut (link_way rows (state_in flat b) i).cut_by ≡ true = err_test (link_way rows (state_in flat b) i) e in
      let w : stopped (state_in flat b) (link_way rows (state_in flat b) i).cut_by ≡ link_step rows (state_in flat b) i = rw (← link-taken rows (state_in flat b) i, h) in
      subst (λ (st : State). Shows rows flat r st) w (stops rows flat b held (link_way rows (state_in flat b) i).cut_by (err_cut (link_way rows (state_in flat b) i) e) q)

  pub link-goes : {p : Vertices} → Ok p ≡ settled_of (link_way rows (state_in flat b) i) → {inner : VertexSet} → inner ≡ link_inner (state_in flat b) i → {path l : List ℕ} → path ≡ p.items → l ≡ up_to inner path
      → {out : List ℕ} {r : Progress} → Shows rows out r (extended (state_in flat b) l i) → Shows rows out r (link_step rows (state_in flat b) i)
  link-goes e n q u {out} {r} s =
      let h : is_cut (link_way rows (state_in flat b) i).cut_by ≡ false = ok_test (link_way rows (state_in flat b) i) e in
      let w : extended (state_in flat b) (up_to (link_inner (state_in flat b) i) (link_way rows (state_in flat b) i).path) i ≡ link_step rows (state_in flat b) i = rw (← link-taken rows (state_in flat b) i, h) in
      subst (λ (st : State). Shows rows out r st) (ap (λ (l : List ℕ). extended (state_in flat b) l i) (u ∙ (λ z. up_to (n z) ((q ∙ ok_path (link_way rows (state_in flat b) i) e) z))) ∙ w) s

-- what is left of it is at work
module _ (rows flat : List ℕ) (b : Progress) (w : Work) where
  pub link-works : Sized b.branch → Sized b.built → w.first < w.end → Spans (take b.len flat) (minus b.built b.branch) w → (path : List ℕ) {l : List ℕ} → l ≡ up_to w.link path
      → {x : ℕ} → x ≡ last_of l → (work : Option Work) → IfSome work (λ r. Left (take b.len flat) b.branch w x r)
      → {out : List ℕ} {n : Progress} → Shows rows out n (extended (state_in flat b) l w.first) → Works (state_in out n) work
  link-works sb su up s path {l} q {x} e work k {out} {n} t =
      let m : IfSome work (λ r. Left (take b.len flat) b.branch w (last_of l) r) = subst (λ (v : ℕ). IfSome work (λ r. Left (take b.len flat) b.branch w v r)) e k in
      subst (λ (st : State). Works st work) (sym (shows_state rows out n (extended (state_in flat b) l w.first) t)) (left_works (state_in flat b) sb su w up s l (goal_alone w.link path q) work m)

-- ---- (b) out and back

-- by the test of whether every vertex is in
out_step_lem : (rows : List ℕ) (full : VertexSet) (st : State) → out_step rows full st ≡ cond (empty (minus full st.built)) (stopped st no_cut) (out_taken rows st (detour rows (near rows st.built) st.built))
unfolding out_step
out_step_lem rows full st = refl

module _ (rows : List ℕ) (full : VertexSet) (flat : List ℕ) (b : Progress) (held : Holds rows flat b) {left : VertexSet} (r : left ≡ minus full b.built) {done : Bool} (d : done ≡ empty left) where
  done_is : done ≡ empty (minus full b.built)
  done_is = d ∙ ap empty r

  pub out_done : done ≡ true → {none : Cut} → none ≡ cut_of no_cut → {r : Progress} → r ≡ stopped_as b none → Shows rows flat r (out_step rows full (state_in flat b))
  out_done h n {r} q =
      let w : stopped (state_in flat b) no_cut ≡ out_step rows full (state_in flat b) = rw (out_step_lem rows full (state_in flat b), ← done_is, h) in
      subst (λ (st : State). Shows rows flat r st) w (stops rows flat b held no_cut n q)

  module _ (h : done ≡ false) where
    abbrev way : construction.Found
    way = detour rows (near rows b.built) b.built

    way_found : {f : Found} → f ≡ settled_of (detour rows b.near b.built) → f ≡ settled_of way
    way_found e = e ∙ ap (λ (n : VertexSet). settled_of (detour rows n b.built)) held.same_near

    out_taken_lem : out_taken rows (state_in flat b) way ≡ out_step rows full (state_in flat b)
    out_taken_lem = rw (out_step_lem rows full (state_in flat b), ← done_is, h)

    pub out_stops : {c : Cut} → Err c ≡ settled_of (detour rows b.near b.built) → {r : Progress} → r ≡ stopped_as b c → Shows rows flat r (out_step rows full (state_in flat b))
    out_stops e {r} q =
        let u : is_cut way.cut_by ≡ true = err_test way (way_found e) in
        let w : stopped (state_in flat b) way.cut_by ≡ out_step rows full (state_in flat b) = rw (← out_taken_lem, u) in
        subst (λ (st : State). Shows rows flat r st) w (stops rows flat b held way.cut_by (err_cut way (way_found e)) q)

    -- the place at which the ends of the path stand side by side
    module _ {p : Vertices} (e : Ok p ≡ settled_of (detour rows b.near b.built)) {l : List ℕ} (q : l ≡ p.items) {k x y : ℕ} (last : x ≡ last_of l) (first : y ≡ get_or l 0 0)
        (place : k ≡ beside_place rows x y (take b.len flat)) where
      out_path : l ≡ way.path
      out_path = q ∙ ok_path way (way_found e)

      met : is_cut way.cut_by ≡ false
      met = ok_test way (way_found e)

      place_is : k ≡ beside_place rows (last_of way.path) (get_or way.path 0 0) (take b.len flat)
      place_is = place ∙ rw (last, first, out_path)

      pub out_reroutes : k < b.len → {out : List ℕ} {r : Progress} → Shows rows out r (reroute (state_in flat b) l k)
          → Shows rows out r (out_step rows full (state_in flat b))
      out_reroutes low {out} {r} s =
          let w : reroute (state_in flat b) way.path k ≡ out_step rows full (state_in flat b)
          = rw (← out_taken_lem, met, ← place_is, kept_size flat b.len held.kept, lt-ltb k b.len low) in
          subst (λ (st : State). Shows rows out r st) (ap (λ (p : List ℕ). reroute (state_in flat b) p k) out_path ∙ w) s

      pub out_extends : b.len ≤ k → {out : List ℕ} {r : Progress} → Shows rows out r (extended (state_in flat b) l b.len)
          → Shows rows out r (out_step rows full (state_in flat b))
      out_extends high {out} {r} s =
          let w : extended (state_in flat b) way.path b.len ≡ out_step rows full (state_in flat b)
          = rw (← out_taken_lem, met, ← place_is, kept_size flat b.len held.kept, le-ltb k b.len high) in
          subst (λ (st : State). Shows rows out r st) (ap (λ (p : List ℕ). extended (state_in flat b) p b.len) out_path ∙ w) s

-- ---- one step, and all

one_step : (rows : List ℕ) (full : VertexSet) (st : State) → step rows full st ≡ cond (ltb (inner_place st) (length st.flat)) (link_step rows st (inner_place st)) (out_step rows full st)
unfolding step
one_step rows full st = refl

steps-zero : (rows : List ℕ) (full : VertexSet) (st : State) → steps rows full 0 st ≡ st
unfolding steps
steps-zero rows full st = refl

steps-more : (rows : List ℕ) (full : VertexSet) (k : ℕ) (st : State) → steps rows full (suc k) st ≡ cond st.going (steps rows full k (step rows full st)) st
unfolding steps
steps-more rows full k st = refl

module _ (rows : List ℕ) (full : VertexSet) (flat : List ℕ) (b : Progress) (held : Holds rows flat b) where
  module _ {w : Work} (k : Works (state_in flat b) (Some w)) where
    pub step-link : {out : List ℕ} {r : Progress} → Shows rows out r (link_step rows (state_in flat b) w.first) → Shows rows out r (step rows full (state_in flat b))
    step-link {out} {r} s =
        let low : w.first < length (take b.len flat) = (span_low (take b.len flat) (minus b.built b.branch) w k.some k.spans).0 in
        let e : w.first ≡ inner_place (state_in flat b) = k.place in
        let q : link_step rows (state_in flat b) w.first ≡ step rows full (state_in flat b) = rw (one_step rows full (state_in flat b), ← e, lt-ltb w.first (length (take b.len flat)) low) in
        subst (λ (st : State). Shows rows out r st) q s

  pub step-out : length (take b.len flat) ≤ inner_place (state_in flat b) → {out : List ℕ} {r : Progress} → Shows rows out r (out_step rows full (state_in flat b)) → Shows rows out r (step rows full (state_in flat b))
  step-out h {out} {r} s =
      let q : out_step rows full (state_in flat b) ≡ step rows full (state_in flat b) = rw (one_step rows full (state_in flat b), le-ltb (inner_place (state_in flat b)) (length (take b.len flat)) h) in
      subst (λ (st : State). Shows rows out r st) q s

  stay : (k : ℕ) → b.going ≡ false → state_in flat b ≡ steps rows full k (state_in flat b)
  stay zero h = sym (steps-zero rows full (state_in flat b))
  stay (suc k) h = rw (steps-more rows full k (state_in flat b), h)

  module _ (left : ℕ) {whole : State} (w : steps rows full left (state_in flat b) ≡ whole) where
    pub steps-stopped : not b.going ≡ true → Shows rows flat b whole
    steps-stopped h = subst (λ (st : State). Shows rows flat b st) (stay left (not-true b.going h) ∙ w) (same_shows rows flat b held)

    pub steps-none : left ≡ 0 → Shows rows flat b whole
    steps-none z = subst (λ (st : State). Shows rows flat b st) (sym (steps-zero rows full (state_in flat b)) ∙ ap (λ (k : ℕ). steps rows full k (state_in flat b)) (sym z) ∙ w) (same_shows rows flat b held)

    pub steps-turn : {less : ℕ} → left ≡ suc less → not b.going ≡ false → {out : List ℕ} {r : Progress} → Shows rows out r (step rows full (state_in flat b))
        → Holds rows out r × (steps rows full less (state_in out r) ≡ whole)
    steps-turn {less} z g {out} {r} s =
        let m : steps rows full less (step rows full (state_in flat b)) ≡ steps rows full (suc less) (state_in flat b) = rw (steps-more rows full less (state_in flat b), not-false b.going g) in (
          shows_holds rows out r (step rows full (state_in flat b)) s,
          ap (λ (st : State). steps rows full less st) (shows_state rows out r (step rows full (state_in flat b)) s) ∙ m ∙ ap (λ (k : ℕ). steps rows full k (state_in flat b)) (sym z) ∙ w,
        )
