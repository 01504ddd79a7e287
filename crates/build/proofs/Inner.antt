-- The inner vertices of a path that is read again, as it enters a build: where the loop over them begins, one turn of it, and its end.
-- Assumes nothing.
use Prim.Native.Nat.{ℕ, ◌+◌, ◌-◌, ◌<◌, ◌≤◌}
use mathlib.Core.List.{List, [], ◌∷◌}
use mathlib.Core.Path.{◌≡◌, refl, sym, ap, ◌∙◌}
use native.Mathlib.Omega.{arith}
use lib.ListN.{length, length-append}
use Rattle.record.specs.Read.{Read, ◌needs⟨◌⟩◌, or_kept, within, folded}
use Rattle.record.specs.Number.{number}
use Rattle.record.specs.declared.Answer.{Answer}
use Rattle.std.specs.Prelude.{Ok, Err}
use Rattle.vertexset.specs.Set.{inserted, capacity}
use Rattle.vertexset.specs.declared.VertexSet.{VertexSet}
use Rattle.graph.specs.Rows.{joined_rows}
use Rattle.connectivity.specs.Path.{Path, link, vertices}
use Rattle.connectivity.proofs.Paths.{head_of, link_of, link-vertices, two_vertices}
use Rattle.certificates.specs.Records.{vertex, tail_link, path}
use Rattle.paths.specs.Items.{item_read}
use Rattle.paths.specs.Paths.{vertices_at}
use Rattle.paths.specs.declared.Item.{Item}
use Rattle.paths.specs.declared.PathRead.{PathRead}
use Rattle.paths.proofs.Walk.{tail_vertices}
use Rattle.paths.proofs.Told.{item-ok}
use Rattle.paths.proofs.Reading.{vertex-low, values_next, values_none, path-values, path-counted, vertices-again, values_from}
use Rattle.links.specs.Tables.{pointed_both, point_along, mated, last_from, mated_ends}
use Rattle.build.specs.declared.Sets.{Sets}
use Rattle.build.specs.State.{entered}
use Rattle.build.specs.Code.{PathAt, ToldAt, build_in, inner_at, before_at, on_path_read}

-- a vertex that was read
pub value_low : (n : ℕ) (s : List ℕ) (at : ℕ) {x : Item} → n ≤ capacity → Ok x ≡ item_read (vertex n s at) → x.value < capacity
value_low n s at h e = omega (arith, vertex-low n s at (item-ok _ e))

-- a path is known by its vertices
same_path : (P Q : Path) → vertices P ≡ vertices Q → P ≡ Q
same_path P Q e = sym (link-vertices P) ∙ ap link_of e ∙ link-vertices Q

module _ (n : ℕ) (s : List ℕ) where
  -- the inner vertices of the path from u and v on with k more vertices
  abbrev pub inner_from : ℕ → ℕ → ℕ → ℕ → List ℕ
  inner_from u v k next = (tail_link u v (values_from n k s next)).inner

  -- as many values as are left can be read
  pub values_left : (k next : ℕ) {d : Answer} → length (values_from n k s next) ≡ k → 0 < k → Err d ≡ item_read (vertex n s next) → ⊥
  values_left k next e h f = omega (arith, ap length (values_none n s k next f))

  -- a path that was read is read again: its length,
  module _ (at : ℕ) (h : PathAt n s at) where
    pub length_again : {d : Answer} → Err d ≡ item_read ((number needs⟨ 9 ⟩ within 2 n) s at) → ⊥
    length_again f = path-counted n s 2 at (omega arith) h.got f

    -- its first vertex, and its second
    module _ {x : Item} (ex : Ok x ≡ item_read ((number needs⟨ 9 ⟩ within 2 n) s at)) where
      left : (x.value ≡ length (vertices h.found)) × (values_from n x.value s x.next ≡ vertices h.found)
      left = path-values n s 2 at (omega arith) h.got ex

      two : 2 ≤ x.value
      two = omega (arith, left.0, two_vertices h.found)

      pub first-again : {d : Answer} → Err d ≡ item_read (vertex n s x.next) → ⊥
      first-again f = values_left _ _ (ap length left.1 ∙ sym left.0) (omega (arith, two)) f

      rest : {a : Item} → Ok a ≡ item_read (vertex n s x.next) → vertices h.found ≡ a.value ∷ values_from n (x.value - 1) s a.next
      rest ea = sym left.1 ∙ values_next n s x.value x.next (omega (arith, two)) ea

      pub second-again : {a : Item} {d : Answer} → Ok a ≡ item_read (vertex n s x.next) → Err d ≡ item_read (vertex n s a.next) → ⊥
      second-again {a} ea f = let e : length (values_from n (x.value - 1) s a.next) ≡ x.value - 1 = omega (arith, left.0, ap length (rest ea)) in
          values_left _ _ e (omega (arith, two)) f

  module _ (at : ℕ) (h : PathAt n s at) {x a b : Item} (ex : Ok x ≡ item_read ((number needs⟨ 9 ⟩ within 2 n) s at)) (ea : Ok a ≡ item_read (vertex n s x.next)) (eb : Ok b ≡ item_read (vertex n s a.next)) where
    listed : vertices h.found ≡ a.value ∷ b.value ∷ values_from n (x.value - 2) s b.next
    listed =
        let z : x.value - 1 - 1 ≡ x.value - 2 = omega arith in
        rest at h ex ea ∙ ap (λ (l : List ℕ). a.value ∷ l) (values_next n s (x.value - 1) a.next (omega (arith, two at h ex)) eb ∙ ap (λ (k : ℕ). b.value ∷ values_from n k s b.next) z)

    -- as many more as its length says
    pub more_again : length (values_from n (x.value - 2) s b.next) ≡ x.value - 2
    more_again = omega (arith, (left at h ex).0, ap length listed)

    pub inner_vertices_lem : vertices_at n s at ≡ a.value ∷ b.value ∷ values_from n (x.value - 2) s b.next
    inner_vertices_lem = vertices-again n 2 s at (omega arith) h.got ∙ listed

    pub inner_begun : inner_at n s at ≡ inner_from a.value b.value (x.value - 2) b.next
    unfolding inner_at
    inner_begun =
        ap (λ (r : Read Path). or_kept r (λ P next. P.inner) []) h.got
        ∙ ap (λ (P : Path). P.inner) (same_path h.found _ (listed ∙ sym (tail_vertices a.value b.value (values_from n (x.value - 2) s b.next))))

    -- the last of them stands before the path's last vertex
    pub before_begun : last_from a.value (inner_at n s at) ≡ before_at n s at
    unfolding inner_at before_at
    before_begun =
        let first : h.found.s ≡ a.value = ap (λ (l : List ℕ). head_of l 0) listed in
        ap (λ (r : Read Path). last_from a.value (or_kept r (λ P next. P.inner) [])) h.got ∙ ap (λ (v : ℕ). last_from v h.found.inner) (sym first)
        ∙ sym (ap (λ (r : Read Path). or_kept r (λ P next. last_from P.s P.inner) 0) h.got)

    -- the outermost, once the last is known
    pub mated-done : (p : List ℕ) {out : List ℕ} {last : ℕ} → 0 < length (inner_at n s at) → last ≡ last_from a.value (inner_at n s at) → out ≡ mated p b.value last → out ≡ mated_ends p (inner_at n s at)
    mated-done p {out} some e f = go (values_from n (x.value - 2) s b.next) inner_begun
      where
        go : (l : List ℕ) → inner_at n s at ≡ (tail_link a.value b.value l).inner → out ≡ mated_ends p (inner_at n s at)
        go [] z = absurd (omega (arith, ap length z))
        go (w ∷ l) z = f ∙ ap (mated p b.value) (e ∙ ap (last_from a.value) z) ∙ ap (mated_ends p) (sym z)

  -- the walk along it, once i of its m vertices are read
  module _ (m i next : ℕ) where
    next-value : {y : Item} → i < m → Ok y ≡ item_read (vertex n s next) → values_from n (m - i) s next ≡ y.value ∷ values_from n (m - (i + 1)) s y.next
    next-value {y} h e =
        let z : m - i - 1 ≡ m - (i + 1) = omega arith in
        values_next n s (m - i) next (omega arith) e ∙ ap (λ (k : ℕ). y.value ∷ values_from n k s y.next) z

    pub left-on : {y : Item} → i < m → Ok y ≡ item_read (vertex n s next) → length (values_from n (m - i) s next) ≡ m - i → length (values_from n (m - (i + 1)) s y.next) ≡ m - (i + 1)
    left-on h e f = omega (arith, ap length (next-value h e))

    none_left : m ≤ i → values_from n (m - i) s next ≡ []
    unfolding values_from
    none_left h = let z : m - i ≡ 0 = omega arith in rw z

    -- where u and v are the last two
    module _ (u v : ℕ) where
      pub pointed-on : (pointers : List ℕ) {y : Item} {out : List ℕ} → i < m → Ok y ≡ item_read (vertex n s next) → out ≡ pointed_both pointers u v y.value
          → point_along out (v ∷ y.value ∷ values_from n (m - (i + 1)) s y.next) ≡ point_along pointers (u ∷ v ∷ values_from n (m - i) s next)
      unfolding point_along
      pointed-on pointers h e f = rw (next-value h e, f)

      pub inner_on : (set : VertexSet) {y : Item} → i < m → Ok y ≡ item_read (vertex n s next)
          → folded inserted (inserted set v) (inner_from v y.value (m - (i + 1)) y.next) ≡ folded inserted set (inner_from u v (m - i) next)
      unfolding folded
      inner_on set h e = ap (λ (l : List ℕ). folded inserted set (tail_link u v l).inner) (sym (next-value h e))

      pub pointed-done : (pointers : List ℕ) → m ≤ i → pointers ≡ point_along pointers (u ∷ v ∷ values_from n (m - i) s next)
      unfolding point_along
      pointed-done pointers h = rw (none_left h)

      pub inner_done : (set : VertexSet) → m ≤ i → set ≡ folded inserted set (inner_from u v (m - i) next)
      unfolding folded
      inner_done set h = ap (λ (l : List ℕ). folded inserted set (tail_link u v l).inner) (sym (none_left h))

      -- the last inner vertex, where u stands before the rest
      pub last_on : {y : Item} → i < m → Ok y ≡ item_read (vertex n s next) → last_from v (inner_from v y.value (m - (i + 1)) y.next) ≡ last_from u (inner_from u v (m - i) next)
      last_on h e = ap (λ (l : List ℕ). last_from u (tail_link u v l).inner) (sym (next-value h e))

      pub last_done : m ≤ i → u ≡ last_from u (inner_from u v (m - i) next)
      last_done h = ap (λ (l : List ℕ). last_from u (tail_link u v l).inner) (sym (none_left h))

-- a build by its parts
pub same_build : {sets sets' : Sets} {pointers pointers' linked linked' : List ℕ} → sets ≡ sets' → pointers ≡ pointers' → linked ≡ linked' → build_in sets pointers linked ≡ build_in sets' pointers' linked'
same_build e f g = rw (e, f, g)

pub same_sets : {branch branch' built built' : VertexSet} → branch ≡ branch' → built ≡ built' → ◌≡◌ {A = Sets} (record { branch = branch; built = built }) (record { branch = branch'; built = built' })
same_sets e f = rw (e, f)

-- the path enters the build
module _ {n : ℕ} {s : List ℕ} {at : ℕ} {x : PathRead} (h : ToldAt n s at x) (sets : Sets) (pointers linked : List ℕ) where
  abbrev P : Path
  P = h.there.found

  whole : entered (build_in sets pointers linked) P ≡ on_path_read entered (build_in sets pointers linked) (path n 2 s at)
  unfolding on_path_read
  whole = sym (ap (on_path_read entered (build_in sets pointers linked)) h.there.got)

  joined-ends : joined_rows linked x.first x.last ≡ joined_rows linked P.s P.t
  joined-ends = ap (λ (u : ℕ). joined_rows linked u x.last) h.first ∙ ap (joined_rows linked P.s) h.last

  inner_found : inner_at n s at ≡ P.inner
  unfolding inner_at
  inner_found = ap (λ (r : Read Path). or_kept r (λ P next. P.inner) []) h.there.got

  -- a longer path has some inside, one of two vertices none
  pub inner_some : 3 ≤ x.len → 0 < length (inner_at n s at)
  inner_some k = omega (arith, h.len, length-append P.inner (P.t ∷ []), ap length inner_found)

  -- one of two vertices has its first before its last
  pub before_short : x.len < 3 → x.first ≡ before_at n s at
  unfolding before_at
  before_short k =
      go P.inner (omega (arith, h.len, length-append P.inner (P.t ∷ [])))
      ∙ sym (ap (λ (r : Read Path). or_kept r (λ P next. last_from P.s P.inner) 0) h.there.got)
    where
      go : (l : List ℕ) → length l ≡ 0 → x.first ≡ last_from P.s l
      go [] z = h.first
      go (v ∷ l) z = absurd (omega arith)

  pub entered-short : {out : List ℕ} → x.len < 3 → out ≡ joined_rows linked x.first x.last → build_in sets pointers out ≡ on_path_read entered (build_in sets pointers linked) (path n 2 s at)
  unfolding folded point_along
  entered-short {out} k e = go P.inner (omega (arith, h.len, length-append P.inner (P.t ∷ []))) (e ∙ joined-ends) ∙ whole
    where
      go : (l : List ℕ) → length l ≡ 0 → out ≡ joined_rows linked P.s P.t → build_in sets pointers out ≡ entered (build_in sets pointers linked) (link P.s l P.t)
      go [] z e = ap (build_in sets pointers) e
      go (v ∷ l) z e = absurd (omega arith)

  pub entered-long : {out : Sets} {along to : List ℕ} → out ≡ record { branch = sets.branch; built = folded inserted sets.built (inner_at n s at) }
      → along ≡ mated_ends (point_along pointers (vertices_at n s at)) (inner_at n s at) → to ≡ joined_rows linked x.first x.last
      → build_in out along to ≡ on_path_read entered (build_in sets pointers linked) (path n 2 s at)
  entered-long e f g =
      let a : mated_ends (point_along pointers (vertices_at n s at)) (inner_at n s at) ≡ mated_ends (point_along pointers (vertices P)) P.inner = rw (vertices-again n 2 s at (omega arith) h.there.got, inner_found) in
      same_build (e ∙ same_sets refl (ap (folded inserted sets.built) inner_found)) (f ∙ a) (g ∙ joined-ends) ∙ whole
