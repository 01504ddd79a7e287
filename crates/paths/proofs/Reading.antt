-- Reading a path, one statement of the code after the other. Assumes nothing.
use Prim.Native.Nat.{ℕ, zero, suc, ◌-◌, ◌<◌, ◌≤◌}
use mathlib.Core.List.{List, [], ◌∷◌}
use mathlib.Core.Bool.{Bool}
use mathlib.Core.Path.{◌≡◌, refl, sym, ap, subst, ◌∙◌}
use native.Mathlib.Omega.{arith}
use lib.ListN.{length}
use lib.Dec.{ltb}
use borrow.Author.Tests.{ltb-true}
use Rattle.std.specs.Prelude.{Ok, Err}
use Rattle.record.specs.Read.{Read, Read.Got, Read.Refused, on_read, ◌needs⟨◌⟩◌, ◌▹◌, into, many, or_kept, within, folded}
use Rattle.record.specs.declared.Answer.{Answer}
use Rattle.record.specs.Number.{number}
use Rattle.record.specs.Loop.{Loop, runs, finish}
use Rattle.record.proofs.Laws.{on_got, carry}
use Rattle.record.proofs.Loops.{needs_true, needs_got, All, many-length, many-all}
use Rattle.record.proofs.Bounds.{within-true, true_within}
use Rattle.vertexset.specs.Set.{inserted, capacity}
use Rattle.vertexset.specs.declared.VertexSet.{VertexSet}
use Rattle.connectivity.specs.Path.{Path, vertices}
use Rattle.certificates.specs.Records.{vertex, vertex_list, link_of, path}
use Rattle.paths.specs.declared.Item.{Item}
use Rattle.paths.specs.Items.{told, item_read}
use Rattle.paths.specs.Paths.{path_read, vertices_read, vertices_at}
use Rattle.paths.specs.Code.{path_loop, path_begun}
use Rattle.paths.proofs.Told.{told-err, item-ok}
use Rattle.paths.proofs.Walk.{tail_vertices, path-walked}

-- the values of k vertices from a place on, up to the first that can't be read
unfoldable pub values_from : ℕ → ℕ → List ℕ → ℕ → List ℕ
values_from n zero s at = []
values_from n (suc k) s at = or_kept (vertex n s at) (λ v next. v ∷ values_from n k s next) []

link-vertices : (l : List ℕ) → 2 ≤ length l → vertices (link_of l) ≡ l
link-vertices [] h = absurd (omega arith)
link-vertices (a ∷ []) h = absurd (omega arith)
link-vertices (a ∷ b ∷ l) h = tail_vertices a b l

-- what was read is within its range
pub vertex-low : (n : ℕ) (s : List ℕ) (at : ℕ) {v next : ℕ} → vertex n s at ≡ Got v next → v < n
unfolding vertex
vertex-low n s at e = ltb-true _ _ (needs_true number 9 (λ v. ltb v n) {s = s} {at = at} e).1

pub ranged_low : (least most : ℕ) (s : List ℕ) (at : ℕ) {k next : ℕ} → (number needs⟨ 9 ⟩ within least most) s at ≡ Got k next → (least ≤ k) × (k ≤ most)
ranged_low least most s at e = within-true least most _ (needs_true number 9 (within least most) {s = s} {at = at} e).1

-- a path read again: its length, and then its vertices
abbrev pub Again : ℕ → ℕ → List ℕ → ℕ → List ℕ → ℕ → Type 0
Again n least s at l next =
    (mid : ℕ) × ((number needs⟨ 9 ⟩ within least n) s at ≡ Got (length l) mid) × (many (λ (u : Unit {0}). vertex n) (λ u v. u) (length l) tt s mid ≡ Got l next)

pub path-again : (n least : ℕ) (s : List ℕ) (at : ℕ) {P : Path} {next : ℕ} → 2 ≤ least → path n least s at ≡ Got P next → Again n least s at (vertices P) next
unfolding path vertex_list into ◌▹◌
path-again n least s at two e =
    let g = on_got (vertex_list n least s at) _ e in
    let k = on_got ((number needs⟨ 9 ⟩ within least n) s at) _ g.2 in
    carry (λ P next. Again n least s at (vertices P) next) g.3
    (go g.0 g.1 k.0 k.1 (many-length (λ (u : Unit {0}). vertex n) (λ u v. u) k.0 tt s k.1 k.3) (ranged_low least n s at k.2).0 k.2 k.3)
  where
    go : (l : List ℕ) (next k mid : ℕ) → length l ≡ k → least ≤ k → (number needs⟨ 9 ⟩ within least n) s at ≡ Got k mid
        → many (λ (u : Unit {0}). vertex n) (λ u v. u) k tt s mid ≡ Got l next → Again n least s at (vertices (link_of l)) next
    go l next k mid d h e f = subst (λ (m : List ℕ). Again n least s at m next) (sym (link-vertices l (omega arith))) (mid, rw d e, rw d f)

-- and the same by its values
module _ (n : ℕ) (s : List ℕ) where
  pub values_next : (k at : ℕ) {x : Item} → 0 < k → Ok x ≡ item_read (vertex n s at) → values_from n k s at ≡ x.value ∷ values_from n (k - 1) s x.next
  unfolding values_from
  values_next zero at h e = absurd (omega arith)
  values_next (suc k) at h e = let z : suc k - 1 ≡ k = omega arith in rw (z, item-ok (vertex n s at) e)

  pub values_none : (k at : ℕ) {d : Answer} → Err d ≡ item_read (vertex n s at) → values_from n k s at ≡ []
  unfolding values_from
  values_none zero at e = refl
  values_none (suc k) at e = rw (told-err _ (vertex n s at) e).2

  many-values : (k at : ℕ) {l : List ℕ} {next : ℕ} → many (λ (u : Unit {0}). vertex n) (λ u v. u) k tt s at ≡ Got l next → values_from n k s at ≡ l
  unfolding many values_from
  many-values zero at e = carry (λ l z. [] ≡ l) e refl
  many-values (suc k) at e =
      let g = on_got (vertex n s at) _ e in
      let q = on_got (many (λ (u : Unit {0}). vertex n) (λ u v. u) k tt s g.1) _ g.3 in
      rw g.2 (carry (λ l z. g.0 ∷ values_from n k s g.1 ≡ l) q.3 (ap (λ (l : List ℕ). g.0 ∷ l) (many-values k g.1 q.2)))

  module _ (least at : ℕ) {P : Path} {next : ℕ} (two : 2 ≤ least) (e : path n least s at ≡ Got P next) where
    pub path-values : {x : Item} → Ok x ≡ item_read ((number needs⟨ 9 ⟩ within least n) s at) → (x.value ≡ length (vertices P)) × (values_from n x.value s x.next ≡ vertices P)
    path-values f =
        let g = path-again n least s at two e in
        let k = sym (item-ok _ f) ∙ g.1 in
        carry (λ v z. (v ≡ length (vertices P)) × (values_from n v s z ≡ vertices P)) (sym k) (refl, many-values _ g.0 g.2)

    -- its length can be read
    pub path-counted : {d : Answer} → Err d ≡ item_read ((number needs⟨ 9 ⟩ within least n) s at) → ⊥
    path-counted f =
        let g = path-again n least s at two e in
        let k = told-err _ ((number needs⟨ 9 ⟩ within least n) s at) f in
        let z : Got (length (vertices P)) g.0 ≡ Refused k.0 k.1 = sym g.1 ∙ k.2 in
        cc

module _ (n least : ℕ) (s : List ℕ) (at : ℕ) where
  pub path-length : {q p : ℕ} → (number needs⟨ 9 ⟩ within least n) s at ≡ Refused q p → path n least s at ≡ Refused q p
  unfolding path vertex_list into ◌▹◌
  path-length e = rw e

  module _ {len mid : ℕ} (e : (number needs⟨ 9 ⟩ within least n) s at ≡ Got len mid) (two : 2 ≤ len) where
    path-many : {x : Read (List ℕ)} → many (λ (u : Unit {0}). vertex n) (λ u v. u) len tt s mid ≡ x → path n least s at ≡ on_read x (λ l next. Got (link_of l) next)
    unfolding path vertex_list into ◌▹◌
    path-many f = rw (e, f)

    pub path-first : {q p : ℕ} → vertex n s mid ≡ Refused q p → path n least s at ≡ Refused q p
    unfolding many
    path-first {q} {p} f = path-many (go len two)
      where
        go : (k : ℕ) → 2 ≤ k → many (λ (u : Unit {0}). vertex n) (λ u v. u) k tt s mid ≡ Refused q p
        go zero h = absurd (omega arith)
        go (suc k) h = rw f

    pub path-rest : (adj : ℕ → ℕ → Bool) (old : ℕ → Bool) {first from : ℕ} → n ≤ capacity → vertex n s mid ≡ Got first from
        → runs (path_loop adj old n first len) (len - 1) tt (path_begun first len) s from ≡ path_read adj old (path n least s at)
    unfolding runs told many
    path-rest adj old {first} {from} h f =
        let k : first < n = vertex-low n s mid f in
        go (many (λ (u : Unit {0}). vertex n) (λ u v. u) (len - 1) tt s from) refl (omega arith) ∙ ap (path_read adj old) (sym (path-many (more len two)))
      where
        paired : List ℕ → ℕ → Read (List ℕ)
        paired l next = Got (first ∷ l) next

        more : (k : ℕ) → 2 ≤ k → many (λ (u : Unit {0}). vertex n) (λ u v. u) k tt s mid ≡ on_read (many (λ (u : Unit {0}). vertex n) (λ u v. u) (k - 1) tt s from) paired
        more zero h = absurd (omega arith)
        more (suc k) h = let z : suc k - 1 ≡ k = omega arith in rw (f, z)

        go : (x : Read (List ℕ)) → many (λ (u : Unit {0}). vertex n) (λ u v. u) (len - 1) tt s from ≡ x → first < capacity
            → finish (path_loop adj old n first len).step (path_loop adj old n first len).ok (path_loop adj old n first len).bad (path_begun first len) x
            ≡ path_read adj old (on_read (on_read x paired) (λ l next. Got (link_of l) next))
        go (Got [] next) m j = absurd (omega (arith, many-length (λ (u : Unit {0}). vertex n) (λ u v. u) (len - 1) tt s from m))
        go (Got (v ∷ l) next) m j =
            let d = many-length (λ (u : Unit {0}). vertex n) (λ u v. u) (len - 1) tt s from m in
            let q = many-all {Q = λ x. x < capacity} (λ (u : Unit {0}). vertex n) (λ u v. u) (λ st s at v next g. let z : v < n = vertex-low n s at g in omega arith) (len - 1) tt s from m in
            path-walked adj old n first len v l next (omega arith) j q
        go (Refused q p) m j = refl

-- ---- the vertices of a path taken into a set

-- the loop that does so; the set stays as it was where a vertex can't be read
abbrev pub set_loop : ℕ → VertexSet → Loop (Unit {0}) ℕ VertexSet VertexSet
set_loop n B = record { item = λ u. vertex n; after = λ u v. u; step = inserted; ok = λ t next. t; bad = λ r p. B }

module _ (n : ℕ) (s : List ℕ) (at : ℕ) (B : VertexSet) where
  pub set_none : {q p : ℕ} → (number needs⟨ 9 ⟩ within 2 n) s at ≡ Refused q p → B ≡ folded inserted B (vertices_at n s at)
  unfolding vertices_at folded
  set_none e = rw (path-length n 2 s at e)

  pub set_rest : {len mid : ℕ} → (number needs⟨ 9 ⟩ within 2 n) s at ≡ Got len mid → runs (set_loop n B) len tt B s mid ≡ folded inserted B (vertices_at n s at)
  unfolding vertices_at folded runs
  set_rest {len} {mid} e =
      let two = (ranged_low 2 n s at e).0 in
      go (many (λ (u : Unit {0}). vertex n) (λ u v. u) len tt s mid) refl two ∙ ap (λ (x : Read Path). folded inserted B (vertices_read x)) (sym (path-many n 2 s at e two refl))
    where
      go : (x : Read (List ℕ)) → many (λ (u : Unit {0}). vertex n) (λ u v. u) len tt s mid ≡ x → 2 ≤ len
          → finish inserted (set_loop n B).ok (set_loop n B).bad B x ≡ folded inserted B (vertices_read (on_read x (λ l next. Got (link_of l) next)))
      go (Got l next) m two =
          let d = many-length (λ (u : Unit {0}). vertex n) (λ u v. u) len tt s mid m in
          ap (folded inserted B) (sym (link-vertices l (omega arith)))
      go (Refused q p) m two = refl

-- a path that was read is found again, whatever its least length
pub vertices-again : (n least : ℕ) (s : List ℕ) (at : ℕ) {P : Path} {next : ℕ} → 2 ≤ least → path n least s at ≡ Got P next → vertices_at n s at ≡ vertices P
unfolding vertices_at
vertices-again n least s at {P} {next} two e =
    let g = path-again n least s at two e in
    let r = ranged_low least n s at g.1 in
    let k = needs_true number 9 (within least n) g.1 in
    let f : (number needs⟨ 9 ⟩ within 2 n) s at ≡ Got (length (vertices P)) g.0 = needs_got number 9 (within 2 n) k.0 ∙ rw (true_within 2 n (length (vertices P)) (omega arith) r.1) in
    rw (path-many n 2 s at f (omega arith) g.2) (link-vertices (vertices P) (omega arith))

-- the vertices of a path that was read
pub path-low : (n least most : ℕ) (s : List ℕ) (at : ℕ) {P : Path} {next : ℕ} → 2 ≤ least → n ≤ most → path n least s at ≡ Got P next → All (λ x. x < most) (vertices P)
path-low n least most s at two h e =
    let g = path-again n least s at two e in
    many-all {Q = λ x. x < most} (λ (u : Unit {0}). vertex n) (λ u v. u) (λ st s at v next f. let z : v < n = vertex-low n s at f in omega arith) _ tt s g.0 g.2
