-- Reading a side and a spanning tree, one statement of the code after the other. Assumes nothing.
use Prim.Native.Nat.{ℕ, suc, ◌-◌, ◌*◌, ◌<◌, ◌≤◌}
use mathlib.Core.List.{List}
use mathlib.Core.Bool.{Bool, true, false, cond, not}
use mathlib.Core.Path.{◌≡◌, refl, sym, ap, fun_ext, ◌∙◌}
use native.Mathlib.Omega.{arith}
use lib.Dec.{leb}
use borrow.Author.Tests.{lt-leb}
use Rattle.std.specs.Prelude.{Ok, Err}
use Rattle.record.specs.Read.{Read, Read.Got, Read.Refused, Reader, on_read, ◌needs⟨◌⟩◌, ◌▸◌, ◌▹◌, many, within, folded}
use Rattle.record.specs.Number.{number}
use Rattle.record.specs.Loop.{runs, finish}
use Rattle.record.proofs.Laws.{on_got, carry}
use Rattle.record.proofs.Loops.{All, many-all, needs_true, leads_bad, leads_got}
use Rattle.vertexset.specs.Set.{has, empty_set, word_count, capacity}
use Rattle.connectivity.specs.Lists.{member}
use Rattle.connectivity.specs.Graph.{Graph}
use Rattle.connectivity.specs.Certificate.{Certificate.tree}
use Rattle.certificates.specs.Tests.{nobody, with, some_below, both_hold, no_edge_between}
use Rattle.certificates.specs.Records.{vertex, side_vertex, side, pair, body}
use Rattle.paths.specs.Items.{told, end_read, limited}
use Rattle.graph.specs.Rows.{rows_graph}
use Rattle.paths.specs.declared.Item.{Item}
use Rattle.record.specs.declared.Answer.TheVariants.{CertificateFault}
use Rattle.paths.proofs.Told.{told-ok, limited-in}
use Rattle.paths.proofs.Ends.{end_into, end_stop, end_then}
use Rattle.paths.proofs.Reading.{vertex-low}
use Rattle.paths.proofs.Sets.{listed_has}
use Rattle.sides.specs.declared.SideRead.{SideRead}
use Rattle.sides.specs.Code.{side_loop, none_between, RestOf, Low, side_tested, pair_read}
use Rattle.sides.proofs.Sets.{member-all, rest_some}
use Rattle.sides.proofs.Between.{between-same}

-- ---- a loop that hands on what it made of the items

pub runs-told : {S A T B : Type 0} (item : S → Reader A) (after : S → A → S) (step : T → A → T) (f : T → ℕ → B) (k : ℕ) (st : S) (t : T) (s : List ℕ) (at : ℕ)
    → runs (record { item = item; after = after; step = step; ok = λ u next. Ok (f u next); bad = λ r p. Err (CertificateFault r p) }) k st t s at
    ≡ told (λ l next. f (folded step t l) next) (many item after k st s at)
unfolding runs told
runs-told {S} {A} {T} {B} item after step f k st t s at = go (many item after k st s at)
  where
    go : (r : Read (List A)) → finish step (λ u next. Ok (f u next)) (λ r p. Err (CertificateFault r p)) t r ≡ told (λ l next. f (folded step t l) next) r
    go (Got l next) = refl
    go (Refused q p) = refl

-- ---- the limit

module _ (n : ℕ) (s : List ℕ) (at : ℕ) where
  pub over_limit : {A : Type 0} (R : Reader A) → capacity < n → Err (CertificateFault 9 at) ≡ end_read (limited n R s at)
  unfolding told
  over_limit R h = rw (lt-leb n capacity h)

  pub in_limit : {A : Type 0} (R : Reader A) → n ≤ capacity → end_read (R s at) ≡ end_read (limited n R s at)
  in_limit R h = ap end_read (sym (limited-in n at (R s at) h))

  pub limited-same : {A B : Type 0} (R : Reader A) (Q : Reader B) → end_read (R s at) ≡ end_read (Q s at) → end_read (limited n R s at) ≡ end_read (limited n Q s at)
  unfolding told
  limited-same R Q e = go (leb n capacity)
    where
      go : (b : Bool) → end_read (cond b (R s at) (Refused 9 at)) ≡ end_read (cond b (Q s at) (Refused 9 at))
      go true = e
      go false = refl

-- ---- a vertex of a side

module _ (n : ℕ) (removed : ℕ → Bool) (least : ℕ) (s : List ℕ) (at : ℕ) where
  pub side_vertex-unread : {q p : ℕ} → vertex n s at ≡ Refused q p → side_vertex n removed least s at ≡ Refused q p
  unfolding side_vertex ◌needs⟨◌⟩◌
  side_vertex-unread e = rw e

  pub side_vertex-tested : {v next : ℕ} {x y : Bool} → vertex n s at ≡ Got v next → leb least v ≡ x → removed v ≡ y
      → side_vertex n removed least s at ≡ cond x (cond y (Refused 21 at) (Got v next)) (Refused 20 at)
  unfolding side_vertex ◌needs⟨◌⟩◌
  side_vertex-tested {x = false} e f g = rw (e, f)
  side_vertex-tested {x = true} {y = true} e f g = rw (e, f, g)
  side_vertex-tested {x = true} {y = false} e f g = rw (e, f, g)

  pub side_vertex-low : (v next : ℕ) → side_vertex n removed least s at ≡ Got v next → v < n
  unfolding side_vertex
  side_vertex-low v next e =
      let z = needs_true (vertex n needs⟨ 20 ⟩ leb least) 21 (λ v. not (removed v)) {s = s} {at = at} e in
      vertex-low n s at (needs_true (vertex n) 20 (leb least) {s = s} {at = at} z.0).0

-- ---- a side

module _ (g : Graph) (removed : ℕ → Bool) (s : List ℕ) (at : ℕ) where
  abbrev side_count : Reader ℕ
  side_count = number needs⟨ 9 ⟩ within 0 g.n

  abbrev side_list : ℕ → Reader (List ℕ)
  side_list k = many (side_vertex g.n removed) (λ least v. suc v) k 0

  list_refused : {q p : ℕ} → (side_count ▹ side_list) s at ≡ Refused q p → Err (CertificateFault q p) ≡ end_read (side g removed s at)
  unfolding side told ◌needs⟨◌⟩◌
  list_refused e = rw e

  list_tested : (l : List ℕ) (next : ℕ) → (side_count ▹ side_list) s at ≡ Got l next → side_tested g removed (λ v. member v l) at next ≡ end_read (side g removed s at)
  unfolding side side_tested told ◌needs⟨◌⟩◌
  list_tested l next e = rw e (go (both_hold g.n removed (λ v. member v l)))
    where
      last : (c : Bool) → cond c (Ok next) (Err (CertificateFault 23 at)) ≡ end_read (cond c (Got l next) (Refused 23 at))
      last true = refl
      last false = refl

      go : (b : Bool) → cond b (cond (no_edge_between g removed (λ v. member v l)) (Ok next) (Err (CertificateFault 23 at))) (Err (CertificateFault 22 at))
          ≡ end_read (on_read (cond b (Got l next) (Refused 22 at)) (λ m z. cond (no_edge_between g removed (λ v. member v m)) (Got m z) (Refused 23 at)))
      go true = last (no_edge_between g removed (λ v. member v l))
      go false = refl

  pub count-refused : {q p : ℕ} → side_count s at ≡ Refused q p → Err (CertificateFault q p) ≡ end_read (side g removed s at)
  count-refused e = list_refused (leads_bad side_count side_list e)

  module _ {k from : ℕ} (e : side_count s at ≡ Got k from) where
    pub side-refused : {q p : ℕ} → side_list k s from ≡ Refused q p → Err (CertificateFault q p) ≡ end_read (side g removed s at)
    side-refused m = list_refused (leads_got side_count side_list e ∙ m)

    -- the vertices that the loop handed back, and the tests of them
    pub side-read : {x : SideRead} → g.n ≤ capacity → Ok x ≡ runs (side_loop g.n removed) k 0 empty_set s from
        → (Low g.n x.set.words) × (side_tested g removed (has x.set.words) at x.next ≡ end_read (side g removed s at))
    side-read {x} small h =
        let t = told-ok _ (side_list k s from) (h ∙ runs-told _ _ _ _ k 0 empty_set s from) in
        let l = t.0 in
        let all : All (λ v. v < g.n) l = many-all (side_vertex g.n removed) (λ least v. suc v) (side_vertex-low g.n removed) k 0 s from t.2 in
        let few : All (λ v. v < 64 * word_count) l =
        many-all (side_vertex g.n removed) (λ least v. suc v) (λ least s at v next e. let i = side_vertex-low g.n removed least s at v next e in omega arith) k 0 s from t.2 in
        let same : has x.set.words ≡ (λ w. member w l) = ap (λ (y : SideRead). has y.set.words) t.3 ∙ fun_ext (λ w. listed_has l w few) in (
          (λ w u. member-all (λ v. v < g.n) l all w (sym (ap (λ (p : ℕ → Bool). p w) same) ∙ u)),
          ap (λ (p : ℕ → Bool). side_tested g removed p at x.next) same
              ∙ ap (side_tested g removed (λ v. member v l) at) (ap (λ (y : SideRead). y.next) t.3)
              ∙ list_tested l t.1 (leads_got side_count side_list e ∙ t.2),
        )

-- ---- the tests of a side

pub side-empty : (g : Graph) (removed set : ℕ → Bool) (at next : ℕ) → some_below g.n set ≡ false → Err (CertificateFault 22 at) ≡ side_tested g removed set at next
unfolding side_tested
side-empty g removed set at next e = rw e

-- the tests as the code makes them: of the side, of the rest, and between them
pub side-tests : (rows : List ℕ) (n : ℕ) → n ≤ capacity → (removed set left : List ℕ) → RestOf n removed set left → Low n set → (at next : ℕ) {y z : Bool}
    → true ≡ some_below n (has set) → y ≡ some_below n (has left) → z ≡ none_between rows (has set) (has left)
    → cond y (cond z (Ok next) (Err (CertificateFault 23 at))) (Err (CertificateFault 22 at)) ≡ side_tested (rows_graph n rows) (has removed) (has set) at next
unfolding side_tested
side-tests rows n small removed set left r low at next e f h = rw (← e, ← rest_some n removed set left r, ← f, ← between-same rows n small removed set left r low, ← h)

-- ---- a pair

module _ (n : ℕ) (adj : ℕ → ℕ → Bool) (named : ℕ → Bool) (s : List ℕ) (at : ℕ) where
  pub pair-first : {r p : ℕ} → vertex n s at ≡ Refused r p → pair n adj named s at ≡ Refused r p
  unfolding pair ◌needs⟨◌⟩◌ ◌▸◌
  pair-first e = rw e

  pub pair-second : {a mid r p : ℕ} → vertex n s at ≡ Got a mid → vertex n s mid ≡ Refused r p → pair n adj named s at ≡ Refused r p
  unfolding pair ◌needs⟨◌⟩◌ ◌▸◌
  pair-second e f = rw (e, f)

  pub pair-tested : {a mid b next : ℕ} {x y z : Bool} → vertex n s at ≡ Got a mid → vertex n s mid ≡ Got b next → adj a b ≡ x → named b ≡ y → named a ≡ z
      → pair n adj named s at ≡ cond x (cond y (cond z (Refused 26 at) (Got (a, b) next)) (Refused 25 at)) (Refused 24 at)
  unfolding pair ◌needs⟨◌⟩◌ ◌▸◌
  pair-tested {x = false} e f g h i = rw (e, f, g)
  pair-tested {x = true} {y = false} e f g h i = rw (e, f, g, h)
  pair-tested {x = true} {y = true} {z = true} e f g h i = rw (e, f, g, h, i)
  pair-tested {x = true} {y = true} {z = false} e f g h i = rw (e, f, g, h, i)

  pub pair-low : {v : ℕ × ℕ} {next : ℕ} → pair n adj named s at ≡ Got v next → v.0 < n
  unfolding pair ◌▸◌
  pair-low e =
      let z = needs_true _ 26 (λ p. not (named p.0)) {s = s} {at = at} e in
      let y = needs_true _ 25 (λ p. named p.1) {s = s} {at = at} z.0 in
      let x = needs_true (vertex n ▸ λ new. vertex n) 24 (λ p. adj p.0 p.1) {s = s} {at = at} y.0 in
      let w = on_got (vertex n s at) _ x.0 in
      let u = on_got (vertex n s w.1) _ w.3 in
      carry (λ p q. p.0 < n) u.3 (vertex-low n s at w.2)

pub pair-ok : (R : Read (ℕ × ℕ)) {x : Item} → Ok x ≡ pair_read R → (b : ℕ) × (R ≡ Got (x.value, b) x.next)
pair-ok R e = let g = told-ok _ R e in rw g.3 (g.0.1, g.2)

-- ---- a spanning tree

module _ (g : Graph) (s : List ℕ) (at : ℕ) where
  abbrev pair_list : ℕ → Reader (List (ℕ × ℕ))
  pair_list first = many (pair g.n g.adj) (λ named p. with named p.0) (g.n - 1) (with nobody first)

  abbrev after_first : (c first : ℕ) → Reader (List (ℕ × ℕ) × List ℕ)
  after_first c first = pair_list first ▸ λ pairs. side g (with nobody c)

  abbrev after_removed : ℕ → Reader (ℕ × (List (ℕ × ℕ) × List ℕ))
  after_removed c = vertex g.n ▸ after_first c

  whole : end_read ((vertex g.n ▸ after_removed) s at) ≡ end_read (body g 1 s at)
  whole = end_into (λ x. tree x.0 x.1.0 x.1.1.0 x.1.1.1) (vertex g.n ▸ after_removed) s at

  pub tree_removed : {q p : ℕ} → vertex g.n s at ≡ Refused q p → Err (CertificateFault q p) ≡ end_read (body g 1 s at)
  tree_removed e = end_stop (vertex g.n) after_removed e ∙ whole

  module _ {c first_at : ℕ} (e : vertex g.n s at ≡ Got c first_at) where
    pub tree_first : {q p : ℕ} → vertex g.n s first_at ≡ Refused q p → Err (CertificateFault q p) ≡ end_read (body g 1 s at)
    tree_first f = end_stop (vertex g.n) (after_first c) f ∙ end_then (vertex g.n) after_removed e ∙ whole

    module _ {first pairsAt : ℕ} (f : vertex g.n s first_at ≡ Got first pairsAt) where
      on : end_read (after_first c first s pairsAt) ≡ end_read (body g 1 s at)
      on = end_then (vertex g.n) (after_first c) f ∙ end_then (vertex g.n) after_removed e ∙ whole

      pub tree_pairs : {q p : ℕ} → pair_list first s pairsAt ≡ Refused q p → Err (CertificateFault q p) ≡ end_read (body g 1 s at)
      tree_pairs k = end_stop (pair_list first) (λ pairs. side g (with nobody c)) k ∙ on

      pub tree_side : {pairs : List (ℕ × ℕ)} {next : ℕ} → pair_list first s pairsAt ≡ Got pairs next → end_read (side g (with nobody c) s next) ≡ end_read (body g 1 s at)
      tree_side k = end_then (pair_list first) (λ pairs. side g (with nobody c)) k ∙ on
