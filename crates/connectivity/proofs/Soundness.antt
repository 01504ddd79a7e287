-- A certificate that keeps every rule tells the graph's connectivity.
use mathlib.Core.Path.{◌≡◌, refl}
use mathlib.Core.Logic.{⊎_elim, inl, inr, ◌≢◌, ◌⊎◌, ⊎_map}
use mathlib.Core.List.{List, [], ◌∷◌, ◌++◌}
use Prim.Native.Nat.{ℕ, ◌+◌, ◌<◌, ◌-◌}
use native.Mathlib.Omega.{arith}
use lib.ListN.{length}
use Rattle.connectivity.specs.Lists.{In, NoDup, all}
use Rattle.connectivity.specs.Graph.{Graph, Simple, Walk, stay, hop, AllConnected, Adj, Separator, HasConnectivity}
use Rattle.connectivity.specs.Connectivity.{connectivity}
use Rattle.connectivity.specs.Path.{Path, IsPath, vertices, End}
use Rattle.connectivity.specs.Build.{Steps, IsBranch, final}
use Rattle.connectivity.specs.Certificate.{Separation, Tree, Cycle, Ear, Ears, inside, Certificate, Rules, kind, grade, separation, tree, ears, build}
use Rattle.connectivity.proofs.Lists.{either, in?, in_single, full, in_append}
use Rattle.connectivity.proofs.Paths.{inner_in}
use Rattle.connectivity.proofs.Walks.{walk_trans, walk_back, Connected, reach-end, connected_trans, connected_back, here, move, connected_walk, Free, Removed}
use Rattle.connectivity.proofs.Edges.{edge-high}
use Rattle.connectivity.proofs.Separators.{no_separator_0, all_connected-0, no_separator_1, has-3, all_connected-1, no_separator_2, has-0, separator_0, has_1, separator_1, has-2, separator_2}
use Rattle.connectivity.proofs.Closure.{has-connectivity}
use Rattle.connectivity.proofs.Invariant.{steps-invariant}
use Rattle.connectivity.proofs.Start.{Subdivision, the_four, start-invariant, start-subdivision}

-- the grade of a certificate is its kind
pub grade-kind : (x : Certificate) → grade x ≡ kind x
grade-kind (separation S) = refl
grade-kind (tree c f ps S) = refl
grade-kind (ears c d P es S) = refl
grade-kind (build a b c d ps qs) = refl

-- the vertices that a tree names
abbrev pub named : List ℕ → List (ℕ × ℕ) → List ℕ
named T [] = T
named T (e ∷ ps) = named (e.0 ∷ T) ps

pub tree_length : (T : List ℕ) (ps : List (ℕ × ℕ)) → length (named T ps) ≡ length ps + length T
tree_length T [] = omega arith
tree_length T (e ∷ ps) = let ih = tree_length (e.0 ∷ T) ps in omega arith

module _ (g : Graph) (p : Simple g) where
  -- SEPARATION: a walk outside X does not leave the side, so the vertices left are not all connected.
  side-closed : {X S : List ℕ} → Separation g X S → {u v : ℕ} → Walk g X u v → In u S → In v S
  side-closed s stay h = h
  side-closed {X} {S} s (hop {u = u} {v = v} k a b j) h = side-closed s j (⊎_elim (λ i. i) (λ i. absurd (s.no_edge u v h ((edge-high g p u v k, b), i) k)) (either (in? v S)))

  pub separation_separates : {X S : List ℕ} → Separation g X S → ¬ AllConnected g X
  separation_separates s a =
      let w = s.some_side in
      let v = s.some_rest in
      v.1.1 (side-closed s (a w.0 v.0 (s.remaining w.0 w.1) v.1.0) w.1)

  -- TREE: all vertices are connected.
  abbrev AllWalk : List ℕ → Type 0
  AllWalk T = (u v : ℕ) → In u T → In v T → Walk g [] u v

  tree_walk : (T : List ℕ) (ps : List (ℕ × ℕ)) → Tree g T ps → AllWalk T → AllWalk (named T ps)
  tree_walk T [] t f = f
  tree_walk T (e ∷ ps) t f = tree_walk (e.0 ∷ T) ps t.3 (λ u v hu hv. walk_trans (to u hu) (walk_back p (to v hv)))
    where
      to : (w : ℕ) → In w (e.0 ∷ T) → Walk g [] w e.1
      to w (inl i) = rw i (hop t.2 (λ h. h) (λ h. h) stay)
      to w (inr h) = f w e.1 h t.1

  pub tree_nodup : (T : List ℕ) (ps : List (ℕ × ℕ)) → Tree g T ps → NoDup T → NoDup (named T ps)
  tree_nodup T [] t nd = nd
  tree_nodup T (e ∷ ps) t nd = tree_nodup (e.0 ∷ T) ps t.3 (t.0, nd)

  pub tree_low : (T : List ℕ) (ps : List (ℕ × ℕ)) → Tree g T ps → ((w : ℕ) → In w T → w < g.n) → (w : ℕ) → In w (named T ps) → w < g.n
  tree_low T [] t f = f
  tree_low T (e ∷ ps) t f = tree_low (e.0 ∷ T) ps t.3 (λ w h. ⊎_elim (λ i. rw i (p.low e.0 e.1 t.2)) (f w) h)

  pub tree_connected : (f : ℕ) (ps : List (ℕ × ℕ)) → f < g.n → length ps ≡ g.n - 1 → Tree g (f ∷ []) ps → AllConnected g []
  tree_connected f ps hf e t u v hu hv = tree_walk (f ∷ []) ps t one u v (into u hu.0) (into v hv.0)
    where
      one : AllWalk (f ∷ [])
      one u v hu hv = rw (in_single u f hu, in_single v f hv) stay

      into : (z : ℕ) → z < g.n → In z (named (f ∷ []) ps)
      into = full g.n (named (f ∷ []) ps) (tree_nodup (f ∷ []) ps t ((λ h. h), tt)) (tree_low (f ∷ []) ps t (λ w h. omega (arith, in_single w f h))) (omega (arith, tree_length (f ∷ []) ps))

  -- EARS: no single vertex separates the graph.
  abbrev StayConnected : List ℕ → Type 0
  StayConnected B = (c u v : ℕ) → In u B → In v B → u ≢ c → v ≢ c → Connected (Adj g) c c u v

  -- along a path to an end of it
  to_end : (P : Path) → IsPath (Adj g) P → (c u : ℕ) → In u (vertices P) → u ≢ c → (z : ℕ) × End z P × (z ≢ c) × Connected (Adj g) c c u z
  to_end P path c u h ne = ⊎_elim (λ r. (r.0, r.1, r.2.0, r.3)) (λ r. absurd (r.2 refl)) (reach-end (Adj g) p.symmetric c c P u path h (ne, ne))

  -- from u to x and from v to z, and between the two
  by_way : (c : ℕ) {u v x z : ℕ} → Connected (Adj g) c c u x → Connected (Adj g) c c x z → Connected (Adj g) c c v z → Connected (Adj g) c c u v
  by_way c a b k = connected_trans (Adj g) p.symmetric c c a (connected_trans (Adj g) p.symmetric c c b (connected_back (Adj g) p.symmetric c c k))

  cycle-connected : (P : Path) → Cycle g P → StayConnected (vertices P)
  cycle-connected P y c u v hu hv nu nv =
      let a = to_end P y.is_path c u hu nu in
      let b = to_end P y.is_path c v hv nv in
      by_way c a.3 (ends a.0 b.0 a.1 b.1 a.2 b.2) b.3
    where
      ends : (x z : ℕ) → End x P → End z P → x ≢ c → z ≢ c → Connected (Adj g) c c x z
      ends x z (inl e) (inl k) nx nz = rw (e, k) here
      ends x z (inr e) (inr k) nx nz = rw (e, k) here
      ends x z (inl e) (inr k) nx nz = move {u = x} {v = z} (rw (e, k) (p.symmetric P.t P.s y.closes)) (nx, nx) (nz, nz) here
      ends x z (inr e) (inl k) nx nz = move {u = x} {v = z} (rw (e, k) y.closes) (nx, nx) (nz, nz) here

  ear-connected : (B : List ℕ) (P : Path) → Ear g B P → StayConnected B → StayConnected (P.inner ++ B)
  ear-connected B P y f c u v hu hv nu nv =
      let a = to u (in_append u P.inner B hu) nu in
      let b = to v (in_append v P.inner B hv) nv in
      by_way c a.3 (f c a.0 b.0 a.1 b.1 a.2 b.2) b.3
    where
      at : (z : ℕ) → End z P → In z B
      at z (inl e) = rw e y.from
      at z (inr e) = rw e y.upto

      to : (w : ℕ) → In w P.inner ⊎ In w B → w ≢ c → (z : ℕ) × In z B × (z ≢ c) × Connected (Adj g) c c w z
      to w (inr h) ne = (w, h, ne, here)
      to w (inl h) ne = let r = to_end P y.is_path c w (inner_in w P h) ne in (r.0, at r.0 r.1, r.2, r.3)

  ears-stay : (B : List ℕ) (es : List Path) → Ears g B es → StayConnected B → StayConnected (inside B es)
  ears-stay B [] y f = f
  ears-stay B (P ∷ es) y f = ears-stay (P.inner ++ B) es y.1 (ear-connected B P y.0 f)

  pub ears-connected : (P : Path) (es : List Path) → Cycle g P → Ears g (vertices P) es → ((z : ℕ) → z < g.n → In z (inside (vertices P) es)) → (c : ℕ) → AllConnected g (c ∷ [])
  ears-connected P es y k all c u v hu hv =
      connected_walk {d = c} (λ w h. inl (in_single w c h)) (ears-stay (vertices P) es k (cycle-connected P y) c u v (all u hu.0) (all v hv.0) (λ e. hu.1 (inl e)) (λ e. hv.1 (inl e)))

  -- BUILD: no two vertices separate the graph.
  pub build-connected : (start further : List Path) → Subdivision (Adj g) start → Steps (Adj g) start further → ((z : ℕ) → z < g.n → IsBranch z (final start further)) → (c d : ℕ) → AllConnected g (c ∷ (d ∷ []))
  build-connected start further x steps all c d u v hu hv =
      let r = steps-invariant (Adj g) p.symmetric (the_four x) start further (start-invariant (Adj g) start x p.symmetric) steps in
      let i = all u hu.0 in
      let j = all v hv.0 in
      connected_walk removed (r.1.connected c d u v (r.1.ends i.0 i.1 u i.2) (r.1.ends j.0 j.1 v j.2) (free u hu.1) (free v hv.1))
    where
      free : (w : ℕ) → ¬ In w (c ∷ (d ∷ [])) → Free c d w
      free w n = ((λ e. n (inl e)), (λ e. n (inr (inl e))))

      removed : (w : ℕ) → In w (c ∷ (d ∷ [])) → Removed c d w
      removed w h = ⊎_map (λ e. e) (in_single w d) h

  -- so a tree, ears and a finished build leave no separators of 0, 1, 2 vertices
  pub tree_none : (f : ℕ) (ps : List (ℕ × ℕ)) → f < g.n → length ps ≡ g.n - 1 → Tree g (f ∷ []) ps → ¬ Separator g 0
  tree_none f ps low count t = no_separator_0 g (tree_connected f ps low count t)

  pub ears-none : (P : Path) (es : List Path) → Cycle g P → Ears g (vertices P) es → ((z : ℕ) → z < g.n → In z (inside (vertices P) es)) → (¬ Separator g 0) × (¬ Separator g 1)
  ears-none P es y k all = (no_separator_0 g (all_connected-0 g p one), no_separator_1 g one)
    where
      one : (c : ℕ) → c < g.n → AllConnected g (c ∷ [])
      one c h = ears-connected P es y k all c

  pub build-has_3 : (start further : List Path) → Subdivision (Adj g) start → Steps (Adj g) start further → ((z : ℕ) → z < g.n → IsBranch z (final start further)) → HasConnectivity g 3
  build-has_3 start further x steps all = has-3 g (no_separator_0 g (all_connected-0 g p (all_connected-1 g p two))) (no_separator_1 g (all_connected-1 g p two)) (no_separator_2 g two)
    where
      two : (c d : ℕ) → c < g.n → d < g.n → c ≢ d → AllConnected g (c ∷ (d ∷ []))
      two c d hc hd ne = build-connected start further x steps all c d

  -- EVERY RULE HOLDS: THE CONNECTIVITY IS THE GRADE.
  pub rules_connectivity : (x : Certificate) → Rules g x → HasConnectivity g (grade x)
  rules_connectivity (separation S) r = has-0 g (separator_0 g (separation_separates r))
  rules_connectivity (tree c f ps S) r = has_1 g (tree_none f ps r.first_low r.count r.tree) (separator_1 g c r.c_low (separation_separates r.separation))
  rules_connectivity (ears c d P es S) r = let n = ears-none P es r.first r.ears r.all_in in has-2 g n.0 n.1
      (separator_2 g c d (omega (arith, r.order, r.low)) r.low (λ e. omega (arith, r.order)) (separation_separates r.separation))
  rules_connectivity (build a b c d ps qs) r = build-has_3 ps qs (start-subdivision g a b c d ps r.first) r.steps r.all-branch

  pub grade-connectivity : (x : Certificate) → Rules g x → grade x ≡ connectivity g
  grade-connectivity x r = has-connectivity g p (grade x) (rules_connectivity x r)
