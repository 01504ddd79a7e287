-- Paths in one list, oldest first and a stop before each, beside the record of whole paths, newest first.
use mathlib.Core.Path.{◌≡◌, refl, sym, ap, subst, ◌∙◌}
use mathlib.Core.Logic.{◌⊎◌, inl, inr, ⊎_elim, ⊎_map, ⊎_swap, ◌≢◌}
use mathlib.Core.List.{List, [], ◌∷◌, ◌++◌, append_assoc}
use Prim.Native.Nat.{ℕ, zero, suc, ◌+◌, ◌*◌, ◌≤◌}
use native.Mathlib.Omega.{arith}
use lib.ListN.{length, take, drop, length-append, take-append-drop}
use lib.Seq.{take-append-le, drop-append-le}
use Rattle.connectivity.specs.Lists.{In, NoDup}
use Rattle.connectivity.specs.Path.{Path, link, vertices, IsPath, path_edges, used_edges}
use Rattle.connectivity.specs.Build.{end_pairs}
use Rattle.connectivity.proofs.Lists.{in_left, in_right, in_append, rev, rev_in, nodup_rev}
use Rattle.connectivity.proofs.Paths.{built_vertices, built_in_lem, in_built, length_path, length_used, last_of, head_of, Consecutive, along-rev}
use Rattle.connectivity.proofs.EdgeUse.{used_append}
use Rattle.connectivity.proofs.FirstLinks.{reversed}
use Rattle.connectivity.proofs.Recorded.{Extends, fill}
use Rattle.connectivity.proofs.RecordedSteps.{record_of, record_snoc}
use Rattle.construction.specs.Sets.{stop}
use Rattle.construction.proofs.Basics.{flatten}
use Rattle.construction.proofs.SetLaws.{flatten_append}
use Rattle.construction.proofs.Places.{rev_end}

-- the record of paths that are listed oldest first, the six of the start in front
abbrev pub newest_first : List Path → List Path
newest_first ps = record_of (take 6 ps) (drop 6 ps)

pub newest_snoc : (ps : List Path) (P : Path) → 6 ≤ length ps → newest_first (ps ++ (P ∷ [])) ≡ P ∷ newest_first ps
newest_snoc ps P h = ap (λ (k : List Path). record_of k (drop 6 (ps ++ (P ∷ [])))) (take-append-le 6 ps (P ∷ []) h) ∙ ap (record_of (take 6 ps)) (drop-append-le 6 ps (P ∷ []) h) ∙ record_snoc (take 6 ps) (drop 6 ps) P

-- the record holds the same paths
record_in : (ls ps : List Path) (L : Path) → In L (record_of ls ps) → In L ls ⊎ In L ps
record_in ls [] L h = inl h
record_in ls (P ∷ ps) L h = go (record_in (P ∷ ls) ps L h)
  where
    go : In L (P ∷ ls) ⊎ In L ps → In L ls ⊎ In L (P ∷ ps)
    go (inl (inl e)) = inr (inl e)
    go (inl (inr k)) = inl k
    go (inr k) = inr (inr k)

in_record : (ls ps : List Path) (L : Path) → In L ls ⊎ In L ps → In L (record_of ls ps)
in_record ls [] L h = ⊎_elim (λ k. k) (λ k. absurd k) h
in_record ls (P ∷ ps) L h = in_record (P ∷ ls) ps L (go h)
  where
    go : In L ls ⊎ In L (P ∷ ps) → In L (P ∷ ls) ⊎ In L ps
    go (inl k) = inl (inr k)
    go (inr (inl e)) = inl (inl e)
    go (inr (inr k)) = inr k

pub newest_in : (ps : List Path) (L : Path) → In L (newest_first ps) → In L ps
newest_in ps L h = subst (λ (k : List Path). In L k) (take-append-drop 6 ps) (⊎_elim (in_left L (take 6 ps) (drop 6 ps)) (in_right L (take 6 ps) (drop 6 ps)) (record_in (take 6 ps) (drop 6 ps) L h))

pub in_newest : (ps : List Path) (L : Path) → In L ps → In L (newest_first ps)
in_newest ps L h = in_record (take 6 ps) (drop 6 ps) L (in_append L (take 6 ps) (drop 6 ps) (subst (λ (k : List Path). In L k) (sym (take-append-drop 6 ps)) h))

pub newest_built : (ps : List Path) (w : ℕ) → In w (built_vertices (newest_first ps)) → In w (built_vertices ps)
newest_built ps w h = let r = built_in_lem (newest_first ps) w h in in_built r.0 ps w (newest_in ps r.0 r.1) r.2

pub built_newest : (ps : List Path) (w : ℕ) → In w (built_vertices ps) → In w (built_vertices (newest_first ps))
built_newest ps w h = let r = built_in_lem ps w h in in_built r.0 (newest_first ps) w (in_newest ps r.0 r.1) r.2

-- and uses as many edges
used_record : (ls ps : List Path) → length (used_edges (record_of ls ps)) ≡ length (used_edges ls) + length (used_edges ps)
used_record ls [] = omega arith
used_record ls (P ∷ ps) = let ih = used_record (P ∷ ls) ps in omega (arith, length-append (path_edges P) (used_edges ls), length-append (path_edges P) (used_edges ps))

used_newest : (ps : List Path) → length (used_edges (newest_first ps)) ≡ length (used_edges ps)
used_newest ps = omega (arith, used_record (take 6 ps) (drop 6 ps), length-append (used_edges (take 6 ps)) (used_edges (drop 6 ps)), ap length (used_append (take 6 ps) (drop 6 ps)), ap (λ (k : List Path). length (used_edges k)) (take-append-drop 6 ps))

-- the length of the list
length_flat : (ps : List Path) → length (flatten ps) ≡ length (used_edges ps) + 2 * length ps
length_flat [] = omega arith
length_flat (P ∷ ps) = let ih = length_flat ps in omega (arith, length-append (vertices P) (flatten ps), length-append P.inner (P.t ∷ []), length-append (path_edges P) (used_edges ps), length_path P)

pub flat_most : (ps : List Path) → length (flatten ps) ≤ 3 * length (used_edges (newest_first ps))
flat_most ps = omega (arith, length_flat ps, used_newest ps, length_used ps)

-- A path at its place: what stands there in the record does not bear on what else does.
pub record Placed (before behind : List Path) : Type 0 where
  pub newer : List Path
  pub older : List Path
  pub at : (M : Path) → newest_first (before ++ (M ∷ behind)) ≡ newer ++ (M ∷ older)

record_base : (ls ps : List Path) → record_of ls ps ≡ record_of [] ps ++ ls
record_base ls [] = refl
record_base ls (P ∷ ps) = record_base (P ∷ ls) ps ∙ sym (append_assoc (record_of [] ps) (P ∷ []) ls) ∙ ap (λ (k : List Path). k ++ ls) (sym (record_base (P ∷ []) ps))

record_append : (ls ps qs : List Path) → record_of ls (ps ++ qs) ≡ record_of (record_of ls ps) qs
record_append ls [] qs = refl
record_append ls (P ∷ ps) qs = record_append (P ∷ ls) ps qs

abbrev PlacedAt : List Path → ℕ → List Path → List Path → Type 0
PlacedAt ls k before behind = (newer : List Path) × (older : List Path) × ((M : Path) → record_of (ls ++ take k (before ++ (M ∷ behind))) (drop k (before ++ (M ∷ behind))) ≡ newer ++ (M ∷ older))

placed_at : (ls : List Path) (k : ℕ) (before behind : List Path) → PlacedAt ls k before behind
placed_at ls zero before behind = (record_of [] behind, record_of (ls ++ []) before, λ M. record_append (ls ++ []) before (M ∷ behind) ∙ record_base (M ∷ record_of (ls ++ []) before) behind)
placed_at ls (suc k) [] behind = (record_of [] (drop k behind) ++ ls, take k behind, λ M. record_base (ls ++ (M ∷ take k behind)) (drop k behind) ∙ sym (append_assoc (record_of [] (drop k behind)) ls (M ∷ take k behind)))
placed_at ls (suc k) (C ∷ before) behind =
    let r = placed_at (ls ++ (C ∷ [])) k before behind in
    (r.0, r.1, λ M. ap (λ (l : List Path). record_of l (drop k (before ++ (M ∷ behind)))) (sym (append_assoc ls (C ∷ []) (take k (before ++ (M ∷ behind))))) ∙ r.2 M)

pub placed : (before behind : List Path) → Placed before behind
placed before behind = let r = placed_at [] 6 before behind in record { newer = r.0; older = r.1; at = r.2 }

-- the pairs of ends stay where a path is replaced by one with the same ends
pub ends_kept : (k : ℕ) (before : List Path) (L M : Path) (behind : List Path) → M.s ≡ L.s → M.t ≡ L.t → end_pairs (take k (before ++ (M ∷ behind))) ≡ end_pairs (take k (before ++ (L ∷ behind)))
ends_kept zero before L M behind hs ht = refl
ends_kept (suc k) [] L M behind hs ht = λ i. (hs i, ht i) ∷ end_pairs (take k behind)
ends_kept (suc k) (C ∷ before) L M behind hs ht = ap (λ (l : List (ℕ × ℕ)). (C.s, C.t) ∷ l) (ends_kept k before L M behind hs ht)

-- the vertices of the paths are the numbers of the list that are no stops
pub in_flat : (ps : List Path) (w : ℕ) → In w (built_vertices ps) → In w (flatten ps)
in_flat [] w h = h
in_flat (P ∷ ps) w h = inr (⊎_elim (in_left w (vertices P) (flatten ps)) (λ k. in_right w (vertices P) (flatten ps) (in_flat ps w k)) (in_append w (vertices P) (built_vertices ps) h))

pub flat_in : (ps : List Path) (w : ℕ) → In w (flatten ps) → w ≢ stop → In w (built_vertices ps)
flat_in [] w h n = h
flat_in (P ∷ ps) w (inl e) n = absurd (n e)
flat_in (P ∷ ps) w (inr h) n = ⊎_elim (in_left w (vertices P) (built_vertices ps)) (λ k. in_right w (vertices P) (built_vertices ps) (flat_in ps w k n)) (in_append w (vertices P) (flatten ps) h)

-- A number of the list that is no stop stands on a path.
pub record Located (ps : List Path) (front : List ℕ) (w : ℕ) (back : List ℕ) : Type 0 where
  pub before : List Path
  pub path : Path
  pub behind : List Path
  pub place : ps ≡ before ++ (path ∷ behind)
  pub left : List ℕ
  pub right : List ℕ
  pub cut : vertices path ≡ left ++ (w ∷ right)
  pub front_is : front ≡ flatten before ++ (stop ∷ left)
  pub back_is : back ≡ right ++ flatten behind

-- where a number stands in an append
append_cut : (a b c : List ℕ) (w : ℕ) (d : List ℕ) → a ++ b ≡ c ++ (w ∷ d) → ((r : List ℕ) × (a ≡ c ++ (w ∷ r)) × (d ≡ r ++ b)) ⊎ ((l : List ℕ) × (c ≡ a ++ l) × (b ≡ l ++ (w ∷ d)))
append_cut [] b c w d e = inr (c, refl, e)
append_cut (x ∷ a) b [] w d e = inl (a, (cc), (cc))
append_cut (x ∷ a) b (y ∷ c) w d e =
    let h : x ≡ y = cc in
    ⊎_map (λ r. (r.0, (λ i. h i ∷ r.1 i), r.2)) (λ r. (r.0, (λ i. sym h i ∷ r.1 i), r.2)) (append_cut a b c w d (cc))

pub locate : (ps : List Path) (front : List ℕ) (w : ℕ) (back : List ℕ) → flatten ps ≡ front ++ (w ∷ back) → w ≢ stop → Located ps front w back
locate [] front w back e n = absurd (omega (arith, ap length e, length-append front (w ∷ back)))
locate (P ∷ ps) [] w back e n = absurd (n (cc))
locate (P ∷ ps) (c ∷ front) w back e n = go (λ l h. locate ps l w back h n) (append_cut (vertices P) (flatten ps) front w back (cc))
  where
    first : c ≡ stop
    first = cc

    go : ((l : List ℕ) → flatten ps ≡ l ++ (w ∷ back) → Located ps l w back)
        → ((r : List ℕ) × (vertices P ≡ front ++ (w ∷ r)) × (back ≡ r ++ flatten ps)) ⊎ ((l : List ℕ) × (front ≡ vertices P ++ l) × (flatten ps ≡ l ++ (w ∷ back))) → Located (P ∷ ps) (c ∷ front) w back
    go rest (inl r) = record { before = []; path = P; behind = ps; place = refl; left = front; right = r.0; cut = r.1; front_is = ap (λ (k : ℕ). k ∷ front) first; back_is = r.2 }
    go rest (inr r) =
        let s = rest r.0 r.2 in
        record {
          before = P ∷ s.before;
          path = s.path;
          behind = s.behind;
          place = ap (λ (k : List Path). P ∷ k) s.place;
          left = s.left;
          right = s.right;
          cut = s.cut;
          front_is = (λ i. first i ∷ r.1 i) ∙ ap (λ (k : List ℕ). stop ∷ (vertices P ++ k)) s.front_is ∙ ap (λ (k : List ℕ). stop ∷ k) (sym (append_assoc (vertices P) (flatten s.before) (stop ∷ s.left)));
          back_is = s.back_is;
        }

-- Two neighbours on a path, and the path with q put in between them.
pub record ConsecutiveAt (L : Path) (front : List ℕ) (a b : ℕ) (back : List ℕ) : Type 0 where
  pub consecutive : Consecutive L a b
  pub filled : (q : List ℕ) → vertices (fill L consecutive.u q consecutive.v) ≡ front ++ (a ∷ (q ++ (b ∷ back)))

head_is : (l : List ℕ) (t b : ℕ) (back : List ℕ) → l ++ (t ∷ []) ≡ b ∷ back → b ≡ head_of l t
head_is [] t b back e = cc
head_is (c ∷ l) t b back e = cc

pub consecutive_at : (s : ℕ) (l : List ℕ) (t : ℕ) (front : List ℕ) (a b : ℕ) (back : List ℕ) → vertices (link s l t) ≡ front ++ (a ∷ (b ∷ back)) → ConsecutiveAt (link s l t) front a b back
consecutive_at s l t [] a b back e =
    let h : s ≡ a = cc in
    let k : l ++ (t ∷ []) ≡ b ∷ back = cc in
    record { consecutive = record { u = []; v = l; cut = refl; left = sym h; right = head_is l t b back k }; filled = λ q. (λ i. h i ∷ (append_assoc q l (t ∷ []) ∙ ap (λ (j : List ℕ). q ++ j) k) i) }
consecutive_at s [] t (c ∷ front) a b back e = absurd (omega (arith, ap length e, length-append front (a ∷ (b ∷ back))))
consecutive_at s (d ∷ l) t (c ∷ front) a b back e =
    let h : s ≡ c = cc in
    let r = consecutive_at d l t front a b back (cc) in
    let k = r.consecutive in
    record { consecutive = record { u = d ∷ k.u; v = k.v; cut = ap (λ (j : List ℕ). d ∷ j) k.cut; left = k.left; right = k.right }; filled = λ q. (λ i. h i ∷ r.filled q i) }

pub consecutive_split : (L : Path) (a b : ℕ) → Consecutive L a b → (front : List ℕ) × (back : List ℕ) × (vertices L ≡ front ++ (a ∷ (b ∷ back)))
consecutive_split L a b k = let r = go L.s k.u k.v L.t in (r.0, r.1, ap (λ (j : List ℕ). L.s ∷ (j ++ (L.t ∷ []))) k.cut ∙ r.2 ∙ (λ i. r.0 ++ (sym k.left i ∷ (sym k.right i ∷ r.1))))
  where
    go : (s : ℕ) (u v : List ℕ) (t : ℕ) → (front : List ℕ) × (back : List ℕ) × (s ∷ ((u ++ v) ++ (t ∷ [])) ≡ front ++ (last_of s u ∷ (head_of v t ∷ back)))
    go s [] [] t = ([], [], refl)
    go s [] (d ∷ v) t = ([], v ++ (t ∷ []), refl)
    go s (d ∷ u) v t = let r = go d u v t in (s ∷ r.0, r.1, ap (λ (j : List ℕ). s ∷ j) r.2)

-- a path that stands somewhere in the list of paths stands somewhere in the one list
pub flat_place : (before : List Path) (L : Path) (behind : List Path) → flatten (before ++ (L ∷ behind)) ≡ flatten before ++ (stop ∷ (vertices L ++ flatten behind))
flat_place before L behind = flatten_append before (L ∷ behind)

-- A PATH LISTED FROM ITS OTHER END.
pub rev_vertices : (P : Path) → rev (vertices P) ≡ vertices (reversed P)
rev_vertices P = ap (λ (k : List ℕ). k ++ (P.s ∷ [])) (rev_end P.inner P.t)

module _ (E : ℕ → ℕ → Type 0) (esym : (u v : ℕ) → E u v → E v u) where
  pub path-reversed : (P : Path) → IsPath E P → IsPath E (reversed P)
  path-reversed P g = record { along = along-rev E esym P.s P.inner P.t g.along; nodup = subst (λ (k : List ℕ). NoDup k) (rev_vertices P) (nodup_rev (vertices P) g.nodup) }

  pub extends_reversed : (ls : List Path) (P : Path) → Extends E ls P → Extends E ls (reversed P)
  extends_reversed ls P f = record {
    is_path = path-reversed P f.is_path;
    from = f.upto;
    upto = f.from;
    new = λ w h. f.new w (rev_in w P.inner h);
    apart = λ M h hs ht. let c = f.apart M h ht hs in (c.0, c.1, ⊎_swap c.2);
  }
