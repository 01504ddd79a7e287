-- Pointers along a path, and what setting them does. Assumes nothing.
use Prim.Native.Nat.{ℕ, ◌+◌, ◌*◌, ◌<◌}
use mathlib.Core.List.{List, [], ◌∷◌, ◌++◌}
use mathlib.Core.Bool.{Bool, true, false, cond}
use mathlib.Core.Path.{◌≡◌, refl, sym, ap, ◌∙◌, subst}
use mathlib.Core.Logic.{inl, inr, ◌≢◌}
use native.Mathlib.Omega.{arith}
use lib.Dec.{ltb}
use lib.ListN.{length, get_or, set, length-set}
use lib.Seq.{get_or-set_same, get_or-set_other}
use borrow.Author.Tests.{lt-ltb, ltb-true}
use Rattle.vertexset.specs.Set.{capacity}
use Rattle.connectivity.specs.Lists.{In, NoDup}
use Rattle.connectivity.proofs.Paths.{head_of}
use Rattle.links.specs.Tables.{pointer_count, pointer, pointed, pointed_both, point_along}

-- each vertex of the list points to the one before it, the first to u
abbrev pub Back : (ℕ → ℕ) → ℕ → List ℕ → Type 0
Back to u [] = Unit {0}
Back to u (v ∷ l) = (to v ≡ u) × Back to v l

-- each vertex of the list points to the one behind it, the last to t
abbrev pub On : (ℕ → ℕ) → List ℕ → ℕ → Type 0
On to [] t = Unit {0}
On to (v ∷ l) t = (to v ≡ head_of l t) × On to l t

-- both parts of a list that is cut
pub back_cut : (to : ℕ → ℕ) (u : ℕ) (l : List ℕ) (x : ℕ) (q : List ℕ) → Back to u (l ++ (x ∷ q)) → Back to u l × Back to x q
back_cut to u [] x q h = (tt, h.1)
back_cut to u (v ∷ l) x q h = let r = back_cut to v l x q h.1 in ((h.0, r.0), r.1)

pub head_cut : (l : List ℕ) (x : ℕ) (q : List ℕ) (t : ℕ) → head_of (l ++ (x ∷ q)) t ≡ head_of l x
head_cut [] x q t = refl
head_cut (v ∷ l) x q t = refl

pub on_cut : (to : ℕ → ℕ) (l : List ℕ) (x : ℕ) (q : List ℕ) (t : ℕ) → On to (l ++ (x ∷ q)) t → On to l x × On to q t
on_cut to [] x q t h = (tt, h.1)
on_cut to (v ∷ l) x q t h = let r = on_cut to l x q t h.1 in ((h.0 ∙ head_cut l x q t, r.0), r.1)

-- pointers that agree on the list
module _ (p q : ℕ → ℕ) where
  pub back-same : (u : ℕ) (l : List ℕ) → ((w : ℕ) → In w l → q w ≡ p w) → Back p u l → Back q u l
  back-same u [] same h = tt
  back-same u (v ∷ l) same h = (same v (inl refl) ∙ h.0, back-same v l (λ w k. same w (inr k)) h.1)

  pub on_same : (l : List ℕ) (t : ℕ) → ((w : ℕ) → In w l → q w ≡ p w) → On p l t → On q l t
  on_same [] t same h = tt
  on_same (v ∷ l) t same h = (same v (inl refl) ∙ h.0, on_same l t (λ w k. same w (inr k)) h.1)

-- one pointer that is set: its place, and the places of other vertices and of the other parts; part i of the table begins at i * capacity
module _ (p : List ℕ) where
  pub pointed-length : (part v to : ℕ) → length (pointed p part v to) ≡ length p
  pointed-length part v to = go (ltb v capacity)
    where
      go : (b : Bool) → length (cond b (set p (part + v) to) p) ≡ length p
      go true = length-set p (part + v) to
      go false = refl

  pub pointed-same : (part v to : ℕ) → part + v < length p → v < capacity → pointer (pointed p part v to) part v ≡ to
  pointed-same part v to h low = rw (lt-ltb v capacity low) (get_or-set_same p (part + v) to 0 h)

  -- v's pointer in one part is set: that of w in another place stays
  pub pointed-apart : (part v to other w : ℕ) → (v < capacity → w < capacity → other + w ≢ part + v) → pointer (pointed p part v to) other w ≡ pointer p other w
  pointed-apart part v to other w n = go (ltb v capacity) refl (ltb w capacity) refl
    where
      go : (b : Bool) → ltb v capacity ≡ b → (c : Bool) → ltb w capacity ≡ c → cond c (get_or (cond b (set p (part + v) to) p) (other + w) 0) 0 ≡ cond c (get_or p (other + w) 0) 0
      go b d false e = refl
      go false d true e = refl
      go true d true e = get_or-set_other p (part + v) (other + w) to 0 (n (ltb-true v capacity d) (ltb-true w capacity e))

other_place : (i j v w : ℕ) → w ≢ v → v < capacity → w < capacity → j * capacity + w ≢ i * capacity + v
other_place i j v w n h k e = n (omega arith)

-- both pointers of a vertex that are set
module _ (p : List ℕ) (u v w : ℕ) where
  both_length : length (pointed_both p u v w) ≡ length p
  both_length = pointed-length (pointed p 0 v u) capacity v w ∙ pointed-length p 0 v u

  both_other : (i x : ℕ) → x ≢ v → pointer (pointed_both p u v w) (i * capacity) x ≡ pointer p (i * capacity) x
  both_other i x n =
      pointed-apart (pointed p 0 v u) capacity v w (i * capacity) x (other_place 1 i v x n)
      ∙ pointed-apart p 0 v u (i * capacity) x (other_place 0 i v x n)

  module _ (long : length p ≡ pointer_count) (low : v < capacity) where
    both_before : pointer (pointed_both p u v w) 0 v ≡ u
    both_before =
        pointed-apart (pointed p 0 v u) capacity v w 0 v (λ h k e. omega arith)
        ∙ pointed-same p 0 v u (omega arith) low

    both_after : pointer (pointed_both p u v w) capacity v ≡ w
    both_after = pointed-same (pointed p 0 v u) capacity v w (let l = pointed-length p 0 v u in omega arith) low

-- a path from u along l to t
abbrev pub path_list : ℕ → List ℕ → ℕ → List ℕ
path_list u l t = u ∷ (l ++ (t ∷ []))

pub along-step : (p : List ℕ) (u v : ℕ) (l : List ℕ) (t : ℕ) → point_along p (path_list u (v ∷ l) t) ≡ point_along (pointed_both p u v (head_of l t)) (path_list v l t)
unfolding point_along
along-step p u v [] t = refl
along-step p u v (w ∷ l) t = refl

pub along-none : (p : List ℕ) (u t : ℕ) → point_along p (path_list u [] t) ≡ p
unfolding point_along
along-none p u t = refl

pub along-length : (p : List ℕ) (u : ℕ) (l : List ℕ) (t : ℕ) → length (point_along p (path_list u l t)) ≡ length p
along-length p u [] t = ap length (along-none p u t)
along-length p u (v ∷ l) t = ap length (along-step p u v l t) ∙ along-length (pointed_both p u v (head_of l t)) v l t ∙ both_length p u v (head_of l t)

-- pointers that are set: those of other vertices stay
pub along-other : (p : List ℕ) (u : ℕ) (l : List ℕ) (t i w : ℕ) → ¬ In w l → pointer (point_along p (path_list u l t)) (i * capacity) w ≡ pointer p (i * capacity) w
along-other p u [] t i w n = ap (λ (q : List ℕ). pointer q (i * capacity) w) (along-none p u t)
along-other p u (v ∷ l) t i w n =
    ap (λ (q : List ℕ). pointer q (i * capacity) w) (along-step p u v l t)
    ∙ along-other (pointed_both p u v (head_of l t)) v l t i w (λ k. n (inr k)) ∙ both_other p u v (head_of l t) i w (λ e. n (inl e))

module _ (t : ℕ) where
  abbrev PointsAlong : List ℕ → ℕ → List ℕ → Type 0
  PointsAlong q u l = Back (pointer q 0) u l × On (pointer q capacity) l t

  pub along-set : (p : List ℕ) (u : ℕ) (l : List ℕ) → length p ≡ pointer_count → NoDup l → ((w : ℕ) → In w l → w < capacity) → PointsAlong (point_along p (path_list u l t)) u l
  along-set p u [] long nd low = (tt, tt)
  along-set p u (v ∷ l) long nd low =
      let w = head_of l t in
      let q = pointed_both p u v w in
      let r = along-set q v l (both_length p u v w ∙ long) nd.1 (λ x h. low x (inr h)) in
      let b = along-other q v l t 0 v nd.0 ∙ both_before p u v w long (low v (inl refl)) in
      let a = along-other q v l t 1 v nd.0 ∙ both_after p u v w long (low v (inl refl)) in
      subst (λ (z : List ℕ). PointsAlong z u (v ∷ l)) (sym (along-step p u v l t)) ((b, r.0), (a, r.1))
