-- The mates of a link's outermost inner vertices: the walk both ways finds them, and what setting them does. Assumes nothing.
use Prim.Native.Nat.{ℕ, zero, suc, ◌*◌, ◌<◌}
use mathlib.Core.List.{List, [], ◌∷◌, ◌++◌}
use mathlib.Core.Bool.{Bool, true, false}
use mathlib.Core.Path.{◌≡◌, refl, sym, ap, ◌∙◌, subst}
use mathlib.Core.Logic.{◌⊎◌, inl, inr, ⊎_elim, ⊎_map, ◌≢◌}
use native.Mathlib.Omega.{arith}
use lib.Dec.{eqb}
use lib.ListN.{length}
use borrow.Author.Tests.{eqb-true, eq-eqb, ne_eqb}
use Rattle.vertexset.specs.Set.{capacity}
use Rattle.connectivity.specs.Lists.{In, NoDup}
use Rattle.connectivity.proofs.Lists.{nodup_right, in_left, in_right, clash}
use Rattle.connectivity.proofs.Paths.{head_of}
use Rattle.links.specs.Tables.{pointer_count, pointer, pointed, mates, mated, last_from, mated_ends, mated_aside, outermost}
use Rattle.refinement.proofs.Pointers.{Back, On, pointed-length, pointed-same, pointed-apart}

-- the first and the last of the list are each other's mates
abbrev pub Mated : (ℕ → ℕ) → List ℕ → Type 0
Mated mate [] = Unit {0}
Mated mate (v ∷ l) = (mate v ≡ last_from v l) × (mate (last_from v l) ≡ v)

pub last_in : (v : ℕ) (l : List ℕ) → In (last_from v l) (v ∷ l)
last_in v [] = inl refl
last_in v (w ∷ l) = inr (last_in w l)

pub mated-same : (p q : ℕ → ℕ) (l : List ℕ) → ((w : ℕ) → In w l → q w ≡ p w) → Mated p l → Mated q l
mated-same p q [] same h = tt
mated-same p q (v ∷ l) same h = (same v (inl refl) ∙ h.0, same (last_from v l) (last_in v l) ∙ h.1)

-- the last of a list that is cut
pub last_cut : (u : ℕ) (l : List ℕ) (x : ℕ) (q : List ℕ) → last_from u (l ++ (x ∷ q)) ≡ last_from x q
last_cut u [] x q = refl
last_cut u (v ∷ l) x q = last_cut v l x q

mated-cut : (mate : ℕ → ℕ) (l : List ℕ) (x : ℕ) (q : List ℕ) → Mated mate (l ++ (x ∷ q)) → (mate (head_of l x) ≡ last_from x q) × (mate (last_from x q) ≡ head_of l x)
mated-cut mate [] x q h = h
mated-cut mate (v ∷ l) x q h = let e = last_cut v l x q in (h.0 ∙ e, ap mate (sym e) ∙ h.1)

-- the neighbours of x where a list is cut
pub before_cut : (to : ℕ → ℕ) (u : ℕ) (l : List ℕ) (x : ℕ) (q : List ℕ) → Back to u (l ++ (x ∷ q)) → to x ≡ last_from u l
before_cut to u [] x q h = h.0
before_cut to u (v ∷ l) x q h = before_cut to v l x q h.1

pub on_rest : (to : ℕ → ℕ) (l : List ℕ) (x : ℕ) (q : List ℕ) (t : ℕ) → On to (l ++ (x ∷ q)) t → On to (x ∷ q) t
on_rest to [] x q t h = h
on_rest to (v ∷ l) x q t h = on_rest to l x q t h.1

-- the two ends beyond it
pub back_head : (to : ℕ → ℕ) (u : ℕ) (l : List ℕ) (x : ℕ) (q : List ℕ) → Back to u (l ++ (x ∷ q)) → to (head_of l x) ≡ u
back_head to u [] x q h = h.0
back_head to u (v ∷ l) x q h = h.0

pub on_last : (to : ℕ → ℕ) (l : List ℕ) (x : ℕ) (q : List ℕ) (t : ℕ) → On to (l ++ (x ∷ q)) t → to (last_from x q) ≡ t
on_last to [] x [] t h = h.0
on_last to [] x (y ∷ q) t h = on_last to [] y q t h.1
on_last to (v ∷ l) x q t h = on_last to l x q t h.1

-- THE WALK
module _ (to : ℕ → ℕ) (branch : ℕ → Bool) where
  abbrev Clear : List ℕ → Type 0
  Clear l = (w : ℕ) → In w l → branch w ≡ false

  -- from v to f in d steps, past no branch vertex
  abbrev Walk : ℕ → ℕ → ℕ → Type 0
  Walk zero v f = v ≡ f
  Walk (suc d) v f = (branch (to v) ≡ false) × Walk d (to v) f

  walk_more : (d v f g : ℕ) → Walk d v f → to f ≡ g → branch g ≡ false → Walk (suc d) v g
  walk_more zero v f g e q c = let z : to v ≡ g = ap to e ∙ q in (rw z c, z)
  walk_more (suc d) v f g h q c = (h.0, walk_more d (to v) f g h.1 q c)

  back-walk : (u : ℕ) (l : List ℕ) (x : ℕ) (q : List ℕ) → Back to u (l ++ (x ∷ q)) → Clear l → Walk (length l) x (head_of l x)
  back-walk u [] x q h c = refl
  back-walk u (v ∷ l) x q h c = walk_more (length l) x (head_of l x) v (back-walk v l x q h.1 (λ w i. c w (inr i))) (back_head to v l x q h.1) (c v (inl refl))

  on_walk : (x : ℕ) (q : List ℕ) (t : ℕ) → On to (x ∷ q) t → Clear q → Walk (length q) x (last_from x q)
  on_walk x [] t h c = refl
  on_walk x (y ∷ q) t h c = rw h.0 (c y (inl refl), on_walk y q t h.1 (λ w i. c w (inr i)))

-- both sides together: as soon as one side is done
module _ (back on mate : ℕ → ℕ) (branch : ℕ → Bool) (f l : ℕ) (before : branch (back f) ≡ true) (after : branch (on l) ≡ true) (there : mate f ≡ l) (again : mate l ≡ f) where
  walked : (k d e u w : ℕ) → Walk back branch d u f → Walk on branch e w l → (d < k) ⊎ (e < k) → outermost back on mate branch k u w ≡ (f, l)
  unfolding outermost
  walked zero d e u w p q h = absurd (⊎_elim (λ z. omega arith) (λ z. omega arith) h)
  walked (suc k) zero e u w p q h = rw (p, before, there)
  walked (suc k) (suc d) zero u w p q h = rw (p.0, q, after, again)
  walked (suc k) (suc d) (suc e) u w p q h = rw (p.0, q.0) (walked k d e (back u) (on w) p.1 q.1 (⊎_map (λ z. omega arith) (λ z. omega arith) h))

-- THE OUTERMOST INNER VERTICES of the link a, l, x, q, b are found from x in as many steps as its shorter side has vertices
module _ (back on mate : ℕ → ℕ) (branch : ℕ → Bool) (a : ℕ) (l : List ℕ) (x : ℕ) (q : List ℕ) (b : ℕ) where
  pub outermost-found : Back back a (l ++ (x ∷ q)) → On on (l ++ (x ∷ q)) b → Mated mate (l ++ (x ∷ q)) → branch a ≡ true → branch b ≡ true → ((w : ℕ) → In w (l ++ (x ∷ q)) → branch w ≡ false)
      → (k : ℕ) → (length l < k) ⊎ (length q < k) → outermost back on mate branch k x x ≡ (head_of l x, last_from x q)
  outermost-found before after ms first last clear k h =
      let rest = on_rest on l x q b after in
      let m = mated-cut mate l x q ms in
      walked back on mate branch (head_of l x) (last_from x q) (rw (back_head back a l x q before) first) (rw (on_last on l x q b after) last) m.0 m.1 k (length l) (length q) x x
      (back-walk back branch a l x q before (λ w i. clear w (in_left w l (x ∷ q) i))) (on_walk on branch x q b rest (λ w i. clear w (in_right w l (x ∷ q) (inr i)))) h

-- SETTING MATES
-- q is p with the mates of the list set: all else stays; part i of the table begins at i * capacity
pub record Remated (p q : List ℕ) (l : List ℕ) : Type 0 where
  pub long : length q ≡ length p
  pub set : Mated (pointer q mates) l
  pub others : (i w : ℕ) → (i ≡ 2 → ¬ In w l) → pointer q (i * capacity) w ≡ pointer p (i * capacity) w

pub mated-length : (p : List ℕ) (u v : ℕ) → length (mated p u v) ≡ length p
mated-length p u v = pointed-length (pointed p mates u v) mates v u ∙ pointed-length p mates u v

pub ends_length : (p l : List ℕ) → length (mated_ends p l) ≡ length p
ends_length p [] = refl
ends_length p (v ∷ l) = mated-length p v (last_from v l)

module _ (p : List ℕ) (long : length p ≡ pointer_count) where
  -- two vertices that are mated
  module _ (u v : ℕ) (lu : u < capacity) (lv : v < capacity) where
    abbrev once : List ℕ
    once = pointed p mates u v

    pub pair-last : pointer (mated p u v) mates v ≡ u
    pair-last = pointed-same once mates v u (omega (arith, pointed-length p mates u v)) lv

    pub pair-first : pointer (mated p u v) mates u ≡ v
    pair-first = go (eqb u v) refl
      where
        go : (b : Bool) → eqb u v ≡ b → pointer (mated p u v) mates u ≡ v
        go true e = let z : u ≡ v = eqb-true u v e in ap (pointer (mated p u v) mates) z ∙ pair-last ∙ z
        go false e = pointed-apart once mates v u mates u (λ h k z. let n : u ≢ v = λ k. clash (eq-eqb u v k) e in n (omega arith)) ∙ pointed-same p mates u v (omega arith) lu

    pub pair-others : (i w : ℕ) → (i ≡ 2 → (w ≢ u) × (w ≢ v)) → pointer (mated p u v) (i * capacity) w ≡ pointer p (i * capacity) w
    pair-others i w n =
        pointed-apart once mates v u (i * capacity) w (λ h k e. (n (omega arith)).1 (omega arith))
        ∙ pointed-apart p mates u v (i * capacity) w (λ h k e. (n (omega arith)).0 (omega arith))

  -- the ends of a list, either way round
  low_last : (v : ℕ) (l : List ℕ) → ((w : ℕ) → In w (v ∷ l) → w < capacity) → last_from v l < capacity
  low_last v l low = low (last_from v l) (last_in v l)

  remated_none : Remated p p []
  remated_none = record { long = refl; set = tt; others = λ i w n. refl }

  remated_there : (v : ℕ) (l : List ℕ) → ((w : ℕ) → In w (v ∷ l) → w < capacity) → Remated p (mated p v (last_from v l)) (v ∷ l)
  remated_there v l low =
      let a = low v (inl refl) in
      let b = low_last v l low in
      record {
        long = mated-length p v (last_from v l);
        set = (pair-first v (last_from v l) a b, pair-last v (last_from v l) a b);
        others = λ i w n. pair-others v (last_from v l) a b i w (λ e. (λ k. n e (inl k), λ k. n e (subst (λ (z : ℕ). In z (v ∷ l)) (sym k) (last_in v l))));
      }

  remated_back : (v : ℕ) (l : List ℕ) → ((w : ℕ) → In w (v ∷ l) → w < capacity) → Remated p (mated p (last_from v l) v) (v ∷ l)
  remated_back v l low =
      let a = low v (inl refl) in
      let b = low_last v l low in
      record {
        long = mated-length p (last_from v l) v;
        set = (pair-last (last_from v l) v b a, pair-first (last_from v l) v b a);
        others = λ i w n. pair-others (last_from v l) v b a i w (λ e. (λ k. n e (subst (λ (z : ℕ). In z (v ∷ l)) (sym k) (last_in v l)), λ k. n e (inl k)));
      }

  -- a path that enters
  pub remated_ends : (l : List ℕ) → ((w : ℕ) → In w l → w < capacity) → Remated p (mated_ends p l) l
  remated_ends [] low = remated_none
  remated_ends (v ∷ l) low = remated_there v l low

  -- the two parts of a link that is split at x
  pub remated_before : (u : ℕ) (l : List ℕ) (x : ℕ) (q : List ℕ) → Back (pointer p 0) u (l ++ (x ∷ q)) → NoDup (l ++ (x ∷ q)) → ((w : ℕ) → In w l → w < capacity)
      → Remated p (mated_aside p 0 x (head_of l x)) l
  remated_before u [] x q h nd low = rw (eq-eqb x x refl) remated_none
  remated_before u (v ∷ l) x q h nd low =
      let n : x ≢ v = λ e. nd.0 (in_right v l (x ∷ q) (inl (sym e))) in
      rw (ne_eqb x v n, before_cut (pointer p 0) v l x q h.1) (remated_there v l low)

  pub remated_after : (l : List ℕ) (x : ℕ) (q : List ℕ) (t : ℕ) → On (pointer p capacity) (l ++ (x ∷ q)) t → NoDup (l ++ (x ∷ q)) → ((w : ℕ) → In w q → w < capacity)
      → Remated p (mated_aside p capacity x (last_from x q)) q
  remated_after l x [] t h nd low = rw (eq-eqb x x refl) remated_none
  remated_after l x (y ∷ q) t h nd low =
      let n : x ≢ last_from y q = λ e. (nodup_right l (x ∷ (y ∷ q)) nd).0 (subst (λ (z : ℕ). In z (y ∷ q)) (sym e) (last_in y q)) in
      rw (ne_eqb x (last_from y q) n, (on_rest (pointer p capacity) l x (y ∷ q) t h).0) (remated_back y q low)
