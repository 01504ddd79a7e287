-- A path that was found, taken from the last vertex at which it is in a set that holds its seed and no goal.
use mathlib.Core.Path.{◌≡◌, refl, sym, ap, subst, ◌∙◌}
use mathlib.Core.Logic.{inl, inr, ⊎_elim}
use mathlib.Core.List.{List, [], ◌∷◌, ◌++◌, append_assoc}
use mathlib.Core.Bool.{Bool, true, false}
use Prim.Native.Nat.{ℕ, ◌+◌}
use lib.ListN.{take}
use Rattle.connectivity.specs.Lists.{In, NoDup}
use Rattle.connectivity.specs.Graph.{Graph, Adj}
use Rattle.connectivity.specs.Path.{Along, link, vertices}
use Rattle.connectivity.proofs.Lists.{rev, rev_in, in_rev, in_right, nodup_right, clash}
use Rattle.connectivity.proofs.Paths.{along-cut}
use Rattle.connectivity.proofs.Search.{Found}
use Rattle.construction.specs.Sets.{place_of}
use Rattle.construction.proofs.Places.{rev_split, rev_end, rev_rev}
use Rattle.construction.proofs.Finding.{FirstAt, first_at, up_to-first}

-- a path from a later vertex on
along-from : (E : ℕ → ℕ → Type 0) (s : ℕ) (l : List ℕ) (t : ℕ) (u : List ℕ) (x : ℕ) (m : List ℕ) → s ∷ l ≡ u ++ (x ∷ m) → Along E s l t → Along E x m t
along-from E s l t [] x m e a = let h : s ≡ x = cc in let k : l ≡ m = cc in subst (λ (j : List ℕ). Along E x j t) k (subst (λ (y : ℕ). Along E y l t) h a)
along-from E s l t (c ∷ u) x m e a = let k : l ≡ u ++ (x ∷ m) = cc in (along-cut E s u x m t (subst (λ (j : List ℕ). Along E s j t) k a)).1

inner_from_lem : (s : ℕ) (l u : List ℕ) (x : ℕ) (m : List ℕ) → s ∷ l ≡ u ++ (x ∷ m) → (w : ℕ) → In w m → In w l
inner_from_lem s l [] x m e w h = let k : m ≡ l = cc in subst (λ (j : List ℕ). In w j) k h
inner_from_lem s l (c ∷ u) x m e w h = let k : u ++ (x ∷ m) ≡ l = cc in subst (λ (j : List ℕ). In w j) k (in_right w u (x ∷ m) (inr h))

-- LEAVING: listed from its goal, the path that is left is the one that was found up to the first vertex in the set
pub record Leaving (g : Graph) (G R : ℕ → Type 0) (p : ℕ → Bool) (path : List ℕ) : Type 0 where
  pub found : Found g (λ w. p w ≡ true) G R
  pub same : take (place_of p path + 1) path ≡ rev (vertices found.path)

module _ (g : Graph) (S G R : ℕ → Type 0) (f : Found g S G R) (p : ℕ → Bool) (inside : p f.path.s ≡ true) (outside : p f.path.t ≡ false) where
  abbrev s : ℕ
  s = f.path.s

  abbrev t : ℕ
  t = f.path.t

  left_at : FirstAt p (rev (s ∷ f.path.inner)) → Leaving g G R p (rev (vertices f.path))
  left_at r = record { found = found; same = same }
    where
      split : s ∷ f.path.inner ≡ rev r.back ++ (r.x ∷ rev r.front)
      split = sym (rev_rev (s ∷ f.path.inner)) ∙ ap rev r.is ∙ rev_split r.front r.x r.back

      found : Found g (λ w. p w ≡ true) G R
      found = record {
        path = link r.x (rev r.front) t;
        is_path = record {
          along = along-from (Adj g) s f.path.inner t (rev r.back) r.x (rev r.front) split f.is_path.along;
          nodup = nodup_right (rev r.back) (r.x ∷ (rev r.front ++ (t ∷ []))) (subst (λ (l : List ℕ). NoDup l) (ap (λ (l : List ℕ). l ++ (t ∷ [])) split ∙ append_assoc (rev r.back) (r.x ∷ rev r.front) (t ∷ [])) f.is_path.nodup);
        };
        seed = r.holds;
        goal = f.goal;
        off = λ w h. let o = f.off w (inner_from_lem s f.path.inner (rev r.back) r.x (rev r.front) split w h) in ((λ k. clash k (r.none w (rev_in w r.front h))), o.1, o.2);
      }

      none : (w : ℕ) → In w (t ∷ r.front) → p w ≡ false
      none w (inl e) = ap p e ∙ outside
      none w (inr h) = r.none w h

      listed : rev (vertices f.path) ≡ (t ∷ r.front) ++ (r.x ∷ r.back)
      listed = rev_end (s ∷ f.path.inner) t ∙ ap (λ (l : List ℕ). t ∷ l) r.is

      same : take (place_of p (rev (vertices f.path)) + 1) (rev (vertices f.path)) ≡ rev (vertices found.path)
      same = ap (λ (l : List ℕ). take (place_of p l + 1) l) listed ∙ up_to-first p (t ∷ r.front) r.x r.back none r.holds
          ∙ sym (rev_end (r.x ∷ rev r.front) t ∙ ap (λ (l : List ℕ). t ∷ (l ++ (r.x ∷ []))) (rev_rev r.front))

  pub leaving : Leaving g G R p (rev (vertices f.path))
  leaving = ⊎_elim left_at (λ h. absurd (clash inside (h s (in_rev s (s ∷ f.path.inner) (inl refl))))) (first_at p (rev (s ∷ f.path.inner)))
