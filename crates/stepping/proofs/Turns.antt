-- The inner vertices of a path, in one direction or the other. Assumes nothing.
use Prim.Native.Nat.{ℕ, ◌-◌, ◌<◌, ◌≤◌}
use mathlib.Core.Path.{◌≡◌, refl, ap, ◌∙◌}
use mathlib.Core.Bool.{Bool, true, false, cond}
use mathlib.Core.List.{List, [], ◌∷◌, ◌++◌, reverse}
use native.Mathlib.Omega.{arith}
use lib.Dec.{eqb}
use lib.ListN.{length, get_or, take, drop, length-drop}
use Rattle.std.proofs.Math.Nat.{min-le_right}
use Rattle.std.proofs.lemmas.List.{take_all, length-take}
use Rattle.search.specs.Code.{path_room}
use borrow.Author.Tests.{eq-eqb, ne_eqb}
use Rattle.std.proofs.lemmas.Grind.{reverse_onto}
use Rattle.construction.specs.Sets.{reversed}
use Rattle.construction.specs.Steps.{turned, segment}

-- the list of the definition is std's, reversed
pub reversed-is : (l : List ℕ) → reverse l ≡ reversed l
unfolding reversed
reversed-is [] = refl
reversed-is (a ∷ l) = reverse_onto l a [] ∙ ap (λ (k : List ℕ). k ++ (a ∷ [])) (reversed-is l)

module _ (path : List ℕ) (z : ℕ) where
  pub turned_none : length path < 2 → turned path z ≡ []
  unfolding reversed
  turned_none h = let e : length path - 1 - 1 ≡ 0 = omega arith in rw e (go (eqb z (get_or path 0 0)))
    where
      go : (b : Bool) → cond b [] (reversed []) ≡ []
      go true = refl
      go false = refl

  -- its inner vertices have room where it has
  pub inner_whole : length path ≤ path_room → {items : List ℕ} → items ≡ take path_room (segment path 1 (length path - 1)) → items ≡ segment path 1 (length path - 1)
  inner_whole h e = e ∙ take_all path_room (segment path 1 (length path - 1)) (omega (arith, h, length-take (length path - 1 - 1) (drop 1 path), length-drop 1 path, min-le_right (length path - 1 - 1) (length (drop 1 path))))

  pub turned_same : {items : List ℕ} → items ≡ segment path 1 (length path - 1) → z ≡ get_or path 0 0 → items ≡ turned path z
  turned_same e h = e ∙ rw (eq-eqb z (get_or path 0 0) h)

  -- its inner vertices, reversed
  pub turned-other : {items l : List ℕ} → items ≡ segment path 1 (length path - 1) → (z ≡ get_or path 0 0 → ⊥) → l ≡ reverse items → l ≡ turned path z
  turned-other {items} e h q = q ∙ reversed-is items ∙ rw (ne_eqb z (get_or path 0 0) h, e)
