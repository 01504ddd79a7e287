-- The loop that goes back from a goal to a seed: what was put so far, with the way that is left, is the whole route. Assumes nothing.
use Prim.Native.Nat.{ℕ, suc, ◌+◌, ◌-◌, ◌<◌, ◌≤◌}
use mathlib.Core.List.{List, [], ◌∷◌, ◌++◌, append_assoc, append-nil}
use mathlib.Core.Bool.{cond}
use mathlib.Core.Path.{◌≡◌, refl, sym, ap, ◌∙◌}
use native.Mathlib.Omega.{arith}
use lib.ListN.{length, get_or, length-append}
use lib.Dec.{ltb}
use borrow.Author.Tests.{lt-ltb, le-ltb}
use Rattle.vertexset.specs.Set.{capacity}
use Rattle.construction.specs.Search.{back}
use Rattle.search.specs.Code.{Vertices, path_room, pushed}

back_more : (k : ℕ) (order from : List ℕ) (seeds i : ℕ) → back (suc k) order from seeds i ≡ get_or order i 0 ∷ cond (ltb i seeds) [] (back k order from seeds (get_or from i 0))
unfolding back
back_more k order from seeds i = refl

back_none : (order from : List ℕ) (seeds i : ℕ) → back 0 order from seeds i ≡ []
unfolding back
back_none order from seeds i = refl

-- a vertex that has room
pub pushed-items : (p : Vertices) (v : ℕ) → length p.items < path_room → (pushed p v).items ≡ p.items ++ (v ∷ [])
pushed-items p v h = rw (lt-ltb (length p.items) path_room h)

-- after so many turns, at place i
pub record Going (order from : List ℕ) (seeds : ℕ) (whole path : List ℕ) (i counter : ℕ) : Type 0 where
  pub room : length path ≡ counter + 1
  pub rest : path ++ back (capacity - counter) order from seeds i ≡ whole

module _ {order from : List ℕ} {seeds : ℕ} {whole path : List ℕ} {i counter : ℕ} (g : Going order from seeds whole path i counter) where
  pub going_end : capacity ≤ counter → path ≡ whole
  going_end h =
      let z : capacity - counter ≡ 0 = omega arith in
      sym (append-nil path) ∙ rw (z, back_none order from seeds i) at g.rest

  module _ {v : ℕ} (q : v ≡ get_or order i 0) (h : counter < capacity) where
    step : (path ++ (v ∷ [])) ++ cond (ltb i seeds) [] (back (capacity - (counter + 1)) order from seeds (get_or from i 0)) ≡ whole
    step =
        let z : capacity - counter ≡ suc (capacity - (counter + 1)) = omega arith in
        append_assoc path (v ∷ []) _
        ∙ ap (λ (l : List ℕ). path ++ l)
        (ap (λ (n : ℕ). n ∷ cond (ltb i seeds) [] (back (capacity - (counter + 1)) order from seeds (get_or from i 0))) q
        ∙ sym (back_more (capacity - (counter + 1)) order from seeds i) ∙ ap (λ (k : ℕ). back k order from seeds i) (sym z))
        ∙ g.rest

    pub going-seed : i < seeds → path ++ (v ∷ []) ≡ whole
    going-seed s = sym (append-nil (path ++ (v ∷ []))) ∙ rw (lt-ltb i seeds s) at step

    pub going_on : seeds ≤ i → {next : ℕ} → next ≡ get_or from i 0 → Going order from seeds whole (path ++ (v ∷ [])) next (counter + 1)
    going_on s n = record {
      room = omega (arith, g.room, length-append path (v ∷ []));
      rest = rw (n) (rw (le-ltb i seeds s) at step);
    }
