-- Routes are short: what a search answers has room in the code's paths. Assumes nothing.
use Prim.Native.Nat.{ℕ, zero, suc, ◌+◌, ◌-◌, ◌≤◌}
use mathlib.Core.Bool.{Bool, true, false, cond}
use mathlib.Core.List.{List, [], ◌∷◌, ◌++◌}
use native.Mathlib.Omega.{arith}
use lib.Dec.{ltb}
use lib.ListN.{length, get_or, length-append}
use Rattle.vertexset.specs.declared.VertexSet.{VertexSet}
use Rattle.search.specs.Code.{path_room}
use Rattle.vertexset.specs.Set.{capacity}
use Rattle.construction.specs.Search.{Reach, back, route, is_found, reached}
use Rattle.construction.specs.Ears.{Found, found, failed, answered}

pub back-short : (k : ℕ) (order from : List ℕ) (seeds i : ℕ) → length (back k order from seeds i) ≤ k
unfolding back
back-short zero order from seeds i = omega arith
back-short (suc k) order from seeds i = go (ltb i seeds) (back-short k order from seeds (get_or from i 0))
  where
    go : (b : Bool) → length (back k order from seeds (get_or from i 0)) ≤ k → suc (length (cond b [] (back k order from seeds (get_or from i 0)))) ≤ suc k
    go true h = omega arith
    go false h = omega arith

-- over a variable, since the way back is long to compute
route-length : (n : ℕ) (r : Reach) → length (r.goal ∷ back n r.order r.from r.seeds r.last) ≤ n + 1
route-length n r = omega (arith, back-short n r.order r.from r.seeds r.last)

pub route-short : (r : Reach) → length (route r) ≤ path_room - 1
route-short r = route-length capacity r

module _ (r : Reach) (removed : VertexSet) where
  answer_length : (more : List ℕ) (b : Bool) → length (cond {A = Found} b (found (route r ++ more)) (failed removed (reached r removed))).path ≤ length (route r) + length more
  answer_length more true = omega (arith, length-append (route r) more)
  answer_length more false = omega arith

  pub answered-one : (x : ℕ) → length (answered r removed (x ∷ [])).path ≤ path_room
  answered-one x = omega (arith, route-short r, answer_length (x ∷ []) (is_found r))
