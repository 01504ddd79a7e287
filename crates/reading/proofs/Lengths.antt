-- How long the record of an allowed plan is. Assumes nothing.
use Prim.Native.Nat.{ℕ, ◌*◌, ◌≤◌, ◌<◌}
use mathlib.Core.List.{List, [], ◌∷◌, ◌++◌}
use mathlib.Core.Bool.{Bool, true, false, ◌&&◌}
use mathlib.Core.Path.{◌≡◌, refl}
use native.Mathlib.Omega.{arith}
use lib.Dec.{ltb}
use lib.ListN.{length, length-append}
use borrow.Author.Tests.{ltb-true}
use Rattle.record.specs.Number.{number_bytes, list_bytes}
use Rattle.record.specs.Read.{Each}
use Rattle.record.proofs.Write.{one_byte, few_bytes}
use Rattle.reading.specs.Plan.{Plan, proper, edge_bytes, plan_bytes, EdgeAllowed, Allowed}
use Rattle.reading.specs.Code.{plan_room}

both_below : (a b n : ℕ) → ltb a b && ltb b n ≡ true → (a < n) × (b < n)
both_below a b n = go (ltb a b) (ltb b n) refl refl
  where
    go : (x y : Bool) → ltb a b ≡ x → ltb b n ≡ y → x && y ≡ true → (a < n) × (b < n)
    go true true e f h = let p = ltb-true a b e in let q = ltb-true b n f in (omega arith, q)
    go true false e f h = let z : ◌≡◌ {A = ℕ} 0 1 = cc in absurd (omega arith)
    go false y e f h = let z : ◌≡◌ {A = ℕ} 0 1 = cc in absurd (omega arith)

-- a vertex takes a byte
edge-short : (e : ℕ × ℕ) (n : ℕ) → n ≤ 128 → proper n e ≡ true → length (edge_bytes e) ≡ 2
edge-short e n h p =
    let b = both_below e.0 e.1 n p in
    rw (one_byte e.0 (omega (arith, h, b.0)), one_byte e.1 (omega (arith, h, b.1)))

edges-short : (n : ℕ) → n ≤ 128 → (before : ℕ × ℕ) (l : List (ℕ × ℕ)) → Each (EdgeAllowed n) (λ (before e : ℕ × ℕ). e) before l → length (list_bytes edge_bytes l) ≡ 2 * length l
unfolding Each list_bytes
edges-short n h before [] x = refl
edges-short n h before (e ∷ l) x =
    omega (arith, length-append (edge_bytes e) (list_bytes edge_bytes l), edge-short e n h x.0.0, edges-short n h e l x.1)

pub plan-short : (p : Plan) → Allowed p → length (plan_bytes p) ≤ plan_room
plan-short p a =
    let e = edges-short p.n a.most (0, 0) p.edges a.each in
    let l = length-append (number_bytes p.n) (number_bytes (length p.edges) ++ list_bytes edge_bytes p.edges) in
    let m = length-append (number_bytes (length p.edges)) (list_bytes edge_bytes p.edges) in
    omega (arith, e, l, m, few_bytes p.n, few_bytes (length p.edges), a.few)
