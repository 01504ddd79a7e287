-- The readers of plans, certificates, starts and paths, now and before request 7: each passes the faults of numbers on. Assumes nothing.
use Prim.Native.Nat.{ℕ, zero, suc}
use mathlib.Core.List.{List}
use mathlib.Core.Bool.{Bool}
use mathlib.Core.Path.{refl}
use lib.Dec.{leb}
use Rattle.record.specs.Read.{Reader, ◌needs⟨◌⟩◌}
use Rattle.connectivity.specs.Graph.{Graph}
use Rattle.connectivity.specs.Path.{Path}
use Rattle.reading.specs.Plan.{edge, plan}
use Rattle.certificates.specs.Tests.{nobody, Start}
use Rattle.certificates.specs.Records.{vertex, side_vertex, side, pair, vertex_list, path, ear, start_path, further_path, branch_four, start, body, certificate}
use Rattle.claims.specs.Earlier as earlier
use Rattle.claims.proofs.Turns.{Turns, number-turns, needs_turns, pair_turns, leads_turns, into-turns, many-turns, counted-turns, check-turns, refused-turns}

-- THE PLAN
edge-turns : (n : ℕ) (before : ℕ × ℕ) → Turns (earlier.edge n before) (edge n before)
unfolding edge earlier.edge
edge-turns n before = needs_turns (needs_turns (pair_turns number-turns (λ lower. number-turns)) _ _ refl) _ _ refl

pub plan-turns : Turns earlier.plan plan
unfolding plan earlier.plan
plan-turns = into-turns (pair_turns (needs_turns number-turns _ _ refl) (λ n. counted-turns _ (edge-turns n) (needs_turns number-turns _ _ refl) _)) _

-- THE ITEMS OF A CERTIFICATE
vertex-turns : (n : ℕ) → Turns (earlier.vertex n) (vertex n)
unfolding vertex earlier.vertex
vertex-turns n = needs_turns number-turns _ _ refl

path-turns : (n least : ℕ) → Turns (earlier.path n least) (path n least)
unfolding path vertex_list earlier.path earlier.vertex_list
path-turns n least = into-turns (counted-turns _ (λ u. vertex-turns n) (needs_turns number-turns _ _ refl) _) _

four-turns : (n : ℕ) → Turns (earlier.branch_four n) (branch_four n)
unfolding branch_four earlier.branch_four
four-turns n = pair_turns (vertex-turns n) (λ p. pair_turns (above p) (λ q. pair_turns (above q) above))
  where
    above : (p : ℕ) → Turns (earlier.vertex n needs⟨ 20 ⟩ leb (suc p)) (vertex n needs⟨ 20 ⟩ leb (suc p))
    above p = needs_turns (vertex-turns n) _ _ refl

-- 24, 25, 26 of a path or pair
tests_turns : {A : Type 0} {R₀ R : Reader A} → Turns R₀ R → (along ends new : A → Bool)
    → Turns (R₀ needs⟨ 24 ⟩ along needs⟨ 25 ⟩ ends needs⟨ 26 ⟩ new) (R needs⟨ 24 ⟩ along needs⟨ 25 ⟩ ends needs⟨ 26 ⟩ new)
tests_turns h along ends new = needs_turns (needs_turns (needs_turns h _ _ refl) _ _ refl) _ _ refl

module _ (g : Graph) where
  side-turns : (removed : ℕ → Bool) → Turns (earlier.side g removed) (side g removed)
  unfolding side side_vertex earlier.side earlier.side_vertex
  side-turns removed =
      let item : (least : ℕ) → Turns (earlier.side_vertex g.n removed least) (side_vertex g.n removed least) = λ least. needs_turns (needs_turns (vertex-turns g.n) _ _ refl) _ _ refl in
      needs_turns (needs_turns (counted-turns _ item (needs_turns number-turns _ _ refl) _) _ _ refl) _ _ refl

  pair-of_turns : (named : ℕ → Bool) → Turns (earlier.pair g.n g.adj named) (pair g.n g.adj named)
  unfolding pair earlier.pair
  pair-of_turns named = tests_turns (pair_turns (vertex-turns g.n) (λ new. vertex-turns g.n)) _ _ _

  ear-turns : (B : List ℕ) → Turns (earlier.ear g B) (ear g B)
  unfolding ear earlier.ear
  ear-turns B = tests_turns (path-turns g.n 3) _ _ _

  start_path-turns : (st : Start) → Turns (earlier.start_path g st) (start_path g st)
  unfolding start_path earlier.start_path
  start_path-turns st = tests_turns (path-turns g.n 2) _ _ _

  pub further_turns : (links : List Path) → Turns (earlier.further_path g links) (further_path g links)
  unfolding further_path earlier.further_path
  further_turns links = needs_turns (tests_turns (path-turns g.n 2) _ _ _) _ _ refl

  pub start-turns : Turns (earlier.start g) (start g)
  unfolding start earlier.start
  start-turns = pair_turns (four-turns g.n) (λ b. many-turns _ start_path-turns _ _)

  body-turns : (k : ℕ) → Turns (earlier.body g k) (body g k)
  body-turns zero = into-turns (side-turns nobody) _
  body-turns (suc zero) =
      into-turns (pair_turns (vertex-turns g.n) (λ c. pair_turns (vertex-turns g.n) (λ first. pair_turns (many-turns _ pair-of_turns _ _) (λ pairs. side-turns _)))) _
  body-turns (suc (suc zero)) =
      into-turns (pair_turns (vertex-turns g.n) (λ c. pair_turns (needs_turns (vertex-turns g.n) _ _ refl) (λ d.
      pair_turns (counted-turns _ ear-turns (needs_turns number-turns _ _ refl) _) (λ all. pair_turns (check-turns 28 _ refl) (λ u. side-turns _))))) _
  body-turns (suc (suc (suc zero))) =
      into-turns (pair_turns start-turns (λ x. pair_turns (many-turns _ further_turns _ _) (λ further. check-turns 28 _ refl))) _
  body-turns (suc (suc (suc (suc k)))) = refused-turns 8 refl

  -- THE CERTIFICATE
  pub certificate-turns : Turns (earlier.certificate g) (certificate g)
  unfolding certificate earlier.certificate
  certificate-turns = leads_turns (needs_turns (needs_turns number-turns _ _ refl) _ _ refl) body-turns
