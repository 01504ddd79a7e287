-- Vertex connectivity capped at 3 is one number; what shows that a number of vertices separates a graph, or that none does.
use mathlib.Core.Path.{◌≡◌, refl, sym}
use mathlib.Core.Logic.{◌⊎◌, inl, inr, ◌≢◌}
use mathlib.Core.List.{[], ◌∷◌, List}
use Prim.Native.Nat.{ℕ, ◌<◌, zero, suc}
use native.Mathlib.Omega.{arith}
use lib.ListN.{length}
use Rattle.connectivity.specs.Lists.{In, NoDup}
use Rattle.connectivity.specs.Graph.{Graph, HasConnectivity, Separator, AllConnected, Simple}
use Rattle.connectivity.proofs.Lists.{in_single, vertex-beside}
use Rattle.connectivity.proofs.Walks.{walk_wider}

-- CONNECTIVITY IS ONE NUMBER.
pub connectivity-unique : (g : Graph) (j k : ℕ) → HasConnectivity g j → HasConnectivity g k → j ≡ k
connectivity-unique g j k a b = go a.reached b.reached
  where
    no_less : (i l : ℕ) → HasConnectivity g l → ((i < 3) × Separator g i) → ¬ (i < l)
    no_less i l y p h = y.least i h p.1

    go : ((j < 3) × Separator g j) ⊎ (j ≡ 3) → ((k < 3) × Separator g k) ⊎ (k ≡ 3) → j ≡ k
    go (inl p) (inl q) = let r = no_less j k b p in let s = no_less k j a q in omega (arith, p.0)
    go (inl p) (inr e) = absurd (no_less j k b p (omega arith))
    go (inr e) (inl q) = absurd (no_less k j a q (omega arith))
    go (inr e) (inr k) = omega arith

-- separators of 0, 1, 2 vertices
pub separator_0 : (g : Graph) → ¬ AllConnected g [] → Separator g 0
separator_0 g f = record { removed = []; nodup = tt; low = λ w h. absurd h; count = refl; separates = f }

pub separator_1 : (g : Graph) (c : ℕ) → c < g.n → ¬ AllConnected g (c ∷ []) → Separator g 1
separator_1 g c h f = record { removed = c ∷ []; nodup = ((λ k. k), tt); low = λ w k. omega (arith, in_single w c k); count = refl; separates = f }

pub separator_2 : (g : Graph) (c d : ℕ) → c < g.n → d < g.n → c ≢ d → ¬ AllConnected g (c ∷ (d ∷ [])) → Separator g 2
separator_2 g c d hc hd ne f = record { removed = c ∷ (d ∷ []); nodup = ((λ k. ne (in_single c d k)), ((λ k. k), tt)); low = low; count = refl; separates = f }
  where
    low : (w : ℕ) → In w (c ∷ (d ∷ [])) → w < g.n
    low w (inl k) = omega arith
    low w (inr k) = omega (arith, in_single w d k)

-- none of 0, 1, 2 vertices
pub no_separator_0 : (g : Graph) → AllConnected g [] → ¬ Separator g 0
no_separator_0 g a p = go p.removed p.count p.separates
  where
    go : (X : List ℕ) → length X ≡ 0 → ¬ ¬ AllConnected g X
    go [] e f = f a
    go (x ∷ X) e f = absurd (omega arith)

pub no_separator_1 : (g : Graph) → ((c : ℕ) → c < g.n → AllConnected g (c ∷ [])) → ¬ Separator g 1
no_separator_1 g a p = go p.removed p.count p.low p.separates
  where
    go : (X : List ℕ) → length X ≡ 1 → ((w : ℕ) → In w X → w < g.n) → ¬ ¬ AllConnected g X
    go [] e l f = absurd (omega arith)
    go (c ∷ []) e l f = f (a c (l c (inl refl)))
    go (c ∷ (d ∷ X)) e l f = absurd (omega arith)

pub no_separator_2 : (g : Graph) → ((c d : ℕ) → c < g.n → d < g.n → c ≢ d → AllConnected g (c ∷ (d ∷ []))) → ¬ Separator g 2
no_separator_2 g a p = go p.removed p.count p.low p.nodup p.separates
  where
    go : (X : List ℕ) → length X ≡ 2 → ((w : ℕ) → In w X → w < g.n) → NoDup X → ¬ ¬ AllConnected g X
    go [] e l nd f = absurd (omega arith)
    go (c ∷ []) e l nd f = absurd (omega arith)
    go (c ∷ (d ∷ [])) e l nd f = f (a c d (l c (inl refl)) (l d (inr (inl refl))) (λ k. nd.0 (inl k)))
    go (c ∷ (d ∷ (x ∷ X))) e l nd f = absurd (omega arith)

-- the four numbers
pub has-0 : (g : Graph) → Separator g 0 → HasConnectivity g 0
has-0 g p = record { least = λ j h q. absurd (omega arith); reached = inl (omega arith, p) }

pub has_1 : (g : Graph) → ¬ Separator g 0 → Separator g 1 → HasConnectivity g 1
has_1 g a p = record { least = go; reached = inl (omega arith, p) }
  where
    go : (j : ℕ) → j < 1 → ¬ Separator g j
    go zero h = a
    go (suc j) h = absurd (omega arith)

pub has-2 : (g : Graph) → ¬ Separator g 0 → ¬ Separator g 1 → Separator g 2 → HasConnectivity g 2
has-2 g a b p = record { least = go; reached = inl (omega arith, p) }
  where
    go : (j : ℕ) → j < 2 → ¬ Separator g j
    go zero h = a
    go (suc zero) h = b
    go (suc (suc j)) h = absurd (omega arith)

pub has-3 : (g : Graph) → ¬ Separator g 0 → ¬ Separator g 1 → ¬ Separator g 2 → HasConnectivity g 3
has-3 g a b c = record { least = go; reached = inr refl }
  where
    go : (j : ℕ) → j < 3 → ¬ Separator g j
    go zero h = a
    go (suc zero) h = b
    go (suc (suc zero)) h = c
    go (suc (suc (suc j))) h = absurd (omega arith)

-- no single vertex separates, so neither does none; no two do, so neither does one
module _ (g : Graph) (p : Simple g) where
  pub all_connected-0 : ((c : ℕ) → c < g.n → AllConnected g (c ∷ [])) → AllConnected g []
  all_connected-0 a u v hu hv =
      let c = vertex-beside g.n p.big u v v in
      walk_wider (λ w h. absurd h) (a c.0 c.1 u v (hu.0, λ h. c.2 (inl (sym (in_single u c.0 h)))) (hv.0, λ h. c.2 (inr (inl (sym (in_single v c.0 h))))))

  pub all_connected-1 : ((c d : ℕ) → c < g.n → d < g.n → c ≢ d → AllConnected g (c ∷ (d ∷ []))) → (c : ℕ) → c < g.n → AllConnected g (c ∷ [])
  all_connected-1 a c hc u v hu hv =
      let d = vertex-beside g.n p.big u v c in
      walk_wider (λ w h. inl (in_single w c h)) (a c d.0 hc d.1 (λ e. d.2 (inr (inr (inl (sym e))))) u v (hu.0, λ h. off u d.0 hu.1 (λ e. d.2 (inl (sym e))) h) (hv.0, λ h. off v d.0 hv.1 (λ e. d.2 (inr (inl (sym e)))) h))
    where
      off : (w d : ℕ) → ¬ In w (c ∷ []) → w ≢ d → ¬ In w (c ∷ (d ∷ []))
      off w d a b (inl e) = a (inl e)
      off w d a b (inr k) = b (in_single w d k)
