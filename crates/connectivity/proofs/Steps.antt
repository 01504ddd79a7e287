-- Further paths taken in one part after the other: every part of an allowed list is allowed, and so is an allowed list with allowed ones behind it.
use mathlib.Core.Path.{◌≡◌, refl}
use mathlib.Core.List.{List, ◌++◌, [], ◌∷◌}
use Prim.Native.Nat.{ℕ}
use Rattle.connectivity.specs.Path.{Path}
use Rattle.connectivity.specs.Build.{final, taken, Steps}

pub final-append : (links ps qs : List Path) → final links (ps ++ qs) ≡ final (final links ps) qs
final-append links [] qs = refl
final-append links (P ∷ ps) qs = final-append (taken links P) ps qs

module _ (E : ℕ → ℕ → Type 0) where
  pub steps-append : (links ps qs : List Path) → Steps E links ps → Steps E (final links ps) qs → Steps E links (ps ++ qs)
  steps-append links [] qs s t = t
  steps-append links (P ∷ ps) qs s t = (s.0, steps-append (taken links P) ps qs s.1 t)

  pub append_steps : (links ps qs : List Path) → Steps E links (ps ++ qs) → Steps E links ps × Steps E (final links ps) qs
  append_steps links [] qs s = (tt, s)
  append_steps links (P ∷ ps) qs s = let r = append_steps (taken links P) ps qs s.1 in ((s.0, r.0), r.1)
