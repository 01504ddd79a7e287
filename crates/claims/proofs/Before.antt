-- EVERY LIST OF CALLS WITHOUT TAKING BACK is answered as before request 4: a session is told by how many links it keeps. Assumes nothing.
use Prim.Native.Nat.{ℕ, ◌+◌}
use mathlib.Core.List.{List, [], ◌∷◌}
use mathlib.Core.Bool.{Bool, true, false, cond}
use mathlib.Core.Path.{◌≡◌, refl, sym, ap, ◌∙◌}
use lib.Dec.{ltb}
use lib.ListN.{length}
use Rattle.record.specs.Read.{Read, Read.Got, Read.Refused, ended}
use Rattle.record.specs.declared.Answer.TheVariants.{Accepted, PlanFault}
use Rattle.connectivity.specs.Path.{Path}
use Rattle.reading.specs.Plan.{Plan}
use Rattle.checker.specs.Check.{plan_graph}
use Rattle.claims.specs.Session as of
use Rattle.claims.specs.Session.{State, State.never, State.waiting, State.building, Gives, pair_count, due}
use Rattle.claims.specs.Earlier as earlier
use Rattle.claims.specs.Calls.{Heard}
use Rattle.claims.specs.Before as before
use Rattle.claims.specs.Before.{Call.start as starts, Call.path as goes, Call.close as closes, today, OthersKept}
use Rattle.claims.proofs.Kept.{sessions_same}

-- edition 3's session in edition 6's
abbrev counted : State → before.State
counted never = before.State.never
counted (waiting p) = before.State.waiting p
counted (building p links past) = before.State.building p links (length past)

abbrev told : Gives → before.Gives
told g = before.gives g.answer (counted g.state) g.unread

opens : (x : Read Plan) → told (of.on_plan_read x) ≡ before.on_plan_read x
opens (Got p next) = go (ltb (pair_count p) (p.n + 2))
  where
    go : (t : Bool) → told (cond t (of.gives (PlanFault 29 0) never []) (of.gives Accepted (waiting p) []))
        ≡ cond t (before.gives (PlanFault 29 0) before.State.never []) (before.gives Accepted (before.State.waiting p) [])
    go true = refl
    go false = refl
opens (Refused r at) = refl

starting : (z : State) (part : List ℕ) → told (earlier.start_call z part) ≡ before.start_call (counted z) part
starting never part = refl
starting (waiting p) part = go (earlier.start (plan_graph p) part 0)
  where
    go : (x : Read ((ℕ × (ℕ × (ℕ × ℕ))) × List Path)) → told (of.on_start_read p part x) ≡ before.on_start_read p part x
    go (Got x next) = refl
    go (Refused r at) = refl
starting (building p links past) part = refl

going : (z : State) (part : List ℕ) → told (earlier.path_call z part) ≡ before.path_call (counted z) part
going never part = refl
going (waiting p) part = refl
going (building p links past) part = go (ltb (length past) (due p)) (earlier.further_path (plan_graph p) links part 0)
  where
    go : (t : Bool) (x : Read Path) → told (cond t (of.on_path_read p links past part x) (of.refuses (building p links past) part 31 0))
        ≡ cond t (before.on_path_read p links (length past) part x) (before.refuses (before.State.building p links (length past)) part 31 0)
    go true (Got P next) = refl
    go true (Refused r at) = refl
    go false x = refl

closing : (z : State) → told (of.close_call z) ≡ before.close_call (counted z)
closing never = refl
closing (waiting p) = refl
closing (building p links past) = refl

-- one call after the other
abbrev first : before.Gives → List Heard → List Heard
first g later = record { answer = g.answer; unread = g.unread } ∷ later

kept : (z : State) (calls : List before.Call) → earlier.heard_on z (today calls) ≡ before.heard_on (counted z) calls
kept z [] = refl
kept z (starts part ∷ cs) = ap (first (told (earlier.start_call z part))) (kept (earlier.start_call z part).state cs) ∙ ap (λ (g : before.Gives). first g (before.heard_on g.state cs)) (starting z part)
kept z (goes part ∷ cs) = ap (first (told (earlier.path_call z part))) (kept (earlier.path_call z part).state cs) ∙ ap (λ (g : before.Gives). first g (before.heard_on g.state cs)) (going z part)
kept z (closes ∷ cs) = ap (first (told (of.close_call z))) (kept (of.close_call z).state cs) ∙ ap (λ (g : before.Gives). first g (before.heard_on g.state cs)) (closing z)

pub others_kept : OthersKept
others_kept P bytes calls =
    let s = sessions_same P bytes (today calls) in
    let o = opens (ended earlier.plan P 0) in (
      sym s.opens ∙ ap (λ (g : before.Gives). g.answer) o,
      sym s.answers ∙ kept (earlier.open_call P).state calls ∙ ap (λ (g : before.Gives). before.heard_on g.state calls) o,
    )
