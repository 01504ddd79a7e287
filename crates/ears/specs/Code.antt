-- What the private functions give.
use Rattle.std.specs.Prelude.{ℕ, List, [], Bool, true, false, cond, ◌&&◌, ◌||◌, not, Option, Some, None, Result}
use Rattle.record.specs.Read.{Read, Reader, ◌needs⟨◌⟩◌, ◌▸◌, many, check, folded}
use Rattle.record.specs.declared.Answer.{Answer}
use Rattle.vertexset.specs.Set.{has, empty_set, inserted}
use Rattle.connectivity.specs.Lists.{member}
use Rattle.connectivity.specs.Graph.{Graph}
use Rattle.connectivity.specs.Path.{Path, vertices}
use Rattle.certificates.specs.Tests.{all_below, path_along, path_new, ear_taken}
use Rattle.certificates.specs.Records.{path, ear}
use Rattle.paths.specs.declared.PathRead.{PathRead}
use Rattle.paths.specs.Items.{told}
use Rattle.ears.specs.declared.Ears.{Ears}
use Rattle.ears.specs.declared.EarRead.{EarRead}

abbrev pub no_ears : Ears
no_ears = record { set = empty_set; begun = false }

-- a path taken in
abbrev pub ears_with : Ears → Path → Ears
ears_with e P = record { set = folded inserted e.set (vertices P); begun = true }

abbrev pub ear_read : Ears → Read Path → Result EarRead Answer
ear_read e R = told (λ P next. record { next = next; ears = ears_with e P }) R

-- document 01's number for an ear that is out of order, from what is known of its path
abbrev pub ear_fault : (ℕ → ℕ → Bool) → Ears → PathRead → Option ℕ
ear_fault adj e p =
    cond (p.along && (e.begun || adj p.last p.first))
    (cond (not e.begun || (has e.set.words p.first && has e.set.words p.last)) (cond p.new None (Some 26)) (Some 25)) (Some 24)

-- an ear, beside a test in place of a list of the vertices that are in
unfoldable pub ear_beside : Graph → Bool → (ℕ → Bool) → Reader Path
ear_beside g begun old =
    path g.n 3
    needs⟨ 24 ⟩ (λ P. path_along g P && (begun || g.adj P.t P.s))
    needs⟨ 25 ⟩ (λ P. not begun || (old P.s && old P.t))
    needs⟨ 26 ⟩ path_new old

-- k ears, and then every vertex is in
abbrev pub all_ears : Graph → ℕ → Reader (List Path × Unit {0})
all_ears g k = many (ear g) ear_taken k [] ▸ λ all. check 28 (all_below g.n (λ v. member v (folded ear_taken [] all)))
