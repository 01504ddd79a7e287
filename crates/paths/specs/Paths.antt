-- A path that was read, with what the tests of a path say of it.
use Rattle.std.specs.Prelude.{ℕ, List, [], Bool, length, Result}
use Rattle.record.specs.Read.{Read, Read.Got, Read.Refused}
use Rattle.record.specs.declared.Answer.{Answer}
use Rattle.connectivity.specs.Path.{Path, vertices}
use Rattle.certificates.specs.Tests.{along, path_new}
use Rattle.certificates.specs.Records.{path}
use Rattle.paths.specs.Items.{told}
use Rattle.paths.specs.declared.PathRead.{PathRead}

-- what a path tells: where reading goes on, its ends, whether its neighbours are adjacent, whether it repeats no vertex and has
-- only new ones inside, and how many vertices it has
abbrev pub path_told : (ℕ → ℕ → Bool) → (ℕ → Bool) → Path → ℕ → PathRead
path_told adj old P next = record {
  next = next;
  first = P.s;
  last = P.t;
  along = along adj P.s P.inner P.t;
  new = path_new old P;
  len = length (vertices P);
}

abbrev pub path_read : (ℕ → ℕ → Bool) → (ℕ → Bool) → Read Path → Result PathRead Answer
path_read adj old R = told (path_told adj old) R

-- the vertices of the path at a place; none where it can't be read
abbrev pub vertices_read : Read Path → List ℕ
vertices_read (Got P next) = vertices P
vertices_read (Refused r p) = []

unfoldable pub vertices_at : ℕ → List ℕ → ℕ → List ℕ
vertices_at n s at = vertices_read (path n 2 s at)
