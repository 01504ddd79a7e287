-- The limits of the format.
use Rattle.std.specs.Prelude.{ℕ}

abbrev pub min_vertices : ℕ
min_vertices = 4

abbrev pub max_vertices : ℕ
max_vertices = 128

abbrev pub max_edges : ℕ
max_edges = 512
