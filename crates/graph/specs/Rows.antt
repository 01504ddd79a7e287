-- A graph by value: its adjacency as rows of bits, one row for each vertex, in one list of words.
use Rattle.std.specs.Prelude.{ℕ, zero, suc, ◌+◌, ◌*◌, ◌/◌, ◌%◌, ◌^◌, List, [], ◌∷◌, Bool, cond, ◌&&◌, ltb, get_or, set, replicate}
use Rattle.connectivity.specs.Graph as connectivity
use Rattle.vertexset.specs.Set.{has, with_bit, without_bit, word_count, empty_set, capacity}
use Rattle.vertexset.specs.declared.VertexSet.{VertexSet}
use Rattle.graph.specs.declared.GraphTable.{GraphTable}

-- a row for each vertex that a set can hold, as long as a set
abbrev pub row_words : ℕ
row_words = capacity * word_count

-- u and v are adjacent: bit v of row u; no vertex past the rows is adjacent to any
abbrev pub adjacent_in : List ℕ → ℕ → ℕ → Bool
adjacent_in rows u v = ltb u capacity && (ltb v capacity && has rows (u * capacity + v))

-- the next j words from the place i on
unfoldable pub words_from : List ℕ → ℕ → ℕ → List ℕ
words_from rows zero i = []
words_from rows (suc j) i = get_or rows i 0 ∷ words_from rows j (i + 1)

-- the row of u as a vertex set: the vertices adjacent to u; none where u is past the rows
abbrev pub row_of : List ℕ → ℕ → VertexSet
row_of rows u = cond (ltb u capacity) (record { words = words_from rows word_count (u * word_count) }) empty_set

-- the bit for v in the row of u changed: its word becomes what f makes of that word and of the bit alone; a number past the vertices changes nothing
abbrev pub changed_at : (ℕ → ℕ → ℕ) → List ℕ → ℕ → ℕ → List ℕ
changed_at f rows u v =
    cond (ltb u capacity && ltb v capacity)
    (set rows ((u * capacity + v) / 64) (f (get_or rows ((u * capacity + v) / 64) 0) (2 ^ ((u * capacity + v) % 64))))
    rows

-- no edges
abbrev pub bare_rows : List ℕ
bare_rows = replicate row_words 0

-- an edge more, in both directions
abbrev pub joined : List ℕ → ℕ × ℕ → List ℕ
joined rows e = with_bit (with_bit rows (e.0 * capacity + e.1)) (e.1 * capacity + e.0)

-- the same for any two numbers: one past the vertices joins nothing
abbrev pub joined_rows : List ℕ → ℕ → ℕ → List ℕ
joined_rows rows u v = cond (ltb u capacity && ltb v capacity) (joined rows (u, v)) rows

-- an edge fewer, in both directions; a number past the vertices parts nothing
abbrev pub parted_rows : List ℕ → ℕ → ℕ → List ℕ
parted_rows rows u v =
    cond (ltb u capacity && ltb v capacity) (without_bit (without_bit rows (u * capacity + v)) (v * capacity + u)) rows

-- the graph of n vertices that the rows stand for
abbrev pub rows_graph : ℕ → List ℕ → connectivity.Graph
rows_graph n rows = record { n = n; adj = adjacent_in rows }

-- what stands beside a refusal: a graph without vertices
abbrev pub no_graph : GraphTable
no_graph = record { n = 0; d = 0; rows = bare_rows }
