-- The build as the code keeps it: branch vertices, vertices that are in, for each inner vertex its neighbours on its path,
-- for the two outermost ones of a link each other, and which branch vertices a link joins. Each definition says what one function does to it.
use Rattle.std.specs.Prelude.{ℕ, zero, suc, List, Bool, false, cond, ◌&&◌, not, eqb, replicate}
use Rattle.record.specs.Read.{Reader, ◌needs⟨◌⟩◌, ◌▸◌, many, check, folded}
use Rattle.vertexset.specs.Set.{has, empty_set, inserted, removed, capacity}
use Rattle.vertexset.specs.declared.VertexSet.{VertexSet}
use Rattle.graph.specs.Rows.{joined_rows, parted_rows, bare_rows}
use Rattle.connectivity.specs.Graph.{Graph}
use Rattle.connectivity.specs.Path.{vertices, Path}
use Rattle.connectivity.specs.Build.{six_pairs}
use Rattle.certificates.specs.Tests.{all_below, path_along, path_new, start_ends, later_ends}
use Rattle.certificates.specs.Records.{path, branch_four}
use Rattle.links.specs.declared.End.{End}
use Rattle.links.specs.declared.End.TheVariants.{Branch, Inner}
use Rattle.links.specs.declared.Addition.{Addition}
use Rattle.links.specs.Ends.{addition_of, held}
use Rattle.links.specs.Tables.{pointer_count, pointer, point_along, last_from, mated_ends, end_in, split_by, split_mates_by, is_inner, cleared, link_split, rejoined_rows, rejoined_mates}
use Rattle.build.specs.declared.Build.{Build}
use Rattle.build.specs.declared.Trace.{Trace}

-- the end that a path has at v
abbrev pub end_of : Build → ℕ → End
end_of b v = end_in b.pointers b.sets.branch v

abbrev pub path_addition : Build → Path → Addition
path_addition b P = addition_of b.linked (end_of b P.s) (end_of b P.t)

-- a path enters the build as a link; its ends are branch vertices already, and in
abbrev pub entered : Build → Path → Build
entered b P = record {
  sets = record { branch = b.sets.branch; built = folded inserted b.sets.built P.inner };
  pointers = mated_ends (point_along b.pointers (vertices P)) P.inner;
  linked = joined_rows b.linked P.s P.t;
}

-- an inner vertex at which a path ends becomes a branch vertex
abbrev pub raised_at : VertexSet → End → VertexSet
raised_at branch (Branch v) = branch
raised_at branch (Inner v l) = inserted branch v

-- the same at both ends of a path, where links are split too
abbrev pub raised : Build → Path → Build
raised b P = record {
  sets = record { branch = raised_at (raised_at b.sets.branch (end_of b P.s)) (end_of b P.t); built = b.sets.built };
  pointers = split_mates_by b.pointers (path_addition b P);
  linked = split_by b.linked (path_addition b P);
}

abbrev pub path_taken : Build → Path → Build
path_taken b P = entered (raised b P) P

-- 25, 26 and 27 of a further path
abbrev pub both_in : Build → Path → Bool
both_in b P = has b.sets.built.words P.s && has b.sets.built.words P.t

unfoldable pub build_path : Graph → Build → Reader Path
build_path g b =
    path g.n 2 needs⟨ 24 ⟩ path_along g needs⟨ 25 ⟩ both_in b needs⟨ 26 ⟩ path_new (has b.sets.built.words) needs⟨ 27 ⟩ (λ P. not (held (path_addition b P)))

-- BACK AGAIN. "The session's record must then carry, for each path, what it split and which ends it raised to branch boxes." The trace of a path that
-- was taken in: its two ends, the vertex before the last one on it, and which ends it raised. What it split there the pointers tell once the
-- later paths are taken back: a vertex that was raised keeps its own.
abbrev pub trace_of : Build → Path → Trace
trace_of b P = record { first = P.s; last = P.t; before = last_from P.s P.inner; from = is_inner (end_of b P.s); upto = is_inner (end_of b P.t) }

-- no path: the trace of a path that is not in
abbrev pub no_trace : Trace
no_trace = record { first = 0; last = 0; before = 0; from = false; upto = false }

-- the inner vertices of a path are no longer in, from v back to its first end, at most k: each is out of the set, and points to nothing
unfoldable pub unwound : ℕ → ℕ → ℕ → VertexSet → List ℕ → VertexSet × List ℕ
unwound zero first v built pointers = (built, pointers)
unwound (suc k) first v built pointers = cond (eqb v first) (built, pointers) (unwound k first (pointer pointers 0 v) (removed built v) (cleared pointers v))

abbrev pub unwound_from : Build → Trace → VertexSet × List ℕ
unwound_from b t = unwound capacity t.first t.before b.sets.built b.pointers

-- a path leaves the build, in which it was a link
abbrev pub departed : Build → Trace → Build
departed b t = record {
  sets = record { branch = b.sets.branch; built = (unwound_from b t).0 };
  pointers = (unwound_from b t).1;
  linked = parted_rows b.linked t.last t.first;
}

-- the link that was split at v is whole again, and v a branch vertex no more
abbrev pub rejoined : Build → ℕ → Build
rejoined b v = record {
  sets = record { branch = removed b.sets.branch v; built = b.sets.built };
  pointers = rejoined_mates b.pointers v (link_split b.pointers b.sets.branch v);
  linked = rejoined_rows b.linked v (link_split b.pointers b.sets.branch v);
}

-- .. where the path raised it
abbrev pub lowered : Build → ℕ → Bool → Build
lowered b v raised = cond raised (rejoined b v) b

-- the path that was taken in last is taken back: in each table what was done last goes first
abbrev pub taken_back : Build → Trace → Build
taken_back b t = lowered (lowered (departed b t) t.last t.upto) t.first t.from

-- branch vertices and no links yet, beside these tables
abbrev pub bare_on : VertexSet → List ℕ → List ℕ → Build
bare_on set pointers linked = record { sets = record { branch = set; built = set }; pointers = pointers; linked = linked }

-- .. beside tables that are bare
abbrev pub bare_pointers : List ℕ
bare_pointers = replicate pointer_count 0

abbrev pub bare_build : VertexSet → Build
bare_build set = bare_on set bare_pointers bare_rows

-- the start: the pairs of ends that are still to be joined, and the build
pub record BuildStart : Type 0 where
  pub ends : List (ℕ × ℕ)
  pub build : Build

unfoldable pub start_on : Graph → BuildStart → Reader Path
start_on g st = path g.n 2 needs⟨ 24 ⟩ path_along g needs⟨ 25 ⟩ start_ends st.ends needs⟨ 26 ⟩ path_new (has st.build.sets.built.words)

abbrev pub start_entered : BuildStart → Path → BuildStart
start_entered st P = record { ends = later_ends st.ends; build = entered st.build P }

abbrev pub four_set : ℕ × (ℕ × (ℕ × ℕ)) → VertexSet
four_set b = inserted (inserted (inserted (inserted empty_set b.0) b.1.0) b.1.1.0) b.1.1.1

abbrev pub start_of : List ℕ → List ℕ → ℕ × (ℕ × (ℕ × ℕ)) → BuildStart
start_of pointers linked b = record { ends = six_pairs b.0 b.1.0 b.1.1.0 b.1.1.1; build = bare_on (four_set b) pointers linked }

-- four branch vertices and the six paths between them, which enter these tables
unfoldable pub start_in : List ℕ → List ℕ → Graph → Reader ((ℕ × (ℕ × (ℕ × ℕ))) × List Path)
start_in pointers linked g = branch_four g.n ▸ λ b. many (start_on g) start_entered 6 (start_of pointers linked b)

-- the build that they are, once the paths have entered
abbrev pub started : List ℕ → List ℕ → (ℕ × (ℕ × (ℕ × ℕ))) × List Path → Build
started pointers linked x = (folded start_entered (start_of pointers linked x.0) x.1).build

-- .. and bare tables
abbrev pub build_start : Graph → Reader ((ℕ × (ℕ × (ℕ × ℕ))) × List Path)
build_start g = start_in bare_pointers bare_rows g

abbrev pub started_build : (ℕ × (ℕ × (ℕ × ℕ))) × List Path → Build
started_build x = started bare_pointers bare_rows x

-- a certificate of kind 3 after its kind: the start, the given number of further paths, and 28 where a vertex is no branch vertex
unfoldable pub build_body : Graph → ℕ → Reader ((x : (ℕ × (ℕ × (ℕ × ℕ))) × List Path) × (List Path × Unit {0}))
build_body g count =
    build_start g ▸ λ x. many (build_path g) path_taken count (started_build x) ▸ λ further.
    check 28 (all_below g.n (has (folded path_taken (started_build x) further).sets.branch.words))
