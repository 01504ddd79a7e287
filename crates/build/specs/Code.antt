-- What the functions of this crate give, beside the definitions of the build.
use Rattle.std.specs.Prelude.{ℕ, ◌≤◌, List, [], ◌∷◌, Bool, Option, Some, None, Result, Ok, Err, cond, ◌≡◌, length}
use Rattle.record.specs.Read.{Read, Read.Got, Read.Refused, Reader, or_kept, led}
use Rattle.record.specs.Loop.{Loop}
use Rattle.record.specs.declared.Answer.{Answer}
use Rattle.record.specs.declared.Answer.TheVariants.{CertificateFault}
use Rattle.vertexset.specs.Set.{has, empty_set, capacity}
use Rattle.graph.specs.Rows.{rows_graph}
use Rattle.connectivity.specs.Graph.{Graph}
use Rattle.connectivity.specs.Path.{Path, vertices}
use Rattle.certificates.specs.Tests.{all_below}
use Rattle.certificates.specs.Records.{path, branch_four}
use Rattle.paths.specs.Items.{limited}
use Rattle.paths.specs.declared.PathRead.{PathRead}
use Rattle.build.specs.declared.Build.{Build}
use Rattle.build.specs.declared.Sets.{Sets}
use Rattle.build.specs.declared.Taken.{Taken}
use Rattle.build.specs.declared.Traced.{Traced}
use Rattle.build.specs.declared.Untaken.{Untaken}
use Rattle.build.specs.declared.Four.{Four}
use Rattle.links.specs.Tables.{last_from}
use Rattle.build.specs.State.{path_taken, trace_of, bare_on, build_path, BuildStart, start_on, start_entered, start_of}

-- document 01's number for what is wrong with a path that was read whole
abbrev pub path_fault : Bool → Bool → Bool → Bool → Option ℕ
path_fault along ends new apart = cond along (cond ends (cond new (cond apart None (Some 27)) (Some 26)) (Some 25)) (Some 24)

-- the build with these parts
abbrev pub build_in : Sets → List ℕ → List ℕ → Build
build_in sets pointers linked = record { sets = sets; pointers = pointers; linked = linked }

-- a path stands at a place, within the limit
pub record PathAt (n : ℕ) (s : List ℕ) (at : ℕ) : Type 0 where
  pub low : n ≤ capacity
  pub found : Path
  pub next : ℕ
  pub got : path n 2 s at ≡ Got found next

-- x tells its ends and its length
pub record ToldAt (n : ℕ) (s : List ℕ) (at : ℕ) (x : PathRead) : Type 0 where
  pub there : PathAt n s at
  pub first : x.first ≡ there.found.s
  pub last : x.last ≡ there.found.t
  pub len : x.len ≡ length (vertices there.found)

-- the inner vertices of the path at a place; none where it can't be read
unfoldable pub inner_at : ℕ → List ℕ → ℕ → List ℕ
inner_at n s at = or_kept (path n 2 s at) (λ P next. P.inner) []

-- the vertex before the last one on the path at a place; 0 where it can't be read
unfoldable pub before_at : ℕ → List ℕ → ℕ → ℕ
before_at n s at = or_kept (path n 2 s at) (λ P next. last_from P.s P.inner) 0

-- what reading a path leaves of a build: one step on, or as it was
unfoldable pub on_path_read : (Build → Path → Build) → Build → Read Path → Build
on_path_read step b (Got P next) = step b P
on_path_read step b (Refused r p) = b

-- the start at a path between these ends
abbrev pub towards : ℕ × ℕ → Build → BuildStart
towards l b = record { ends = l ∷ []; build = b }

-- a path of the start between these ends, and a further path, within the limit
abbrev pub start_path_read : ℕ → List ℕ → ℕ × ℕ → Build → Reader Path
start_path_read n rows l b = limited n (start_on (rows_graph n rows) (towards l b))

abbrev pub further_read : ℕ → List ℕ → Build → Reader Path
further_read n rows b = limited n (build_path (rows_graph n rows) b)

-- what a further path hands on once it is taken in: the place after it, the sets of the build then, and its trace
abbrev pub traced : Build → Path → ℕ → Traced
traced b P next = record { taken = record { next = next; sets = (path_taken b P).sets }; trace = trace_of b P }

-- the four branch vertices, and the place after them
abbrev pub four_read : ℕ × (ℕ × (ℕ × ℕ)) → ℕ → Four
four_read b next = record { next = next; p = b.0; q = b.1.0; r = b.1.1.0; s = b.1.1.1 }

abbrev pub four_of : Four → ℕ × (ℕ × (ℕ × ℕ))
four_of f = (f.p, (f.q, (f.r, f.s)))

-- a start of which nothing entered: no sets
abbrev pub no_start : Answer → Untaken
no_start d = record { answer = d; sets = record { branch = empty_set; built = empty_set } }

-- what a start gives, with the answer alone where it is refused
abbrev pub answered : Result Taken Untaken → Result Taken Answer
answered (Ok x) = Ok x
answered (Err x) = Err x.answer

-- the sets of what entered, whether the start was taken or refused
abbrev pub sets_left : Result Taken Untaken → Sets
sets_left (Ok x) = x.sets
sets_left (Err x) = x.sets

-- what reading a start leaves of the tables that it is lent, with the sets: the paths before a fault, or all six, are entered; where
-- the four can't be read, the tables as they were and no sets
unfoldable pub start_left : List ℕ → List ℕ → Graph → List ℕ → ℕ → Build
start_left pointers linked g s at =
    or_kept (limited g.n (branch_four g.n) s at) (λ b mid. (led (start_on g) start_entered 6 (start_of pointers linked b) s mid).build) (bare_on empty_set pointers linked)

-- the loop over the six paths of a start
abbrev pub start_loop : ℕ → List ℕ → Loop BuildStart Path BuildStart (Result Taken Answer)
start_loop n rows = record {
  item = start_on (rows_graph n rows);
  after = start_entered;
  step = start_entered;
  ok = λ st next. Ok (record { next = next; sets = st.build.sets });
  bad = λ r p. Err (CertificateFault r p);
}

-- the loop over the further paths, with 28 after the last
abbrev pub further_loop : ℕ → List ℕ → Loop Build Path Build (Result ℕ Answer)
further_loop n rows = record {
  item = build_path (rows_graph n rows);
  after = path_taken;
  step = path_taken;
  ok = λ b next. cond (all_below n (has b.sets.branch.words)) (Ok next) (Err (CertificateFault 28 next));
  bad = λ r p. Err (CertificateFault r p);
}
