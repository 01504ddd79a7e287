-- What the private functions of this crate give: the contracts of the public ones cite nothing from here.
use Rattle.std.specs.Prelude.{ℕ, suc, ◌<◌, List, Bool, true, cond, ◌&&◌, ◌||◌, not, ◌≡◌, ltb, Result, Ok, Err}
use Rattle.record.specs.Read.{Read}
use Rattle.record.specs.Loop.{Loop}
use Rattle.record.specs.declared.Answer.{Answer}
use Rattle.record.specs.declared.Answer.TheVariants.{CertificateFault}
use Rattle.vertexset.specs.Set.{has, inserted, capacity}
use Rattle.vertexset.specs.declared.VertexSet.{VertexSet}
use Rattle.graph.specs.Rows.{adjacent_in}
use Rattle.connectivity.specs.Graph.{Graph}
use Rattle.certificates.specs.Tests.{with, all_below, rest, both_hold, no_edge_between}
use Rattle.certificates.specs.Records.{side_vertex, pair}
use Rattle.paths.specs.declared.Item.{Item}
use Rattle.paths.specs.Items.{told}
use Rattle.sides.specs.declared.SideRead.{SideRead}

-- the loop over the vertices of a side: the set of them, or a fault
abbrev pub side_loop : ℕ → (ℕ → Bool) → Loop ℕ ℕ VertexSet (Result SideRead Answer)
side_loop n removed = record {
  item = side_vertex n removed;
  after = λ least v. suc v;
  step = inserted;
  ok = λ set next. Ok (record { next = next; set = set });
  bad = λ r p. Err (CertificateFault r p);
}

-- no vertex of the rest is adjacent to u
unfoldable pub misses_row : List ℕ → (ℕ → Bool) → ℕ → Bool
misses_row rows rest u = all_below capacity (λ v. not (rest v && adjacent_in rows u v))

-- no vertex of the side is adjacent to one of the rest
unfoldable pub none_between : List ℕ → (ℕ → Bool) → (ℕ → Bool) → Bool
none_between rows side rest = all_below capacity (λ u. not (side u) || misses_row rows rest u)

-- the members are the vertices below n that are in the rest
abbrev pub RestOf : ℕ → List ℕ → List ℕ → List ℕ → Type 0
RestOf n removed side words = (v : ℕ) → has words v ≡ ltb v n && rest (has removed) (has side) v

-- all members are below n
abbrev pub Low : ℕ → List ℕ → Type 0
Low n words = (v : ℕ) → has words v ≡ true → v < n

-- a side that was read up to next, tested for 22 and 23
unfoldable pub side_tested : Graph → (ℕ → Bool) → (ℕ → Bool) → ℕ → ℕ → Result ℕ Answer
side_tested g removed side at next =
    cond (both_hold g.n removed side) (cond (no_edge_between g removed side) (Ok next) (Err (CertificateFault 23 at))) (Err (CertificateFault 22 at))

-- a pair that was read: its new vertex, and the place after the pair
abbrev pub pair_read : Read (ℕ × ℕ) → Result Item Answer
pair_read R = told (λ p next. record { value = p.0; next = next }) R

-- the loop over the pairs of a spanning tree
abbrev pub pair_loop : ℕ → (ℕ → ℕ → Bool) → Loop (ℕ → Bool) (ℕ × ℕ) (Unit {0}) (Result ℕ Answer)
pair_loop n adj = record {
  item = pair n adj;
  after = λ named p. with named p.0;
  step = λ u p. u;
  ok = λ u next. Ok next;
  bad = λ r p. Err (CertificateFault r p);
}
