-- What the private functions give, and what reading a path again gives.
use Rattle.std.specs.Prelude.{ℕ, ◌-◌, Bool, true, ◌&&◌, ◌||◌, not, eqb, Result, Ok, Err}
use Rattle.record.specs.Loop.{Loop}
use Rattle.record.specs.declared.Answer.{Answer}
use Rattle.record.specs.declared.Answer.TheVariants.{CertificateFault}
use Rattle.vertexset.specs.Set.{has, empty_set, inserted}
use Rattle.vertexset.specs.declared.VertexSet.{VertexSet}
use Rattle.certificates.specs.Records.{vertex}
use Rattle.paths.specs.declared.PathRead.{PathRead}

-- what is known of a path up to the vertex read last, and how many vertices are left to read
pub record Walked : Type 0 where
  pub last : ℕ
  pub along : Bool
  pub new : Bool
  pub set : VertexSet
  pub left : ℕ

abbrev pub path_begun : ℕ → ℕ → Walked
path_begun first len = record { last = first; along = true; new = true; set = inserted empty_set first; left = len - 1 }

-- the next vertex taken in; the end of a path may be old, an inner vertex may not
abbrev pub walked_on : (ℕ → ℕ → Bool) → (ℕ → Bool) → Walked → ℕ → Walked
walked_on adj old t v = record {
  last = v;
  along = t.along && adj t.last v;
  new = t.new && not (has t.set.words v) && (eqb t.left 1 || not (old v));
  set = inserted t.set v;
  left = t.left - 1;
}

-- the loop over the vertices after the first
abbrev pub path_loop : (ℕ → ℕ → Bool) → (ℕ → Bool) → ℕ → ℕ → ℕ → Loop (Unit {0}) ℕ Walked (Result PathRead Answer)
path_loop adj old n first len = record {
  item = λ u. vertex n;
  after = λ u v. u;
  step = walked_on adj old;
  ok = λ t next. Ok (record { next = next; first = first; last = t.last; along = t.along; new = t.new; len = len });
  bad = λ r p. Err (CertificateFault r p);
}
