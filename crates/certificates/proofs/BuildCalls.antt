-- A certificate of kind 3 as calls: the start and then each further path, every one read from the part that the call before it left unread.
use Prim.Native.Nat.{ℕ, ◌+◌, ◌<◌, ◌≤◌}
use mathlib.Core.Path.{◌≡◌}
use mathlib.Core.List.{List}
use mathlib.Core.Bool.{true}
use native.Mathlib.Omega.{arith}
use lib.ListN.{length, drop}
use Rattle.record.specs.Read.{Read.Got, Bytes, ended}
use Rattle.record.specs.Number.{number, number_bytes, groups_of, number_limit}
use Rattle.record.proofs.Laws.{spans_join, spans_part, ended-got, got_ended}
use Rattle.record.proofs.Groups.{number-law}
use Rattle.record.proofs.Parts.{part_there, part_back, Calls, spans_length, calls_there, calls_back}
use Rattle.connectivity.specs.Graph.{Graph, Simple, edge_count}
use Rattle.connectivity.specs.Path.{Path}
use Rattle.connectivity.specs.Build.{taken, final, further_count}
use Rattle.connectivity.specs.Certificate.{Certificate.build}
use Rattle.certificates.specs.Tests.{all_below, is_branch}
use Rattle.certificates.specs.Records.{further_path, start, certificate}
use Rattle.certificates.specs.Encoding.{start_bytes}
use Rattle.certificates.proofs.Decide.{decide_all}
use Rattle.certificates.proofs.Paths.{further_path-law}
use Rattle.certificates.proofs.Items.{decide_branch, each-steps, steps-each, start-law}
use Rattle.certificates.proofs.Accepted.{certificate-law}

-- enough pairs, the kind, a start that is accepted, as many further paths as are due, each accepted, every vertex a branch vertex
pub record BuildCalls (g : Graph) (s : List ℕ) (p q r t : ℕ) (six further : List Path) (next : ℕ) : Type 0 where
  pub enough : g.n + 2 ≤ edge_count g
  pub three : number s 0 ≡ Got 3 1
  pub first : ℕ
  pub started : start g (drop 1 s) 0 ≡ Got ((p, (q, (r, t))), six) first
  pub more : ℕ
  pub paths : Calls (further_path g) taken six (drop (1 + first) s) further more
  pub count : length further ≡ further_count (edge_count g) g.n
  pub closed : all_below g.n (is_branch (final six further)) ≡ true
  pub end : next ≡ 1 + first + more

module _ (g : Graph) (simple : Simple g) (few : g.n < number_limit) (s : List ℕ) (bytes : Bytes s) (p q r t : ℕ) (six further : List Path) (next : ℕ) where
  pub certificate-calls : certificate g s 0 ≡ Got (build p q r t six further) next → BuildCalls g s p q r t six further next
  unfolding groups_of
  certificate-calls e =
      let c = (certificate-law g simple few).there bytes e in
      let k = spans_part (number_bytes 3) c.0 in
      let i : k.0 ≡ 1 = spans_length k.1 in
      let f = spans_part (start_bytes p q r t six) (rw i at k.2) in
      let first = length (start_bytes p q r t six) in
      let j : f.0 ≡ 1 + first = spans_length f.1 in
      let m = calls_there taken (further_path-law g simple few) s bytes six further (1 + first) next (rw j at f.2) (steps-each g six further c.1.steps) in
      record {
        enough = c.1.enough;
        three = number-law.back {v = 3} (rw i at k.1) (omega arith);
        first = first;
        started = part_back (start-law g simple few) s 1 bytes ((start-law g simple few).back {v = ((p, (q, (r, t))), six)} (rw j at f.1) c.1.first);
        more = m.0;
        paths = m.2;
        count = c.1.count;
        closed = (decide_all (decide_branch (final six further)) g.n).passes c.1.all-branch;
        end = m.1;
      }

  pub calls_certificate : BuildCalls g s p q r t six further next → certificate g s 0 ≡ Got (build p q r t six further) next
  calls_certificate c =
      let k = number-law.there bytes c.three in
      let f = (start-law g simple few).there bytes (part_there (start-law g simple few) s 1 bytes c.started) in
      let m = calls_back taken (further_path-law g simple few) s bytes six further (1 + c.first) c.more c.paths in
      (certificate-law g simple few).back {v = build p q r t six further} (spans_join k.0 (spans_join f.0 (rw c.end m.0)))
      (record {
        first = f.1;
        enough = c.enough;
        count = c.count;
        steps = each-steps g six further m.1;
        all-branch = (decide_all (decide_branch (final six further)) g.n).holds c.closed;
      })

  -- accepted exactly when these calls accept it and no byte is left
  pub accepted_calls : ended (certificate g) s 0 ≡ Got (build p q r t six further) next → BuildCalls g s p q r t six further next × (length s ≤ next)
  accepted_calls e = let k = ended-got (certificate g) e in (certificate-calls k.0, k.1)

  pub calls_accepted : BuildCalls g s p q r t six further next → length s ≤ next → ended (certificate g) s 0 ≡ Got (build p q r t six further) next
  calls_accepted c h = got_ended (certificate g) (calls_certificate c) h
