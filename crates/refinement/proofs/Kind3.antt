-- KIND 3: a certificate is read beside the build that the code keeps as it is read beside the links. Assumes nothing.
use Prim.Native.Nat.{ℕ, ◌≤◌}
use mathlib.Core.List.{List, [], ◌∷◌}
use mathlib.Core.Bool.{Bool}
use mathlib.Core.Path.{◌≡◌, refl, sym, ap, ◌∙◌, fun_ext}
use Rattle.record.specs.Read.{Read.Got, Reader, ◌▸◌, many, check, folded}
use Rattle.record.proofs.Loops.{then_same, many-same, many-kept}
use Rattle.vertexset.specs.Set.{capacity}
use Rattle.connectivity.specs.Graph.{Graph, edge_count}
use Rattle.connectivity.specs.Path.{Path}
use Rattle.connectivity.specs.Build.{taken, final, further_count}
use Rattle.certificates.specs.Tests.{all_below, is_branch}
use Rattle.certificates.specs.Records.{branch_four, start_paths, start, further_path, body}
use Rattle.paths.specs.Items.{end_read}
use Rattle.paths.proofs.Ends.{end_into}
use Rattle.build.specs.declared.Build.{Build}
use Rattle.build.specs.State.{build_start, started_build, build_path, path_taken, build_body}
use Rattle.refinement.proofs.Shows.{Shows}
use Rattle.refinement.proofs.Reading.{shows_path, shows_read}
use Rattle.refinement.proofs.Start.{start-same, shows_start}

final-folded : (links ps : List Path) → final links ps ≡ folded taken links ps
unfolding folded
final-folded links [] = refl
final-folded links (P ∷ ps) = final-folded (taken links P) ps

-- the further paths beside the build that the code keeps
module _ (g : Graph) (h : g.n ≤ capacity) (count : ℕ) {b : Build} {links : List Path} (sh : Shows b links) (s : List ℕ) (at : ℕ) where
  same : (links : List Path) (b : Build) → Shows b links → (s : List ℕ) (at : ℕ) → further_path g links s at ≡ build_path g b s at
  same links b sh s at = sym (shows_path g sh s at)

  kept : (links : List Path) (b : Build) → Shows b links → (s : List ℕ) (at : ℕ) (P : Path) (next : ℕ) → further_path g links s at ≡ Got P next → Shows (path_taken b P) (taken links P)
  kept links b sh s at P next e = shows_read g links s at e h sh

  pub further_same : many (build_path g) path_taken count b s at ≡ many (further_path g) taken count links s at
  further_same = sym (many-same (λ links b. Shows b links) (further_path g) taken (build_path g) path_taken same kept count links b sh s at)

  pub further_shows : {l : List Path} {next : ℕ} → many (further_path g) taken count links s at ≡ Got l next → Shows (folded path_taken b l) (final links l)
  further_shows {l} e = rw (final-folded links l) (many-kept (λ links b. Shows b links) (further_path g) taken (build_path g) path_taken same kept count links b sh s at e)

-- a certificate of kind 3 after its kind, read beside the links
abbrev pub links_body : Graph → ℕ → Reader ((x : (ℕ × (ℕ × (ℕ × ℕ))) × List Path) × (List Path × Unit {0}))
links_body g count = start g ▸ λ x. many (further_path g) taken count x.1 ▸ λ further. check 28 (all_below g.n (is_branch (final x.1 further)))

pub body_same : (g : Graph) → g.n ≤ capacity → (count : ℕ) (s : List ℕ) (at : ℕ) → build_body g count s at ≡ links_body g count s at
unfolding build_body start
body_same g h count s at = then_same (build_start g) (branch_four g.n ▸ λ b. start_paths g b) _ _ s at (start-same g h s at)
    (λ x mid e.
    let sh = shows_start g h s at e in
    then_same (many (build_path g) path_taken count (started_build x)) (many (further_path g) taken count x.1) _ _ s mid (further_same g h count sh s mid)
    (λ l next k. ap (λ (t : ℕ → Bool). check 28 (all_below g.n t) s next) (fun_ext (further_shows g h count sh s mid k).branch)))

-- KIND 3
pub kind_3 : (g : Graph) → g.n ≤ capacity → (s : List ℕ) (at : ℕ) → end_read (build_body g (further_count (edge_count g) g.n) s at) ≡ end_read (body g 3 s at)
kind_3 g h s at = ap end_read (body_same g h (further_count (edge_count g) g.n) s at) ∙ end_into _ (links_body g (further_count (edge_count g) g.n)) s at
