-- The pairs that pass a test, laid in an array one after the other, in cable order. Assumes nothing.
use Prim.Native.Nat.{ℕ, suc, ◌+◌, ◌-◌, ◌*◌, ◌≤◌, ◌<◌}
use mathlib.Core.Bool.{true, false}
use mathlib.Core.List.{List, [], ◌∷◌, ◌++◌, append_assoc, append-nil}
use mathlib.Core.Path.{◌≡◌, refl, sym, ap, ◌∙◌}
use native.Mathlib.Omega.{arith}
use native.Mathlib.Nat.{mul-le-mul}
use lib.ListN.{length, length-append, replicate, take, set}
use lib.Seq.{take_all, take-append-le}
use Rattle.vertexset.specs.Set.{capacity}
use Rattle.connectivity.proofs.Lists.{select_short}
use Rattle.connectivity.specs.Lists.{select}
use Rattle.connectivity.specs.TopologicalGraph.{ends_of}
use Rattle.graph.specs.Limits.{max_edges}
use Rattle.graph.specs.Rows.{adjacent_in}
use Rattle.reading.specs.Pairs.{pairs_of}
use Rattle.reading.specs.Code.{end_count, no_ends, ends_array}
use Rattle.reading.proofs.Pairs.{pairs_start, pairs_from, pairs_end, pairs_row, pairs_next, pairs_twice}
use Rattle.reading.proofs.Ends.{ends_length, put_next}
use Rattle.striking.specs.Code.{laid, added, edges_held}

-- ---- one edge more in the array

ends_append : (es fs : List (ℕ × ℕ)) → ends_of (es ++ fs) ≡ ends_of es ++ ends_of fs
ends_append [] fs = refl
ends_append (e ∷ es) fs = ap (λ (l : List ℕ). e.0 ∷ (e.1 ∷ l)) (ends_append es fs)

-- where there is room, its two vertices stand behind those laid
pub lay_edge : (es : List (ℕ × ℕ)) (u v : ℕ) → length es < max_edges → set (set (ends_array es) (2 * length es) u) (2 * length es + 1) v ≡ ends_array (es ++ ((u, v) ∷ []))
lay_edge es u v h =
    let l = ends_length es in
    let a : end_count - length (ends_of es) ≡ suc (suc (end_count - 2 * suc (length es))) = omega arith in
    let b : 2 * length es ≡ length (ends_of es) = omega arith in
    let c : 2 * length es + 1 ≡ length (ends_of es ++ (u ∷ [])) = omega (arith, length-append (ends_of es) (u ∷ [])) in
    let k : end_count - 2 * suc (length es) ≡ end_count - length (ends_of (es ++ ((u, v) ∷ []))) = omega (arith, ends_length (es ++ ((u, v) ∷ [])), length-append es ((u, v) ∷ [])) in
    let rest = end_count - 2 * suc (length es) in
    (λ i. set (set (ends_of es ++ replicate (a i) 0) (b i) u) (c i) v)
    ∙ ap (λ (m : List ℕ). set m (length (ends_of es ++ (u ∷ []))) v) (put_next (ends_of es) u (suc rest))
    ∙ put_next (ends_of es ++ (u ∷ [])) v rest
    ∙ ap (λ (m : List ℕ). m ++ replicate rest 0) (append_assoc (ends_of es) (u ∷ []) (v ∷ []) ∙ sym (ends_append es ((u, v) ∷ [])))
    ∙ ap (λ (j : ℕ). ends_of (es ++ ((u, v) ∷ [])) ++ replicate j 0) k

-- ---- how many there can be

few_pairs : (n : ℕ) → n ≤ capacity → length (pairs_of n) ≤ 8128
few_pairs n h = let k : n - 1 ≤ 127 = omega arith in omega (arith, pairs_twice n, mul-le-mul h k)

-- ---- the loop: those laid, with those still to come, are all
pub record Listing (plan work : List ℕ) (n : ℕ) (ends : List ℕ) (count u v : ℕ) : Type 0 where
  pub done : List (ℕ × ℕ)
  pub all : done ++ select (laid plan work) (pairs_from n u v) ≡ added plan work n
  pub held : ends ≡ ends_array (take max_edges done)
  pub counted : count ≡ length done

module _ {plan work : List ℕ} {n : ℕ} where
  pub list_start : Listing plan work n no_ends 0 0 1
  unfolding added
  list_start = record {
    done = [];
    all = ap (select (laid plan work)) (pairs_start n);
    held = refl;
    counted = refl;
  }

  module _ {ends : List ℕ} {count u v : ℕ} (d : Listing plan work n ends count u v) where
    pub list_few : n ≤ capacity → count ≤ 8128
    unfolding added
    list_few h = omega (arith, d.counted, few_pairs n h, select_short (laid plan work) (pairs_of n), length-append d.done (select (laid plan work) (pairs_from n u v)), ap length d.all)

    pub list_row : u < n → n ≤ v → Listing plan work n ends count (u + 1) (u + 1 + 1)
    list_row h l = record {
      done = d.done;
      all = ap (λ (l : List (ℕ × ℕ)). d.done ++ select (laid plan work) l) (sym (pairs_row n u v h l)) ∙ d.all;
      held = d.held;
      counted = d.counted;
    }

    module _ (h : v < n) where
      next : d.done ++ select (laid plan work) ((u, v) ∷ pairs_from n u (v + 1)) ≡ added plan work n
      next = ap (λ (l : List (ℕ × ℕ)). d.done ++ select (laid plan work) l) (sym (pairs_next n u v h)) ∙ d.all

      -- the next pair is passed over: it is not joined, or the plan has it
      list_skip : laid plan work (u, v) ≡ false → Listing plan work n ends count u (v + 1)
      list_skip e = record {
        done = d.done;
        all = rw e at next;
        held = d.held;
        counted = d.counted;
      }

      pub list_apart : adjacent_in work u v ≡ false → Listing plan work n ends count u (v + 1)
      list_apart a = list_skip (rw a)

      pub list_planned : adjacent_in work u v ≡ true → adjacent_in plan u v ≡ true → Listing plan work n ends count u (v + 1)
      list_planned a b = list_skip (rw (a, b))

      -- the next pair is listed
      module _ (a : adjacent_in work u v ≡ true) (b : adjacent_in plan u v ≡ false) where
        list_next : {ends' : List ℕ} → ends' ≡ ends_array (take max_edges (d.done ++ ((u, v) ∷ []))) → Listing plan work n ends' (count + 1) u (v + 1)
        list_next k = record {
          done = d.done ++ ((u, v) ∷ []);
          all = append_assoc d.done ((u, v) ∷ []) (select (laid plan work) (pairs_from n u (v + 1))) ∙ (rw (a, b) at next);
          held = k;
          counted = omega (arith, d.counted, length-append d.done ((u, v) ∷ []));
        }

        pub list_full : max_edges ≤ count → Listing plan work n ends (count + 1) u (v + 1)
        list_full l = list_next (d.held ∙ ap ends_array (sym (take-append-le max_edges d.done ((u, v) ∷ []) (omega (arith, d.counted)))))

        pub list_put : count < max_edges → Listing plan work n (set (set ends (2 * count) u) (2 * count + 1) v) (count + 1) u (v + 1)
        list_put l =
            let k = d.counted in
            let s : length (d.done ++ ((u, v) ∷ [])) ≤ max_edges = omega (arith, length-append d.done ((u, v) ∷ [])) in
            let t : take max_edges d.done ≡ d.done = take_all max_edges d.done (omega arith) in
            list_next (
            (λ i. set (set ((d.held ∙ ap ends_array t) i) (2 * k i) u) (2 * k i + 1) v)
            ∙ lay_edge d.done u v (omega arith)
            ∙ ap ends_array (sym (take_all max_edges (d.done ++ ((u, v) ∷ [])) s))
            )

    pub list_end : n ≤ u → u < v → record { ends = ends; count = count } ≡ edges_held (added plan work n)
    list_end h b =
        let none = ap (λ (l : List (ℕ × ℕ)). d.done ++ select (laid plan work) l) (sym (pairs_end n u v h b)) in
        let same : d.done ≡ added plan work n = sym (append-nil d.done) ∙ none ∙ d.all in
        (λ i. record { ends = d.held i; count = d.counted i }) ∙ ap edges_held same
