-- `countlines::text` meets its contract. Assumes nothing.
use Prim.Native.Nat.{ℕ}
use mathlib.Core.List.{List}
use mathlib.Core.Path.{refl}
use lib.ListN.{replicate}
use Rattle.lines.proofs.Put.{Put, Puts.none, Puts.more, Begins}
use Rattle.countlines.specs.Text.{count_line, count_text}
use Rattle.countlines.proofs.Lines.{text_short, begins_as}
use Rattle.countlines.proofs.text.Goals as goal

-- the lines in a buffer of their own
whole : {a b end : ℕ} {first second last : List ℕ} → Put (replicate 144 0) 0 (count_line 4) a first → Put first a (count_line 5) b second
    → Put second b (count_line 6) end last → Begins count_text end last
unfolding count_text
whole p q r = begins_as {buffer = replicate 144 0} refl text_short (more (more (more none (count_line 4) p) (count_line 5) q) (count_line 6) r)

pub slice_bounds-all-end : goal.slice_bounds-all-end
slice_bounds-all-end c =
    let p = c.put_line-a.ensures in
    let q = c.put_line-b.ensures in
    let r = c.put_line-end.ensures in
    (whole (p.value, p.out_after) (q.value, q.out_after) (r.value, r.out_after)).within

pub returns : goal.returns
returns c =
    let p = c.put_line-a.ensures in
    let q = c.put_line-b.ensures in
    let r = c.put_line-end.ensures in
    let b = whole (p.value, p.out_after) (q.value, q.out_after) (r.value, r.out_after) in
    record {
      value = rw b.front at c.put_bytes.ensures.value;
      out_after = rw b.front at c.put_bytes.ensures.out_after;
      count_text_len_bound = text_short;
    }
