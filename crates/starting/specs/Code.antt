-- What the functions give: the start of the definition, its paths at the front of an array; or its cut.
use Rattle.std.specs.Prelude.{cond, length, Result, Ok, Err}
use Rattle.construction.specs.Ears.{is_cut}
use Rattle.construction.specs.Start as construction
use Rattle.detours.specs.Code.{cut_of, flat_of}
use Rattle.detours.specs.declared.Cut.{Cut}
use Rattle.starting.specs.declared.Start.{Start}

abbrev pub paths_of : construction.Begun → Start
paths_of b = record { four = b.four; flat = flat_of b.flat; len = length b.flat }

abbrev pub start_of : construction.Begun → Result Start Cut
start_of b = cond (is_cut b.cut_by) (Err (cut_of b.cut_by)) (Ok (paths_of b))
