-- Each row so far has its region.
use Rattle.std.specs.Prelude.{take}
use Rattle.std.specs.List.{AllZip}
use Rattle.run_passes.specs.Makings.{IsMadeFor}
use Rattle.run_passes.proofs.opening.making.make_each.Given as goal

abbrev pub invariant-loop-row : goal.invariant-loop-row
invariant-loop-row l = AllZip (IsMadeFor l.script l.seats) (take l.row-index l.script.regions) l.made.items
