-- No region so far opens high.
use Rattle.std.proofs.Common.{◌≡◌, drop}
use Rattle.run_script.specs.Recording.{high_region}
use Rattle.run_script.proofs.recording.high_region.Given as goal

abbrev pub invariant-loop-row : goal.invariant-loop-row
invariant-loop-row l = high_region l.script l.script.regions ≡ high_region l.script (drop l.row-index l.script.regions)
