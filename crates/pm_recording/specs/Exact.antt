-- What a recording that was done shows in the end: of each region what its words say once every writer has ended, which is all that was
-- stored and added.
use Rattle.run_passes.specs.Lasts.{AreLast}
use Rattle.script_runs.specs.declared.ending.Ending.TheVariants as ends
use Rattle.record_run.specs.Beside.{Beside}
use Rattle.record_run.specs.Closing.{LastIsExact}
use Rattle.record_run.specs.Counters.{NumbersAreCounted}
use Rattle.record_run.specs.Whole.{PassesWriteAll}
use Rattle.pm_recording.specs.Ends.{Ran}
use Rattle.pm_recording.specs.Recording.{CallSide}

-- The last sample was taken behind every writer and shows what the regions' words say in the end, and what is logged last is what these
-- words answer.
pub record LastIsShown {C D : Type 0} (c : CallSide C D) : Type 0 where
  pub ran : Ran c ends.Done
  pub beside : Beside ran.script ran.has.left.server ran.has.was.first.tokens ran.has.was.last.tokens ends.Done ran.has.was.recording.moments ran.has.was.recording.results
  pub exact : LastIsExact ran.script ran.has.left.server ran.has.was.first.tokens ran.has.was.last.tokens ran.has.was.recording.moments ran.has.was.recording.results beside.sampled

-- In each region, each number that these last words say is what was stored into its word last plus all adds since, modulo 2^64, as the
-- journal of all stores tells, which the seat's pass has seen whole: it has gathered every other pass. What it counts from was stored under the layout that stands last,
-- or the region opened with it. And each pass of the script made the entries of all its own lines, each store and each change.
pub record AllIsCounted {C D : Type 0} (c : CallSide C D) : Type 0 where
  pub shown : LastIsShown c
  pub gathered : AreLast shown.ran.has.was.last.tokens
  pub counted : NumbersAreCounted shown.ran.script shown.ran.has.left.server shown.ran.has.was.last.tokens
  pub whole : PassesWriteAll shown.ran.script shown.ran.has.left.server shown.ran.has.was.last.tokens
