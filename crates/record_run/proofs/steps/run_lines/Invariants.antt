-- Up to a line the run stands where the run as a fold stands.
use Rattle.std.proofs.Common.{◌≡◌, ◌<◌, ◌≤◌}
use Rattle.arrayvec.specs.ArrayVec.{array_vec_len}
use Rattle.logging_session.specs.Keeping.{IsWorking, held_in}
use Rattle.run_passes.specs.Crews.{Alone, IsManned}
use Rattle.script_runs.specs.Runs.{run_start}
use Rattle.record_run.specs.States.{Stands}
use Rattle.record_run.proofs.Ran.{Stood}
use Rattle.record_run.proofs.steps.run_lines.Given as goal

abbrev pub invariant-loop-number : goal.invariant-loop-number
invariant-loop-number g l = record {
  manned : IsManned l.server l.run.running l.seat.tokens;
  alone : Alone l.run.running l.seat.tokens → Alone l.fn.run.running l.fn.seat.tokens;
  label : l.run.sampler.session.label ≡ l.fn.run.sampler.session.label;
  limit : l.run.sampler.session.limit ≡ l.fn.run.sampler.session.limit;
  few : l.run.sampler.session.logged ≤ l.number-index;
  room : array_vec_len l.run.marks < 64;
  marked : held_in l.run.sampler.session.place ≤ array_vec_len l.run.marks;
  working : IsWorking l.run.sampler.session;
  stood : Alone l.run.running l.seat.tokens → Stands l.script l.server l.fn.run l.fn.seat.tokens (run_start l.script)
      → Stood g.D.Disk l.script l.server l.fn.run l.fn.disk l.run l.seat.tokens l.disk l.number-index;
  quiet : g.D.Disk.faults l.disk ≡ g.D.Disk.faults l.fn.disk;
  later : g.D.Disk.faults l.fn.disk ≤ g.D.Disk.faults l.disk;
}
