-- The groups so far were asked, and the others are as they were.
use Rattle.std.proofs.Common.{◌≡◌, ℕ, ◌<◌, ◌≤◌, List, length, get_or}
use Rattle.log_schedule.specs.declared.config.Group.{Group}
use Rattle.log_schedule.specs.Instants.{Timetable}
use Rattle.run_archive.proofs.Beside.{then_asked}
use Rattle.run_archive.proofs.plans.ask_all.Given as goal

abbrev pub invariant-loop-at : goal.invariant-loop-at
invariant-loop-at l = record {
  many : length l.asked ≡ length l.fn.asked;
  done : (k : ℕ) (g : Group) (t : Timetable) (d : List ℕ) → k < l.at → get_or l.asked k d ≡ then_asked l.names l.now (get_or l.groups k g) (get_or l.timetables k t) (get_or l.fn.asked k d);
  kept : (k : ℕ) (d : List ℕ) → l.at ≤ k → get_or l.asked k d ≡ get_or l.fn.asked k d;
}
