-- As many samples were taken as there were rounds.
use Rattle.std.proofs.Common.{◌≡◌, ◌≤◌, List, length}
use Rattle.fetch_engine.specs.Servers.{IsSeated}
use Rattle.fetch_engine.specs.Visits.{AreLoaded}
use Rattle.logging_session.specs.Keeping.{IsWorking, held_in}
use Rattle.run_archive.specs.Samples.{SampleTaken}
use Rattle.run_archive.specs.Sampling.{GoesOn}
use Rattle.run_archive.proofs.sampling.sample_all.Given as goal

abbrev pub invariant-loop-number : goal.invariant-loop-number
invariant-loop-number g l = record {
  seated : IsSeated l.server l.seat.tokens;
  loads : AreLoaded l.fn.seat.tokens l.seat.tokens;
  label : l.sampler.session.label ≡ l.fn.sampler.session.label;
  limit : l.sampler.session.limit ≡ l.fn.sampler.session.limit;
  few : l.sampler.session.logged ≤ l.number;
  working : IsWorking l.sampler.session;
  held : held_in l.fn.sampler.session.place ≡ 0 → held_in l.sampler.session.place ≡ 0;
  goes : (taken : List SampleTaken) × (length taken ≡ l.number)
      × GoesOn g.C.Clock g.D.Disk l.script.config.groups l.server l.fn.sampler l.sampler l.fn.seat.tokens l.seat.tokens l.fn.clock l.clock l.fn.disk l.disk taken;
  quiet : g.D.Disk.faults l.disk ≡ g.D.Disk.faults l.fn.disk;
  clock_quiet : g.C.Clock.faults l.clock ≡ g.C.Clock.faults l.fn.clock;
  later : g.D.Disk.faults l.fn.disk ≤ g.D.Disk.faults l.disk;
  clock_later : g.C.Clock.faults l.fn.clock ≤ g.C.Clock.faults l.clock;
}
