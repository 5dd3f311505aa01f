-- The command meets its meaning: with rules it looks at the archive, and with another text it does nothing.
use Rattle.std.proofs.Common.{[], inl, refl, sym, subst, None, Err}
use Rattle.pcp_outside.specs.Sides.{sink_side}
use Rattle.pm_words.specs.declared.refusal.Refusal.{Refusal}
use Rattle.pm_words.specs.Serving.{Meets}
use Rattle.pm_words.proofs.Sending.{unsent}
use Rattle.pm_tasks.specs.Archives.{takes_any}
use Rattle.pm_tasks.specs.commands.dump.{IsTurnedAway}
use Rattle.pm_tasks.specs.commands.watch.{IsFrontOutput, IsOutput, refusal_of, refuses, watch}
use Rattle.pm_tasks.proofs.ReadFirst.{refused_by}
use Rattle.pm_tasks.proofs.WatchMeets.{watch_meets}
use Rattle.pm_tasks.proofs.Watched.{refused_so}
use Rattle.pm_tasks.proofs.commands.watch.watch.Goals as goal

pub returns-in-Ok : goal.returns-in-Ok
returns-in-Ok g c = record {
  meets = watch_meets g.D.Disk c.args.from c.args.to c.args.input.now c.in-Ok.rules c.in-Ok.ensures (sink_side g.O.Sink c.args.out.now c.watch_archive.new.out) c.watch_archive.new.failed c.args.disk.now c.watch_archive.new.disk
      c.watch_archive.result c.watch_archive.ensures.looks c.watch_archive.ensures.quiet c.watch_archive.ensures.said c.watch_archive.ensures.stops c.watch_archive.ensures.turned;
}

pub returns-in-Err : goal.returns-in-Err
returns-in-Err g c = record {
  meets = (
    [],
    unsent g.O.Sink c.args.out.now c.args.failed.now c.requires,
    subst (λ (e : Refusal). Meets (watch c.args.from c.args.to) c.args.input.now g.D.Disk c.args.disk.now c.args.disk.now None [] (Err e)) (sym c.refusal_of.ensures)
        (refused_by refuses IsTurnedAway (IsOutput c.args.from c.args.to) (IsFrontOutput c.args.from c.args.to) takes_any g.D.Disk c.args.input.now c.args.disk.now (refusal_of c.in-Err.error) g.met.D.Disk.only_now (λ files n. tt) (λ tells. inl refl)
        (refused_so c.args.input.now c.in-Err.error c.in-Err.ensures)),
  );
}
