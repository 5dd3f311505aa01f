-- What was meant to be is there.
use Rattle.std.proofs.Common.{◌≡◌, sym, subst}
use Rattle.std.specs.Prelude.{IfErr}
use Rattle.logger_core.specs.declared.fault.LogFault.TheVariants.{DiskFault}
use Rattle.logger_core.specs.Holding.{HeldBack, IsHolding, IsStopped}
use Rattle.logger_core.specs.Passing.{HasPassedRuns}
use Rattle.logger_core.proofs.Holds.{all_there, is_stopped}
use Rattle.logger_core.proofs.batch.Batch.write.Goals as goal

pub returns-clause-done : goal.returns-clause-done
returns-clause-done g c = λ tells m pending o p.
    let d = g.D.Disk in
    let b : HeldBack = record { kept = c.self.inside.logger; runs = c.self.inside.group.runs; planned = c.self.inside.group.planned } in
    let h = subst (λ (x : HeldBack). IsHolding m x pending o (d.held c.args.disk.now)) (sym c.self.view_is) p in
    all_there c.write_group.result b c.write_group.new.self c.write_group.new.group m pending o (d.held c.args.disk.now) (d.held c.write_group.new.disk) h c.self.invariant.planned_is c.write_group.ensures.emptied
    (c.write_group.ensures.ok tells m b.kept.limit pending b.kept.records b.planned h.at h.label_is h.runs h.enough)

pub returns-clause-failed : goal.returns-clause-failed
returns-clause-failed g c = λ tells m pending o p.
    let d = g.D.Disk in
    let b : HeldBack = record { kept = c.self.inside.logger; runs = c.self.inside.group.runs; planned = c.self.inside.group.planned } in
    let h = subst (λ (x : HeldBack). IsHolding m x pending o (d.held c.args.disk.now)) (sym c.self.view_is) p in
    subst (λ (x : HeldBack). IfErr c.write_group.result (λ e. e.1 ≡ DiskFault → IsStopped m x pending (d.held c.write_group.new.disk) e.0)) c.self.view_is
    (is_stopped c.write_group.result b m pending (d.held c.write_group.new.disk) (c.write_group.ensures.written tells m b.kept.limit pending b.kept.records b.planned h.at h.label_is h.runs h.enough)
    (c.write_group.ensures.begins m.contents.records b.kept.limit pending b.kept.records b.planned h.runs))

pub returns-clause-passed : goal.returns-clause-passed
returns-clause-passed g c = λ tells m pending o p.
    let d = g.D.Disk in
    let b : HeldBack = record { kept = c.self.inside.logger; runs = c.self.inside.group.runs; planned = c.self.inside.group.planned } in
    let h = subst (λ (x : HeldBack). IsHolding m x pending o (d.held c.args.disk.now)) (sym c.self.view_is) p in
    subst (λ (x : HeldBack). IfErr c.write_group.result (λ e. e.1 ≡ DiskFault → HasPassedRuns d m x pending e.0 c.args.disk.now c.write_group.new.disk)) c.self.view_is
    (c.write_group.ensures.passed tells m b.kept.limit pending b.kept.records b.planned h.at h.label_is h.runs h.enough)
