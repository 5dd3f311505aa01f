-- A flush is that of the run as a fold.
use Rattle.std.proofs.Common.{refl}
use Rattle.run_script.specs.declared.script.Line.TheVariants.{Flush}
use Rattle.script_runs.specs.declared.ending.Ending.{Ending}
use Rattle.record_run.specs.declared.run.Run.{Run}
use Rattle.record_run.specs.States.{HaltsAt}
use Rattle.record_run.proofs.FlushLines.{flush_goes, flush_halts}
use Rattle.record_run.proofs.Matches.{err_handed}
use Rattle.record_run.proofs.steps.flush.Goals as goal

pub returns-clause-goes : goal.returns-clause-goes
returns-clause-goes g c = λ script server seat s stands.
    let was : Run = c.args.run.now in
    let is : Run = record was { sampler = record was.sampler { session = c.flush_line.new.session }; out = c.flush_line.new.out; marks = c.clear.new.self } in
    flush_goes g.D.Disk script server s was is seat c.args.disk.now c.flush_line.new.disk refl stands c.flush_line.ensures.same.2 c.clear.ensures refl c.in_ok-flush_line.ensures.written c.in_ok-flush_line.ensures.flushes

pub returns-in_err-flush_line-clause-halts : goal.returns-in_err-flush_line-clause-halts
returns-in_err-flush_line-clause-halts g c = λ script server seat s stands number.
    let d = g.D.Disk in
    let was : Run = c.args.run.now in
    let is : Run = record was { sampler = record was.sampler { session = c.flush_line.new.session }; out = c.flush_line.new.out } in
    let old = c.args.disk.now in
    let new = c.flush_line.new.disk in
    let e : Ending = c.in_err-flush_line.field-0.0 in
    err_handed c.from_residual.result e (λ (x : Ending). HaltsAt d script server s was is seat old new number Flush x) c.from_residual.ensures.1
    (flush_halts d script server s was is seat old new refl stands c.flush_line.ensures.same.2 number c.in_err-flush_line.ensures.unwritten c.flush_line.ensures.same.1 e c.in_err-flush_line.ensures.kinds c.in_err-flush_line.ensures.failed)
