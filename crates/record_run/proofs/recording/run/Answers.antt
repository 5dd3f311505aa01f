-- The writers run, and samples are taken beside them and behind them.
use Rattle.std.proofs.Common.{◌≡◌, inl, inr, ◌+◌, ◌<◌, ℕ, List, ◌∷◌, [], length, refl, ◌∙◌}
use Rattle.std.specs.Global.{Vec}
use Rattle.region_rule.specs.Seats.{Token}
use Rattle.script_runs.specs.declared.ending.Ending.{Ending}
use Rattle.script_runs.specs.declared.ending.Ending.TheVariants as ends
use Rattle.run_archive.specs.Samples.{SampleTaken}
use Rattle.run_archive.specs.Sampling.{MayStop, StopsSampling}
use Rattle.run_archive.proofs.Loading.{not_loaded}
use Rattle.run_passes.specs.Written.{HaveWritten}
use Rattle.run_passes.proofs.Ready.{ready}
use Rattle.record_run.proofs.Handed.{all_here}
use Rattle.record_run.proofs.RecordCauses.{refused_undone, stopped_undone}
use Rattle.record_run.proofs.Running.{refused_by, written_told}
use Rattle.record_run.proofs.Ways.{err_told, ok_so, ok_told, run_done, run_last, run_refused, run_stopped, run_wanted}
use Rattle.record_run.proofs.recording.run.Goals as goal

pub beside-written-requires-clause-ready : goal.beside-written-requires-clause-ready
beside-written-requires-clause-ready g c κs within = ready c.args.script.now c.args.server.now c.args.passes.now.items (c.args.seat.now ∷ []) c.requires.rules c.requires.made

pub beside-written-requires-clause-seated : goal.beside-written-requires-clause-seated
beside-written-requires-clause-seated g c κs within = c.requires.made.seated 0 c.args.seat.now refl

pub returns-in-Ok-early-clause-halts : goal.returns-in-Ok-early-clause-halts
returns-in-Ok-early-clause-halts g c =
    let b = c.beside-written in
    run_wanted c.args.script.now c.args.server.now c.args.passes.now.items c.args.seat.now c.requires.rules c.requires.made g.C.Clock g.D.Disk b.new.seat.tokens c.args.sampler.now b.new.sampler c.args.clock.now b.new.clock c.args.disk.now b.new.disk c.args.samples
    b.ensures.same.1 c.requires.none c.requires.unstarted b.ensures.loads c.requires.images (ok_so b.result.1 c.in-Ok-early.field-0 c.in-Ok-early.is b.ensures.goes)

pub returns-in-Err-early-clause-halts : goal.returns-in-Err-early-clause-halts
returns-in-Err-early-clause-halts g c =
    let b = c.beside-written in
    run_refused c.args.script.now c.args.server.now c.args.passes.now.items c.args.seat.now c.requires.rules c.requires.made g.C.Clock g.D.Disk b.new.seat.tokens c.args.sampler.now b.new.sampler c.args.clock.now b.new.clock c.args.disk.now b.new.disk c.args.samples
    b.ensures.same.1 c.requires.none c.requires.unstarted b.ensures.loads c.requires.images c.in-Err-early.ending c.refused.result c.refused.ensures
    (err_told b.result.1 c.in-Err-early.ending
    (λ (e : Ending). (taken : List SampleTaken) × (still : ℕ) × (length taken + still ≡ c.args.samples) × (length taken + 1 < c.args.samples)
    × StopsSampling g.C.Clock g.D.Disk c.args.script.now.config.groups c.args.server.now c.args.sampler.now b.new.sampler c.args.seat.now.tokens b.new.seat.tokens c.args.clock.now b.new.clock c.args.disk.now b.new.disk taken still e)
    c.in-Err-early.is b.ensures.stops)

pub gather_all-requires-clause-here : goal.gather_all-requires-clause-here
gather_all-requires-clause-here g c =
    let b = c.beside-written in
    all_here c.args.script.now c.args.server.now c.in-Ok.done.items
    (ok_told b.result.0 c.in-Ok.done (λ (done : Vec (Vec Token)). HaveWritten c.args.script.now c.args.server.now c.args.passes.now.items done.items) c.in-Ok.is b.ensures.written).ready

pub returns-in-Err-early-2-clause-halts : goal.returns-in-Err-early-2-clause-halts
returns-in-Err-early-2-clause-halts g c =
    let b = c.beside-written in
    run_stopped c.args.script.now c.args.server.now c.args.passes.now.items c.args.seat.now c.requires.rules c.requires.made g.C.Clock g.D.Disk b.new.seat.tokens c.args.sampler.now b.new.sampler c.args.clock.now b.new.clock c.args.disk.now b.new.disk c.args.samples
    b.ensures.same.1 c.requires.none c.requires.unstarted b.ensures.loads c.in-Ok.done.items c.gather_all.new.seat.tokens
    (ok_told b.result.0 c.in-Ok.done (λ (done : Vec (Vec Token)). HaveWritten c.args.script.now c.args.server.now c.args.passes.now.items done.items) c.in-Ok.is b.ensures.written) c.gather_all.ensures.gathers c.in-Err-early-2.ending
    (err_told b.result.1 c.in-Err-early-2.ending
    (λ (e : Ending). (taken : List SampleTaken) × (still : ℕ) × (length taken + still ≡ c.args.samples) × (length taken + 1 < c.args.samples)
    × StopsSampling g.C.Clock g.D.Disk c.args.script.now.config.groups c.args.server.now c.args.sampler.now b.new.sampler c.args.seat.now.tokens b.new.seat.tokens c.args.clock.now b.new.clock c.args.disk.now b.new.disk taken still e)
    c.in-Err-early-2.is b.ensures.stops)

pub returns-in-Ok-sample-clause-halts : goal.returns-in-Ok-sample-clause-halts
returns-in-Ok-sample-clause-halts g c =
    let b = c.beside-written in
    run_done c.args.script.now c.args.server.now c.args.passes.now.items c.args.seat.now c.requires.rules c.requires.made g.C.Clock g.D.Disk b.new.seat.tokens c.args.sampler.now b.new.sampler c.args.clock.now b.new.clock c.args.disk.now b.new.disk c.args.samples
    b.ensures.same.1 c.requires.none c.requires.unstarted b.ensures.loads c.in-Ok.done.items c.gather_all.new.seat.tokens
    (ok_told b.result.0 c.in-Ok.done (λ (done : Vec (Vec Token)). HaveWritten c.args.script.now c.args.server.now c.args.passes.now.items done.items) c.in-Ok.is b.ensures.written) c.gather_all.ensures.gathers c.sample.new.seat.tokens c.sample.new.sampler
    c.sample.new.clock c.sample.new.disk c.sample.ensures.loads c.sample.ensures.same.1 (ok_so b.result.1 c.in_default.field-0 c.in_default.is b.ensures.goes) c.in-Ok-sample.ensures.goes

pub returns-in-Err-sample-clause-halts : goal.returns-in-Err-sample-clause-halts
returns-in-Err-sample-clause-halts g c =
    let b = c.beside-written in
    run_last c.args.script.now c.args.server.now c.args.passes.now.items c.args.seat.now c.requires.rules c.requires.made g.C.Clock g.D.Disk b.new.seat.tokens c.args.sampler.now b.new.sampler c.args.clock.now b.new.clock c.args.disk.now b.new.disk c.args.samples
    b.ensures.same.1 c.requires.none c.requires.unstarted b.ensures.loads c.in-Ok.done.items c.gather_all.new.seat.tokens
    (ok_told b.result.0 c.in-Ok.done (λ (done : Vec (Vec Token)). HaveWritten c.args.script.now c.args.server.now c.args.passes.now.items done.items) c.in-Ok.is b.ensures.written) c.gather_all.ensures.gathers c.sample.new.seat.tokens c.sample.new.sampler
    c.sample.new.clock c.sample.new.disk c.sample.ensures.loads c.sample.ensures.same.1 c.in-Err-sample.ending (ok_so b.result.1 c.in_default.field-0 c.in_default.is b.ensures.goes) c.in-Err-sample.ensures.stops

pub returns-in-Ok-early-clause-writers : goal.returns-in-Ok-early-clause-writers
returns-in-Ok-early-clause-writers g c = inr (c.beside-written.ensures.taken, inl refl)

pub returns-in-Err-early-clause-writers : goal.returns-in-Err-early-clause-writers
returns-in-Err-early-clause-writers g c = inr (c.beside-written.ensures.taken, refused_by c.in-Err-early.ending c.refused.result c.refused.ensures)

pub returns-in-Err-early-2-clause-writers : goal.returns-in-Err-early-2-clause-writers
returns-in-Err-early-2-clause-writers g c =
    let b = c.beside-written in
    written_told c.args.script.now c.args.server.now c.args.passes.now.items c.args.seat.now c.requires.rules c.requires.made c.in-Ok.done.items c.gather_all.new.passes.items b.new.seat.tokens c.gather_all.new.seat.tokens c.gather_all.new.seat.tokens c.in-Err-early-2.ending b.ensures.loads
    (ok_told b.result.0 c.in-Ok.done (λ (done : Vec (Vec Token)). HaveWritten c.args.script.now c.args.server.now c.args.passes.now.items done.items) c.in-Ok.is b.ensures.written) c.gather_all.ensures.gathers (not_loaded c.gather_all.new.seat.tokens) c.gather_all.ensures.used c.gather_all.ensures.seated

pub returns-in-Ok-sample-clause-writers : goal.returns-in-Ok-sample-clause-writers
returns-in-Ok-sample-clause-writers g c =
    let b = c.beside-written in
    written_told c.args.script.now c.args.server.now c.args.passes.now.items c.args.seat.now c.requires.rules c.requires.made c.in-Ok.done.items c.gather_all.new.passes.items b.new.seat.tokens c.gather_all.new.seat.tokens c.sample.new.seat.tokens ends.Done b.ensures.loads
    (ok_told b.result.0 c.in-Ok.done (λ (done : Vec (Vec Token)). HaveWritten c.args.script.now c.args.server.now c.args.passes.now.items done.items) c.in-Ok.is b.ensures.written) c.gather_all.ensures.gathers c.sample.ensures.loads c.gather_all.ensures.used c.sample.ensures.seated

pub returns-in-Err-sample-clause-writers : goal.returns-in-Err-sample-clause-writers
returns-in-Err-sample-clause-writers g c =
    let b = c.beside-written in
    written_told c.args.script.now c.args.server.now c.args.passes.now.items c.args.seat.now c.requires.rules c.requires.made c.in-Ok.done.items c.gather_all.new.passes.items b.new.seat.tokens c.gather_all.new.seat.tokens c.sample.new.seat.tokens c.in-Err-sample.ending b.ensures.loads
    (ok_told b.result.0 c.in-Ok.done (λ (done : Vec (Vec Token)). HaveWritten c.args.script.now c.args.server.now c.args.passes.now.items done.items) c.in-Ok.is b.ensures.written) c.gather_all.ensures.gathers c.sample.ensures.loads c.gather_all.ensures.used c.sample.ensures.seated

pub returns-in-Ok-early-clause-quiet : goal.returns-in-Ok-early-clause-quiet
returns-in-Ok-early-clause-quiet g c = λ is. cc

pub returns-in-Err-early-clause-quiet : goal.returns-in-Err-early-clause-quiet
returns-in-Err-early-clause-quiet g c = λ is. absurd (refused_undone c.in-Err-early.ending c.refused.result c.refused.ensures is)

pub returns-in-Err-early-2-clause-quiet : goal.returns-in-Err-early-2-clause-quiet
returns-in-Err-early-2-clause-quiet g c = λ is.
    let b = c.beside-written in
    let old = c.args.disk.now in
    let clock = c.args.clock.now in
    absurd (stopped_undone g.C.Clock g.D.Disk old b.new.disk clock b.new.clock c.in-Err-early-2.ending
    (err_told b.result.1 c.in-Err-early-2.ending (λ (e : Ending). MayStop g.C.Clock g.D.Disk old b.new.disk clock b.new.clock e) c.in-Err-early-2.is b.ensures.cause) is)

pub returns-in-Ok-sample-clause-quiet : goal.returns-in-Ok-sample-clause-quiet
returns-in-Ok-sample-clause-quiet g c = λ is.
    let b = c.beside-written in
    let d = g.D.Disk in
    let k = g.C.Clock in
    let first : (d.faults b.new.disk ≡ d.faults c.args.disk.now) × (k.faults b.new.clock ≡ k.faults c.args.clock.now) = ok_so b.result.1 c.in_default.field-0 c.in_default.is b.ensures.quiet in
    let last = c.in-Ok-sample.ensures.quiet in
    (last.0 ∙ first.0, last.1 ∙ first.1)

pub returns-in-Err-sample-clause-quiet : goal.returns-in-Err-sample-clause-quiet
returns-in-Err-sample-clause-quiet g c = λ is.
    let b = c.beside-written in
    absurd (stopped_undone g.C.Clock g.D.Disk b.new.disk c.sample.new.disk b.new.clock c.sample.new.clock c.in-Err-sample.ending c.in-Err-sample.ensures.cause is)
