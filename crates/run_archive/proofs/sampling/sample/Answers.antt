-- A sample is taken at the clock's next moment.
use Rattle.std.proofs.Common.{[], refl}
use Rattle.script_runs.specs.declared.ending.Ending.{Ending}
use Rattle.run_archive.specs.declared.sampler.Sampler.{Sampler}
use Rattle.run_archive.specs.Sampling.{StopsSampling}
use Rattle.run_archive.proofs.AtMoment.{err_handed}
use Rattle.run_archive.proofs.Loading.{not_loaded}
use Rattle.run_archive.proofs.Taking.{ends_before, stops_one, takes_none, takes_sure, takes_unsure}
use Rattle.run_archive.proofs.sampling.sample.Goals as goal

pub returns-in_err-now-clause-loads : goal.returns-in_err-now-clause-loads
returns-in_err-now-clause-loads g c = not_loaded c.args.seat.now.tokens

pub returns-in_err-now-clause-stops : goal.returns-in_err-now-clause-stops
returns-in_err-now-clause-stops g c =
    let groups = c.args.script.now.config.groups in
    let server = c.args.server.now in
    let sampler = c.args.sampler.now in
    let seat = c.args.seat.now.tokens in
    let was = c.args.clock.now in
    let is = c.next_moment.new.clock in
    let disk = c.args.disk.now in
    err_handed c.from_residual.result c.in_err-now.field-0.0 (λ (e : Ending). StopsSampling g.C.Clock g.D.Disk groups server sampler sampler seat seat was is disk disk [] c.args.left e) c.from_residual.ensures.1
    (ends_before g.C.Clock g.D.Disk groups server sampler seat was is disk c.args.left c.in_err-now.field-0.0 c.in_err-now.ensures.none c.in_err-now.ensures.why)

pub returns-in_err-count-clause-stops : goal.returns-in_err-count-clause-stops
returns-in_err-count-clause-stops g c =
    let groups = c.args.script.now.config.groups in
    let server = c.args.server.now in
    let was = c.args.sampler.now in
    let is = c.sample_at.new.sampler in
    let before = c.args.seat.now.tokens in
    let after = c.sample_at.new.seat.tokens in
    let clock_was = c.args.clock.now in
    let clock_is = c.next_moment.new.clock in
    let old = c.args.disk.now in
    let new = c.sample_at.new.disk in
    let now = c.in_ok-now.now in
    let e = c.in_err-count.field-0.0 in
    err_handed c.from_residual-in_err-count.result e (λ (e : Ending). StopsSampling g.C.Clock g.D.Disk groups server was is before after clock_was clock_is old new [] c.args.left e) c.from_residual-in_err-count.ensures.1
    (stops_one g.C.Clock g.D.Disk groups server was is before after old new clock_was clock_is now c.in_ok-now.ensures.given c.args.left e c.in_err-count.ensures.stops)

pub returns-then-count-eq0-clause-goes : goal.returns-then-count-eq0-clause-goes
returns-then-count-eq0-clause-goes g c =
    takes_none g.C.Clock g.D.Disk c.args.script.now.config.groups c.args.server.now c.args.sampler.now c.sample_at.new.sampler c.args.seat.now.tokens c.sample_at.new.seat.tokens c.args.disk.now c.sample_at.new.disk c.args.clock.now c.next_moment.new.clock c.in_ok-now.now
    c.in_ok-now.ensures.given c.in_ok-count.count c.if-count-eq0.true c.in_ok-count.ensures.goes

pub returns-clause-goes : goal.returns-clause-goes
returns-clause-goes g c =
    let mid : Sampler = c.sample_at.new.sampler in
    let is : Sampler = record mid { session = c.make_sure.new.session } in
    takes_sure g.C.Clock g.D.Disk c.args.script.now.config.groups c.args.server.now c.args.sampler.now is c.args.seat.now.tokens c.sample_at.new.seat.tokens c.args.disk.now c.make_sure.new.disk c.args.clock.now c.next_moment.new.clock c.in_ok-now.now
    c.in_ok-now.ensures.given mid c.sample_at.new.disk c.in_ok-count.count c.if-count-eq0.false c.in_ok-count.ensures.goes refl c.make_sure.ensures.same.2 c.in_ok-make_sure.ensures.syncs

pub returns-in_err-make_sure-clause-stops : goal.returns-in_err-make_sure-clause-stops
returns-in_err-make_sure-clause-stops g c =
    let groups = c.args.script.now.config.groups in
    let server = c.args.server.now in
    let was = c.args.sampler.now in
    let mid : Sampler = c.sample_at.new.sampler in
    let is : Sampler = record mid { session = c.make_sure.new.session } in
    let before = c.args.seat.now.tokens in
    let after = c.sample_at.new.seat.tokens in
    let clock_was = c.args.clock.now in
    let clock_is = c.next_moment.new.clock in
    let old = c.args.disk.now in
    let new = c.make_sure.new.disk in
    let e = c.in_err-make_sure.field-0.0 in
    err_handed c.from_residual-in_err-make_sure.result e (λ (e : Ending). StopsSampling g.C.Clock g.D.Disk groups server was is before after clock_was clock_is old new [] c.args.left e) c.from_residual-in_err-make_sure.ensures.1
    (takes_unsure g.C.Clock g.D.Disk groups server was is before after old new clock_was clock_is c.in_ok-now.now c.in_ok-now.ensures.given mid c.sample_at.new.disk c.in_ok-count.count c.if-count-eq0.false c.in_ok-count.ensures.goes refl c.make_sure.ensures.same.2
    c.args.left e c.in_err-make_sure.ensures.kinds c.make_sure.ensures.same.1 c.in_err-make_sure.ensures.failed)
