-- Samples are taken one behind another, up to the first that stops.
use Rattle.std.proofs.Common.{◌≡◌, ◌<◌, ℕ, ◌+◌, ◌-◌, List, [], ◌∷◌, ◌++◌, length, refl, ◌∙◌, arith, length-append}
use Rattle.script_runs.specs.declared.ending.Ending.{Ending}
use Rattle.run_archive.specs.Samples.{SampleTaken}
use Rattle.run_archive.specs.Sampling.{StopsSampling}
use Rattle.run_archive.proofs.AtMoment.{err_handed}
use Rattle.run_archive.proofs.Chain.{goes_joined, stops_joined}
use Rattle.run_archive.proofs.Loading.{all_loaded, not_loaded}
use Rattle.run_archive.proofs.Taking.{goes_nowhere}
use Rattle.run_archive.proofs.sampling.sample_all.Goals as goal

pub loop-number-init : goal.loop-number-init
loop-number-init g c =
    let sampler = c.args.sampler.now in
    let seat = c.args.seat.now.tokens in
    let clock = c.args.clock.now in
    let disk = c.args.disk.now in
    record {
      seated = c.requires.seated;
      loads = not_loaded seat;
      label = refl;
      limit = refl;
      few = omega (arith, c.requires.none);
      working = c.requires.working;
      held = λ none. none;
      goes = ([], refl, goes_nowhere g.C.Clock g.D.Disk c.args.script.now.config.groups c.args.server.now sampler sampler seat clock clock disk refl (λ tells. refl));
      quiet = refl;
      clock_quiet = refl;
      later = omega arith;
      clock_later = omega arith;
    }

pub returns-in_err-sample-clause-loads : goal.returns-in_err-sample-clause-loads
returns-in_err-sample-clause-loads g c = all_loaded c.args.seat.now.tokens c.loop-number.seat.tokens c.sample.new.seat.tokens c.loop-number.invariant.loads c.sample.ensures.loads

pub returns-in_err-sample-clause-stops : goal.returns-in_err-sample-clause-stops
returns-in_err-sample-clause-stops g c =
    let groups = c.args.script.now.config.groups in
    let server = c.args.server.now in
    let first = c.args.sampler.now in
    let middle = c.loop-number.sampler in
    let last = c.sample.new.sampler in
    let seat_first = c.args.seat.now.tokens in
    let seat_middle = c.loop-number.seat.tokens in
    let seat_last = c.sample.new.seat.tokens in
    let clock_first = c.args.clock.now in
    let clock_middle = c.loop-number.clock in
    let clock_last = c.sample.new.clock in
    let disk_first = c.args.disk.now in
    let disk_middle = c.loop-number.disk in
    let disk_last = c.sample.new.disk in
    let samples = c.args.samples in
    let rest = samples - c.loop-number.number in
    let so_far = c.loop-number.invariant.goes in
    err_handed c.from_residual.result c.in_err-sample.field-0.0
    (λ (e : Ending). (taken : List SampleTaken) × (left : ℕ) × (length taken + left ≡ samples) × (length taken < c.args.count) × StopsSampling g.C.Clock g.D.Disk groups server first last seat_first seat_last clock_first clock_last disk_first disk_last taken left e) c.from_residual.ensures.1 (
      so_far.0 ++ [],
      rest,
      omega (arith, length-append so_far.0 [], so_far.1, c.loop-number-test.true, c.requires.first),
      omega (arith, length-append so_far.0 [], so_far.1, c.loop-number-test.true),
      stops_joined g.C.Clock g.D.Disk groups server first middle last seat_first seat_middle seat_last clock_first clock_middle clock_last disk_first disk_middle disk_last so_far.0 so_far.2 [] rest c.in_err-sample.field-0.0
          c.in_err-sample.ensures.stops,
    )

pub loop-number-preserved : goal.loop-number-preserved
loop-number-preserved g c =
    let so_far = c.loop-number.invariant.goes in
    let more = c.in_ok-sample.ensures.goes in
    record {
      seated = c.sample.ensures.seated;
      loads = all_loaded c.args.seat.now.tokens c.loop-number.seat.tokens c.sample.new.seat.tokens c.loop-number.invariant.loads c.sample.ensures.loads;
      label = c.sample.ensures.same.0 ∙ c.loop-number.invariant.label;
      limit = c.sample.ensures.same.1 ∙ c.loop-number.invariant.limit;
      few = omega (arith, c.sample.ensures.count, c.loop-number.invariant.few);
      working = c.in_ok-sample.ensures.working;
      held = λ none. c.sample.ensures.held (c.loop-number.invariant.held none);
      goes = (
        so_far.0 ++ more.0 ∷ [],
        omega (arith, length-append so_far.0 (more.0 ∷ []), so_far.1),
        goes_joined g.C.Clock g.D.Disk c.args.script.now.config.groups c.args.server.now c.args.sampler.now c.loop-number.sampler c.sample.new.sampler c.args.seat.now.tokens c.loop-number.seat.tokens c.sample.new.seat.tokens c.args.clock.now
            c.loop-number.clock c.sample.new.clock c.args.disk.now c.loop-number.disk c.sample.new.disk so_far.0 so_far.2 (more.0 ∷ []) more.1,
      );
      quiet = c.in_ok-sample.ensures.quiet.0 ∙ c.loop-number.invariant.quiet;
      clock_quiet = c.in_ok-sample.ensures.quiet.1 ∙ c.loop-number.invariant.clock_quiet;
      later = omega (arith, c.sample.ensures.later, c.loop-number.invariant.later);
      clock_later = omega (arith, c.sample.ensures.clock_later, c.loop-number.invariant.clock_later);
    }
