-- Lines are run one after another up to the end of the run.
use Rattle.std.proofs.Common.{◌≡◌, ℕ, ◌+◌, ◌<◌, ◌≤◌, List, length, get_or, slice_get, Some, refl, sym, ap, ◌∙◌, subst, arith}
use Rattle.std.specs.Global.{Vec}
use Rattle.std.proofs.lemmas.Option.{slice_get_read}
use Rattle.logging_session.specs.Keeping.{lost_in}
use Rattle.run_script.specs.declared.script.Line.{Line}
use Rattle.run_passes.specs.declared.running.Running.{Running}
use Rattle.run_passes.specs.Crews.{Alone, IsManned}
use Rattle.record_run.specs.declared.run.Run.{Run}
use Rattle.record_run.proofs.Causes.{may_end_earlier}
use Rattle.record_run.proofs.Leading.{working_unlost}
use Rattle.record_run.proofs.PassLines.{working_unfailed}
use Rattle.record_run.proofs.Ran.{Stood, stood_ends, stood_fails, stood_halts, stood_more, stood_none, stood_on}
use Rattle.record_run.proofs.steps.run_lines.Goals as goal

item_there : (slice steps : List (ℕ × Line)) (i : ℕ) (x : ℕ × Line) → slice ≡ steps → i < length slice → x ≡ get_or slice i x → slice_get steps i ≡ Some x
item_there slice steps i x same within is = subst (λ (xs : List (ℕ × Line)). slice_get xs i ≡ Some x) same (slice_get_read slice (length slice) i x refl within is)

pub loop-number-init : goal.loop-number-init
loop-number-init g c = record {
  manned = c.requires.manned;
  alone = λ alone. alone;
  label = refl;
  limit = refl;
  few = omega (arith, c.requires.fresh);
  working = c.requires.working;
  room = let none : length c.args.run.now.marks.items ≡ 0 = ap (λ (xs : List ℕ). length xs) c.requires.unmarked in omega (arith, none);
  marked = omega (arith, c.requires.unheld);
  stood = λ alone stands. stood_none g.D.Disk c.args.script.now c.args.server.now c.args.run.now c.args.disk.now c.args.seat.now.tokens c.requires.unmarked stands;
  quiet = refl;
  later = omega arith;
}

pub step-requires-clause-placed : goal.step-requires-clause-placed
step-requires-clause-placed g c =
    c.requires.rules.placed c.loop-number.number-index c.loop-number-item.result
    (item_there c.as_slice-number-items.result.now c.args.script.now.steps c.loop-number.number-index c.loop-number-item.result c.as_slice-number-items.ensures c.loop-number-test.true c.loop-number-item.is)

pub returns-in-Err-clause-came : goal.returns-in-Err-clause-came
returns-in-Err-clause-came g c = λ alone stands.
    let script = c.args.script.now in
    let server = c.args.server.now in
    let run : Run = c.loop-number.run in
    let next : Run = c.step.new.run in
    let index = c.loop-number.number-index in
    let item = c.loop-number-item.result in
    let there = item_there c.as_slice-number-items.result.now script.steps index item c.as_slice-number-items.ensures c.loop-number-test.true c.loop-number-item.is in
    let at : Stood g.D.Disk script server c.args.run.now c.args.disk.now run c.loop-number.seat.tokens c.loop-number.disk index = c.loop-number.invariant.stood (c.step.ensures.alone alone) stands in
    stood_halts g.D.Disk script server c.args.run.now c.args.disk.now run next c.loop-number.seat.tokens c.step.new.seat.tokens c.loop-number.disk c.step.new.disk index item there at c.in-Err.ensures.unmarked c.loop-number.invariant.limit c.in-Err.ending
    (c.in-Err.ensures.halts alone at.s at.stands)

pub returns-in-Err-clause-cause : goal.returns-in-Err-clause-cause
returns-in-Err-clause-cause g c =
    may_end_earlier (g.D.Disk.faults c.args.disk.now) (g.D.Disk.faults c.loop-number.disk) (g.D.Disk.faults c.step.new.disk) c.in-Err.ending c.loop-number.invariant.later c.in-Err.ensures.cause

-- what was held couldn't be written behind a line
pub returns-in-Err-write_full-clause-came : goal.returns-in-Err-write_full-clause-came
returns-in-Err-write_full-clause-came g c = λ alone stands.
    let script = c.args.script.now in
    let server = c.args.server.now in
    let run : Run = c.loop-number.run in
    let middle : Run = c.step.new.run in
    let next : Run = c.write_full.new.run in
    let seat = c.step.new.seat.tokens in
    let index = c.loop-number.number-index in
    let item = c.loop-number-item.result in
    let there = item_there c.as_slice-number-items.result.now script.steps index item c.as_slice-number-items.ensures c.loop-number-test.true c.loop-number-item.is in
    let alone_then : Alone middle.running seat = subst (λ (r : Running). Alone r seat) c.write_full.ensures.running alone in
    let at : Stood g.D.Disk script server c.args.run.now c.args.disk.now run c.loop-number.seat.tokens c.loop-number.disk index = c.loop-number.invariant.stood (c.step.ensures.alone alone_then) stands in
    let behind : Stood g.D.Disk script server c.args.run.now c.args.disk.now middle seat c.step.new.disk (index + 1) =
    stood_more g.D.Disk script server c.args.run.now c.args.disk.now run middle c.loop-number.seat.tokens seat c.loop-number.disk c.step.new.disk index item there at (c.in-Ok.ensures.goes alone_then at.s at.stands) in
    stood_fails g.D.Disk script server c.args.run.now c.args.disk.now middle next seat c.step.new.disk c.write_full.new.disk (index + 1) behind c.write_full.ensures.running (ap (λ (out : Vec ℕ). out.items) c.write_full.ensures.out) c.write_full.ensures.count
    c.in-Err-write_full.ensures.unmarked (c.step.ensures.same.1 ∙ c.loop-number.invariant.limit) c.write_full.ensures.same.1 c.in-Err-write_full.ensures.failed c.in-Err-write_full.ending c.in-Err-write_full.ensures.kinds

pub loop-number-preserved : goal.loop-number-preserved
loop-number-preserved g c =
    let script = c.args.script.now in
    let server = c.args.server.now in
    let run : Run = c.loop-number.run in
    let middle : Run = c.step.new.run in
    let next : Run = c.write_full.new.run in
    let seat = c.step.new.seat.tokens in
    let index = c.loop-number.number-index in
    let item = c.loop-number-item.result in
    let there = item_there c.as_slice-number-items.result.now script.steps index item c.as_slice-number-items.ensures c.loop-number-test.true c.loop-number-item.is in
    let then : Alone next.running seat → Alone middle.running seat = λ alone. subst (λ (r : Running). Alone r seat) c.write_full.ensures.running alone in
    record {
      manned = subst (λ (r : Running). IsManned server r seat) (sym c.write_full.ensures.running) c.step.ensures.manned;
      alone = λ alone. c.loop-number.invariant.alone (c.step.ensures.alone (then alone));
      label = c.write_full.ensures.same.0 ∙ c.step.ensures.same.0 ∙ c.loop-number.invariant.label;
      limit = c.write_full.ensures.same.1 ∙ c.step.ensures.same.1 ∙ c.loop-number.invariant.limit;
      few = omega (arith, c.write_full.ensures.count, c.step.ensures.count, c.loop-number.invariant.few);
      room = c.in-Ok-write_full.ensures.room;
      marked = c.in-Ok-write_full.ensures.marked;
      working = c.in-Ok-write_full.ensures.working;
      stood = λ alone stands.
          let at : Stood g.D.Disk script server c.args.run.now c.args.disk.now run c.loop-number.seat.tokens c.loop-number.disk index = c.loop-number.invariant.stood (c.step.ensures.alone (then alone)) stands in
          let behind : Stood g.D.Disk script server c.args.run.now c.args.disk.now middle seat c.step.new.disk (index + 1) =
          stood_more g.D.Disk script server c.args.run.now c.args.disk.now run middle c.loop-number.seat.tokens seat c.loop-number.disk c.step.new.disk index item there at (c.in-Ok.ensures.goes (then alone) at.s at.stands) in
          stood_on g.D.Disk script server c.args.run.now c.args.disk.now middle next seat c.step.new.disk c.write_full.new.disk (index + 1) behind c.write_full.ensures.running (ap (λ (out : Vec ℕ). out.items) c.write_full.ensures.out) c.write_full.ensures.count
          c.write_full.ensures.plans c.in-Ok-write_full.ensures.written c.in-Ok-write_full.ensures.keeps;
      quiet = c.in-Ok-write_full.ensures.quiet ∙ c.in-Ok.ensures.quiet ∙ c.loop-number.invariant.quiet;
      later = omega (arith, c.write_full.ensures.later, c.step.ensures.later, c.loop-number.invariant.later);
    }

pub returns-clause-unfailed : goal.returns-clause-unfailed
returns-clause-unfailed g c = λ other. working_unfailed c.loop-number.run.sampler.session c.loop-number.invariant.working

pub returns-clause-came : goal.returns-clause-came
returns-clause-came g c = λ alone stands.
    let script = c.args.script.now in
    let run : Run = c.loop-number.run in
    let index = c.loop-number.number-index in
    let at : Stood g.D.Disk script c.args.server.now c.args.run.now c.args.disk.now run c.loop-number.seat.tokens c.loop-number.disk index = c.loop-number.invariant.stood alone stands in
    let all : length script.steps ≤ index = subst (λ (xs : List (ℕ × Line)). length xs ≤ index) c.as_slice-number-items.ensures c.loop-number-test.false in
    stood_ends g.D.Disk script c.args.server.now c.args.run.now c.args.disk.now run c.loop-number.seat.tokens c.loop-number.disk index all at c.loop-number.invariant.limit c.ending_of.result
    (c.ending_of.ensures.ends c.loop-number.seat.tokens at.s.regions c.loop-number.invariant.manned at.stands.follow.follows)

pub returns-clause-lost : goal.returns-clause-lost
returns-clause-lost g c = let none : lost_in c.loop-number.run.sampler.session.place ≡ 0 = working_unlost c.loop-number.run.sampler.session c.loop-number.invariant.working in omega (arith, none)

pub returns-clause-cause : goal.returns-clause-cause
returns-clause-cause g c = c.ending_of.ensures.cause (g.D.Disk.faults c.args.disk.now) (g.D.Disk.faults c.loop-number.disk)

pub returns-in-Err-clause-quiet : goal.returns-in-Err-clause-quiet
returns-in-Err-clause-quiet g c = λ other. c.in-Err.ensures.still other ∙ c.loop-number.invariant.quiet
