-- A tick is that of the run as a fold.
use Rattle.std.proofs.Common.{◌≡◌, ℕ, List, ◌++◌, codes, length, refl, ap, ◌∙◌, subst, rules}
use Rattle.std.specs.Vec.{vec_len}
use Rattle.run_script.specs.declared.script.Line.TheVariants.{Tick}
use Rattle.run_passes.proofs.ReadingRuns.{loaded_stay_manned}
use Rattle.script_runs.specs.declared.ending.Ending.{Ending}
use Rattle.text_lines.specs.Spelling.{one_number}
use Rattle.record_run.specs.declared.run.Run.{Run}
use Rattle.record_run.specs.States.{HaltsAt}
use Rattle.record_run.proofs.Matches.{err_handed}
use Rattle.record_run.proofs.MarkPut.{Puts, put_so}
use Rattle.record_run.proofs.TickGoes.{tick_goes}
use Rattle.record_run.proofs.TickStops.{tick_halts}
use Rattle.record_run.proofs.ticks.tick.Goals as goal

pub returns-in_err-count-clause-manned : goal.returns-in_err-count-clause-manned
returns-in_err-count-clause-manned g c = (loaded_stay_manned c.args.server.now c.args.run.now.running c.args.seat.now.tokens c.sample_at.new.seat.tokens c.requires.manned c.sample_at.ensures.loads).0

pub returns-in_err-count-clause-alone : goal.returns-in_err-count-clause-alone
returns-in_err-count-clause-alone g c = (loaded_stay_manned c.args.server.now c.args.run.now.running c.args.seat.now.tokens c.sample_at.new.seat.tokens c.requires.manned c.sample_at.ensures.loads).1

pub returns-in_err-count-clause-halts : goal.returns-in_err-count-clause-halts
returns-in_err-count-clause-halts g c = λ alone s stands number.
    let d = g.D.Disk in
    let was : Run = c.args.run.now in
    let is : Run = record was { sampler = c.sample_at.new.sampler; out = c.make_room.new.out } in
    let after = c.sample_at.new.seat.tokens in
    let old = c.args.disk.now in
    let new = c.sample_at.new.disk in
    err_handed c.from_residual.result c.in_err-count.field-0.0 (λ (e : Ending). HaltsAt d c.args.script.now c.args.server.now s was is after old new number (Tick c.args.now) e) c.from_residual.ensures.1
    (tick_halts d c.args.script.now c.args.server.now s was is c.args.seat.now.tokens after old new c.args.now number c.requires.manned refl alone stands c.make_room.ensures.same c.sample_at.ensures.same.1 c.in_err-count.field-0.0
    c.in_err-count.ensures.stops)

pub returns-clause-manned : goal.returns-clause-manned
returns-clause-manned g c = (loaded_stay_manned c.args.server.now c.args.run.now.running c.args.seat.now.tokens c.sample_at.new.seat.tokens c.requires.manned c.sample_at.ensures.loads).0

pub returns-clause-alone : goal.returns-clause-alone
returns-clause-alone g c = (loaded_stay_manned c.args.server.now c.args.run.now.running c.args.seat.now.tokens c.sample_at.new.seat.tokens c.requires.manned c.sample_at.ensures.loads).1

pub returns-clause-goes : goal.returns-clause-goes
returns-clause-goes g c = λ alone s stands.
    let was : Run = c.args.run.now in
    let is : Run = record was { sampler = c.sample_at.new.sampler; out = c.put_one.new.out; marks = c.put_mark.new.marks } in
    let long : vec_len c.make_room.new.out ≡ length c.make_room.new.out.items = search rules in
    let begins : c.len-start.result ≡ length was.out.items = c.len-start.ensures ∙ long ∙ ap (λ (output : List ℕ). length output) c.make_room.ensures.same in
    let put : Puts c.in_ok-count.count (length was.out.items) was.marks.items is.marks.items =
    subst (λ (mark : ℕ). Puts c.in_ok-count.count mark was.marks.items is.marks.items) begins
    (put_so c.in_ok-count.count c.held-held.result c.len-start.result was.marks.items is.marks.items c.put_mark.ensures.none c.put_mark.ensures.alone c.put_mark.ensures.behind) in
    tick_goes g.D.Disk c.args.script.now c.args.server.now s was is c.args.seat.now.tokens c.sample_at.new.seat.tokens c.args.disk.now c.sample_at.new.disk c.args.now c.requires.manned refl alone stands c.in_ok-count.count
    c.in_ok-count.ensures.goes put (c.put_one.ensures ∙ ap (λ (output : List ℕ). output ++ one_number (codes "tick") c.in_ok-count.count) c.make_room.ensures.same)
