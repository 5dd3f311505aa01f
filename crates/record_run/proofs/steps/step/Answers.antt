-- A line is that of the run as a fold.
use Rattle.std.proofs.Common.{◌≡◌, ◌≢◌, ◌⊎◌, ◌≤◌, ℕ, true, false, List, sym, ap, subst, arith, refl}
use Rattle.std.proofs.lemmas.Result.{IfErr-weaker}
use Rattle.arrayvec.specs.ArrayVec.{ArrayVec, array_vec_len}
use Rattle.logging_session.specs.Keeping.{Carried, IsFailed, IsWorking, held_in, lost_in}
use Rattle.run_script.specs.declared.script.Line.{Line}
use Rattle.run_script.specs.declared.script.Script.{Script}
use Rattle.run_passes.specs.Crews.{Follows}
use Rattle.run_passes.specs.Runs.{HasRun, WasCut}
use Rattle.script_runs.specs.declared.ending.Ending.{Ending}
use Rattle.script_runs.specs.declared.ending.Ending.TheVariants as ends
use Rattle.script_runs.specs.Regions.{ScriptRegion}
use Rattle.script_runs.specs.Steps.{pass_step}
use Rattle.run_archive.specs.declared.sampler.Sampler.{Sampler}
use Rattle.run_archive.specs.Endings.{MayEnd}
use Rattle.record_run.specs.declared.run.Run.{Run}
use Rattle.record_run.specs.States.{GoesTo, HaltsAt}
use Rattle.record_run.proofs.Leading.{working_unlost}
use Rattle.record_run.proofs.Matches.{err_of, every_err, every_ok, ok_of, on_err}
use Rattle.record_run.proofs.PassLines.{IsOfPass, of_pass, pass_ends, pass_goes, pass_halts, working_unfailed}
use Rattle.record_run.proofs.steps.step.Goals as goal

pub returns-in_default : goal.returns-in_default
returns-in_default g c =
    let d = g.D.Disk in
    let script : Script = c.args.script.now in
    let server = c.args.server.now in
    let line : Line = c.args.line.now in
    let was : Run = c.args.run.now in
    let is : Run = c.pass.new.run in
    let before = c.args.seat.now.tokens in
    let after = c.pass.new.seat.tokens in
    let disk = c.args.disk.now in
    let number = c.args.number in
    let same : is.sampler ≡ was.sampler = c.pass.ensures.sampler in
    let session : is.sampler.session ≡ was.sampler.session = ap (λ (sampler : Sampler). sampler.session) same in
    let held : held_in is.sampler.session.place ≡ held_in was.sampler.session.place = ap (λ (s : Carried). held_in s.place) session in
    let long : array_vec_len is.marks ≡ array_vec_len was.marks = ap (λ (v : ArrayVec ℕ). array_vec_len v) c.pass.ensures.marks in
    let of : IsOfPass line = of_pass line c.in_default.not-Tick c.in_default.not-Flush in
    let now = λ (regions : List ScriptRegion). Follows script server is.running after regions in
    let runs = λ (regions : List ScriptRegion). HasRun now regions was.out.items is.out.items (pass_step script regions line) true in
    let stops = λ (regions : List ScriptRegion) (e : Ending). ((e ≡ ends.Condition number) × HasRun now regions was.out.items is.out.items (pass_step script regions line) false) ⊎ ((e ≡ ends.NoMemory) × WasCut now regions was.out.items is.out.items) in
    record {
      manned = c.pass.ensures.manned;
      alone = c.pass.ensures.alone;
      same = (ap (λ (s : Carried). s.label) session, ap (λ (s : Carried). s.limit) session);
      count = let logged = ap (λ (s : Carried). s.logged) session in omega (arith, logged);
      working = every_ok c.pass.result (IsWorking is.sampler.session) (subst IsWorking (sym session) c.requires.working);
      marked = every_ok c.pass.result ((held_in is.sampler.session.place ≤ array_vec_len is.marks) × (array_vec_len is.marks ≤ 64)) (let many = c.requires.marked in let room = c.requires.room in (omega (arith, held, long, many), omega (arith, long, room)));
      unmarked = on_err c.pass.result (is.marks ≡ was.marks) c.pass.ensures.marks;
      unheld = on_err c.pass.result (held_in is.sampler.session.place ≤ array_vec_len is.marks) (let many = c.requires.marked in omega (arith, held, long, many));
      lost = on_err c.pass.result (lost_in is.sampler.session.place ≤ array_vec_len is.marks) (let none : lost_in is.sampler.session.place ≡ 0 = working_unlost is.sampler.session (subst IsWorking (sym session) c.requires.working) in omega (arith, none));
      unfailed = every_err c.pass.result (λ (e : Ending). e ≢ ends.DiskFault → IsFailed is.sampler.session → ⊥) (λ e other. subst (λ (s : Carried). IsFailed s → ⊥) (sym session) (working_unfailed was.sampler.session c.requires.working));
      goes = λ alone s stands.
          ok_of c.pass.result (λ x. runs s.regions) (λ e. stops s.regions e) (GoesTo d script server s was is after disk disk line) (c.pass.ensures.runs alone s.regions stands.follow.follows)
          (λ x run. pass_goes d script server s was is before after disk line stands same c.pass.ensures.marks of run);
      halts = λ alone s stands.
          err_of c.pass.result (λ x. runs s.regions) (λ e. stops s.regions e) (λ (e : Ending). HaltsAt d script server s was is after disk disk number line e) (c.pass.ensures.runs alone s.regions stands.follow.follows)
          (λ e stopped. pass_halts d script server s was is before after disk line stands same number e stopped);
      cause = IfErr-weaker c.pass.result (λ (e : Ending). (e ≡ ends.Condition number) ⊎ (e ≡ ends.NoMemory)) (λ (e : Ending). MayEnd (d.faults disk) (d.faults disk) e) (λ e which. pass_ends (d.faults disk) (d.faults disk) number e which) c.pass.ensures.kinds;
      quiet = every_ok c.pass.result (d.faults disk ≡ d.faults disk) refl;
      still = every_err c.pass.result (λ (e : Ending). e ≢ ends.DiskFault → d.faults disk ≡ d.faults disk) (λ e other. refl);
      later = omega arith;
    }
