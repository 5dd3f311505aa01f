-- The writers run where the files were refused.
use Rattle.std.proofs.Common.{◌∷◌, [], inr, refl, sym, ap, ◌∙◌, subst}
use Rattle.std.specs.Global.{Vec}
use Rattle.region_rule.specs.Seats.{Token}
use Rattle.script_runs.specs.declared.ending.Ending.{Ending}
use Rattle.script_runs.specs.declared.ending.Ending.TheVariants as ends
use Rattle.run_archive.proofs.Loading.{not_loaded}
use Rattle.run_passes.specs.Written.{AreReady, HaveWritten}
use Rattle.run_passes.proofs.Ready.{ready}
use Rattle.record_run.specs.Beside.{EndsBy}
use Rattle.record_run.proofs.Handed.{all_here}
use Rattle.record_run.proofs.Running.{beside_refused, beside_written, refused_by, written_told}
use Rattle.record_run.proofs.recording.unrecorded.Goals as goal

pub written-requires-clause-ready : goal.written-requires-clause-ready
written-requires-clause-ready g c κs within =
    subst (λ (own : Vec (Vec Token)). AreReady c.args.script.now c.args.server.now own.items) (sym c.replace-own.ensures.value) (ready c.args.script.now c.args.server.now c.args.passes.now.items (c.args.seat.now ∷ []) c.requires.rules c.requires.made)

pub gather_all-requires-clause-seated : goal.gather_all-requires-clause-seated
gather_all-requires-clause-seated g c = c.requires.made.seated 0 c.args.seat.now refl

pub gather_all-requires-clause-here : goal.gather_all-requires-clause-here
gather_all-requires-clause-here g c = all_here c.args.script.now c.args.server.now c.in-Ok.done.items c.in-Ok.ensures.ready

pub returns-in-Ok-clause-beside : goal.returns-in-Ok-clause-beside
returns-in-Ok-clause-beside g c = λ undone.
    beside_written c.args.script.now c.args.server.now c.args.passes.now.items c.args.seat.now c.requires.rules c.requires.made c.in-Ok.done.items c.gather_all.new.seat.tokens c.nothing.result.ending (λ done. undone (sym c.nothing.ensures.ending ∙ done))
    (subst (λ (own : Vec (Vec Token)). HaveWritten c.args.script.now c.args.server.now own.items c.in-Ok.done.items) c.replace-own.ensures.value c.in-Ok.ensures) c.gather_all.ensures.gathers

pub returns-in-Err-clause-beside : goal.returns-in-Err-clause-beside
returns-in-Err-clause-beside g c = λ undone.
    beside_refused c.args.script.now c.args.server.now c.args.passes.now.items c.args.seat.now c.requires.rules c.requires.made c.requires.images c.nothing-in-Err.result.ending
    (subst (λ (e : Ending). EndsBy ends.NoMemory e) (sym c.nothing-in-Err.ensures.ending) (refused_by c.args.ending c.refused.result c.refused.ensures))

pub returns-in-Err-clause-seated : goal.returns-in-Err-clause-seated
returns-in-Err-clause-seated g c = c.requires.made.seated 0 c.args.seat.now refl

pub returns-in-Ok-clause-writers : goal.returns-in-Ok-clause-writers
returns-in-Ok-clause-writers g c =
    written_told c.args.script.now c.args.server.now c.args.passes.now.items c.args.seat.now c.requires.rules c.requires.made c.in-Ok.done.items c.gather_all.new.passes.items c.args.seat.now.tokens c.gather_all.new.seat.tokens c.gather_all.new.seat.tokens c.nothing.result.ending (not_loaded c.args.seat.now.tokens)
    (subst (λ (own : Vec (Vec Token)). HaveWritten c.args.script.now c.args.server.now own.items c.in-Ok.done.items) c.replace-own.ensures.value c.in-Ok.ensures) c.gather_all.ensures.gathers (not_loaded c.gather_all.new.seat.tokens) c.gather_all.ensures.used c.gather_all.ensures.seated

pub returns-in-Err-clause-writers : goal.returns-in-Err-clause-writers
returns-in-Err-clause-writers g c =
    inr (
      ap (λ (left : Vec (Vec Token)). left.items) c.replace-own.ensures.after ∙ c.new.ensures.items,
      subst (λ (e : Ending). EndsBy ends.NoMemory e) (sym c.nothing-in-Err.ensures.ending) (refused_by c.args.ending c.refused.result c.refused.ensures),
    )
