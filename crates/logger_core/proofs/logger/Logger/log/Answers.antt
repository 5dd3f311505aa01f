-- What was prepared is written.
use Rattle.std.proofs.Common.{[], ◌∷◌}
use Rattle.logger_core.specs.Logging.{LogMayAnswer}
use Rattle.pcp_base.specs.declared.result.Item.TheVariants.{Sample}
use Rattle.logger_core.specs.Meant.{Kept}
use Rattle.logger_core.specs.Runs.{SurvivesWith}
use Rattle.logger_core.proofs.Calls.{no_call}
use Rattle.logger_core.proofs.Keeping.{prepared_at, prepared_label, prepared_may, logged_for, bounded_for, handed_on}
use Rattle.logger_core.proofs.Loggable.{survives_more}
use Rattle.logger_core.proofs.Refused.{log_refused, loggable}
use Rattle.logger_core.proofs.Rests.{image_survives}
use Rattle.logger_core.proofs.logger.Logger.log.Goals as goal

pub returns-in_err-made-clause-any_moment : goal.returns-in_err-made-clause-any_moment
returns-in_err-made-clause-any_moment g c = λ tells enough m l.
    no_call g.D.Disk g.met.D.Disk.only_now c.args.disk.now (SurvivesWith m (Sample c.args.answer.now ∷ []))
    (λ image crash. survives_more m (Sample c.args.answer.now ∷ []) image (image_survives m c.args.self.now.ends.volume (g.D.Disk.held c.args.disk.now) l.at.stands image crash))

pub returns-in-Ok-clause-done : goal.returns-in-Ok-clause-done
returns-in-Ok-clause-done g c = λ tells enough m l.
    let d = g.D.Disk in
    let inside : Kept = record { label = c.self.inside.label; records = c.self.inside.meta; ends = c.self.inside.ends; limit = c.self.inside.limit; closed = c.self.inside.closed } in
    let old = c.args.self.now in
    let now = c.prepared.new.self in
    let held = d.held c.args.disk.now in
    let made = c.in_ok-made.made in
    let p = c.in_ok-made.ensures.made in
    let answer = c.args.answer.now in
    let facts = c.args.facts.now in
    logged_for m old now inside answer facts made held l p c.self.view_is c.in-Ok.ends (d.held c.write_item.new.disk)
    (c.in-Ok.ensures.ok tells m old.limit facts now.records (prepared_at m old now inside answer facts made held l p c.self.view_is) (prepared_label m old now inside answer facts made held l p c.self.view_is)
    (prepared_may m old now inside answer facts made held l p c.self.view_is c.requires.some enough))

pub returns-in-Ok-clause-any_moment : goal.returns-in-Ok-clause-any_moment
returns-in-Ok-clause-any_moment g c = λ tells enough m l.
    let d = g.D.Disk in
    let inside : Kept = record { label = c.self.inside.label; records = c.self.inside.meta; ends = c.self.inside.ends; limit = c.self.inside.limit; closed = c.self.inside.closed } in
    let old = c.args.self.now in
    let now = c.prepared.new.self in
    let held = d.held c.args.disk.now in
    let made = c.in_ok-made.made in
    let p = c.in_ok-made.ensures.made in
    let answer = c.args.answer.now in
    let facts = c.args.facts.now in
    c.write_item.ensures.any_moment tells m old.limit facts now.records (prepared_at m old now inside answer facts made held l p c.self.view_is) (prepared_label m old now inside answer facts made held l p c.self.view_is)
    (prepared_may m old now inside answer facts made held l p c.self.view_is c.requires.some enough)

pub returns-clause-any_moment : goal.returns-clause-any_moment
returns-clause-any_moment g c = λ tells enough m l.
    let d = g.D.Disk in
    let inside : Kept = record { label = c.self.inside.label; records = c.self.inside.meta; ends = c.self.inside.ends; limit = c.self.inside.limit; closed = c.self.inside.closed } in
    let old = c.args.self.now in
    let now = c.prepared.new.self in
    let held = d.held c.args.disk.now in
    let made = c.in_ok-made.made in
    let p = c.in_ok-made.ensures.made in
    let answer = c.args.answer.now in
    let facts = c.args.facts.now in
    c.write_item.ensures.any_moment tells m old.limit facts now.records (prepared_at m old now inside answer facts made held l p c.self.view_is) (prepared_label m old now inside answer facts made held l p c.self.view_is)
    (prepared_may m old now inside answer facts made held l p c.self.view_is c.requires.some enough)

pub write_item-requires-clause-bounded : goal.write_item-requires-clause-bounded
write_item-requires-clause-bounded g c =
    let inside : Kept = record { label = c.self.inside.label; records = c.self.inside.meta; ends = c.self.inside.ends; limit = c.self.inside.limit; closed = c.self.inside.closed } in
    bounded_for c.args.self.now c.prepared.new.self inside c.args.answer.now c.args.facts.now c.in_ok-made.made c.in_ok-made.ensures.made c.self.view_is c.in_ok-made.ensures.bounded

pub returns-in_err-made-clause-fault : goal.returns-in_err-made-clause-fault
returns-in_err-made-clause-fault g c =
    let d = g.D.Disk in
    let before = d.faults c.args.disk.now in
    handed_on c.from_residual.result c.in_err-made.field-0.0 (λ e. LogMayAnswer c.args.self.now c.prepared.new.self c.args.answer.now c.args.facts.now before before e) c.from_residual.ensures.1
    (log_refused c.args.self.now c.prepared.new.self c.args.answer.now c.args.facts.now before before c.in_err-made.field-0.0 c.in_err-made.ensures.fault)

pub returns-in-Ok-clause-loggable : goal.returns-in-Ok-clause-loggable
returns-in-Ok-clause-loggable g c =
    let p = c.in_ok-made.ensures.made in
    (p.open_, loggable c.args.self.now.records c.args.self.now.ends c.args.self.now.limit c.args.answer.now c.args.facts.now c.in_ok-made.made p.is)
